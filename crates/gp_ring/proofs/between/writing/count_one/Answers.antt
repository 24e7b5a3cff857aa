use Rattle.std.proofs.Common.{◌∷◌, [], ◌++◌, ◌∙◌}
use Rattle.gp_ring.specs.Records.{fit_twice}
use Rattle.gp_ring.specs.Offered.{offer_of}
use Rattle.gp_ring.proofs.Deciding.{full-some}
use Rattle.gp_ring.proofs.between.writing.count_one.Goals as goal

pub begin_loss-requires-clause-full : goal.begin_loss-requires-clause-full
begin_loss-requires-clause-full c =
    let e = c.exchange_bump-found.ensures.raced c.if-found-overflow.false in
    (λ i. fit_twice (e i).0.hdrsize (e i).0.len (e i).0.tags ((e i).0.writer.offers ++ offer_of c.args.tag c.args.now c.args.header.now c.args.stack.now ∷ [])) ∙ full-some _ _ _ _ _ _ _ c.args.tag c.args.now c.args.header.now c.args.stack.now c.requires.deciding c.requires.pending
