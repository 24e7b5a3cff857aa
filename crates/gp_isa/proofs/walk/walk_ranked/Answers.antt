use Rattle.std.proofs.Common.{◌+◌, subst, sym}
use Rattle.std.specs.Prelude.{OnOk}
use Rattle.gp_isa.specs.kept.Walks.{Done, IsWalked}
use Rattle.gp_isa.proofs.Tables.{done_other}
use Rattle.gp_isa.proofs.Walks.{walked_less}
use Rattle.gp_isa.proofs.walk.walk_ranked.Goals as goal

pub walk_function-requires-clause-before : goal.walk_function-requires-clause-before
walk_function-requires-clause-before c = subst (λ rank. IsWalked c.args.parts.now c.args.walk.now (Done c.args.ranks.now rank c.args.f)) (sym c.if-ranks-f.true) c.requires.before

pub returns-then-ranks-f : goal.returns-then-ranks-f
returns-then-ranks-f c =
    subst (λ rank. OnOk c.walk_function.result (IsWalked c.args.parts.now c.walk_function.new.walk (Done c.args.ranks.now rank (c.args.f + 1)))) c.if-ranks-f.true c.walk_function.ensures

pub returns : goal.returns
returns c =
    walked_less c.args.parts.now c.args.walk.now (Done c.args.ranks.now c.args.rank c.args.f) (Done c.args.ranks.now c.args.rank (c.args.f + 1)) c.requires.before
    (λ k within done. done_other c.args.ranks.now c.args.rank c.args.f k c.if-ranks-f.false done)
