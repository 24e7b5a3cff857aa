use Rattle.std.proofs.Common.{arith, sym, subst}
use mathlib.Core.Option.{none}
use Rattle.atomic_table.specs.Table.{step, Allows}
use Rattle.gp_ring.specs.Records.{Offer}
use Rattle.gp_ring.specs.Offered.{offer_of}
use Rattle.gp_ring.specs.kept.RingRule.{IsRing}
use Rattle.gp_ring.specs.kept.Views.{stored_lost}
use Rattle.gp_ring.proofs.RingSteps.{stores_lost}
use Rattle.gp_ring.proofs.between.steps.store_lost.Goals as goal

pub store-requires : goal.store-requires
store-requires g c =
    let r = c.requires in (
      r.table,
      omega (arith, c.requires.size),
      subst (λ (o : Offer). Allows IsRing c.args.shared.now.table_id.slots c.args.seat.now.id c.args.seat.now.me 2 (λ _. c.args.word) (λ _. stored_lost o (step 0 0 0 0 none) c.args.seat.now.me c.args.word)) (sym r.decided)
          (stores_lost _ _ _ c.args.word (offer_of c.args.tag c.args.time c.args.header.now c.args.stack.now) (step 0 0 0 0 none) r.writes r.quiet r.is_open r.none_owed r.draft r.tag_draft r.few r.since r.full r.count r.change),
    )
