use Rattle.std.proofs.Common.{◌==◌, arith, sym, subst}
use mathlib.Core.Option.{none}
use prog.Atomic.{either}
use Rattle.atomic_table.specs.Table.{step, Allows}
use Rattle.gp_ring.specs.Records.{Offer}
use Rattle.gp_ring.specs.Offered.{offer_of}
use Rattle.gp_ring.specs.kept.RingRule.{IsRing}
use Rattle.gp_ring.specs.kept.Views.{exchanged_bump}
use Rattle.gp_ring.proofs.RingSteps.{exchanges_bump}
use Rattle.gp_ring.proofs.between.steps.exchange_bump.Goals as goal

pub compare_exchange-requires : goal.compare_exchange-requires
compare_exchange-requires g c =
    let r = c.requires in (
      r.table,
      omega (arith, c.requires.size),
      subst (λ (o : Offer). Allows IsRing c.args.shared.now.table_id.slots c.args.seat.now.id c.args.seat.now.me 2 (λ n. either (n == c.args.overflow) c.args.word n)
          (exchanged_bump o (step c.args.shared.now.table_id.slots 2 c.args.overflow c.args.word none) c.args.seat.now.me)) (sym r.decided)
          (exchanges_bump _ _ _ c.args.overflow c.args.word (offer_of c.args.tag c.args.time c.args.header.now c.args.stack.now) r.writes r.is_open r.few r.present r.pending r.count r.change),
    )
