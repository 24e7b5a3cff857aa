use Rattle.std.proofs.Common.{arith}
use mathlib.Core.Option.{none}
use Rattle.atomic_table.specs.Table.{step}
use Rattle.gp_ring.proofs.RingSteps.{stores_mark}
use Rattle.gp_ring.proofs.between.steps.store_mark.Goals as goal

pub store-requires : goal.store-requires
store-requires c =
    let r = c.requires in
    (r.table, omega (arith, c.requires.size, c.requires.within), stores_mark _ _ c.args.place _ (step 0 0 0 0 none) r.writes r.quiet r.is_open r.within r.place r.free)
