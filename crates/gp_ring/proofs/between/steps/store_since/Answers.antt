use Rattle.std.proofs.Common.{arith}
use mathlib.Core.Option.{none}
use Rattle.atomic_table.specs.Table.{step}
use Rattle.gp_ring.proofs.RingSteps.{stores_since}
use Rattle.gp_ring.proofs.between.steps.store_since.Goals as goal

pub store-requires : goal.store-requires
store-requires c =
    let r = c.requires in
    (r.table, omega (arith, c.requires.size), stores_since _ _ _ c.args.now (step 0 0 0 0 none) r.writes r.quiet r.is_open r.none_owed)
