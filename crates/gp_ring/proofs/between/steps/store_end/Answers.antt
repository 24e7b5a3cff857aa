use Rattle.std.proofs.Common.{arith}
use mathlib.Core.Option.{none}
use Rattle.atomic_table.specs.Table.{step}
use Rattle.gp_ring.proofs.RingSteps.{stores_end}
use Rattle.gp_ring.proofs.between.steps.store_end.Goals as goal

pub store-requires : goal.store-requires
store-requires c =
    let r = c.requires in
    (r.table, omega (arith, c.requires.size), stores_end _ _ _ (step 0 0 0 0 none) r.writes r.none_owed r.draft r.tag_draft)
