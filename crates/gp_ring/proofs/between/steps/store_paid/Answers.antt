use Rattle.std.proofs.Common.{arith}
use mathlib.Core.Option.{none}
use Rattle.atomic_table.specs.Table.{step}
use Rattle.gp_ring.proofs.RingSteps.{stores_paid}
use Rattle.gp_ring.proofs.between.steps.store_paid.Goals as goal

pub store-requires : goal.store-requires
store-requires c =
    let r = c.requires in
    (r.table, omega (arith, c.requires.size), stores_paid _ _ _ c.args.w (step 0 0 0 0 none) r.writes r.quiet r.is_open r.some_owed r.draft r.tag_draft r.next r.next_tag r.words r.tags)
