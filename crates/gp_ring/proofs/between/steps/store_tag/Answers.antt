use Rattle.std.proofs.Common.{arith}
use mathlib.Core.Option.{none}
use Rattle.atomic_table.specs.Table.{step}
use Rattle.gp_ring.proofs.RingSteps.{stores_tag}
use Rattle.gp_ring.proofs.between.steps.store_tag.Goals as goal

pub store-requires : goal.store-requires
store-requires c =
    let r = c.requires in
    (r.table, omega (arith, c.requires.size, c.requires.within, c.requires.len), stores_tag _ _ c.args.len c.args.place _ c.args.tag (step 0 0 0 0 none) r.writes r.quiet r.is_open r.len r.place r.free)
