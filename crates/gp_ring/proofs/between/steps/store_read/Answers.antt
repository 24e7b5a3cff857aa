use Rattle.std.proofs.Common.{arith}
use mathlib.Core.Option.{none}
use Rattle.atomic_table.specs.Table.{step}
use Rattle.gp_ring.proofs.RingReads.{stores_read}
use Rattle.gp_ring.proofs.between.steps.store_read.Goals as goal

pub store-requires : goal.store-requires
store-requires c =
    let r = c.requires in
    (r.table, omega (arith, c.requires.size), stores_read _ _ _ c.args.r (step 0 0 0 0 none) r.reads r.words_loaded r.tags_loaded r.words r.tags)
