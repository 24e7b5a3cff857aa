use Rattle.std.proofs.Common.{arith}
use mathlib.Core.Option.{none}
use Rattle.atomic_table.specs.Table.{step}
use Rattle.gp_ring.proofs.RingReads.{loads_tag}
use Rattle.gp_ring.proofs.between.steps.load_tag.Goals as goal

pub load-requires : goal.load-requires
load-requires c =
    let r = c.requires in
    (r.table, omega (arith, c.requires.size, c.requires.within, c.requires.len), loads_tag _ _ c.args.len c.args.place _ (step 0 0 0 0 none) r.reads r.len r.due)
