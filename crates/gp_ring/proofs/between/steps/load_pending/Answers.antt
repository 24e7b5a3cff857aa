use Rattle.std.proofs.Common.{arith}
use mathlib.Core.Option.{none}
use Rattle.atomic_table.specs.Table.{step}
use Rattle.gp_ring.proofs.RingReads.{loads_pending}
use Rattle.gp_ring.proofs.between.steps.load_pending.Goals as goal

pub load-requires : goal.load-requires
load-requires c =
    let r = c.requires in
    (r.table, omega (arith, c.requires.size), loads_pending _ _ _ (step 0 0 0 0 none) r.reads)
