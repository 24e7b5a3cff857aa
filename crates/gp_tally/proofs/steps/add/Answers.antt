use mathlib.Core.Option.{none}
use Rattle.atomic_table.specs.Table.{step}
use Rattle.gp_tally.proofs.Agreeing.{adds_at}
use Rattle.gp_tally.proofs.steps.add.Goals as goal

pub load-requires : goal.load-requires
load-requires g c = (c.requires.table.0, c.requires.table.1, adds_at _ _ _ _ _ _ (step 0 0 0 0 none) c.requires.view)
