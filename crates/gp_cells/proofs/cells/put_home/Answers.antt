use Rattle.std.proofs.Common.{ap, refl, inr}
use Rattle.std.specs.Prelude.{Option, Some}
use Rattle.atomic_table.specs.Table.{Me}
use Rattle.gp_cells.specs.declared.carried.Carried.{Carried}
use Rattle.gp_cells.specs.declared.view.View.{View}
use Rattle.gp_cells.proofs.cells.put_home.Goals as goal

pub settle-requires-clause-fills : goal.settle-requires-clause-fills
settle-requires-clause-fills g c =
    (Some c.args.body, ap (λ (m : Me (Option Carried) View). m.1) c.swap.ensures.view, inr (c.requires.word, (c.args.body, refl, c.requires.body)))
