use Rattle.std.proofs.Common.{sym, ap, ◌∙◌, refl}
use Rattle.gp_cells.specs.CellArray.{CellArray}
use Rattle.gp_cells.specs.Pass.{Token}
use Rattle.gp_cells.specs.kept.Views.{with_fork, fork_view}
use Rattle.gp_cells.proofs.Keeping.{splits}
use Rattle.gp_cells.proofs.pass.Pass.split.Goals as goal

pub split_seat-requires : goal.split_seat-requires
split_seat-requires g c =
    let v = c.self.inside.seat.me.0 in (
      ap (λ (t : Token). t.cells) c.self.view_is ∙ c.requires ∙ sym (ap (λ (a : CellArray). a.table) c.cells.view_is),
      c.cells.invariant.0,
      splits g.R.Run.program g.K.Roster.roster c.self.inside.seat.id v (with_fork v) (fork_view v) refl refl refl refl,
    )
