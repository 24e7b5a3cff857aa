use Rattle.std.proofs.Common.{sym, ap, ◌∙◌, refl}
use Rattle.std.specs.Prelude.{Option}
use Rattle.atomic_table.specs.Table.{Me}
use Rattle.gp_cells.specs.declared.carried.Carried.{Carried}
use Rattle.gp_cells.specs.declared.view.View.{View}
use Rattle.gp_cells.specs.CellArray.{CellArray}
use Rattle.gp_cells.specs.Hold.{Hold}
use Rattle.gp_cells.specs.Pass.{Token}
use Rattle.gp_cells.specs.kept.Views.{with_back, nobody}
use Rattle.gp_cells.proofs.Keeping.{joins}
use Rattle.gp_cells.proofs.cells.Cells.bury.Goals as goal

pub join_seat-requires : goal.join_seat-requires
join_seat-requires g c =
    let v = c.pass.inside.seat.me.0 in
    let w = c.settle.new.seat.me.0 in
    let table = ap (λ (a : CellArray). a.table) c.self.view_is in (
      ap (λ (t : Token). t.cells) c.pass.view_is ∙ c.requires.pass ∙ sym table,
      c.settle.ensures.table ∙ ap (λ (h : Hold). h.cells) c.hand.view_is ∙ c.requires.held.0 ∙ sym table,
      ap (λ (m : Me (Option Carried) View). m.1) c.settle.ensures.view,
      c.self.invariant.0,
      joins g.R.Run.program g.K.Roster.roster c.pass.inside.seat.id v c.settle.new.seat.id w (with_back v w) nobody c.pass.invariant.0 c.pass.invariant.0
          (ap (λ (m : Me (Option Carried) View). m.0.holds) c.settle.ensures.view) refl,
    )
