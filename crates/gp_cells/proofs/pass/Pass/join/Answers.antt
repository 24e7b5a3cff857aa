use Rattle.std.proofs.Common.{sym, ap, ◌∙◌, refl}
use Rattle.gp_cells.specs.CellArray.{CellArray}
use Rattle.gp_cells.specs.Pass.{Token}
use Rattle.gp_cells.specs.kept.Views.{nobody}
use Rattle.gp_cells.proofs.Keeping.{joins}
use Rattle.gp_cells.proofs.pass.Pass.join.Goals as goal

pub join_seat-requires : goal.join_seat-requires
join_seat-requires g c =
    let v = c.self.inside.seat.me.0 in
    let w = c.other.inside.seat.me.0 in
    let table = ap (λ (a : CellArray). a.table) c.cells.view_is in (
      ap (λ (t : Token). t.cells) c.self.view_is ∙ c.requires.this ∙ sym table,
      ap (λ (t : Token). t.cells) c.other.view_is ∙ c.requires.other ∙ sym table,
      c.other.invariant.1,
      c.cells.invariant.0,
      joins g.R.Run.program g.K.Roster.roster c.self.inside.seat.id v c.other.inside.seat.id w v nobody c.self.invariant.0 c.self.invariant.0 c.other.invariant.0 refl,
    )
