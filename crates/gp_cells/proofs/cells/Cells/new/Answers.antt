use Rattle.std.proofs.Common.{rules, ◌≡◌, ◌∙◌, ℕ, List, replicate, sym, subst}
use Rattle.std.specs.Prelude.{Option, None}
use Rattle.atomic_table.specs.Table.{opening}
use Rattle.gp_cells.specs.declared.carried.Carried.{Carried}
use Rattle.gp_cells.specs.kept.CellRule.{AreCells}
use Rattle.gp_cells.specs.kept.Views.{first_view}
use Rattle.gp_cells.proofs.Keeping.{opens}
use Rattle.gp_cells.proofs.cells.Cells.new.Goals as goal

pub vacant-requires : goal.vacant-requires
vacant-requires g c =
    let zeros : c.in_ok-words.words.items ≡ replicate c.args.cells 0 = search rules in
    subst (λ (words : List ℕ). AreCells g.R.Run.program g.K.Roster.roster (opening words (replicate {A = Option Carried} c.args.cells None) first_view))
    (sym (c.as_slice.ensures.value ∙ zeros)) (opens g.R.Run.program g.K.Roster.roster c.args.cells)
