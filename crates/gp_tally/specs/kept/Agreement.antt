-- Book and shares agree.
use Rattle.std.specs.Prelude.{◌≡◌, ℕ, List, true, Some, slice_get}
use mathlib.Core.Option.{some}
use lib.ListN.{get_elem?}
use Rattle.atomic_table.specs.Table.{State}
use Rattle.gp_tally.specs.declared.row.Row.{Row}
use Rattle.gp_tally.specs.declared.view.View.{View}

-- who keeps is the one book, with these rows; who claims a number is its one owner, and the row is the book's
abbrev pub Fits : ℕ → List Row → (ℕ → ℕ) → ℕ → View → Type 0
Fits book rows owner seat v =
    (v.keeps ≡ true → (seat ≡ book) × (v.rows ≡ rows))
    × (v.claims ≡ true → (owner v.number ≡ seat) × (slice_get rows v.number ≡ Some v.claim))

abbrev pub AllFit : ℕ → List Row → (ℕ → ℕ) → List View → Type 0
AllFit book rows owner views = (seat : ℕ) (v : View) → get_elem? views seat ≡ some v → Fits book rows owner seat v

-- there is one book with some rows, and a row has one owner at most
abbrev pub Agrees : {S : Type 0} → State S View → Type 0
Agrees s = (book : ℕ) × (rows : List Row) × (owner : ℕ → ℕ) × AllFit book rows owner s.views
