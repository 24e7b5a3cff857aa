-- A page as lines are put on it.
use Rattle.std.specs.Prelude.{◌≡◌, ◌≤◌, ℕ, ◌+◌, max, List, [], ◌++◌, length, map, slice_index_or, String, Vec, string_bytes}
use Rattle.std.specs.Global.{Global}
use Rattle.gp_text.specs.Text.{Item, line_text, last_line}

-- the texts of its lines
abbrev pub texts : Vec (String Global) Global → List (List ℕ)
texts page = map string_bytes page.items

-- Items were put on a page: it reaches to the last of their lines, and behind what stood on a line stands what they put there.
pub record PutsAll (old new : List (List ℕ)) (items : List Item) : Type 0 where
  pub count : length new ≡ max (length old) (last_line items)
  pub each : (n : ℕ) → slice_index_or new n [] ≡ slice_index_or old n [] ++ line_text items (n + 1)

-- Empty lines were put behind a page, so that it has so many at most, or as many as it had.
pub record IsReaching (old new : List (List ℕ)) (count : ℕ) : Type 0 where
  pub few : length old ≤ length new
  pub most : length new ≤ max (length old) count
  pub each : (n : ℕ) → slice_index_or new n [] ≡ slice_index_or old n []
