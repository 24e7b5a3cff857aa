-- The names that were declared so far, as the code keeps them.
use Rattle.std.specs.Prelude.{ℕ, if◌then◌else◌, List, [], ◌∷◌, ◌++◌}
use Rattle.gp_text.specs.Fault.{is_among}

-- the names with one more, unless it is among them
abbrev pub with_name : List (List ℕ) → List ℕ → List (List ℕ)
with_name others name = if is_among name others then others else others ++ name ∷ []
