-- What is needed again and again is numbered in the order of first need.
use Rattle.std.specs.Prelude.{ℕ, Bool, not, List, [], ◌∷◌, filter, position, unwrap_or}

module _ {X : Type 0} (same : X → X → Bool) where
  -- each thing of a list once, where it stands first
  unfoldable pub first_seen : List X → List X
  first_seen [] = []
  first_seen (x ∷ xs) = x ∷ filter (λ other. not (same x other)) (first_seen xs)

  -- the place of a thing in a list, counted from 0
  abbrev pub place_in : List X → X → ℕ
  place_in xs x = unwrap_or (position (same x) xs) 0
