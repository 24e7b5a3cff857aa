-- Laws of the choice: which event is kept is told by its number alone; and the first words, worked out.
use Rattle.std.specs.Prelude.{◌≡◌, ◌+◌, ℕ, [], ◌∷◌, map}
use Rattle.gp_events.specs.Fraction.{word, is_kept, keeps_next, behind_next, choice_after}

-- Once k events came the next one is number k, and then k + 1 came.
pub record IsNext (seed f k : ℕ) : Type 0 where
  pub kept : keeps_next (choice_after seed f k) ≡ is_kept seed f k
  pub behind : behind_next (choice_after seed f k) ≡ choice_after seed f (k + 1)

abbrev pub ChoicesAreNumbered : Type 0
ChoicesAreNumbered = (seed f k : ℕ) → IsNext seed f k

-- The first words at seed 42, by PCG's own C code.
abbrev pub FirstWords : Type 0
FirstWords = map (word 42) (0 ∷ 1 ∷ 2 ∷ 3 ∷ 4 ∷ 5 ∷ [])
    ≡ 0xa15c02b7 ∷ 0x7b47f409 ∷ 0xba1d3330 ∷ 0x83d2f293 ∷ 0xbfa4784b ∷ 0xcbed606e ∷ []
