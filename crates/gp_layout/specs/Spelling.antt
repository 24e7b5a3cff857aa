-- How a record is spelled: its number of words, its time, its header, its stack.
use Rattle.std.specs.Prelude.{ℕ, ◌+◌, ◌≤◌, List, ◌∷◌, ◌++◌, length, slice_index}

-- how many words a record has, whose header and stack have so many
abbrev pub size_of : ℕ → ℕ → ℕ
size_of hdrsize depth = 2 + hdrsize + depth

-- how many words the record of a loss has: its stack is one word, the count
abbrev pub loss_size : ℕ → ℕ
loss_size hdrsize = 3 + hdrsize

-- its words
abbrev pub spelled : ℕ → List ℕ → List ℕ → List ℕ
spelled time header stack = size_of (length header) (length stack) ∷ time ∷ header ++ stack

-- a whole record stands at `at`
pub record StandsAt (words : List ℕ) (at hdrsize : ℕ) : Type 0 where
  pub begins : size_of hdrsize 0 ≤ slice_index words at
  pub ends : at + slice_index words at ≤ length words
