-- Command words as lists of bytes.
use Rattle.std.specs.Prelude.{◌≢◌, ◌==◌, ℕ, Bool, false, not, List, [], ◌∷◌, map, String, string_bytes}
use Rattle.std.specs.Global.{Global}

-- the words as lists of bytes
abbrev pub texts : List (String Global) → List (List ℕ)
texts words = map string_bytes words

-- A word that names a file isn't empty and doesn't begin with `-`.
abbrev pub IsFileWord : List ℕ → Type 0
IsFileWord [] = ⊥
IsFileWord (b ∷ bytes) = b ≢ 45

-- the same as a test
abbrev pub is_file_word : List ℕ → Bool
is_file_word [] = false
is_file_word (b ∷ bytes) = not (b == 45)
