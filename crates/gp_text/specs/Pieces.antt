-- The lines of a program file, and the words of a line.
use Rattle.std.specs.Prelude.{◌≡◌, refl, ℕ, Bool, not, ◌||◌, ◌==◌, if◌then◌else◌, List, [], ◌∷◌, length, codes}
use Rattle.std.specs.List.{filter}

-- the lines with a byte in front of the first one
abbrev pub with_byte : ℕ → List (List ℕ) → List (List ℕ)
with_byte b [] = (b ∷ []) ∷ []
with_byte b (line ∷ lines) = (b ∷ line) ∷ lines

abbrev pub is_lf : ℕ → Bool
is_lf b = b == 10

-- The file's lines: the pieces between LF bytes, of which an empty last one is no line.
abbrev pub lines_of : List ℕ → List (List ℕ)
lines_of [] = []
lines_of (b ∷ bytes) = if is_lf b then [] ∷ lines_of bytes else with_byte b (lines_of bytes)

-- The last LF may be missing. A second one makes an empty line.
ended : lines_of (codes "work 1\n") ≡ codes "work 1" ∷ []
ended = refl

not_ended : lines_of (codes "work 1\n}") ≡ codes "work 1" ∷ codes "}" ∷ []
not_ended = refl

ended_twice : lines_of (codes "}\n\n") ≡ codes "}" ∷ [] ∷ []
ended_twice = refl

-- space, tab and CR
abbrev pub is_blank : ℕ → Bool
is_blank b = (b == 32 || b == 9) || b == 13

-- the pieces between blanks, empty ones too
abbrev pub pieces : List ℕ → List (List ℕ)
pieces [] = [] ∷ []
pieces (b ∷ bytes) = if is_blank b then [] ∷ pieces bytes else with_byte b (pieces bytes)

abbrev pub has_bytes : List ℕ → Bool
has_bytes piece = not (length piece == 0)

-- The words of a line: the pieces between blanks that aren't empty.
unfoldable pub words_of : List ℕ → List (List ℕ)
words_of line = filter has_bytes (pieces line)

indented : words_of (codes "\t loop  2 {\r") ≡ codes "loop" ∷ codes "2" ∷ codes "{" ∷ []
unfolding words_of
indented = refl
