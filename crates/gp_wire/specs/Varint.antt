-- Numbers in groups of seven bits, the lowest group first.
use Rattle.std.specs.Prelude.{ℕ, zero, suc, ◌+◌, List, [], ◌∷◌, reverse}
use Rattle.std.specs.Int.Digits.{digits_of}

-- The digits of a number to the base 128, the lowest first. Zero has one.
abbrev pub groups : ℕ → List ℕ
groups zero = 0 ∷ []
groups (suc n) = reverse (digits_of 128 (suc n))

-- Every group but the last has its highest bit set: another one follows.
abbrev pub continued : List ℕ → List ℕ
continued [] = []
continued (last ∷ []) = last ∷ []
continued (group ∷ next ∷ rest) = (128 + group) ∷ continued (next ∷ rest)

-- the bytes of a number
unfoldable pub varint : ℕ → List ℕ
varint n = continued (groups n)
