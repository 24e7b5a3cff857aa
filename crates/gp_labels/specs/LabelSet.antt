-- Label sets: pairs sorted by the bytes of their keys, each key once.
use Rattle.std.specs.Prelude.{◌≡◌, refl, ℕ, zero, suc, List, [], ◌∷◌, codes, Option, Some, None, fold, slice_get, if◌then◌else◌}
use Rattle.std.specs.Option.{option_map_or}
use Rattle.std.specs.Str.{bytes_eq}
use Rattle.std.specs.Ordering.{nat_cmp, match_ordering}
use Rattle.std.specs.Cmp.Lexicographic.{slice_cmp}
use Rattle.gp_isa.specs.declared.parts.Parts.{Parts}
use Rattle.gp_isa.specs.declared.parts.LabelSet.{LabelSet}
use Rattle.gp_isa.specs.declared.parts.Pair.{Pair}

-- A pair is put among pairs in the order of their keys: in front of the first with a higher key; or it gives its value to
-- the one that has its key.
abbrev pub with_pair : List Pair → Pair → List Pair
with_pair [] p = p ∷ []
with_pair (q ∷ qs) p =
    match_ordering (slice_cmp nat_cmp p.key q.key) (p ∷ q ∷ qs) (record { key = q.key; value = p.value } ∷ qs) (q ∷ with_pair qs p)

-- The set of pairs that stand in any order.
unfoldable pub canonical_of : List Pair → List Pair
canonical_of pairs = fold with_pair [] pairs

abbrev pair : List ℕ → List ℕ → Pair
pair key value = record { key = key; value = value }

-- Keys are sorted, the shorter one first where it begins the other, and the last value counts.
repeated :
    canonical_of (pair (codes "b") (codes "1") ∷ pair (codes "ab") (codes "2") ∷ pair (codes "b") [] ∷ pair (codes "a") (codes "3") ∷ [])
    ≡ pair (codes "a") (codes "3") ∷ pair (codes "ab") (codes "2") ∷ pair (codes "b") [] ∷ []
unfolding canonical_of
repeated = refl

-- the value of a key, where a pair has it
abbrev pub value_of : List ℕ → List Pair → Option (List ℕ)
value_of key [] = None
value_of key (p ∷ pairs) = if bytes_eq key p.key then Some p.value else value_of key pairs

-- the value of the last pair that has a key
abbrev pub later : List ℕ → Option (List ℕ) → Pair → Option (List ℕ)
later key found p = if bytes_eq key p.key then Some p.value else found

abbrev pub last_value : List ℕ → List Pair → Option (List ℕ)
last_value key pairs = fold (later key) None pairs

-- the pairs of a program's label set, none of set 0 and of one that isn't there
abbrev pub pairs_of : Parts → ℕ → List Pair
pairs_of parts zero = []
pairs_of parts (suc s) = option_map_or (λ (set : LabelSet). set.pairs) (slice_get parts.labels s) []
