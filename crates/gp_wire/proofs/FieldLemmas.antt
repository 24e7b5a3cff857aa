-- What is used of the spelling of a list of fields.
use Rattle.std.proofs.Common.{◌≡◌, ◌+◌, ◌*◌, ◌<◌, ℕ, List, [], ◌∷◌, ◌++◌, length, get_or, take, map, refl, ap, sym, ◌∙◌, append_assoc, arith}
use Rattle.std.proofs.lemmas.List.{append-nil, take_more, map-append}
use Rattle.std.proofs.lemmas.List.Concat.{flat_map-append}
use Rattle.std.specs.List.{flat_map}
use Rattle.gp_wire.specs.Varint.{varint}
use Rattle.gp_wire.specs.declared.field.Field.{Field}
use Rattle.gp_wire.specs.Field.{field_bytes, spelled}
use Rattle.gp_wire.specs.Canonical.{packed}

pub spelled-nil : spelled [] ≡ []
unfolding spelled
spelled-nil = refl

-- one field in front of others
pub spelled-cons : (field : Field) (fields : List Field) → spelled (field ∷ fields) ≡ field_bytes field ++ spelled fields
unfolding spelled
spelled-cons field fields = refl

pub spelled-append : (xs ys : List Field) → spelled (xs ++ ys) ≡ spelled xs ++ spelled ys
unfolding spelled
spelled-append xs ys = flat_map-append field_bytes xs ys

pub ruleset spelled_steps = (spelled-nil, spelled-append, append_assoc, append-nil)

-- One more item of a repeated field is appended.
pub spelled_more : {X : Type 0} (f : X → Field) (out : List ℕ) (items : List X) (i : ℕ) (x : X) → i < length items
    → (out ++ spelled (map f (take i items))) ++ spelled (f (get_or items i x) ∷ []) ≡ out ++ spelled (map f (take (i + 1) items))
spelled_more f out items i x lt =
    append_assoc out (spelled (map f (take i items))) (spelled (f (get_or items i x) ∷ []))
    ∙ ap (λ (bytes : List ℕ). out ++ bytes) (rw (take_more items i x lt, map-append, spelled-append) refl)

-- Where there are no numbers, nothing is written.
pub packed-none : {X : Type 0} (word : X → ℕ) (number : ℕ) (items : List X) (out : List ℕ) → length items ≡ 0
    → out ≡ out ++ spelled (packed number (map word items))
unfolding packed spelled
packed-none word number [] out none = sym (append-nil out)
packed-none word number (x ∷ xs) out none = absurd (omega arith)

-- Else they stand behind their key and their length.
pub packed-some : {X : Type 0} (word : X → ℕ) (number : ℕ) (items : List X) (out : List ℕ) → 0 < length items
    → (out ++ (varint (number * 8 + 2) ++ varint (length (flat_map varint (map word items))))) ++ flat_map varint (map word items) ≡ out ++ spelled (packed number (map word items))
unfolding packed spelled
packed-some word number [] out some = absurd (omega arith)
packed-some word number (x ∷ xs) out some = simp (append_assoc, append-nil) refl
