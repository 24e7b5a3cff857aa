-- What stands under a number in the fields that are written, segment by segment.
use Rattle.std.proofs.Common.{◌≡◌, ℕ, zero, suc, ◌^◌, ◌<◌, ℤ, pos, Bool, true, false, cond, eqb, List, [], ◌∷◌, ◌++◌, map, Option, Some, None, refl, ap, ◌∙◌}
use Rattle.std.specs.Prelude.{FitsSigned}
use Rattle.std.specs.List.{flat_map, AllByRecursion}
use Rattle.std.specs.Int.{w64}
use Rattle.std.proofs.lemmas.Int.{to_z-of_z}
use Rattle.std.proofs.lemmas.List.{append-nil}
use Rattle.gp_wire.specs.declared.field.Field.{Field}
use Rattle.gp_wire.specs.declared.field.Value.{Value}
use Rattle.gp_wire.specs.declared.field.Value.TheVariants.{Number, Part}
use Rattle.gp_wire.specs.Varint.{varint}
use Rattle.gp_wire.specs.Field.{spelled}
use Rattle.gp_wire.specs.Canonical.{twos_complement, scalar, part, packed, texts, messages, optional}
use Rattle.gp_wire.specs.Messages.{values_under, lone_number, numbers_in, part_in, numbers_under, parts_under, last_or, int64_of, last_unsigned, last_signed}
use Rattle.gp_wire.proofs.MessageLemmas.{values_under-append, values_under-one}
use Rattle.gp_wire.proofs.SpellLemmas.{packed_again}

abbrev no_values : List Value
no_values = []

nothing_either_way : (b : Bool) → no_values ≡ cond b [] []
nothing_either_way true = refl
nothing_either_way false = refl

pub values_under-nil : (n : ℕ) → values_under n [] ≡ []
unfolding values_under
values_under-nil n = refl

-- a number that isn't 0
abbrev pub scalar_values : ℕ → List Value
scalar_values zero = []
scalar_values (suc v) = Number (suc v) ∷ []

pub values-scalar : (n k v : ℕ) → values_under n (scalar k v) ≡ cond (eqb k n) (scalar_values v) []
unfolding scalar
values-scalar n k zero = values_under-nil n ∙ nothing_either_way (eqb k n)
values-scalar n k (suc v) = values_under-one n (record { number = k; value = Number (suc v) })

abbrev pub packed_values : List ℕ → List Value
packed_values [] = []
packed_values (x ∷ xs) = Part (flat_map varint (x ∷ xs)) ∷ []

pub values-packed : (n k : ℕ) (ns : List ℕ) → values_under n (packed k ns) ≡ cond (eqb k n) (packed_values ns) []
unfolding packed
values-packed n k [] = values_under-nil n ∙ nothing_either_way (eqb k n)
values-packed n k (x ∷ xs) = values_under-one n (part k (flat_map varint (x ∷ xs)))

abbrev pub part_values : {A : Type 0} → (A → List ℕ) → List A → List Value
part_values content items = map (λ item. Part (content item)) items

one_part_more : (b : Bool) (v : Value) (vs : List Value) → cond b (v ∷ []) [] ++ cond b vs [] ≡ cond b (v ∷ vs) []
one_part_more true v vs = refl
one_part_more false v vs = refl

values-parts : {A : Type 0} (content : A → List ℕ) (n k : ℕ) (items : List A)
    → values_under n (map (λ item. part k (content item)) items) ≡ cond (eqb k n) (part_values content items) []
values-parts content n k [] = values_under-nil n ∙ nothing_either_way (eqb k n)
values-parts content n k (item ∷ items) =
    values_under-append n (part k (content item) ∷ []) (map (λ i. part k (content i)) items)
    ∙ ap (λ (vs : List Value). vs ++ values_under n (map (λ i. part k (content i)) items)) (values_under-one n (part k (content item)))
    ∙ ap (λ (vs : List Value). cond (eqb k n) (Part (content item) ∷ []) [] ++ vs) (values-parts content n k items)
    ∙ one_part_more (eqb k n) (Part (content item)) (part_values content items)

pub values-messages : {M : Type 0} (fields : M → List Field) (n k : ℕ) (items : List M)
    → values_under n (messages k fields items) ≡ cond (eqb k n) (part_values (λ item. spelled (fields item)) items) []
unfolding messages
values-messages fields n k items = values-parts (λ item. spelled (fields item)) n k items

pub values-texts : (n k : ℕ) (items : List (List ℕ)) → values_under n (texts k items) ≡ cond (eqb k n) (part_values (λ item. item) items) []
unfolding texts
values-texts n k items = values-parts (λ item. item) n k items

abbrev pub optional_values : {M : Type 0} → (M → List Field) → Option M → List Value
optional_values fields None = []
optional_values fields (Some item) = Part (spelled (fields item)) ∷ []

pub values-optional : {M : Type 0} (fields : M → List Field) (n k : ℕ) (item : Option M)
    → values_under n (optional k fields item) ≡ cond (eqb k n) (optional_values fields item) []
unfolding optional
values-optional fields n k None = values_under-nil n ∙ nothing_either_way (eqb k n)
values-optional fields n k (Some item) = values_under-one n (part k (spelled (fields item)))

-- ---- what the values give

unsigned_again : (v : ℕ) → last_or 0 (flat_map lone_number (scalar_values v)) ≡ v
unsigned_again zero = refl
unsigned_again (suc v) = refl

pub unsigned_from : (n v : ℕ) (fields : List Field) → values_under n fields ≡ scalar_values v → last_unsigned n fields ≡ v
unsigned_from n v fields e = ap (λ (vs : List Value). last_or 0 (flat_map lone_number vs)) e ∙ unsigned_again v

signed_again : (z : ℤ) (v : ℕ) → int64_of v ≡ z → last_or (pos 0) (map int64_of (flat_map lone_number (scalar_values v))) ≡ z
signed_again z zero e = e
signed_again z (suc v) e = e

pub signed_from : (n : ℕ) (z : ℤ) (fields : List Field) → FitsSigned w64 z → values_under n fields ≡ scalar_values (twos_complement z) → last_signed n fields ≡ z
signed_from n z fields fits e =
    ap (λ (vs : List Value). last_or (pos 0) (map int64_of (flat_map lone_number vs))) e
    ∙ signed_again z (twos_complement z) (to_z-of_z w64 z fits)

numbers_again : (ns : List ℕ) → AllByRecursion (λ n. n < 2 ^ 64) ns → flat_map numbers_in (packed_values ns) ≡ ns
numbers_again [] fits = refl
numbers_again (x ∷ xs) fits = rw (packed_again (x ∷ xs) fits) (append-nil (x ∷ xs))

pub numbers_from : (n : ℕ) (ns : List ℕ) (fields : List Field) → AllByRecursion (λ n. n < 2 ^ 64) ns → values_under n fields ≡ packed_values ns → numbers_under n fields ≡ ns
numbers_from n ns fields fits e = ap (flat_map numbers_in) e ∙ numbers_again ns fits

parts_again : {A : Type 0} (content : A → List ℕ) (items : List A) → flat_map part_in (part_values content items) ≡ map content items
parts_again content [] = refl
parts_again content (item ∷ items) = ap (λ (rest : List (List ℕ)). content item ∷ rest) (parts_again content items)

pub parts_from : {A : Type 0} (content : A → List ℕ) (n : ℕ) (items : List A) (fields : List Field) → values_under n fields ≡ part_values content items → parts_under n fields ≡ map content items
parts_from content n items fields e = ap (flat_map part_in) e ∙ parts_again content items
