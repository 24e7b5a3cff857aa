-- What is spelled is read again: numbers, packed numbers, fields, lists of fields.
use Rattle.std.proofs.Common.{◌≡◌, ℕ, zero, suc, ◌+◌, ◌*◌, ◌/◌, ◌%◌, ◌^◌, ◌<◌, ◌≤◌, false, ltb, List, [], ◌∷◌, ◌++◌, length, Option, None, Ok, refl, ap, ◌∙◌, append_assoc, arith, inl, inr}
use Rattle.std.specs.List.{flat_map, AllByRecursion}
use Rattle.std.proofs.Math.Nat.{pow-succ'}
use Rattle.std.proofs.lemmas.Bool.{cases_lt, lt-ltb, le-ltb}
use Rattle.std.proofs.lemmas.List.{take_at, drop_at, length-append}
use Rattle.gp_wire.specs.declared.cause.Cause.{Cause}
use Rattle.gp_wire.specs.declared.field.Field.{Field}
use Rattle.gp_wire.specs.declared.field.Value.{Value}
use Rattle.gp_wire.specs.declared.field.Value.TheVariants.{Number, Part, Eight, Four}
use Rattle.gp_wire.specs.Varint.{varint}
use Rattle.gp_wire.specs.Field.{wire_type, content, field_bytes, spelled}
use Rattle.gp_wire.specs.Front.{groups_at, number_at, part_at, value_at, keyed, field_at}
use Rattle.gp_wire.specs.Packed.{packed_at}
use Rattle.gp_wire.specs.Fields.{fields_of, first_fault}
use Rattle.gp_wire.proofs.VarintLemmas.{varint-last, varint-more}
use Rattle.gp_wire.proofs.FieldLemmas.{spelled-nil, spelled-cons}
use Rattle.gp_wire.proofs.FrontLemmas.{done}
use Rattle.gp_wire.proofs.PieceLemmas.{fields_of-nil, fields_of-step, first_fault-nil, first_fault-past}
use Rattle.gp_wire.proofs.PackedLemmas.{packed_at-nil, packed_at-step}

-- ---- numbers

groups_again : (more n : ℕ) (rest : List ℕ) → n < 2 * 128 ^ more → groups_at more (varint n ++ rest) ≡ Ok (n, rest)
unfolding groups_at
groups_again zero n rest lt =
    let small : n < 2 = lt in
    rw (varint-last n (omega arith), le-ltb 1 n (omega arith)) refl
groups_again (suc more) n rest lt =
    elim (cases_lt n 128) [
      | inl small ↦ rw (varint-last n small, lt-ltb n 128 small) refl
      | inr large ↦
          let power = pow-succ' 128 more in
          let again = groups_again more (n / 128) rest (omega (arith, lt, power)) in
          rw (varint-more n large, le-ltb (128 + n % 128) 128 (omega arith), again) (ap (λ (m : ℕ). done (m, rest)) (omega arith))
    ]

pub number_again : (n : ℕ) (rest : List ℕ) → n < 2 ^ 64 → number_at (varint n ++ rest) ≡ Ok (n, rest)
number_again n rest lt = groups_again 9 n rest lt

-- a number has a byte at least
pub varint-some : (n : ℕ) → 0 < length (varint n)
varint-some n = elim (cases_lt n 128) [
  | inl small ↦ rw (varint-last n small) (omega arith)
  | inr large ↦ rw (varint-more n large) (omega arith)
]

-- ---- packed numbers

pub packed_again : (ns : List ℕ) → AllByRecursion (λ n. n < 2 ^ 64) ns → packed_at (flat_map varint ns) ≡ Ok ns
packed_again [] fits = packed_at-nil
packed_again (n ∷ ns) fits =
    let some : 0 < length (varint n ++ flat_map varint ns) = omega (arith, length-append (varint n) (flat_map varint ns), varint-some n) in
    packed_at-step (varint n ++ flat_map varint ns) some
    ∙ rw (number_again n (flat_map varint ns) fits.0, packed_again ns fits.1) refl

-- ---- fields

pub part_again : (bytes rest : List ℕ) (len : ℕ) → length bytes ≡ len → part_at len (bytes ++ rest) ≡ Ok (bytes, rest)
unfolding part_at
part_again bytes rest len e =
    let long : ltb (length (bytes ++ rest)) len ≡ false = le-ltb _ _ (omega (arith, length-append bytes rest)) in
    rw (long, take_at bytes rest len e, drop_at bytes rest len e) refl

-- what has a spelling that is read again
abbrev pub IsSpelled : Value → Type 0
IsSpelled (Number n) = n < 2 ^ 64
IsSpelled (Part bytes) = length bytes < 2 ^ 64
IsSpelled (Eight bytes) = length bytes ≡ 8
IsSpelled (Four bytes) = length bytes ≡ 4

value_again : (v : Value) (rest : List ℕ) → IsSpelled v → value_at (wire_type v) (content v ++ rest) ≡ Ok (v, rest)
unfolding value_at
value_again (Number n) rest fits = rw (number_again n rest fits) refl
value_again (Part bytes) rest fits =
    rw (append_assoc (varint (length bytes)) bytes rest, number_again (length bytes) (bytes ++ rest) fits, part_again bytes rest (length bytes) refl) refl
value_again (Eight bytes) rest fits = rw (part_again bytes rest 8 fits) refl
value_again (Four bytes) rest fits = rw (part_again bytes rest 4 fits) refl

wire_type-small : (v : Value) → wire_type v < 8
wire_type-small (Number n) = omega arith
wire_type-small (Part bytes) = omega arith
wire_type-small (Eight bytes) = omega arith
wire_type-small (Four bytes) = omega arith

-- a field that is read again
pub record CanBeRead (f : Field) : Type 0 where
  pub low : 0 < f.number
  pub high : f.number < 536870912
  pub value : IsSpelled f.value

pub field_again : (f : Field) (rest : List ℕ) → CanBeRead f → field_at (field_bytes f ++ rest) ≡ Ok (f, rest)
unfolding field_at keyed
field_again f rest fits =
    let type = wire_type f.value in
    let small : type < 8 = wire_type-small f.value in
    let key = f.number * 8 + type in
    let number : key / 8 ≡ f.number = omega (arith, small) in
    let kind : key % 8 ≡ type = omega (arith, small) in
    let key_again = number_again key (content f.value ++ rest) (omega (arith, small, fits.high)) in
    rw (append_assoc (varint key) (content f.value) rest, key_again)
    (rw (number, kind, lt-ltb 0 f.number fits.low, lt-ltb f.number 536870912 fits.high, value_again f.value rest fits.value) refl)

-- ---- lists of fields

pub fields_again : (fs : List Field) → AllByRecursion CanBeRead fs → fields_of (spelled fs) ≡ fs
fields_again [] fits = ap fields_of spelled-nil ∙ fields_of-nil
fields_again (f ∷ fs) fits =
    ap fields_of (spelled-cons f fs)
    ∙ fields_of-step (field_bytes f ++ spelled fs) f (spelled fs) (field_again f (spelled fs) fits.0)
    ∙ ap (λ (rest : List Field). f ∷ rest) (fields_again fs fits.1)

pub no_fault_again : (check : Field → Option Cause) (fs : List Field) → AllByRecursion CanBeRead fs → AllByRecursion (λ f. check f ≡ None) fs → first_fault check (spelled fs) ≡ None
no_fault_again check [] fits fine = ap (first_fault check) spelled-nil ∙ first_fault-nil check
no_fault_again check (f ∷ fs) fits fine =
    ap (first_fault check) (spelled-cons f fs)
    ∙ first_fault-past check (field_bytes f ++ spelled fs) f (spelled fs) (field_again f (spelled fs) fits.0) fine.0
    ∙ no_fault_again check fs fits.1 fine.1

-- ---- parts are shorter than what holds them

-- a field whose part, if it has one, is short enough
abbrev pub IsPlain : Value → Type 0
IsPlain (Number n) = n < 2 ^ 64
IsPlain (Part bytes) = Unit {0}
IsPlain (Eight bytes) = ⊥
IsPlain (Four bytes) = ⊥

pub record CanBeWritten (f : Field) : Type 0 where
  pub low : 0 < f.number
  pub high : f.number < 536870912
  pub value : IsPlain f.value

short_enough : (v : Value) → IsPlain v → length (content v) < 2 ^ 64 → IsSpelled v
short_enough (Number n) plain short = plain
short_enough (Part bytes) plain short = omega (arith, length-append (varint (length bytes)) bytes)
short_enough (Eight bytes) plain short = absurd plain
short_enough (Four bytes) plain short = absurd plain

pub all_can_be_read : (fs : List Field) → AllByRecursion CanBeWritten fs → length (spelled fs) < 2 ^ 64 → AllByRecursion CanBeRead fs
all_can_be_read [] fits short = tt
all_can_be_read (f ∷ fs) fits short =
    let whole : length (spelled (f ∷ fs)) ≡ length (field_bytes f) + length (spelled fs) = ap length (spelled-cons f fs) ∙ length-append (field_bytes f) (spelled fs) in
    let front : length (content f.value) ≤ length (field_bytes f) = omega (arith, length-append (varint (f.number * 8 + wire_type f.value)) (content f.value)) in
    (record { low = fits.0.low; high = fits.0.high; value = short_enough f.value fits.0.value (omega arith) }, all_can_be_read fs fits.1 (omega arith))
