-- What stands at the front takes a byte at least.
use Rattle.std.proofs.Common.{◌≡◌, ℕ, zero, suc, ◌+◌, ◌*◌, ◌/◌, ◌%◌, ◌-◌, ◌<◌, ◌≤◌, Bool, true, false, cond, eqb, ltb, List, [], ◌∷◌, length, take, drop, Result, Ok, Err, ◌⊎◌, inl, inr, refl, subst, arith}
use Rattle.std.proofs.lemmas.List.{length-drop}
use Rattle.gp_wire.specs.declared.cause.Cause.{Cause}
use Rattle.gp_wire.specs.declared.cause.Cause.TheVariants.{Truncated, LongVarint, BadWireType, BadKey}
use Rattle.gp_wire.specs.declared.field.Field.{Field}
use Rattle.gp_wire.specs.declared.field.Value.{Value}
use Rattle.gp_wire.specs.declared.field.Value.TheVariants.{Number, Part, Eight, Four}
use Rattle.gp_wire.specs.Front.{◌>>=◌, groups_at, number_at, part_at, value_at, is_field_number, keyed, field_at}

-- the value of a step that didn't fail
pub bind_ok : {A B : Type 0} (r : Result A Cause) (f : A → Result B Cause) (y : B) → (r >>= f) ≡ Ok y → (x : A) × (r ≡ Ok x) × (f x ≡ Ok y)
bind_ok (Ok x) f y e = (x, refl, e)
bind_ok (Err why) f y e = absurd cc

-- which way a test went
pub chosen : {A : Type 0} (b : Bool) (x y z : A) → cond b x y ≡ z → ((b ≡ true) × (x ≡ z)) ⊎ ((b ≡ false) × (y ≡ z))
chosen true x y z e = inl (refl, e)
chosen false x y z e = inr (refl, e)

abbrev pub done : {A : Type 0} → A → Result A Cause
done x = Ok x

pub ok_is : {A : Type 0} (x y : A) → done x ≡ done y → x ≡ y
ok_is x y e = cc

abbrev IsBehind : {A : Type 0} → A × List ℕ → List ℕ → Type 0
IsBehind x bytes = length x.1 < length bytes

abbrev IsWithin : {A : Type 0} → A × List ℕ → List ℕ → Type 0
IsWithin x bytes = length x.1 ≤ length bytes

first_byte : (n b : ℕ) (bytes : List ℕ) (x : ℕ × List ℕ) → done (n, bytes) ≡ done x → IsBehind x (b ∷ bytes)
first_byte n b bytes x e = subst (λ (y : ℕ × List ℕ). IsBehind y (b ∷ bytes)) (ok_is (n, bytes) x e) (omega arith)

pub groups_at-shorter : (more : ℕ) (bytes : List ℕ) (x : ℕ × List ℕ) → groups_at more bytes ≡ Ok x → length x.1 < length bytes
unfolding groups_at
groups_at-shorter more [] x e = absurd cc
groups_at-shorter zero (b ∷ bytes) x e = elim (chosen (ltb 1 b) (Err LongVarint) (done (b, bytes)) (done x) e) [
  | inl h ↦ absurd (let bad : Err LongVarint ≡ done x = h.1 in cc)
  | inr h ↦ first_byte b b bytes x h.1
]
groups_at-shorter (suc more) (b ∷ bytes) x e =
    let step : ℕ × List ℕ → Result (ℕ × List ℕ) Cause = λ high. Ok (b - 128 + 128 * high.0, high.1) in
    elim (chosen (ltb b 128) (done (b, bytes)) (groups_at more bytes >>= step) (done x) e) [
      | inl h ↦ first_byte b b bytes x h.1
      | inr h ↦
          let r = bind_ok (groups_at more bytes) step x h.1 in
          let shorter = groups_at-shorter more bytes r.0 r.1 in
          subst (λ (y : ℕ × List ℕ). IsBehind y (b ∷ bytes)) (ok_is (b - 128 + 128 * r.0.0, r.0.1) x r.2) (omega arith)
    ]

part_at-shorter : (len : ℕ) (bytes : List ℕ) (x : List ℕ × List ℕ) → part_at len bytes ≡ Ok x → IsWithin x bytes
unfolding part_at
part_at-shorter len bytes x e = elim (chosen (ltb (length bytes) len) (Err Truncated) (done (take len bytes, drop len bytes)) (done x) e) [
  | inl h ↦ absurd (let bad : Err Truncated ≡ done x = h.1 in cc)
  | inr h ↦ subst (λ (y : List ℕ × List ℕ). IsWithin y bytes) (ok_is (take len bytes, drop len bytes) x h.1) (omega (arith, length-drop len bytes))
]

-- a step whose answer has the same rest
same_rest : {A B : Type 0} (r : Result (A × List ℕ) Cause) (f : A → B) (bytes : List ℕ) (x : B × List ℕ)
    → ((y : A × List ℕ) → r ≡ Ok y → IsWithin y bytes) → (r >>= λ y. Ok (f y.0, y.1)) ≡ done x → IsWithin x bytes
same_rest {A} {B} r f bytes x within e =
    let step : A × List ℕ → Result (B × List ℕ) Cause = λ y. Ok (f y.0, y.1) in
    let y = bind_ok r step x e in
    subst (λ (z : B × List ℕ). IsWithin z bytes) (ok_is (f y.0.0, y.0.1) x y.2) (within y.0 y.1)

length_and_part : (bytes : List ℕ) (x : Value × List ℕ) → (number_at bytes >>= λ len. part_at len.0 len.1 >>= λ p. Ok (Part p.0, p.1)) ≡ done x → IsWithin x bytes
length_and_part bytes x e =
    let step : ℕ × List ℕ → Result (Value × List ℕ) Cause = λ len. part_at len.0 len.1 >>= λ p. Ok (Part p.0, p.1) in
    let len = bind_ok (number_at bytes) step x e in
    let shorter = groups_at-shorter 9 bytes len.0 len.1 in
    let within : IsWithin x len.0.1 = same_rest (part_at len.0.0 len.0.1) (λ p. Part p) len.0.1 x (λ y h. part_at-shorter len.0.0 len.0.1 y h) len.2 in
    omega arith

value_at-shorter : (type : ℕ) (bytes : List ℕ) (x : Value × List ℕ) → value_at type bytes ≡ Ok x → IsWithin x bytes
unfolding value_at
value_at-shorter type bytes x e =
    elim (chosen (eqb type 0) _ _ (done x) e) [
      | inl h ↦ same_rest (number_at bytes) (λ n. Number n) bytes x (λ y g. let s = groups_at-shorter 9 bytes y g in omega arith) h.1
      | inr h ↦ elim (chosen (eqb type 1) _ _ (done x) h.1) [
        | inl h1 ↦ same_rest (part_at 8 bytes) (λ p. Eight p) bytes x (λ y g. part_at-shorter 8 bytes y g) h1.1
        | inr h1 ↦ elim (chosen (eqb type 2) _ _ (done x) h1.1) [
          | inl h2 ↦ length_and_part bytes x h2.1
          | inr h2 ↦ elim (chosen (eqb type 5) _ _ (done x) h2.1) [
            | inl h3 ↦ same_rest (part_at 4 bytes) (λ p. Four p) bytes x (λ y g. part_at-shorter 4 bytes y g) h3.1
            | inr h3 ↦ absurd (let bad : Err BadWireType ≡ done x = h3.1 in cc)
          ]
        ]
      ]
    ]

keyed-shorter : (key : ℕ) (bytes : List ℕ) (x : Field × List ℕ) → keyed key bytes ≡ Ok x → IsWithin x bytes
unfolding keyed
keyed-shorter key bytes x e =
    elim (chosen (is_field_number (key / 8)) _ (Err BadKey) (done x) e) [
      | inl h ↦ same_rest (value_at (key % 8) bytes) (λ v. record { number = key / 8; value = v }) bytes x (λ y g. value_at-shorter (key % 8) bytes y g) h.1
      | inr h ↦ absurd (let bad : Err BadKey ≡ done x = h.1 in cc)
    ]

pub field_at-shorter : (bytes : List ℕ) (x : Field × List ℕ) → field_at bytes ≡ Ok x → length x.1 < length bytes
unfolding field_at
field_at-shorter bytes x e =
    let step : ℕ × List ℕ → Result (Field × List ℕ) Cause = λ key. keyed key.0 key.1 in
    let key = bind_ok (number_at bytes) step x e in
    let shorter = groups_at-shorter 9 bytes key.0 key.1 in
    let within = keyed-shorter key.0.0 key.0.1 x key.2 in
    omega arith

-- no bytes are no field
pub field_at-nil : (x : Field × List ℕ) → field_at [] ≡ Ok x → ⊥
field_at-nil x e = omega (arith, field_at-shorter [] x e)
