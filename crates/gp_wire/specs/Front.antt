-- What stands at the front of bytes: a number, a part, a field. Each is given with the bytes behind it, or it can't be
-- read, for the first of its causes.
use Rattle.std.specs.Prelude.{◌≡◌, ℕ, zero, suc, ◌+◌, ◌-◌, ◌*◌, ◌/◌, ◌%◌, Bool, ◌&&◌, ◌==◌, nat_lt, if◌then◌else◌, List, [], ◌∷◌, length, take, drop, Result, Ok, Err}
use Rattle.gp_wire.specs.declared.cause.Cause.{Cause}
use Rattle.gp_wire.specs.declared.cause.Cause.TheVariants.{Truncated, LongVarint, BadWireType, BadKey}
use Rattle.gp_wire.specs.declared.field.Field.{Field}
use Rattle.gp_wire.specs.declared.field.Value.{Value}
use Rattle.gp_wire.specs.declared.field.Value.TheVariants.{Number, Part, Eight, Four}

-- what comes of the value where there is one
infixl 10 ◌>>=◌
abbrev pub ◌>>=◌ : {A B : Type 0} → Result A Cause → (A → Result B Cause) → Result B Cause
(Ok x) >>= f = f x
(Err why) >>= f = Err why

-- The number whose groups of seven bits begin here, the lowest first, where so many groups may follow this one. From
-- 128 on a byte says that another one follows. The tenth byte has the highest of 64 bits alone.
unfoldable pub groups_at : ℕ → List ℕ → Result (ℕ × List ℕ) Cause
groups_at more [] = Err Truncated
groups_at zero (b ∷ bytes) = if nat_lt 1 b then Err LongVarint else Ok (b, bytes)
groups_at (suc more) (b ∷ bytes) =
    if nat_lt b 128 then Ok (b, bytes) else groups_at more bytes >>= λ high. Ok (b - 128 + 128 * high.0, high.1)

-- the number at the front
abbrev pub number_at : List ℕ → Result (ℕ × List ℕ) Cause
number_at bytes = groups_at 9 bytes

-- so many bytes
unfoldable pub part_at : ℕ → List ℕ → Result (List ℕ × List ℕ) Cause
part_at len bytes = if nat_lt (length bytes) len then Err Truncated else Ok (take len bytes, drop len bytes)

-- What follows a key, by its wire type. The length of a part stands before it, and isn't part of it.
unfoldable pub value_at : ℕ → List ℕ → Result (Value × List ℕ) Cause
value_at type bytes =
    if type == 0 then (number_at bytes >>= λ n. Ok (Number n.0, n.1)) else
    if type == 1 then (part_at 8 bytes >>= λ p. Ok (Eight p.0, p.1)) else
    if type == 2 then (number_at bytes >>= λ len. part_at len.0 len.1 >>= λ p. Ok (Part p.0, p.1)) else
    if type == 5 then (part_at 4 bytes >>= λ p. Ok (Four p.0, p.1)) else Err BadWireType

-- Field numbers are 1 to 2^29 - 1.
abbrev pub is_field_number : ℕ → Bool
is_field_number number = nat_lt 0 number && nat_lt number 536870912

-- the field that a key begins
unfoldable pub keyed : ℕ → List ℕ → Result (Field × List ℕ) Cause
keyed key bytes =
    if is_field_number (key / 8)
    then (value_at (key % 8) bytes >>= λ v. Ok (record { number = key / 8; value = v.0 }, v.1))
    else Err BadKey

-- the field at the front
unfoldable pub field_at : List ℕ → Result (Field × List ℕ) Cause
field_at bytes = number_at bytes >>= λ key. keyed key.0 key.1

-- What a call answers, seen by view, is what can be read, with its cause where it can't.
abbrev pub Reads : {X Y : Type 0} → (X → Y) → Result X Cause → Result Y Cause → Type 0
Reads view (Ok x) reading = reading ≡ Ok (view x)
Reads view (Err why) reading = reading ≡ Err why
