-- What one field does to the message that is read.
use Rattle.std.specs.Prelude.{◌≡◌, List, [], ◌∷◌, ◌++◌, ℕ, Option, Some, None, Result, Ok, Err}
use Rattle.gp_wire.specs.declared.cause.Cause.{Cause}
use Rattle.gp_wire.specs.declared.field.Field.{Field}
use Rattle.gp_wire.specs.Front.{field_at}

-- why the field at the front can't be read, or the fault inside it
abbrev pub cause_read : (Field → Option Cause) → Result (Field × List ℕ) Cause → Option Cause
cause_read check (Ok x) = check x.0
cause_read check (Err why) = Some why

abbrev pub cause_at : (Field → Option Cause) → List ℕ → Option Cause
cause_at check bytes = cause_read check (field_at bytes)

-- The field at the front of bytes, behind which rest stands, has no fault, and it took the message old to new.
pub record TakesFirst {M : Type 0} (made : List Field → M) (check : Field → Option Cause) (bytes rest : List ℕ) (old new : M) : Type 0 where
  pub field : Field
  pub read : field_at bytes ≡ Ok (field, rest)
  pub fine : check field ≡ None
  pub taken : (fields : List Field) → old ≡ made fields → new ≡ made (fields ++ field ∷ [])
