-- The faults inside a field: of packed numbers, of a message that isn't the outermost one, of a text.
use Rattle.std.specs.Prelude.{ℕ, ◌==◌, if◌then◌else◌, List, [], ◌∷◌, Option, Some, None}
use Rattle.std.specs.Str.{is_utf8}
use Rattle.gp_wire.specs.declared.cause.Cause.{Cause}
use Rattle.gp_wire.specs.declared.cause.Cause.TheVariants.{BadUtf8}
use Rattle.gp_wire.specs.declared.field.Field.{Field}
use Rattle.gp_wire.specs.declared.field.Value.{Value}
use Rattle.gp_wire.specs.declared.field.Value.TheVariants.{Number, Part, Eight, Four}
use Rattle.gp_wire.specs.Fields.{first_cause}
use Rattle.gp_wire.specs.Packed.{packed_cause}

abbrev pub cause_in_part : (List ℕ → Option Cause) → Value → Option Cause
cause_in_part within (Number n) = None
cause_in_part within (Part bytes) = within bytes
cause_in_part within (Eight bytes) = None
cause_in_part within (Four bytes) = None

-- a fault in the parts of one number
unfoldable pub cause_under : ℕ → (List ℕ → Option Cause) → Field → Option Cause
cause_under number within field = if field.number == number then cause_in_part within field.value else None

abbrev pub first_of : List (Option Cause) → Option Cause
first_of [] = None
first_of (Some why ∷ more) = Some why
first_of (None ∷ more) = first_of more

-- A text of the string table is UTF-8.
abbrev pub text_cause : List ℕ → Option Cause
text_cause bytes = if is_utf8 bytes then None else Some BadUtf8

-- Messages whose fields are numbers alone have no faults inside them.
abbrev pub no_cause : Field → Option Cause
no_cause field = None

unfoldable pub sample_check : Field → Option Cause
sample_check field = first_of (
    cause_under 1 packed_cause field
    ∷ cause_under 2 packed_cause field
    ∷ cause_under 3 (first_cause no_cause) field
    ∷ [])

unfoldable pub location_check : Field → Option Cause
location_check field = cause_under 4 (first_cause no_cause) field

-- The comments are packed numbers too. Mappings, number 3, aren't looked into.
unfoldable pub profile_check : Field → Option Cause
profile_check field = first_of (
    cause_under 1 (first_cause no_cause) field
    ∷ cause_under 2 (first_cause sample_check) field
    ∷ cause_under 4 (first_cause location_check) field
    ∷ cause_under 5 (first_cause no_cause) field
    ∷ cause_under 6 text_cause field
    ∷ cause_under 11 (first_cause no_cause) field
    ∷ cause_under 13 packed_cause field
    ∷ [])
