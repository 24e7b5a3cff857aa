-- The profile that bytes are, or why they are none.
use Rattle.std.specs.Prelude.{◌≡◌, ℕ, ◌-◌, List, length, Option, Some, None}
use Rattle.gp_wire.specs.declared.cause.Cause.{Cause}
use Rattle.gp_wire.specs.declared.error.Halt.{Halt}
use Rattle.gp_wire.specs.declared.error.Stop.{Stop}
use Rattle.gp_wire.specs.declared.error.Stop.TheVariants as stop
use Rattle.gp_wire.specs.declared.error.WireError.{WireError}
use Rattle.gp_wire.specs.declared.error.WireError.TheVariants as error
use Rattle.gp_wire.specs.declared.profile.Profile.{Profile}
use Rattle.gp_wire.specs.Fields.{Fault, fields_of, first_fault}
use Rattle.gp_wire.specs.Messages.{profile_from}
use Rattle.gp_wire.specs.Checks.{profile_check}
use Rattle.gp_wire.specs.Valid.{cause_of}

-- Bytes give a profile, or are refused, at a place.
pub data Reading : Type 0 where
  Gives : (profile : Profile) → Reading
  Refuses : (at : ℕ) (why : Cause) → Reading

-- A profile whose fields could be read is refused for a fault of the whole, at the end of the bytes.
abbrev pub judged : ℕ → Profile → Option Cause → Reading
judged len profile None = Gives profile
judged len profile (Some why) = Refuses len why

-- The first fault of a field stands where the key of the outermost field begins.
abbrev pub read_as : List ℕ → Option Fault → Reading
read_as bytes (Some fault) = Refuses (length bytes - fault.left) fault.cause
read_as bytes None =
    judged (length bytes) (profile_from (fields_of bytes)) (cause_of (profile_from (fields_of bytes)))

-- the profile of bytes, or the place and the cause of the first fault
unfoldable pub value_of : List ℕ → Reading
value_of bytes = read_as bytes (first_fault profile_check bytes)

-- A refusal says where and why; nothing is said of want of memory.
abbrev pub IsRefusalOf : Reading → WireError → Type 0
IsRefusalOf reading (error.Refused at why) = reading ≡ Refuses at why
IsRefusalOf reading error.Memory = Unit {0}

-- Reading stopped at a fault; nothing is said of want of memory.
abbrev pub StopsBy : Option Cause → Stop → Type 0
StopsBy found (stop.Fault why) = found ≡ Some why
StopsBy found stop.Memory = Unit {0}

abbrev pub HaltsAt : Option Fault → ℕ → Stop → Type 0
HaltsAt first left (stop.Fault why) = first ≡ Some (record { left = left; cause = why })
HaltsAt first left stop.Memory = Unit {0}

abbrev pub HaltsBy : Option Fault → Halt → Type 0
HaltsBy first halt = HaltsAt first halt.left halt.stop
