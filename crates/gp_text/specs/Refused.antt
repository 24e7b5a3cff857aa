-- What a refusal of one of the first two passes tells.
use Rattle.std.specs.Prelude.{◌≡◌, Option, Some}
use Rattle.gp_text.specs.declared.error.TextError.{TextError}
use Rattle.gp_text.specs.declared.error.TextError.TheVariants.{Refused, Memory}
use Rattle.gp_text.specs.Fault.{Refusal}

-- The refusal is the first fault; nothing is said of want of memory.
abbrev pub IsRefusal : Option Refusal → TextError → Type 0
IsRefusal first (Refused line cause) = first ≡ Some (record { line = line; cause = cause })
IsRefusal first Memory = Unit {0}
