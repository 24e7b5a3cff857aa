-- What is written is read again.
use Rattle.std.specs.Prelude.{◌≡◌, ℕ, ℤ, ◌<◌, ◌^◌, true, List, length, Option, None, Some, FitsSigned}
use Rattle.std.specs.List.{AllByRecursion}
use Rattle.std.specs.Int.{w64}
use Rattle.std.specs.Str.{is_utf8}
use Rattle.gp_wire.specs.declared.profile.Function.{Function}
use Rattle.gp_wire.specs.declared.profile.Label.{Label}
use Rattle.gp_wire.specs.declared.profile.Line.{Line}
use Rattle.gp_wire.specs.declared.profile.Location.{Location}
use Rattle.gp_wire.specs.declared.profile.Profile.{Profile}
use Rattle.gp_wire.specs.declared.profile.Sample.{Sample}
use Rattle.gp_wire.specs.declared.profile.ValueType.{ValueType}
use Rattle.gp_wire.specs.Canonical.{canon}
use Rattle.gp_wire.specs.Valid.{cause_of}
use Rattle.gp_wire.specs.Reading.{Gives, value_of}

-- Numbers lie in the ranges of their types, which are 64 bits with or without a sign.
abbrev pub IsWord : ℕ → Type 0
IsWord n = n < 2 ^ 64

abbrev pub IsInt64 : ℤ → Type 0
IsInt64 z = FitsSigned w64 z

abbrev pub TypeFits : ValueType → Type 0
TypeFits v = IsInt64 v.kind × IsInt64 v.unit

abbrev pub LabelFits : Label → Type 0
LabelFits l = IsInt64 l.key × IsInt64 l.text × IsInt64 l.num × IsInt64 l.num_unit

abbrev pub SampleFits : Sample → Type 0
SampleFits s = AllByRecursion IsWord s.location_ids × AllByRecursion IsInt64 s.values × AllByRecursion LabelFits s.labels

abbrev pub LineFits : Line → Type 0
LineFits l = IsWord l.function_id × IsInt64 l.line

abbrev pub LocationFits : Location → Type 0
LocationFits l = IsWord l.id × AllByRecursion LineFits l.lines

abbrev pub FunctionFits : Function → Type 0
FunctionFits f = IsWord f.id × IsInt64 f.name × IsInt64 f.system_name × IsInt64 f.filename × IsInt64 f.start_line

abbrev pub PeriodFits : Option ValueType → Type 0
PeriodFits None = Unit {0}
PeriodFits (Some v) = TypeFits v

-- A text is UTF-8.
abbrev pub IsText : List ℕ → Type 0
IsText text = is_utf8 text ≡ true

pub record Fits (p : Profile) : Type 0 where
  pub sample_types : AllByRecursion TypeFits p.sample_types
  pub samples : AllByRecursion SampleFits p.samples
  pub locations : AllByRecursion LocationFits p.locations
  pub functions : AllByRecursion FunctionFits p.functions
  pub strings : AllByRecursion IsText p.strings
  pub period_type : PeriodFits p.period_type
  pub period : IsInt64 p.period
  pub duration : IsInt64 p.duration

-- A profile is valid where its numbers are in range, its texts are texts, and it has no fault as a whole.
pub record IsValid (p : Profile) : Type 0 where
  pub fits : Fits p
  pub whole : cause_of p ≡ None

-- The canonical bytes of every valid profile give that profile. Bytes in memory are fewer than 2^64.
abbrev pub RoundTrip : Type 0
RoundTrip = (p : Profile) → IsValid p → length (canon p) < 2 ^ 64 → value_of (canon p) ≡ Gives p
