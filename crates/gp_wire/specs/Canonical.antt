-- The canonical bytes of a profile: each message of `profile.proto` with its fields in the order of their numbers.
use Rattle.std.specs.Prelude.{ℕ, zero, suc, ℤ, List, [], ◌∷◌, ◌++◌, map, Option, Some, None}
use Rattle.std.specs.List.{flat_map}
use Rattle.std.specs.Int.{w64, cast_unsigned}
use Rattle.gp_wire.specs.declared.field.Field.{Field}
use Rattle.gp_wire.specs.declared.field.Value.TheVariants.{Number, Part}
use Rattle.gp_wire.specs.declared.profile.Function.{Function}
use Rattle.gp_wire.specs.declared.profile.Label.{Label}
use Rattle.gp_wire.specs.declared.profile.Line.{Line}
use Rattle.gp_wire.specs.declared.profile.Location.{Location}
use Rattle.gp_wire.specs.declared.profile.Profile.{Profile}
use Rattle.gp_wire.specs.declared.profile.Sample.{Sample}
use Rattle.gp_wire.specs.declared.profile.ValueType.{ValueType}
use Rattle.gp_wire.specs.Varint.{varint}
use Rattle.gp_wire.specs.Field.{spelled}

-- an int64 as the wire has it: a negative one is its two's complement in 64 bits
abbrev pub twos_complement : ℤ → ℕ
twos_complement z = cast_unsigned w64 z

-- A number that is 0 isn't written.
unfoldable pub scalar : ℕ → ℕ → List Field
scalar number zero = []
scalar number (suc n) = record { number = number; value = Number (suc n) } ∷ []

-- an int64 that isn't 0
abbrev pub signed : ℕ → ℤ → List Field
signed number z = scalar number (twos_complement z)

-- a part of bytes, which is written even where it is empty
abbrev pub part : ℕ → List ℕ → Field
part number bytes = record { number = number; value = Part bytes }

-- Repeated numbers stand in one part, one varint after another. Where there are none, nothing is written.
unfoldable pub packed : ℕ → List ℕ → List Field
packed number [] = []
packed number (n ∷ ns) = part number (flat_map varint (n ∷ ns)) ∷ []

-- a repeated text
unfoldable pub texts : ℕ → List (List ℕ) → List Field
texts number items = map (part number) items

-- a repeated message
unfoldable pub messages : {M : Type 0} → ℕ → (M → List Field) → List M → List Field
messages number fields items = map (λ item. part number (spelled (fields item))) items

-- a message that may be missing
unfoldable pub optional : {M : Type 0} → ℕ → (M → List Field) → Option M → List Field
optional number fields None = []
optional number fields (Some item) = part number (spelled (fields item)) ∷ []

abbrev pub value_type_fields : ValueType → List Field
value_type_fields v = signed 1 v.kind ++ signed 2 v.unit

abbrev pub label_fields : Label → List Field
label_fields l = signed 1 l.key ++ signed 2 l.text ++ signed 3 l.num ++ signed 4 l.num_unit

abbrev pub sample_fields : Sample → List Field
sample_fields s = packed 1 s.location_ids ++ packed 2 (map twos_complement s.values) ++ messages 3 label_fields s.labels

abbrev pub line_fields : Line → List Field
line_fields l = scalar 1 l.function_id ++ signed 2 l.line

abbrev pub location_fields : Location → List Field
location_fields l = scalar 1 l.id ++ messages 4 line_fields l.lines

abbrev pub function_fields : Function → List Field
function_fields f =
    scalar 1 f.id
    ++ signed 2 f.name
    ++ signed 3 f.system_name
    ++ signed 4 f.filename
    ++ signed 5 f.start_line

abbrev pub profile_fields : Profile → List Field
profile_fields p =
    messages 1 value_type_fields p.sample_types
    ++ messages 2 sample_fields p.samples
    ++ messages 4 location_fields p.locations
    ++ messages 5 function_fields p.functions
    ++ texts 6 p.strings
    ++ signed 10 p.duration
    ++ optional 11 value_type_fields p.period_type
    ++ signed 12 p.period

-- the canonical bytes of a profile
unfoldable pub canon : Profile → List ℕ
canon p = spelled (profile_fields p)
