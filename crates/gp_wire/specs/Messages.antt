-- What the fields of each message of `profile.proto` give. They may stand in any order. A number and a text are those of
-- the fields that have their number and their form: of a repeated one all, in their order, and else the last. Fields with
-- another number or another form give nothing.
use Rattle.std.specs.Prelude.{ℕ, ℤ, pos, ◌==◌, List, [], ◌∷◌, map, filter, Option, Some, None}
use Rattle.std.specs.List.{flat_map}
use Rattle.std.specs.Int.{w64, cast_signed}
use Rattle.gp_wire.specs.declared.field.Field.{Field}
use Rattle.gp_wire.specs.declared.field.Value.{Value}
use Rattle.gp_wire.specs.declared.field.Value.TheVariants.{Number, Part, Eight, Four}
use Rattle.gp_wire.specs.declared.profile.Function.{Function}
use Rattle.gp_wire.specs.declared.profile.Label.{Label}
use Rattle.gp_wire.specs.declared.profile.Line.{Line}
use Rattle.gp_wire.specs.declared.profile.Location.{Location}
use Rattle.gp_wire.specs.declared.profile.Profile.{Profile}
use Rattle.gp_wire.specs.declared.profile.Sample.{Sample}
use Rattle.gp_wire.specs.declared.profile.ValueType.{ValueType}
use Rattle.gp_wire.specs.Fields.{fields_of}
use Rattle.gp_wire.specs.Packed.{packed_numbers}

-- what stands under a number
unfoldable pub values_under : ℕ → List Field → List Value
values_under number fields = map (λ (f : Field). f.value) (filter (λ (f : Field). f.number == number) fields)

-- A number stands alone.
abbrev pub lone_number : Value → List ℕ
lone_number (Number n) = n ∷ []
lone_number (Part bytes) = []
lone_number (Eight bytes) = []
lone_number (Four bytes) = []

-- Numbers stand alone or packed in a part.
abbrev pub numbers_in : Value → List ℕ
numbers_in (Number n) = n ∷ []
numbers_in (Part bytes) = packed_numbers bytes
numbers_in (Eight bytes) = []
numbers_in (Four bytes) = []

abbrev pub part_in : Value → List (List ℕ)
part_in (Number n) = []
part_in (Part bytes) = bytes ∷ []
part_in (Eight bytes) = []
part_in (Four bytes) = []

-- repeated numbers, alone, packed or mixed
abbrev pub numbers_under : ℕ → List Field → List ℕ
numbers_under number fields = flat_map numbers_in (values_under number fields)

-- repeated parts
abbrev pub parts_under : ℕ → List Field → List (List ℕ)
parts_under number fields = flat_map part_in (values_under number fields)

-- the numbers that stand alone
abbrev pub lone_numbers_under : ℕ → List Field → List ℕ
lone_numbers_under number fields = flat_map lone_number (values_under number fields)

-- the last of a list, or else what was there before
abbrev pub last_or : {X : Type 0} → X → List X → X
last_or before [] = before
last_or before (x ∷ xs) = last_or x xs

-- An int64 is its two's complement in 64 bits.
abbrev pub int64_of : ℕ → ℤ
int64_of n = cast_signed w64 n

-- a number that isn't repeated: the last, or 0
abbrev pub last_unsigned : ℕ → List Field → ℕ
last_unsigned number fields = last_or 0 (lone_numbers_under number fields)

abbrev pub last_signed : ℕ → List Field → ℤ
last_signed number fields = last_or (pos 0) (map int64_of (lone_numbers_under number fields))

-- repeated messages
abbrev pub messages_under : {M : Type 0} → ℕ → (List Field → M) → List Field → List M
messages_under number made fields = map (λ part. made (fields_of part)) (parts_under number fields)

-- A message that isn't repeated has the fields of all its parts.
abbrev pub merged_of : {M : Type 0} → (List Field → M) → List (List ℕ) → Option M
merged_of made [] = None
merged_of made (part ∷ more) = Some (made (flat_map fields_of (part ∷ more)))

abbrev pub merged_under : {M : Type 0} → ℕ → (List Field → M) → List Field → Option M
merged_under number made fields = merged_of made (parts_under number fields)

unfoldable pub value_type_from : List Field → ValueType
value_type_from fields = record { kind = last_signed 1 fields; unit = last_signed 2 fields }

unfoldable pub label_from : List Field → Label
label_from fields = record {
  key = last_signed 1 fields;
  text = last_signed 2 fields;
  num = last_signed 3 fields;
  num_unit = last_signed 4 fields;
}

unfoldable pub sample_from : List Field → Sample
sample_from fields = record {
  location_ids = numbers_under 1 fields;
  values = map int64_of (numbers_under 2 fields);
  labels = messages_under 3 label_from fields;
}

unfoldable pub line_from : List Field → Line
line_from fields = record { function_id = last_unsigned 1 fields; line = last_signed 2 fields }

unfoldable pub location_from : List Field → Location
location_from fields = record { id = last_unsigned 1 fields; lines = messages_under 4 line_from fields }

unfoldable pub function_from : List Field → Function
function_from fields = record {
  id = last_unsigned 1 fields;
  name = last_signed 2 fields;
  system_name = last_signed 3 fields;
  filename = last_signed 4 fields;
  start_line = last_signed 5 fields;
}

unfoldable pub profile_from : List Field → Profile
profile_from fields = record {
  sample_types = messages_under 1 value_type_from fields;
  samples = messages_under 2 sample_from fields;
  locations = messages_under 4 location_from fields;
  functions = messages_under 5 function_from fields;
  strings = parts_under 6 fields;
  period_type = merged_under 11 value_type_from fields;
  period = last_signed 12 fields;
  duration = last_signed 10 fields;
}
