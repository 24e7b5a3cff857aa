-- The text of a profile's meaning.
use Rattle.std.specs.Prelude.{ℕ, ℤ, ◌/◌, ◌%◌, Bool, ◌||◌, ◌==◌, nat_le, if◌then◌else◌, List, [], ◌∷◌, ◌++◌, length, Option, Some, None, codes}
use Rattle.std.specs.List.{flat_map}
use Rattle.std.specs.Char.{digit_char}
use Rattle.std.specs.Fmt.{signed_decimal}
use Rattle.gp_build.specs.declared.meant.Meaning.{Meaning}
use Rattle.gp_build.specs.declared.meant.MeantFrame.{MeantFrame}
use Rattle.gp_build.specs.declared.meant.MeantLabel.{MeantLabel}
use Rattle.gp_build.specs.declared.meant.MeantLabel.TheVariants.{Said, Number}
use Rattle.gp_build.specs.declared.meant.MeantSample.{MeantSample}
use Rattle.gp_build.specs.declared.sample.Kind.{Kind}

-- Blanks and what can't be seen, and `\ # = : | @`.
abbrev pub is_marked : ℕ → Bool
is_marked b = nat_le b 32 || (b == 127 || (b == 92 || (b == 35 || (b == 61 || (b == 58 || (b == 124 || b == 64))))))

-- `\x` and two hexadecimal digits
abbrev pub escape : ℕ → List ℕ
escape b = 92 ∷ 120 ∷ digit_char (b / 16) ∷ digit_char (b % 16) ∷ []

abbrev pub escaped_byte : ℕ → List ℕ
escaped_byte b = if is_marked b then escape b else b ∷ []

unfoldable pub escaped : List ℕ → List ℕ
escaped text = flat_map escaped_byte text

-- A type or a unit that is empty stands as `-`.
abbrev pub or_dash : List ℕ → List ℕ
or_dash text = if length text == 0 then codes "-" else escaped text

abbrev pub kind_text : Kind → List ℕ
kind_text kind = or_dash kind.name ++ codes " " ++ or_dash kind.unit

abbrev pub type_line : Kind → List ℕ
type_line kind = codes "type " ++ kind_text kind ++ codes "\n"

-- Without a period type both are `-`.
abbrev pub period_kind : Option Kind → List ℕ
period_kind None = codes "- -"
period_kind (Some kind) = kind_text kind

abbrev pub period_line : Option Kind → ℤ → List ℕ
period_line kind period = codes "period " ++ period_kind kind ++ codes " " ++ signed_decimal period ++ codes "\n"

abbrev pub duration_line : ℤ → List ℕ
duration_line duration = codes "duration " ++ signed_decimal duration ++ codes "\n"

abbrev pub value_text : ℤ → List ℕ
value_text value = codes " " ++ signed_decimal value

abbrev pub frame_text : MeantFrame → List ℕ
frame_text frame = codes " " ++ escaped frame.name ++ codes "@" ++ escaped frame.file ++ codes ":" ++ signed_decimal frame.line

-- A number's unit stands behind it where it isn't empty.
abbrev pub unit_text : List ℕ → List ℕ
unit_text unit = if length unit == 0 then [] else codes ":" ++ escaped unit

abbrev pub label_text : MeantLabel → List ℕ
label_text (Said key value) = codes " " ++ escaped key ++ codes "=" ++ escaped value
label_text (Number key number unit) = codes " " ++ escaped key ++ codes "=#" ++ signed_decimal number ++ unit_text unit

unfoldable pub sample_line : MeantSample → List ℕ
sample_line sample =
    codes "sample" ++ flat_map value_text sample.values ++ codes " |" ++ flat_map frame_text sample.frames
    ++ codes " |" ++ flat_map label_text sample.labels ++ codes "\n"

-- the text of a meaning
unfoldable pub dump_text : Meaning → List ℕ
dump_text m =
    flat_map type_line m.types ++ period_line m.period_type m.period ++ duration_line m.duration ++ flat_map sample_line m.samples
