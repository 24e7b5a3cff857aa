-- What a profile means: its numbers for texts, locations and functions followed to what they name.
use Rattle.std.specs.Prelude.{ℕ, zero, suc, ℤ, pos, negsuc, ◌==◌, List, [], ◌∷◌, map, find, Option, Some, None, slice_get, unwrap_or}
use Rattle.std.specs.List.{flat_map}
use Rattle.std.specs.Option.{option_map_or, option_map}
use Rattle.gp_wire.specs.declared.profile.Function.{Function}
use Rattle.gp_wire.specs.declared.profile.Label.{Label}
use Rattle.gp_wire.specs.declared.profile.Line.{Line}
use Rattle.gp_wire.specs.declared.profile.Location.{Location}
use Rattle.gp_wire.specs.declared.profile.Profile.{Profile}
use Rattle.gp_wire.specs.declared.profile.Sample.{Sample}
use Rattle.gp_wire.specs.declared.profile.ValueType.{ValueType}
use Rattle.gp_build.specs.declared.meant.Meaning.{Meaning}
use Rattle.gp_build.specs.declared.meant.MeantFrame.{MeantFrame}
use Rattle.gp_build.specs.declared.meant.MeantLabel.{MeantLabel}
use Rattle.gp_build.specs.declared.meant.MeantLabel.TheVariants.{Said, Number}
use Rattle.gp_build.specs.declared.meant.MeantSample.{MeantSample}
use Rattle.gp_build.specs.declared.sample.Kind.{Kind}

-- the text at a place of the string table, the empty one elsewhere
abbrev pub text_at : List (List ℕ) → ℤ → List ℕ
text_at strings (pos n) = unwrap_or (slice_get strings n) []
text_at strings (negsuc n) = []

abbrev pub kind_meant : List (List ℕ) → ValueType → Kind
kind_meant strings v = record { name = text_at strings v.kind; unit = text_at strings v.unit }

-- the function and the location that have an id
abbrev pub function_with : List Function → ℕ → Option Function
function_with functions id = find (λ (f : Function). f.id == id) functions

abbrev pub location_with : List Location → ℕ → Option Location
location_with locations id = find (λ (l : Location). l.id == id) locations

-- A line of no function has neither a name nor a file.
abbrev pub frame_in : List (List ℕ) → ℤ → Option Function → MeantFrame
frame_in strings line None = record { name = []; file = []; line = line }
frame_in strings line (Some f) = record { name = text_at strings f.name; file = text_at strings f.filename; line = line }

unfoldable pub frame_meant : List (List ℕ) → List Function → Line → MeantFrame
frame_meant strings functions l = frame_in strings l.line (function_with functions l.function_id)

-- The frames of a location are its lines in order. Without lines it is one frame of which nothing is known.
abbrev pub unknown_frame : MeantFrame
unknown_frame = record { name = []; file = []; line = pos 0 }

abbrev pub frames_of_lines : List (List ℕ) → List Function → List Line → List MeantFrame
frames_of_lines strings functions [] = unknown_frame ∷ []
frames_of_lines strings functions (l ∷ ls) = map (frame_meant strings functions) (l ∷ ls)

unfoldable pub frames_meant : Profile → ℕ → List MeantFrame
frames_meant p id = option_map_or (λ (l : Location). frames_of_lines p.strings p.functions l.lines) (location_with p.locations id) []

-- A label has a text where its place of a text isn't 0, and else a number with a unit.
abbrev pub label_in : List (List ℕ) → Label → ℤ → MeantLabel
label_in strings l (pos zero) = Number (text_at strings l.key) l.num (text_at strings l.num_unit)
label_in strings l (pos (suc n)) = Said (text_at strings l.key) (text_at strings (pos (suc n)))
label_in strings l (negsuc n) = Said (text_at strings l.key) (text_at strings (negsuc n))

abbrev pub label_meant : List (List ℕ) → Label → MeantLabel
label_meant strings l = label_in strings l l.text

abbrev pub sample_meant : Profile → Sample → MeantSample
sample_meant p s = record {
  values = s.values;
  frames = flat_map (frames_meant p) s.location_ids;
  labels = map (label_meant p.strings) s.labels;
}

-- what a profile means
unfoldable pub meaning_of : Profile → Meaning
meaning_of p = record {
  types = map (kind_meant p.strings) p.sample_types;
  period_type = option_map (kind_meant p.strings) p.period_type;
  period = p.period;
  duration = p.duration;
  samples = map (sample_meant p) p.samples;
}
