-- The profile of samples: its messages, as Go's `runtime/pprof` gives them. Samples stand in it as they are given.
use Rattle.std.specs.Prelude.{ℕ, pos, List, [], ◌∷◌, map, Option, Some, None}
use Rattle.gp_isa.specs.declared.parts.Parts.{Parts}
use Rattle.gp_isa.specs.declared.parts.Pair.{Pair}
use Rattle.gp_wire.specs.declared.profile.Function.{Function}
use Rattle.gp_wire.specs.declared.profile.Label.{Label}
use Rattle.gp_wire.specs.declared.profile.Location.{Location}
use Rattle.gp_wire.specs.declared.profile.Profile.{Profile}
use Rattle.gp_wire.specs.declared.profile.Sample.{Sample}
use Rattle.gp_wire.specs.declared.profile.ValueType.{ValueType}
use Rattle.gp_build.specs.declared.sample.Header.{Header}
use Rattle.gp_build.specs.declared.sample.Kind.{Kind}
use Rattle.gp_build.specs.declared.sample.StackSample.{StackSample}
use Rattle.gp_build.specs.declared.site.Routine.{Routine}
use Rattle.gp_build.specs.declared.site.Site.{Site}
use Rattle.gp_build.specs.Numbers.{Need, text, value_need, text_of, string_number, location_id, function_id}
use Rattle.gp_build.specs.Numbers.{string_table, location_table, function_table}
use Rattle.gp_build.specs.Site.{name_of, file_of, header_of, labels_of}

-- what is counted, and its unit
abbrev pub type_of : List Need → Kind → ValueType
type_of strings kind = record {
  kind = string_number strings (text kind.name);
  unit = string_number strings (text kind.unit);
}

abbrev pub period_type_of : List Need → Option Kind → Option ValueType
period_type_of strings None = None
period_type_of strings (Some kind) = Some (type_of strings kind)

-- a label whose value is a text
abbrev pub label_of : List Need → Pair → Label
label_of strings pair = record {
  key = string_number strings (text pair.key);
  text = string_number strings (value_need pair.value);
  num = pos 0;
  num_unit = pos 0;
}

abbrev pub sample_of : Parts → List Need → List Site → StackSample → Sample
sample_of parts strings locations sample = record {
  location_ids = map (location_id locations) sample.stack;
  values = sample.values;
  labels = map (label_of strings) (labels_of parts sample.set);
}

-- A location has one line.
abbrev pub location_of : List Site → List Routine → Site → Location
location_of locations functions site = record {
  id = location_id locations site;
  lines = record { function_id = function_id functions site.routine; line = pos site.line } ∷ [];
}

-- A function has its name also as system name, and the line of its header as start line.
abbrev pub function_in : Parts → List ℕ → List Need → List Routine → Routine → Function
function_in parts file strings functions routine = record {
  id = function_id functions routine;
  name = string_number strings (text (name_of parts routine));
  system_name = string_number strings (text (name_of parts routine));
  filename = string_number strings (text (file_of file routine));
  start_line = pos (header_of parts routine);
}

module _ (parts : Parts) (file : List ℕ) (header : Header) (samples : List StackSample) where
  -- the profile with these tables
  abbrev pub profile_with : List Need → List Site → List Routine → Profile
  profile_with strings locations functions = record {
    sample_types = map (type_of strings) header.types;
    samples = map (sample_of parts strings locations) samples;
    locations = map (location_of locations functions) locations;
    functions = map (function_in parts file strings functions) functions;
    strings = map text_of strings;
    period_type = period_type_of strings header.period_type;
    period = header.period;
    duration = header.duration;
  }

  -- the profile of samples
  unfoldable pub profile_of : Profile
  profile_of = profile_with (string_table parts file header samples) (location_table samples) (function_table samples)
