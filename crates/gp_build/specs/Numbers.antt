-- The numbers of texts, functions and locations, each in the order of first need.
use Rattle.std.specs.Prelude.{ℕ, ℤ, pos, ◌+◌, Bool, true, false, List, [], ◌∷◌, ◌++◌, map, Option, Some, None}
use Rattle.std.specs.List.{flat_map}
use Rattle.std.specs.Str.{bytes_eq}
use Rattle.gp_isa.specs.declared.parts.Parts.{Parts}
use Rattle.gp_isa.specs.declared.parts.Pair.{Pair}
use Rattle.gp_build.specs.declared.sample.Header.{Header}
use Rattle.gp_build.specs.declared.sample.Kind.{Kind}
use Rattle.gp_build.specs.declared.sample.StackSample.{StackSample}
use Rattle.gp_build.specs.declared.site.Routine.{Routine}
use Rattle.gp_build.specs.declared.site.Site.{Site}
use Rattle.gp_build.specs.FirstNeed.{first_seen, place_in}
use Rattle.gp_build.specs.Site.{same_site, same_routine, name_of, file_of, labels_of}

-- What stands in the string table. An empty value of a label isn't the empty text, whose number says that there
-- is no text, but stands for itself.
pub data Need : Type 0 where
  text : List ℕ → Need
  no_value : Need

abbrev pub same_need : Need → Need → Bool
same_need (text a) (text b) = bytes_eq a b
same_need (text a) no_value = false
same_need no_value (text b) = false
same_need no_value no_value = true

abbrev pub text_of : Need → List ℕ
text_of (text bytes) = bytes
text_of no_value = []

abbrev pub value_need : List ℕ → Need
value_need [] = no_value
value_need (byte ∷ bytes) = text (byte ∷ bytes)

abbrev pub kind_needs : Kind → List Need
kind_needs kind = text kind.name ∷ text kind.unit ∷ []

abbrev pub period_needs : Option Kind → List Need
period_needs None = []
period_needs (Some kind) = kind_needs kind

-- A site needs its function's name and file.
abbrev pub site_needs : Parts → List ℕ → Site → List Need
site_needs parts file site = text (name_of parts site.routine) ∷ text (file_of file site.routine) ∷ []

abbrev pub label_needs : Pair → List Need
label_needs pair = text pair.key ∷ value_need pair.value ∷ []

-- A sample needs what its sites need, the leaf first, and then what its labels need.
unfoldable pub sample_needs : Parts → List ℕ → StackSample → List Need
sample_needs parts file sample =
    flat_map (site_needs parts file) sample.stack ++ flat_map label_needs (labels_of parts sample.set)

-- the empty text, then the sample types, the period type and the samples
abbrev pub all_needs : Parts → List ℕ → Header → List StackSample → List Need
all_needs parts file header samples =
    text [] ∷ flat_map kind_needs header.types ++ period_needs header.period_type
    ++ flat_map (sample_needs parts file) samples

-- the sites of all samples
abbrev pub all_sites : List StackSample → List Site
all_sites samples = flat_map (λ (sample : StackSample). sample.stack) samples

-- the string table
unfoldable pub string_table : Parts → List ℕ → Header → List StackSample → List Need
string_table parts file header samples = first_seen same_need (all_needs parts file header samples)

-- the locations: each line of a function that a sample shows
unfoldable pub location_table : List StackSample → List Site
location_table samples = first_seen same_site (all_sites samples)

-- the functions of sites
abbrev pub routines_of : List Site → List Routine
routines_of sites = map (λ (site : Site). site.routine) sites

-- the functions
unfoldable pub function_table : List StackSample → List Routine
function_table samples = first_seen same_routine (routines_of (all_sites samples))

-- the number of a text
abbrev pub string_number : List Need → Need → ℤ
string_number strings need = pos (place_in same_need strings need)

-- Ids are counted from 1.
abbrev pub location_id : List Site → Site → ℕ
location_id locations site = place_in same_site locations site + 1

abbrev pub function_id : List Routine → Routine → ℕ
function_id functions routine = place_in same_routine functions routine + 1
