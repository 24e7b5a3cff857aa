-- The faults of a profile as a whole, and which profiles are valid.
use Rattle.std.specs.Prelude.{ℕ, ℤ, pos, negsuc, Bool, false, not, ◌||◌, ◌==◌, nat_lt, if◌then◌else◌, List, [], ◌∷◌, length, map, Option, Some, None, option_to_list}
use Rattle.std.specs.List.{list_any}
use Rattle.gp_wire.specs.declared.cause.Cause.{Cause}
use Rattle.gp_wire.specs.declared.cause.Cause.TheVariants.{BadStringIndex, BadId, BadFirstString}
use Rattle.gp_wire.specs.declared.profile.Function.{Function}
use Rattle.gp_wire.specs.declared.profile.Label.{Label}
use Rattle.gp_wire.specs.declared.profile.Line.{Line}
use Rattle.gp_wire.specs.declared.profile.Location.{Location}
use Rattle.gp_wire.specs.declared.profile.Profile.{Profile}
use Rattle.gp_wire.specs.declared.profile.Sample.{Sample}
use Rattle.gp_wire.specs.declared.profile.ValueType.{ValueType}

-- The string table begins with the empty text.
abbrev pub begins_empty : List (List ℕ) → Bool
begins_empty [] = false
begins_empty (text ∷ texts) = length text == 0

-- A place in a table is counted from 0.
abbrev pub is_place : List (List ℕ) → ℤ → Bool
is_place strings (pos n) = nat_lt n (length strings)
is_place strings (negsuc n) = false

-- the places in the string table that messages name
abbrev pub places_of_type : ValueType → List ℤ
places_of_type v = v.kind ∷ v.unit ∷ []

abbrev pub places_of_function : Function → List ℤ
places_of_function f = f.name ∷ f.system_name ∷ f.filename ∷ []

abbrev pub places_of_label : Label → List ℤ
places_of_label l = l.key ∷ l.text ∷ l.num_unit ∷ []

-- Some message names a place that isn't in the table.
abbrev pub strange_places : {M : Type 0} → List (List ℕ) → (M → List ℤ) → List M → Bool
strange_places strings places items = list_any (λ item. list_any (λ place. not (is_place strings place)) (places item)) items

unfoldable pub has_bad_place : Profile → Bool
has_bad_place p =
    strange_places p.strings places_of_type p.sample_types
    || (strange_places p.strings places_of_type (option_to_list p.period_type)
    || (strange_places p.strings places_of_function p.functions
    || list_any (λ (s : Sample). strange_places p.strings places_of_label s.labels) p.samples))

abbrev pub is_id_among : List ℕ → ℕ → Bool
is_id_among ids id = list_any (λ other. id == other) ids

-- Some id stands twice.
abbrev pub has_twin : List ℕ → Bool
has_twin [] = false
has_twin (id ∷ ids) = is_id_among ids id || has_twin ids

-- Ids aren't 0, and none stands twice.
abbrev pub bad_ids : List ℕ → Bool
bad_ids ids = is_id_among ids 0 || has_twin ids

abbrev pub location_ids : Profile → List ℕ
location_ids p = map (λ (l : Location). l.id) p.locations

abbrev pub function_ids : Profile → List ℕ
function_ids p = map (λ (f : Function). f.id) p.functions

-- a location that a sample names and that isn't there
abbrev pub strange_location : List ℕ → Sample → Bool
strange_location ids s = list_any (λ id. not (is_id_among ids id)) s.location_ids

-- A line may name no function, by the id 0.
abbrev pub strange_function : List ℕ → Line → Bool
strange_function ids l = not (l.function_id == 0 || is_id_among ids l.function_id)

-- a bad id of a function, or a name of a location or a function that isn't there
unfoldable pub has_bad_name : Profile → Bool
has_bad_name p =
    bad_ids (function_ids p)
    || (list_any (strange_location (location_ids p)) p.samples
    || list_any (λ (l : Location). list_any (strange_function (function_ids p)) l.lines) p.locations)

unfoldable pub has_bad_id : Profile → Bool
has_bad_id p = bad_ids (location_ids p) || has_bad_name p

-- the first fault of a profile as a whole
unfoldable pub cause_of : Profile → Option Cause
cause_of p =
    if not (begins_empty p.strings) then Some BadFirstString else
    if has_bad_place p then Some BadStringIndex else
    if has_bad_id p then Some BadId else None
