-- A profile of samples has no fault as a whole.
use Rattle.std.proofs.Common.{◌≡◌, ◌+◌, ◌<◌, ℕ, zero, suc, ℤ, pos, Bool, true, false, not, ◌||◌, eqb, List, [], ◌∷◌, ◌++◌, length, map, get_or, Option, Some, None, Result, Ok, Err, IfOk, unwrap_or, refl, sym, ap, subst, ◌∙◌, lt-ltb, arith}
use Rattle.std.specs.List.{list_any, position}
use Rattle.std.specs.Option.{option_to_list}
use Rattle.std.specs.Cmp.{IsEquivalence}
use Rattle.std.proofs.lemmas.Bool.{or_from, or_left, or_right, eq-eqb, ne_eqb}
use Rattle.std.proofs.lemmas.List.{length-map}
use Rattle.std.proofs.lemmas.List.Quantifiers.{position-Some}
use Rattle.std.proofs.lemmas.Simd.{map-map}
use Rattle.gp_isa.specs.declared.parts.Pair.{Pair}
use Rattle.gp_isa.specs.declared.parts.Parts.{Parts}
use Rattle.gp_wire.specs.declared.profile.Function.{Function}
use Rattle.gp_wire.specs.declared.profile.Location.{Location}
use Rattle.gp_wire.specs.declared.profile.Profile.{Profile}
use Rattle.gp_wire.specs.declared.profile.Sample.{Sample}
use Rattle.gp_wire.specs.RoundTrip.{Fits, IsValid}
use Rattle.gp_wire.specs.Valid.{begins_empty, is_place, places_of_type, places_of_function, places_of_label, strange_places, has_bad_place}
use Rattle.gp_wire.specs.Valid.{is_id_among, has_twin, bad_ids, location_ids, function_ids, strange_location, strange_function, has_bad_name, has_bad_id, cause_of}
use Rattle.gp_build.specs.declared.sample.Header.{Header}
use Rattle.gp_build.specs.declared.sample.Kind.{Kind}
use Rattle.gp_build.specs.declared.sample.StackSample.{StackSample}
use Rattle.gp_build.specs.declared.site.Routine.{Routine}
use Rattle.gp_build.specs.declared.site.Site.{Site}
use Rattle.gp_build.specs.FirstNeed.{first_seen, place_in}
use Rattle.gp_build.specs.Message.{type_of, period_type_of, label_of, sample_of, location_of, function_in, profile_of}
use Rattle.gp_build.specs.Numbers.{Need, text, value_need, text_of, same_need, all_sites, routines_of, string_table, location_table, function_table, string_number, location_id, function_id}
use Rattle.gp_build.specs.Site.{same_site, same_routine, name_of, file_of, labels_of}
use Rattle.gp_build.specs.laws.Alike.{same_site_equiv, same_routine_equiv}
use Rattle.gp_build.proofs.Places.{place-at}
use Rattle.gp_build.proofs.Tally.{first_seen-distinct}

-- What no element's image passes, no image passes.
none_any : {X Y : Type 0} (p : Y → Bool) (f : X → Y) → ((x : X) → p (f x) ≡ false) → (xs : List X) → list_any p (map f xs) ≡ false
none_any p f fails [] = refl
none_any p f fails (x ∷ xs) = or_from (p (f x)) (list_any p (map f xs)) (fails x) (none_any p f fails xs)

-- ---- ids from one on

-- so many numbers from one on
abbrev counting : ℕ → ℕ → List ℕ
counting a zero = []
counting a (suc n) = a ∷ counting (suc a) n

among_counting : (a n k : ℕ) → k < n → is_id_among (counting a n) (a + k) ≡ true
among_counting a zero k lt = absurd (omega arith)
among_counting a (suc n) zero lt = or_left (eqb (a + 0) a) (is_id_among (counting (suc a) n) (a + 0)) (eq-eqb (a + 0) a (omega arith))
among_counting a (suc n) (suc k) lt =
    or_right (eqb (a + suc k) a) (is_id_among (counting (suc a) n) (a + suc k))
    (subst (λ (id : ℕ). is_id_among (counting (suc a) n) id ≡ true) (omega arith) (among_counting (suc a) n k (omega arith)))

below_counting : (a n id : ℕ) → id < a → is_id_among (counting a n) id ≡ false
below_counting a zero id below = refl
below_counting a (suc n) id below =
    or_from (eqb id a) (is_id_among (counting (suc a) n) id) (ne_eqb id a (λ same. omega arith)) (below_counting (suc a) n id (omega arith))

no_twin : (a n : ℕ) → has_twin (counting a n) ≡ false
no_twin a zero = refl
no_twin a (suc n) = or_from (is_id_among (counting (suc a) n) a) (has_twin (counting (suc a) n)) (below_counting (suc a) n a (omega arith)) (no_twin (suc a) n)

fine_counting : (n : ℕ) → bad_ids (counting 1 n) ≡ false
fine_counting n = or_from (is_id_among (counting 1 n) 0) (has_twin (counting 1 n)) (below_counting 1 n 0 (omega arith)) (no_twin 1 n)

numbered : {X : Type 0} (f : X → ℕ) (keys : List X) (a : ℕ) → ((i : ℕ) (d : X) → i < length keys → f (get_or keys i d) ≡ a + i)
    → map f keys ≡ counting a (length keys)
numbered f [] a at = refl
numbered f (k ∷ ks) a at =
    let here : a + 0 ≡ a = omega arith in
    let next : (i : ℕ) → a + suc i ≡ suc a + i = λ i. omega arith in
    λ j. (at 0 k (omega arith) ∙ here) j ∷ numbered f ks (suc a) (λ i d lt. at (suc i) d (omega arith) ∙ next i) j

-- ---- places in a table

place_within : {X : Type 0} (same : X → X → Bool) (keys : List X) (x : X) → 0 < length keys → place_in same keys x < length keys
place_within same keys x some = by (position (same x) keys) refl
  where
    by : (o : Option ℕ) → position (same x) keys ≡ o → unwrap_or o 0 < length keys
    by None e = some
    by (Some i) e = (position-Some (same x) keys i x e).0

module _ {X : Type 0} {same : X → X → Bool} (laws : IsEquivalence same) (xs : List X) where
  abbrev id_of : X → ℕ
  id_of x = place_in same (first_seen same xs) x + 1

  ids_count : map id_of (first_seen same xs) ≡ counting 1 (length (first_seen same xs))
  ids_count =
      let next : (i : ℕ) → i + 1 ≡ 1 + i = λ i. omega arith in
      numbered id_of (first_seen same xs) 1
      (λ i d lt. ap (λ (n : ℕ). n + 1) (place-at laws (get_or (first_seen same xs) i d) (first_seen same xs) i d (first_seen-distinct same xs) lt (laws.refl (get_or (first_seen same xs) i d)))
      ∙ next i)

  -- No id of a table is bad, and each thing's is among them.
  ids_fine : bad_ids (map id_of (first_seen same xs)) ≡ false
  ids_fine = ap bad_ids ids_count ∙ fine_counting (length (first_seen same xs))

  id_among : 0 < length (first_seen same xs) → (x : X) → is_id_among (map id_of (first_seen same xs)) (id_of x) ≡ true
  id_among some x =
      ap (λ (ids : List ℕ). is_id_among ids (id_of x)) ids_count
      ∙ subst (λ (id : ℕ). is_id_among (counting 1 (length (first_seen same xs))) id ≡ true) (omega arith)
      (among_counting 1 (length (first_seen same xs)) (place_in same (first_seen same xs) x) (place_within same (first_seen same xs) x some))

some_seen : {X : Type 0} (same : X → X → Bool) (all : List X) (x : X) (xs : List X) → all ≡ x ∷ xs → 0 < length (first_seen same all)
unfolding first_seen
some_seen {X} same all x xs is = subst (λ (ys : List X). 0 < length (first_seen same ys)) (sym is) (omega arith)

module _ (parts : Parts) (file : List ℕ) (header : Header) (samples : List StackSample) where
  -- ---- numbers of texts

  abbrev needs : List Need
  needs = string_table parts file header samples

  abbrev texts : List (List ℕ)
  texts = map text_of needs

  begins : begins_empty (profile_of parts file header samples).strings ≡ true
  unfolding profile_of string_table first_seen
  begins = refl

  some_need : 0 < length needs
  unfolding string_table first_seen
  some_need = omega arith

  in_table : (need : Need) → is_place texts (string_number needs need) ≡ true
  in_table need = lt-ltb (place_in same_need needs need) (length texts) (omega (arith, length-map needs text_of, place_within same_need needs need some_need))

  zero_in_table : is_place texts (pos 0) ≡ true
  zero_in_table = lt-ltb 0 (length texts) (omega (arith, length-map needs text_of, some_need))

  -- whether a message names a place that isn't there
  abbrev is_strange : {M : Type 0} → (M → List ℤ) → M → Bool
  is_strange places item = list_any (λ place. not (is_place texts place)) (places item)

  type_places : (kind : Kind) → is_strange places_of_type (type_of needs kind) ≡ false
  type_places kind = rw (in_table (text kind.name), in_table (text kind.unit)) refl

  period_places : (kind : Option Kind) → strange_places texts places_of_type (option_to_list (period_type_of needs kind)) ≡ false
  period_places None = refl
  period_places (Some kind) = none_any (is_strange places_of_type) (type_of needs) type_places (kind ∷ [])

  function_places : (routine : Routine) → is_strange places_of_function (function_in parts file needs (function_table samples) routine) ≡ false
  function_places routine = rw (in_table (text (name_of parts routine)), in_table (text (file_of file routine))) refl

  label_places : (pair : Pair) → is_strange places_of_label (label_of needs pair) ≡ false
  label_places pair = rw (in_table (text pair.key), in_table (value_need pair.value), zero_in_table) refl

  sample_places : (sample : StackSample) → strange_places texts places_of_label (map (label_of needs) (labels_of parts sample.set)) ≡ false
  sample_places sample = none_any (is_strange places_of_label) (label_of needs) label_places (labels_of parts sample.set)

  no_bad_place : has_bad_place (profile_of parts file header samples) ≡ false
  unfolding has_bad_place profile_of
  no_bad_place =
      or_from _ _ (none_any (is_strange places_of_type) (type_of needs) type_places header.types)
      (or_from _ _ (period_places header.period_type)
      (or_from _ _ (none_any (is_strange places_of_function) (function_in parts file needs (function_table samples)) function_places (function_table samples))
      (none_any (λ (s : Sample). strange_places texts places_of_label s.labels) (sample_of parts needs (location_table samples)) sample_places samples)))

  -- ---- ids

  abbrev sites : List Site
  sites = all_sites samples

  location_ids_are : location_ids (profile_of parts file header samples) ≡ map (location_id (location_table samples)) (location_table samples)
  unfolding profile_of
  location_ids_are = map-map (λ (l : Location). l.id) (location_of (location_table samples) (function_table samples)) (location_table samples)

  function_ids_are : function_ids (profile_of parts file header samples) ≡ map (function_id (function_table samples)) (function_table samples)
  unfolding profile_of
  function_ids_are = map-map (λ (f : Function). f.id) (function_in parts file needs (function_table samples)) (function_table samples)

  location_ids_fine : bad_ids (location_ids (profile_of parts file header samples)) ≡ false
  unfolding location_table
  location_ids_fine = ap bad_ids location_ids_are ∙ ids_fine same_site_equiv sites

  function_ids_fine : bad_ids (function_ids (profile_of parts file header samples)) ≡ false
  unfolding function_table
  function_ids_fine = ap bad_ids function_ids_are ∙ ids_fine same_routine_equiv (routines_of sites)

  -- Where there is a site, there is a location for it, and a function.
  site_there : (first : Site) (rest : List Site) → sites ≡ first ∷ rest → (site : Site)
      → not (is_id_among (location_ids (profile_of parts file header samples)) (location_id (location_table samples) site)) ≡ false
  unfolding location_table
  site_there first rest is site =
      ap (λ (ids : List ℕ). not (is_id_among ids (location_id (location_table samples) site))) location_ids_are
      ∙ ap not (id_among same_site_equiv sites (some_seen same_site sites first rest is) site)

  routine_there : (first : Site) (rest : List Site) → sites ≡ first ∷ rest → (site : Site)
      → list_any (strange_function (function_ids (profile_of parts file header samples))) (location_of (location_table samples) (function_table samples) site).lines ≡ false
  unfolding function_table
  routine_there first rest is site =
      or_from _ false
      (ap (λ (ids : List ℕ). not (eqb (function_id (function_table samples) site.routine) 0 || is_id_among ids (function_id (function_table samples) site.routine))) function_ids_are
      ∙ ap not (or_right (eqb (function_id (function_table samples) site.routine) 0) _
      (id_among same_routine_equiv (routines_of sites)
      (some_seen same_routine (routines_of sites) first.routine (routines_of rest) (ap routines_of is)) site.routine)))
      refl

  -- Without sites no sample has one.
  abbrev lost : Sample → Bool
  lost = strange_location (location_ids (profile_of parts file header samples))

  without_sites : (sample : StackSample) → sample.stack ≡ [] → lost (sample_of parts needs (location_table samples) sample) ≡ false
  without_sites sample none =
      ap (λ (stack : List Site). list_any (λ id. not (is_id_among (location_ids (profile_of parts file header samples)) id)) (map (location_id (location_table samples)) stack)) none

  first_empty : (a b : List Site) → a ++ b ≡ [] → a ≡ []
  first_empty [] b none = refl
  first_empty (x ∷ a) b none = absurd cc

  second_empty : (a b : List Site) → a ++ b ≡ [] → b ≡ []
  second_empty [] b none = none
  second_empty (x ∷ a) b none = absurd cc

  none_of_none : (all : List StackSample) → all_sites all ≡ [] → list_any lost (map (sample_of parts needs (location_table samples)) all) ≡ false
  none_of_none [] none = refl
  none_of_none (sample ∷ all) none =
      or_from (lost (sample_of parts needs (location_table samples) sample)) (list_any lost (map (sample_of parts needs (location_table samples)) all))
      (without_sites sample (first_empty sample.stack (all_sites all) none)) (none_of_none all (second_empty sample.stack (all_sites all) none))

  locations_there : list_any lost (map (sample_of parts needs (location_table samples)) samples) ≡ false
  locations_there = by sites refl
    where
      by : (all : List Site) → sites ≡ all → list_any lost (map (sample_of parts needs (location_table samples)) samples) ≡ false
      by [] is = none_of_none samples is
      by (first ∷ rest) is =
          none_any lost (sample_of parts needs (location_table samples))
          (λ sample. none_any (λ id. not (is_id_among (location_ids (profile_of parts file header samples)) id)) (location_id (location_table samples)) (site_there first rest is) sample.stack) samples

  abbrev foreign : Location → Bool
  foreign l = list_any (strange_function (function_ids (profile_of parts file header samples))) l.lines

  functions_there : list_any foreign (map (location_of (location_table samples) (function_table samples)) (location_table samples)) ≡ false
  unfolding location_table first_seen
  functions_there = by sites refl
    where
      by : (all : List Site) → sites ≡ all → list_any foreign (map (location_of (location_table samples) (function_table samples)) (location_table samples)) ≡ false
      by [] is = ap (λ (all : List Site). list_any foreign (map (location_of (location_table samples) (function_table samples)) (first_seen same_site all))) is
      by (first ∷ rest) is = none_any foreign (location_of (location_table samples) (function_table samples)) (routine_there first rest is) (location_table samples)

  no_bad_id : has_bad_id (profile_of parts file header samples) ≡ false
  unfolding has_bad_id has_bad_name profile_of
  no_bad_id = or_from _ _ location_ids_fine (or_from _ _ function_ids_fine (or_from _ _ locations_there functions_there))

  -- The profile has no fault as a whole.
  pub faultless : cause_of (profile_of parts file header samples) ≡ None
  unfolding cause_of
  faultless = rw (begins, no_bad_place, no_bad_id) refl

  -- So it is valid, where its numbers are in their ranges and its texts are texts.
  pub valid_of : {E : Type 0} (result : Result Profile E) → IfOk result (λ p. p ≡ profile_of parts file header samples) → IfOk result (λ p. Fits p)
      → IfOk result (λ p. IsValid p)
  valid_of (Ok p) is fits = record { fits = fits; whole = ap cause_of is ∙ faultless }
  valid_of (Err e) is fits = tt
