-- A profile is read again from its canonical bytes.
use Rattle.std.proofs.Common.{◌≡◌, ℕ, List, [], ◌∷◌, ◌++◌, Option, Some, None, refl, ap, ◌∙◌, arith}
use Rattle.std.specs.List.{flat_map, AllByRecursion}
use Rattle.std.proofs.lemmas.List.{append-nil, map-id}
use Rattle.gp_wire.specs.declared.field.Field.{Field}
use Rattle.gp_wire.specs.declared.field.Value.{Value}
use Rattle.gp_wire.specs.declared.field.Value.TheVariants.{Number}
use Rattle.gp_wire.specs.declared.profile.Profile.{Profile}
use Rattle.gp_wire.specs.declared.profile.ValueType.{ValueType}
use Rattle.gp_wire.specs.Field.{spelled}
use Rattle.gp_wire.specs.Canonical.{signed, part, texts, messages, optional, value_type_fields, sample_fields, location_fields, function_fields, profile_fields, canon}
use Rattle.gp_wire.specs.Fields.{fields_of, first_cause}
use Rattle.gp_wire.specs.Messages.{values_under, part_in, parts_under, merged_of, merged_under, value_type_from, sample_from, location_from, function_from, profile_from}
use Rattle.gp_wire.specs.Checks.{cause_under, text_cause, no_cause, sample_check, location_check, profile_check}
use Rattle.gp_wire.specs.Reading.{value_of}
use Rattle.gp_wire.specs.RoundTrip.{TypeFits, SampleFits, LocationFits, FunctionFits, PeriodFits, IsText, Fits, RoundTrip}
use Rattle.gp_wire.proofs.MessageLemmas.{values_under-append}
use Rattle.gp_wire.proofs.SpellLemmas.{CanBeRead, CanBeWritten, fields_again, no_fault_again, all_can_be_read}
use Rattle.gp_wire.proofs.SegmentLemmas.{values-scalar, values-messages, values-texts, optional_values, values-optional, signed_from, parts_from}
use Rattle.gp_wire.proofs.AgainLemmas.{all_append, all_left, all_right, signed_written, messages_written, texts_written, optional_written, all_again, messages_same, parts_fine, messages_fine, scalar_fine, value_type_again, sample_again, location_again, function_again}

passes_1 : (bytes : List ℕ) → first_cause no_cause bytes ≡ None → profile_check (part 1 bytes) ≡ None
unfolding profile_check cause_under
passes_1 bytes e = rw e refl

passes_2 : (bytes : List ℕ) → first_cause sample_check bytes ≡ None → profile_check (part 2 bytes) ≡ None
unfolding profile_check cause_under
passes_2 bytes e = rw e refl

passes_4 : (bytes : List ℕ) → first_cause location_check bytes ≡ None → profile_check (part 4 bytes) ≡ None
unfolding profile_check cause_under
passes_4 bytes e = rw e refl

passes_5 : (bytes : List ℕ) → first_cause no_cause bytes ≡ None → profile_check (part 5 bytes) ≡ None
unfolding profile_check cause_under
passes_5 bytes e = rw e refl

passes_6 : (bytes : List ℕ) → text_cause bytes ≡ None → profile_check (part 6 bytes) ≡ None
unfolding profile_check cause_under
passes_6 bytes e = rw e refl

passes_11 : (bytes : List ℕ) → first_cause no_cause bytes ≡ None → profile_check (part 11 bytes) ≡ None
unfolding profile_check cause_under
passes_11 bytes e = rw e refl

passes_10 : (n : ℕ) → profile_check (record { number = 10; value = Number n }) ≡ None
unfolding profile_check cause_under
passes_10 n = refl

passes_12 : (n : ℕ) → profile_check (record { number = 12; value = Number n }) ≡ None
unfolding profile_check cause_under
passes_12 n = refl

texts_clean : (ts : List (List ℕ)) → AllByRecursion IsText ts → AllByRecursion (λ t. text_cause t ≡ None) ts
texts_clean [] fits = tt
texts_clean (t ∷ ts) fits = (rw fits.0 refl, texts_clean ts fits.1)

texts_fine : (ts : List (List ℕ)) → AllByRecursion IsText ts → AllByRecursion (λ f. profile_check f ≡ None) (texts 6 ts)
unfolding texts
texts_fine ts fits = parts_fine (λ t. t) profile_check text_cause 6 ts passes_6 (texts_clean ts fits)

period_fine : (o : Option ValueType) → PeriodFits o → AllByRecursion CanBeRead (optional 11 value_type_fields o) → AllByRecursion (λ f. profile_check f ≡ None) (optional 11 value_type_fields o)
unfolding optional
period_fine None fits read = tt
period_fine (Some v) fits read = (passes_11 (spelled (value_type_fields v)) (value_type_again v fits read.0.value).fine, tt)

period_same : (o : Option ValueType) (fs : List Field) → PeriodFits o → AllByRecursion CanBeRead (optional 11 value_type_fields o)
    → values_under 11 fs ≡ optional_values value_type_fields o → merged_under 11 value_type_from fs ≡ o
unfolding optional
period_same None fs fits read e = ap (λ (vs : List Value). merged_of value_type_from (flat_map part_in vs)) e
period_same (Some v) fs fits read e =
    ap (λ (vs : List Value). merged_of value_type_from (flat_map part_in vs)) e
    ∙ ap (λ (gs : List Field). Some (value_type_from gs)) (append-nil (fields_of (spelled (value_type_fields v))))
    ∙ ap (λ (w : ValueType). Some w) (value_type_again v fits read.0.value).same

-- the segments of a profile's fields
abbrev first_2 : Profile → List Field
first_2 p = messages 1 value_type_fields p.sample_types ++ messages 2 sample_fields p.samples

abbrev first_3 : Profile → List Field
first_3 p = first_2 p ++ messages 4 location_fields p.locations

abbrev first_4 : Profile → List Field
first_4 p = first_3 p ++ messages 5 function_fields p.functions

abbrev first_5 : Profile → List Field
first_5 p = first_4 p ++ texts 6 p.strings

abbrev first_6 : Profile → List Field
first_6 p = first_5 p ++ signed 10 p.duration

abbrev first_7 : Profile → List Field
first_7 p = first_6 p ++ optional 11 value_type_fields p.period_type

profile_written : (p : Profile) → Fits p → AllByRecursion CanBeWritten (profile_fields p)
profile_written p fits =
    let w2 = all_append CanBeWritten (messages 1 value_type_fields p.sample_types) (messages 2 sample_fields p.samples) (messages_written value_type_fields 1 p.sample_types (omega arith, omega arith))
    (messages_written sample_fields 2 p.samples (omega arith, omega arith)) in
    let w3 = all_append CanBeWritten (first_2 p) (messages 4 location_fields p.locations) w2 (messages_written location_fields 4 p.locations (omega arith, omega arith)) in
    let w4 = all_append CanBeWritten (first_3 p) (messages 5 function_fields p.functions) w3 (messages_written function_fields 5 p.functions (omega arith, omega arith)) in
    let w5 = all_append CanBeWritten (first_4 p) (texts 6 p.strings) w4 (texts_written 6 p.strings (omega arith, omega arith)) in
    let w6 = all_append CanBeWritten (first_5 p) (signed 10 p.duration) w5 (signed_written 10 p.duration (omega arith, omega arith) fits.duration) in
    let w7 = all_append CanBeWritten (first_6 p) (optional 11 value_type_fields p.period_type) w6 (optional_written value_type_fields 11 p.period_type (omega arith, omega arith)) in
    all_append CanBeWritten (first_7 p) (signed 12 p.period) w7 (signed_written 12 p.period (omega arith, omega arith) fits.period)

-- what is read of each segment
record Segments (p : Profile) : Type 0 where
  types : AllByRecursion CanBeRead (messages 1 value_type_fields p.sample_types)
  samples : AllByRecursion CanBeRead (messages 2 sample_fields p.samples)
  locations : AllByRecursion CanBeRead (messages 4 location_fields p.locations)
  functions : AllByRecursion CanBeRead (messages 5 function_fields p.functions)
  period : AllByRecursion CanBeRead (optional 11 value_type_fields p.period_type)

segments : (p : Profile) → AllByRecursion CanBeRead (profile_fields p) → Segments p
segments p read =
    let r7 = all_left CanBeRead (first_7 p) (signed 12 p.period) read in
    let r6 = all_left CanBeRead (first_6 p) (optional 11 value_type_fields p.period_type) r7 in
    let r5 = all_left CanBeRead (first_5 p) (signed 10 p.duration) r6 in
    let r4 = all_left CanBeRead (first_4 p) (texts 6 p.strings) r5 in
    let r3 = all_left CanBeRead (first_3 p) (messages 5 function_fields p.functions) r4 in
    let r2 = all_left CanBeRead (first_2 p) (messages 4 location_fields p.locations) r3 in record {
      types = all_left CanBeRead (messages 1 value_type_fields p.sample_types) (messages 2 sample_fields p.samples) r2;
      samples = all_right CanBeRead (messages 1 value_type_fields p.sample_types) (messages 2 sample_fields p.samples) r2;
      locations = all_right CanBeRead (first_2 p) (messages 4 location_fields p.locations) r3;
      functions = all_right CanBeRead (first_3 p) (messages 5 function_fields p.functions) r4;
      period = all_right CanBeRead (first_6 p) (optional 11 value_type_fields p.period_type) r7;
    }

profile_fine : (p : Profile) → Fits p → Segments p → AllByRecursion (λ f. profile_check f ≡ None) (profile_fields p)
profile_fine p fits read =
    let P : Field → Type 0 = λ f. profile_check f ≡ None in
    let types = messages_fine value_type_fields value_type_from no_cause profile_check 1 p.sample_types passes_1 (all_again TypeFits value_type_fields value_type_from no_cause value_type_again p.sample_types fits.sample_types) read.types in
    let samples = messages_fine sample_fields sample_from sample_check profile_check 2 p.samples passes_2 (all_again SampleFits sample_fields sample_from sample_check sample_again p.samples fits.samples) read.samples in
    let locations = messages_fine location_fields location_from location_check profile_check 4 p.locations passes_4 (all_again LocationFits location_fields location_from location_check location_again p.locations fits.locations) read.locations in
    let functions = messages_fine function_fields function_from no_cause profile_check 5 p.functions passes_5 (all_again FunctionFits function_fields function_from no_cause function_again p.functions fits.functions) read.functions in
    let c2 = all_append P (messages 1 value_type_fields p.sample_types) (messages 2 sample_fields p.samples) types samples in
    let c3 = all_append P (first_2 p) (messages 4 location_fields p.locations) c2 locations in
    let c4 = all_append P (first_3 p) (messages 5 function_fields p.functions) c3 functions in
    let c5 = all_append P (first_4 p) (texts 6 p.strings) c4 (texts_fine p.strings fits.strings) in
    let c6 = all_append P (first_5 p) (signed 10 p.duration) c5 (scalar_fine profile_check 10 _ passes_10) in
    let c7 = all_append P (first_6 p) (optional 11 value_type_fields p.period_type) c6 (period_fine p.period_type fits.period_type read.period) in
    all_append P (first_7 p) (signed 12 p.period) c7 (scalar_fine profile_check 12 _ passes_12)

profile_same : (p : Profile) → Fits p → Segments p → profile_from (profile_fields p) ≡ p
unfolding profile_from
profile_same p fits read =
    let fs = profile_fields p in
    let types = messages_same value_type_fields value_type_from no_cause 1 p.sample_types fs (all_again TypeFits value_type_fields value_type_from no_cause value_type_again p.sample_types fits.sample_types) read.types
    (simp (values_under-append, values-scalar, values-messages, values-texts, values-optional, append-nil) refl) in
    let samples = messages_same sample_fields sample_from sample_check 2 p.samples fs (all_again SampleFits sample_fields sample_from sample_check sample_again p.samples fits.samples) read.samples
    (simp (values_under-append, values-scalar, values-messages, values-texts, values-optional, append-nil) refl) in
    let locations = messages_same location_fields location_from location_check 4 p.locations fs (all_again LocationFits location_fields location_from location_check location_again p.locations fits.locations) read.locations
    (simp (values_under-append, values-scalar, values-messages, values-texts, values-optional, append-nil) refl) in
    let functions = messages_same function_fields function_from no_cause 5 p.functions fs (all_again FunctionFits function_fields function_from no_cause function_again p.functions fits.functions) read.functions
    (simp (values_under-append, values-scalar, values-messages, values-texts, values-optional, append-nil) refl) in
    let strings : parts_under 6 fs ≡ p.strings = parts_from (λ t. t) 6 p.strings fs (simp (values_under-append, values-scalar, values-messages, values-texts, values-optional, append-nil) refl) ∙ map-id p.strings in
    let duration = signed_from 10 p.duration fs fits.duration (simp (values_under-append, values-scalar, values-messages, values-texts, values-optional, append-nil) refl) in
    let period_type = period_same p.period_type fs fits.period_type read.period (simp (values_under-append, values-scalar, values-messages, values-texts, values-optional, append-nil) refl) in
    let period = signed_from 12 p.period fs fits.period (simp (values_under-append, values-scalar, values-messages, values-texts, values-optional, append-nil) refl) in
    rw (types, samples, locations, functions, strings, duration, period_type, period) refl

pub round_trip : RoundTrip
unfolding canon value_of
round_trip p valid short =
    let read = all_can_be_read (profile_fields p) (profile_written p valid.fits) short in
    let parts = segments p read in
    let fine = no_fault_again profile_check (profile_fields p) read (profile_fine p valid.fits parts) in
    let same : profile_from (fields_of (spelled (profile_fields p))) ≡ p = ap profile_from (fields_again (profile_fields p) read) ∙ profile_same p valid.fits parts in
    rw (fine, same, valid.whole) refl
