-- Each message is read again from what is written of it.
use Rattle.std.proofs.Common.{◌≡◌, ℕ, zero, suc, ◌^◌, ◌<◌, ℤ, List, [], ◌∷◌, ◌++◌, length, map, Option, Some, None, refl, ap, ◌∙◌, arith}
use Rattle.std.specs.Prelude.{FitsSigned}
use Rattle.std.specs.List.{flat_map, AllByRecursion}
use Rattle.std.specs.Int.{w64}
use Rattle.std.proofs.lemmas.Int.{ints, to_z-of_z}
use Rattle.std.proofs.lemmas.List.{append-nil}
use Rattle.gp_wire.specs.declared.cause.Cause.{Cause}
use Rattle.gp_wire.specs.declared.field.Field.{Field}
use Rattle.gp_wire.specs.declared.field.Value.TheVariants.{Number}
use Rattle.gp_wire.specs.declared.profile.Function.{Function}
use Rattle.gp_wire.specs.declared.profile.Label.{Label}
use Rattle.gp_wire.specs.declared.profile.Line.{Line}
use Rattle.gp_wire.specs.declared.profile.Location.{Location}
use Rattle.gp_wire.specs.declared.profile.Sample.{Sample}
use Rattle.gp_wire.specs.declared.profile.ValueType.{ValueType}
use Rattle.gp_wire.specs.Varint.{varint}
use Rattle.gp_wire.specs.Field.{spelled}
use Rattle.gp_wire.specs.Canonical.{twos_complement, scalar, signed, part, packed, texts, messages, optional, value_type_fields, label_fields, sample_fields, line_fields, location_fields, function_fields}
use Rattle.gp_wire.specs.Packed.{packed_cause}
use Rattle.gp_wire.specs.Fields.{fields_of, first_cause}
use Rattle.gp_wire.specs.Messages.{values_under, int64_of, messages_under, value_type_from, label_from, sample_from, line_from, location_from, function_from}
use Rattle.gp_wire.specs.Checks.{cause_under, no_cause, sample_check, location_check}
use Rattle.gp_wire.specs.RoundTrip.{IsInt64, TypeFits, LabelFits, SampleFits, LineFits, LocationFits, FunctionFits}
use Rattle.gp_wire.proofs.MessageLemmas.{values_under-append}
use Rattle.gp_wire.proofs.SpellLemmas.{packed_again, CanBeRead, CanBeWritten, fields_again, no_fault_again, all_can_be_read}
use Rattle.gp_wire.proofs.SegmentLemmas.{values-scalar, values-packed, part_values, values-messages, unsigned_from, signed_from, numbers_from, parts_from}

-- ---- lists whose elements all have something

pub all_append : {A : Type 0} (P : A → Type 0) (xs ys : List A) → AllByRecursion P xs → AllByRecursion P ys → AllByRecursion P (xs ++ ys)
all_append P [] ys a b = b
all_append P (x ∷ xs) ys a b = (a.0, all_append P xs ys a.1 b)

pub all_left : {A : Type 0} (P : A → Type 0) (xs ys : List A) → AllByRecursion P (xs ++ ys) → AllByRecursion P xs
all_left P [] ys a = tt
all_left P (x ∷ xs) ys a = (a.0, all_left P xs ys a.1)

pub all_right : {A : Type 0} (P : A → Type 0) (xs ys : List A) → AllByRecursion P (xs ++ ys) → AllByRecursion P ys
all_right P [] ys a = a
all_right P (x ∷ xs) ys a = all_right P xs ys a.1

-- ---- what can be written

bits_fit : (z : ℤ) → FitsSigned w64 z → twos_complement z < 2 ^ 64
bits_fit z fits = omega (arith, ints, fits)

abbrev pub Numbered : ℕ → Type 0
Numbered k = (0 < k) × (k < 536870912)

scalar_written : (k v : ℕ) → Numbered k → v < 2 ^ 64 → AllByRecursion CanBeWritten (scalar k v)
unfolding scalar
scalar_written k zero number fits = tt
scalar_written k (suc v) number fits = (record { low = number.0; high = number.1; value = fits }, tt)

pub signed_written : (k : ℕ) (z : ℤ) → Numbered k → FitsSigned w64 z → AllByRecursion CanBeWritten (signed k z)
signed_written k z number fits = scalar_written k (twos_complement z) number (bits_fit z fits)

packed_written : (k : ℕ) (ns : List ℕ) → Numbered k → AllByRecursion CanBeWritten (packed k ns)
unfolding packed
packed_written k [] number = tt
packed_written k (n ∷ ns) number = (record { low = number.0; high = number.1; value = tt }, tt)

parts_written : {A : Type 0} (content : A → List ℕ) (k : ℕ) (items : List A) → Numbered k → AllByRecursion CanBeWritten (map (λ item. part k (content item)) items)
parts_written content k [] number = tt
parts_written content k (item ∷ items) number = (record { low = number.0; high = number.1; value = tt }, parts_written content k items number)

pub messages_written : {M : Type 0} (fields : M → List Field) (k : ℕ) (items : List M) → Numbered k → AllByRecursion CanBeWritten (messages k fields items)
unfolding messages
messages_written fields k items number = parts_written (λ item. spelled (fields item)) k items number

pub texts_written : (k : ℕ) (items : List (List ℕ)) → Numbered k → AllByRecursion CanBeWritten (texts k items)
unfolding texts
texts_written k items number = parts_written (λ item. item) k items number

pub optional_written : {M : Type 0} (fields : M → List Field) (k : ℕ) (item : Option M) → Numbered k → AllByRecursion CanBeWritten (optional k fields item)
unfolding optional
optional_written fields k None number = tt
optional_written fields k (Some item) number = (record { low = number.0; high = number.1; value = tt }, tt)

-- ---- a message that is read again, without a fault

pub record Again {M : Type 0} (fields : M → List Field) (made : List Field → M) (check : Field → Option Cause) (m : M) : Type 0 where
  pub same : made (fields_of (spelled (fields m))) ≡ m
  pub fine : first_cause check (spelled (fields m)) ≡ None

-- from its fields
again : {M : Type 0} (fields : M → List Field) (made : List Field → M) (check : Field → Option Cause) (m : M)
    → AllByRecursion CanBeRead (fields m) → made (fields m) ≡ m → AllByRecursion (λ f. check f ≡ None) (fields m) → Again fields made check m
again fields made check m read whole fine = record {
  same = ap made (fields_again (fields m) read) ∙ whole;
  fine = rw (no_fault_again check (fields m) read fine) refl;
}

never_none : (fs : List Field) → AllByRecursion (λ f. no_cause f ≡ None) fs
never_none [] = tt
never_none (f ∷ fs) = (refl, never_none fs)

-- a message that is written in a short enough part
abbrev pub IsShort : {M : Type 0} → (M → List Field) → M → Type 0
IsShort fields m = length (spelled (fields m)) < 2 ^ 64

pub value_type_again : (v : ValueType) → TypeFits v → IsShort value_type_fields v → Again value_type_fields value_type_from no_cause v
unfolding value_type_from
value_type_again v fits short =
    let written = all_append CanBeWritten (signed 1 v.kind) (signed 2 v.unit) (signed_written 1 v.kind (omega arith, omega arith) fits.0) (signed_written 2 v.unit (omega arith, omega arith) fits.1) in
    let fs = value_type_fields v in
    let kind = signed_from 1 v.kind fs fits.0 (simp (values_under-append, values-scalar, append-nil) refl) in
    let unit = signed_from 2 v.unit fs fits.1 (simp (values_under-append, values-scalar, append-nil) refl) in
    again value_type_fields value_type_from no_cause v (all_can_be_read fs written short) (rw (kind, unit) refl) (never_none fs)

label_again : (l : Label) → LabelFits l → IsShort label_fields l → Again label_fields label_from no_cause l
unfolding label_from
label_again l fits short =
    let fs = label_fields l in
    let written =
    all_append CanBeWritten (signed 1 l.key ++ signed 2 l.text ++ signed 3 l.num) (signed 4 l.num_unit)
    (all_append CanBeWritten (signed 1 l.key ++ signed 2 l.text) (signed 3 l.num)
    (all_append CanBeWritten (signed 1 l.key) (signed 2 l.text)
    (signed_written 1 l.key (omega arith, omega arith) fits.0)
    (signed_written 2 l.text (omega arith, omega arith) fits.1))
    (signed_written 3 l.num (omega arith, omega arith) fits.2))
    (signed_written 4 l.num_unit (omega arith, omega arith) fits.3) in
    let key = signed_from 1 l.key fs fits.0 (simp (values_under-append, values-scalar, append-nil) refl) in
    let text = signed_from 2 l.text fs fits.1 (simp (values_under-append, values-scalar, append-nil) refl) in
    let num = signed_from 3 l.num fs fits.2 (simp (values_under-append, values-scalar, append-nil) refl) in
    let num_unit = signed_from 4 l.num_unit fs fits.3 (simp (values_under-append, values-scalar, append-nil) refl) in
    again label_fields label_from no_cause l (all_can_be_read fs written short) (rw (key, text, num, num_unit) refl) (never_none fs)

line_again : (l : Line) → LineFits l → IsShort line_fields l → Again line_fields line_from no_cause l
unfolding line_from
line_again l fits short =
    let fs = line_fields l in
    let written = all_append CanBeWritten (scalar 1 l.function_id) (signed 2 l.line) (scalar_written 1 l.function_id (omega arith, omega arith) fits.0) (signed_written 2 l.line (omega arith, omega arith) fits.1) in
    let function_id = unsigned_from 1 l.function_id fs (simp (values_under-append, values-scalar, append-nil) refl) in
    let line = signed_from 2 l.line fs fits.1 (simp (values_under-append, values-scalar, append-nil) refl) in
    again line_fields line_from no_cause l (all_can_be_read fs written short) (rw (function_id, line) refl) (never_none fs)

pub function_again : (f : Function) → FunctionFits f → IsShort function_fields f → Again function_fields function_from no_cause f
unfolding function_from
function_again f fits short =
    let fs = function_fields f in
    let written =
    all_append CanBeWritten (scalar 1 f.id ++ signed 2 f.name ++ signed 3 f.system_name ++ signed 4 f.filename) (signed 5 f.start_line)
    (all_append CanBeWritten (scalar 1 f.id ++ signed 2 f.name ++ signed 3 f.system_name) (signed 4 f.filename)
    (all_append CanBeWritten (scalar 1 f.id ++ signed 2 f.name) (signed 3 f.system_name)
    (all_append CanBeWritten (scalar 1 f.id) (signed 2 f.name)
    (scalar_written 1 f.id (omega arith, omega arith) fits.0)
    (signed_written 2 f.name (omega arith, omega arith) fits.1))
    (signed_written 3 f.system_name (omega arith, omega arith) fits.2))
    (signed_written 4 f.filename (omega arith, omega arith) fits.3))
    (signed_written 5 f.start_line (omega arith, omega arith) fits.4) in
    let id = unsigned_from 1 f.id fs (simp (values_under-append, values-scalar, append-nil) refl) in
    let name = signed_from 2 f.name fs fits.1 (simp (values_under-append, values-scalar, append-nil) refl) in
    let system_name = signed_from 3 f.system_name fs fits.2 (simp (values_under-append, values-scalar, append-nil) refl) in
    let filename = signed_from 4 f.filename fs fits.3 (simp (values_under-append, values-scalar, append-nil) refl) in
    let start_line = signed_from 5 f.start_line fs fits.4 (simp (values_under-append, values-scalar, append-nil) refl) in
    again function_fields function_from no_cause f (all_can_be_read fs written short) (rw (id, name, system_name, filename, start_line) refl) (never_none fs)

-- ---- repeated messages

-- a message that is read again where its part is short enough
abbrev pub IsAgain : {M : Type 0} → (M → List Field) → (List Field → M) → (Field → Option Cause) → M → Type 0
IsAgain fields made check m = IsShort fields m → Again fields made check m

pub all_again : {M : Type 0} (F : M → Type 0) (fields : M → List Field) (made : List Field → M) (check : Field → Option Cause)
    → ((m : M) → F m → IsAgain fields made check m) → (ms : List M) → AllByRecursion F ms → AllByRecursion (IsAgain fields made check) ms
all_again F fields made check each [] fits = tt
all_again F fields made check each (m ∷ ms) fits = (each m fits.0, all_again F fields made check each ms fits.1)

parts_same : {M : Type 0} (fields : M → List Field) (made : List Field → M) (check : Field → Option Cause) (k : ℕ) (ms : List M)
    → AllByRecursion (IsAgain fields made check) ms → AllByRecursion CanBeRead (map (λ m. part k (spelled (fields m))) ms)
    → map (λ p. made (fields_of p)) (map (λ m. spelled (fields m)) ms) ≡ ms
parts_same fields made check k [] each read = refl
parts_same fields made check k (m ∷ ms) each read =
    let first = (each.0 read.0.value).same in
    let others = parts_same fields made check k ms each.1 read.1 in
    rw (first, others) refl

-- a list of messages, from fields among which it stands
pub messages_same : {M : Type 0} (fields : M → List Field) (made : List Field → M) (check : Field → Option Cause) (n : ℕ) (ms : List M) (fs : List Field)
    → AllByRecursion (IsAgain fields made check) ms → AllByRecursion CanBeRead (messages n fields ms)
    → values_under n fs ≡ part_values (λ m. spelled (fields m)) ms → messages_under n made fs ≡ ms
unfolding messages
messages_same fields made check n ms fs each read e =
    ap (map (λ (p : List ℕ). made (fields_of p))) (parts_from (λ m. spelled (fields m)) n ms fs e)
    ∙ parts_same fields made check n ms each read

-- A check finds nothing in parts where nothing is found within.
pub parts_fine : {A : Type 0} (content : A → List ℕ) (check : Field → Option Cause) (within : List ℕ → Option Cause) (k : ℕ) (items : List A)
    → ((bytes : List ℕ) → within bytes ≡ None → check (part k bytes) ≡ None)
    → AllByRecursion (λ item. within (content item) ≡ None) items → AllByRecursion (λ f. check f ≡ None) (map (λ item. part k (content item)) items)
parts_fine content check within k [] passes fine = tt
parts_fine content check within k (item ∷ items) passes fine = (passes (content item) fine.0, parts_fine content check within k items passes fine.1)

parts_clean : {M : Type 0} (fields : M → List Field) (made : List Field → M) (check : Field → Option Cause) (k : ℕ) (ms : List M)
    → AllByRecursion (IsAgain fields made check) ms → AllByRecursion CanBeRead (map (λ m. part k (spelled (fields m))) ms)
    → AllByRecursion (λ m. first_cause check (spelled (fields m)) ≡ None) ms
parts_clean fields made check k [] each read = tt
parts_clean fields made check k (m ∷ ms) each read = ((each.0 read.0.value).fine, parts_clean fields made check k ms each.1 read.1)

pub messages_fine : {M : Type 0} (fields : M → List Field) (made : List Field → M) (inner outer : Field → Option Cause) (k : ℕ) (ms : List M)
    → ((bytes : List ℕ) → first_cause inner bytes ≡ None → outer (part k bytes) ≡ None)
    → AllByRecursion (IsAgain fields made inner) ms → AllByRecursion CanBeRead (messages k fields ms)
    → AllByRecursion (λ f. outer f ≡ None) (messages k fields ms)
unfolding messages
messages_fine fields made inner outer k ms passes each read =
    parts_fine (λ m. spelled (fields m)) outer (first_cause inner) k ms passes (parts_clean fields made inner k ms each read)

-- numbers that aren't repeated pass every check
pub scalar_fine : (check : Field → Option Cause) (k v : ℕ) → ((n : ℕ) → check (record { number = k; value = Number n }) ≡ None) → AllByRecursion (λ f. check f ≡ None) (scalar k v)
unfolding scalar
scalar_fine check k zero passes = tt
scalar_fine check k (suc v) passes = (passes (suc v), tt)

packed_fine : (check : Field → Option Cause) (k : ℕ) (ns : List ℕ) → ((bytes : List ℕ) → packed_cause bytes ≡ None → check (part k bytes) ≡ None)
    → AllByRecursion (λ n. n < 2 ^ 64) ns → AllByRecursion (λ f. check f ≡ None) (packed k ns)
unfolding packed
packed_fine check k [] passes fits = tt
packed_fine check k (n ∷ ns) passes fits = (passes (flat_map varint (n ∷ ns)) (rw (packed_again (n ∷ ns) fits) refl), tt)

-- ---- samples, locations

words_fit : (zs : List ℤ) → AllByRecursion IsInt64 zs → AllByRecursion (λ n. n < 2 ^ 64) (map twos_complement zs)
words_fit [] fits = tt
words_fit (z ∷ zs) fits = (bits_fit z fits.0, words_fit zs fits.1)

words_same : (zs : List ℤ) → AllByRecursion IsInt64 zs → map int64_of (map twos_complement zs) ≡ zs
words_same [] fits = refl
words_same (z ∷ zs) fits =
    let first : int64_of (twos_complement z) ≡ z = to_z-of_z w64 z fits.0 in
    rw (first, words_same zs fits.1) refl

sample_passes_1 : (bytes : List ℕ) → packed_cause bytes ≡ None → sample_check (part 1 bytes) ≡ None
unfolding sample_check cause_under
sample_passes_1 bytes e = rw e refl

sample_passes_2 : (bytes : List ℕ) → packed_cause bytes ≡ None → sample_check (part 2 bytes) ≡ None
unfolding sample_check cause_under
sample_passes_2 bytes e = rw e refl

sample_passes_3 : (bytes : List ℕ) → first_cause no_cause bytes ≡ None → sample_check (part 3 bytes) ≡ None
unfolding sample_check cause_under
sample_passes_3 bytes e = rw e refl

pub sample_again : (s : Sample) → SampleFits s → IsShort sample_fields s → Again sample_fields sample_from sample_check s
unfolding sample_from
sample_again s fits short =
    let fs = sample_fields s in
    let ids = packed 1 s.location_ids in
    let values = packed 2 (map twos_complement s.values) in
    let labels = messages 3 label_fields s.labels in
    let written =
    all_append CanBeWritten (ids ++ values) labels
    (all_append CanBeWritten ids values (packed_written 1 s.location_ids (omega arith, omega arith)) (packed_written 2 (map twos_complement s.values) (omega arith, omega arith)))
    (messages_written label_fields 3 s.labels (omega arith, omega arith)) in
    let read = all_can_be_read fs written short in
    let each = all_again LabelFits label_fields label_from no_cause label_again s.labels fits.2 in
    let labels_read = all_right CanBeRead (ids ++ values) labels read in
    let ids_same = numbers_from 1 s.location_ids fs fits.0 (simp (values_under-append, values-packed, values-messages, append-nil) refl) in
    let values_same = numbers_from 2 (map twos_complement s.values) fs (words_fit s.values fits.1) (simp (values_under-append, values-packed, values-messages, append-nil) refl) in
    let labels_same = messages_same label_fields label_from no_cause 3 s.labels fs each labels_read (simp (values_under-append, values-packed, values-messages, append-nil) refl) in
    let fine =
    all_append (λ f. sample_check f ≡ None) (ids ++ values) labels
    (all_append (λ f. sample_check f ≡ None) ids values (packed_fine sample_check 1 s.location_ids sample_passes_1 fits.0) (packed_fine sample_check 2 (map twos_complement s.values) sample_passes_2 (words_fit s.values fits.1)))
    (messages_fine label_fields label_from no_cause sample_check 3 s.labels sample_passes_3 each labels_read) in
    again sample_fields sample_from sample_check s read (rw (ids_same, values_same, labels_same, words_same s.values fits.1) refl) fine

location_passes_4 : (bytes : List ℕ) → first_cause no_cause bytes ≡ None → location_check (part 4 bytes) ≡ None
unfolding location_check cause_under
location_passes_4 bytes e = e

location_passes_1 : (n : ℕ) → location_check (record { number = 1; value = Number n }) ≡ None
unfolding location_check cause_under
location_passes_1 n = refl

pub location_again : (l : Location) → LocationFits l → IsShort location_fields l → Again location_fields location_from location_check l
unfolding location_from
location_again l fits short =
    let fs = location_fields l in
    let id = scalar 1 l.id in
    let lines = messages 4 line_fields l.lines in
    let written = all_append CanBeWritten id lines (scalar_written 1 l.id (omega arith, omega arith) fits.0) (messages_written line_fields 4 l.lines (omega arith, omega arith)) in
    let read = all_can_be_read fs written short in
    let each = all_again LineFits line_fields line_from no_cause line_again l.lines fits.1 in
    let lines_read = all_right CanBeRead id lines read in
    let id_same = unsigned_from 1 l.id fs (simp (values_under-append, values-scalar, values-messages, append-nil) refl) in
    let lines_same = messages_same line_fields line_from no_cause 4 l.lines fs each lines_read (simp (values_under-append, values-scalar, values-messages, append-nil) refl) in
    let fine = all_append (λ f. location_check f ≡ None) id lines (scalar_fine location_check 1 l.id location_passes_1) (messages_fine line_fields line_from no_cause location_check 4 l.lines location_passes_4 each lines_read) in
    again location_fields location_from location_check l read (rw (id_same, lines_same) refl) fine
