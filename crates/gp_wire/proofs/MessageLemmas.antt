-- What fields give, one field after another.
use Rattle.std.proofs.Common.{◌≡◌, ℕ, ℤ, pos, Bool, true, false, cond, eqb, List, [], ◌∷◌, ◌++◌, map, Option, Some, None, Result, refl, subst, sym, ap, ◌∙◌}
use Rattle.std.specs.Prelude.{OnOk, IfErr}
use Rattle.std.specs.List.{flat_map}
use Rattle.std.proofs.lemmas.Result.{on_ok_weaker}
use Rattle.std.proofs.lemmas.Bool.{eq-eqb, ne_eqb}
use Rattle.std.proofs.lemmas.List.{append-nil, map-append, map-id}
use Rattle.std.proofs.lemmas.List.Concat.{flat_map-append}
use Rattle.std.proofs.lemmas.List.Elements.{filter-append}
use Rattle.gp_wire.specs.declared.field.Field.{Field}
use Rattle.gp_wire.specs.declared.field.Value.{Value}
use Rattle.gp_wire.specs.declared.field.Value.TheVariants.{Number, Part, Eight, Four}
use Rattle.gp_wire.specs.declared.cause.Cause.{Cause}
use Rattle.gp_wire.specs.declared.error.Stop.{Stop}
use Rattle.gp_wire.specs.declared.error.Stop.TheVariants as stop
use Rattle.gp_wire.specs.Checks.{cause_in_part, cause_under, first_of}
use Rattle.gp_wire.specs.Reading.{StopsBy}
use Rattle.gp_wire.specs.Fields.{fields_of}
use Rattle.gp_wire.specs.Packed.{packed_numbers}
use Rattle.gp_wire.specs.Messages.{values_under, lone_number, numbers_in, part_in, numbers_under, parts_under, lone_numbers_under, last_or, int64_of, last_unsigned, last_signed, messages_under, merged_of, merged_under}

pub values_under-append : (n : ℕ) (xs ys : List Field) → values_under n (xs ++ ys) ≡ values_under n xs ++ values_under n ys
unfolding values_under
values_under-append n xs ys = rw (filter-append, map-append) refl

pub flat_values-append : {A : Type 0} (f : Value → List A) (n : ℕ) (xs ys : List Field)
    → flat_map f (values_under n (xs ++ ys)) ≡ flat_map f (values_under n xs) ++ flat_map f (values_under n ys)
flat_values-append f n xs ys = rw (values_under-append n xs ys) (flat_map-append f (values_under n xs) (values_under n ys))

pub last_or-append : {A : Type 0} (d : A) (xs ys : List A) → last_or d (xs ++ ys) ≡ last_or (last_or d xs) ys
last_or-append d [] ys = refl
last_or-append d (x ∷ xs) ys = last_or-append x xs ys

pub last_unsigned-more : (n : ℕ) (xs ys : List Field) → last_unsigned n (xs ++ ys) ≡ last_or (last_unsigned n xs) (lone_numbers_under n ys)
last_unsigned-more n xs ys =
    ap (last_or 0) (flat_values-append lone_number n xs ys) ∙ last_or-append 0 (lone_numbers_under n xs) (lone_numbers_under n ys)

pub last_signed-more : (n : ℕ) (xs ys : List Field) → last_signed n (xs ++ ys) ≡ last_or (last_signed n xs) (map int64_of (lone_numbers_under n ys))
last_signed-more n xs ys =
    ap (λ (ns : List ℕ). last_or (pos 0) (map int64_of ns)) (flat_values-append lone_number n xs ys)
    ∙ ap (last_or (pos 0)) (map-append int64_of (lone_numbers_under n xs) (lone_numbers_under n ys))
    ∙ last_or-append (pos 0) (map int64_of (lone_numbers_under n xs)) (map int64_of (lone_numbers_under n ys))

pub numbers_under-more : (n : ℕ) (xs ys : List Field) → numbers_under n (xs ++ ys) ≡ numbers_under n xs ++ numbers_under n ys
numbers_under-more n xs ys = flat_values-append numbers_in n xs ys

pub parts_under-more : (n : ℕ) (xs ys : List Field) → parts_under n (xs ++ ys) ≡ parts_under n xs ++ parts_under n ys
parts_under-more n xs ys = flat_values-append part_in n xs ys

pub messages_under-more : {M : Type 0} (n : ℕ) (made : List Field → M) (xs ys : List Field)
    → messages_under n made (xs ++ ys) ≡ messages_under n made xs ++ messages_under n made ys
messages_under-more n made xs ys =
    ap (map (λ (part : List ℕ). made (fields_of part))) (parts_under-more n xs ys)
    ∙ map-append (λ (part : List ℕ). made (fields_of part)) (parts_under n xs) (parts_under n ys)

-- ---- one field

one_under : (b : Bool) (f : Field) → map (λ (g : Field). g.value) (cond b (f ∷ []) []) ≡ cond b (f.value ∷ []) []
one_under true f = refl
one_under false f = refl

pub values_under-one : (n : ℕ) (f : Field) → values_under n (f ∷ []) ≡ cond (eqb f.number n) (f.value ∷ []) []
unfolding values_under
values_under-one n f = one_under (eqb f.number n) f

numbers_of_part : (b : Bool) (v : Value) (bytes : List ℕ) → flat_map part_in (cond b (v ∷ []) []) ≡ bytes ∷ [] → flat_map numbers_in (cond b (v ∷ []) []) ≡ packed_numbers bytes
numbers_of_part true (Number n) bytes e = absurd cc
numbers_of_part true (Part part) bytes e = let same : part ≡ bytes = cc in append-nil (packed_numbers part) ∙ ap packed_numbers same
numbers_of_part true (Eight part) bytes e = absurd cc
numbers_of_part true (Four part) bytes e = absurd cc
numbers_of_part false v bytes e = absurd cc

numbers_alone : (b : Bool) (v : Value) → flat_map part_in (cond b (v ∷ []) []) ≡ [] → flat_map numbers_in (cond b (v ∷ []) []) ≡ flat_map lone_number (cond b (v ∷ []) [])
numbers_alone true (Number n) e = refl
numbers_alone true (Part part) e = absurd cc
numbers_alone true (Eight part) e = refl
numbers_alone true (Four part) e = refl
numbers_alone false v e = refl

-- The numbers of a field are those of its part, or else the one that stands alone.
pub numbers_under-part : (n : ℕ) (f : Field) (bytes : List ℕ) → parts_under n (f ∷ []) ≡ bytes ∷ [] → numbers_under n (f ∷ []) ≡ packed_numbers bytes
numbers_under-part n f bytes e =
    ap (flat_map numbers_in) (values_under-one n f)
    ∙ numbers_of_part (eqb f.number n) f.value bytes (ap (flat_map part_in) (sym (values_under-one n f)) ∙ e)

pub numbers_under-alone : (n : ℕ) (f : Field) → parts_under n (f ∷ []) ≡ [] → numbers_under n (f ∷ []) ≡ lone_numbers_under n (f ∷ [])
numbers_under-alone n f e =
    ap (flat_map numbers_in) (values_under-one n f)
    ∙ numbers_alone (eqb f.number n) f.value (ap (flat_map part_in) (sym (values_under-one n f)) ∙ e)
    ∙ ap (flat_map lone_number) (sym (values_under-one n f))

-- ---- a message that is merged

-- the fields of some parts and of one more
pub merged_of-push : {M : Type 0} (made : List Field → M) (parts : List (List ℕ)) (part : List ℕ)
    → merged_of made (parts ++ part ∷ []) ≡ Some (made (flat_map fields_of parts ++ fields_of part))
merged_of-push made [] part = ap (λ (fields : List Field). Some (made fields)) (append-nil (fields_of part))
merged_of-push made (p ∷ ps) part =
    ap (λ (fields : List Field). Some (made fields))
    (flat_map-append fields_of (p ∷ ps) (part ∷ []) ∙ ap (λ (fields : List Field). flat_map fields_of (p ∷ ps) ++ fields) (append-nil (fields_of part)))

pub merged_of-some : {M : Type 0} (made : List Field → M) (parts : List (List ℕ)) (item : M) → merged_of made parts ≡ Some item → item ≡ made (flat_map fields_of parts)
merged_of-some made [] item e = absurd cc
merged_of-some made (p ∷ ps) item e = cc

pub merged_of-none : {M : Type 0} (made : List Field → M) (parts : List (List ℕ)) → merged_of made parts ≡ None → flat_map fields_of parts ≡ []
merged_of-none made [] e = refl
merged_of-none made (p ∷ ps) e = absurd cc

-- ---- what one field gives

pub pick-other : {A : Type 0} (g : Value → List A) (n : ℕ) (f : Field) → (f.number ≡ n → ⊥) → flat_map g (values_under n (f ∷ [])) ≡ []
pick-other g n f ne = ap (flat_map g) (values_under-one n f) ∙ rw (ne_eqb f.number n ne) refl

pub pick-same : {A : Type 0} (g : Value → List A) (n : ℕ) (f : Field) → f.number ≡ n → flat_map g (values_under n (f ∷ [])) ≡ g f.value
pick-same g n f e = ap (flat_map g) (values_under-one n f) ∙ rw (eq-eqb f.number n e) (append-nil (g f.value))

pub no_number : (v : Value) → ((x : ℕ) → v ≡ Number x → ⊥) → lone_number v ≡ []
no_number (Number n) none = absurd (none n refl)
no_number (Part bytes) none = refl
no_number (Eight bytes) none = refl
no_number (Four bytes) none = refl

pub no_part : (v : Value) → ((x : List ℕ) → v ≡ Part x → ⊥) → part_in v ≡ []
no_part (Number n) none = refl
no_part (Part bytes) none = absurd (none bytes refl)
no_part (Eight bytes) none = refl
no_part (Four bytes) none = refl

pub no_cause_in_part : (within : List ℕ → Option Cause) (v : Value) → ((x : List ℕ) → v ≡ Part x → ⊥) → cause_in_part within v ≡ None
no_cause_in_part within (Number n) none = refl
no_cause_in_part within (Part bytes) none = absurd (none bytes refl)
no_cause_in_part within (Eight bytes) none = refl
no_cause_in_part within (Four bytes) none = refl

pub cause-other : (n : ℕ) (within : List ℕ → Option Cause) (f : Field) → (f.number ≡ n → ⊥) → cause_under n within f ≡ None
unfolding cause_under
cause-other n within f ne = rw (ne_eqb f.number n ne) refl

pub cause-same : (n : ℕ) (within : List ℕ → Option Cause) (f : Field) → f.number ≡ n → cause_under n within f ≡ cause_in_part within f.value
unfolding cause_under
cause-same n within f e = rw (eq-eqb f.number n e) refl

-- ---- one field more of a message that is merged

pub merged_more : {M : Type 0} (made : List Field → M) (n : ℕ) (fields : List Field) (f : Field) (part : List ℕ) (m : M) → parts_under n (f ∷ []) ≡ part ∷ []
    → m ≡ made (flat_map fields_of (parts_under n fields) ++ fields_of part) → Some m ≡ merged_under n made (fields ++ f ∷ [])
merged_more made n fields f part m one same =
    ap (λ x. Some x) same ∙ sym (merged_of-push made (parts_under n fields) part)
    ∙ ap (merged_of made) (sym (parts_under-more n fields (f ∷ []) ∙ ap (λ (ps : List (List ℕ)). parts_under n fields ++ ps) one))

pub merged_stays : {M : Type 0} (made : List Field → M) (n : ℕ) (fields : List Field) (f : Field) → parts_under n (f ∷ []) ≡ []
    → merged_under n made fields ≡ merged_under n made (fields ++ f ∷ [])
merged_stays made n fields f none =
    ap (merged_of made) (sym (parts_under-more n fields (f ∷ []) ∙ ap (λ (ps : List (List ℕ)). parts_under n fields ++ ps) none ∙ append-nil (parts_under n fields)))

-- ---- one field more of each kind

pub signed_step : (n : ℕ) (fields : List Field) (f : Field) (old new : ℤ) → new ≡ last_or old (map int64_of (lone_numbers_under n (f ∷ []))) → old ≡ last_signed n fields
    → new ≡ last_signed n (fields ++ f ∷ [])
signed_step n fields f old new e so_far =
    e ∙ ap (λ (z : ℤ). last_or z (map int64_of (lone_numbers_under n (f ∷ [])))) so_far ∙ sym (last_signed-more n fields (f ∷ []))

pub unsigned_step : (n : ℕ) (fields : List Field) (f : Field) (old new : ℕ) → new ≡ last_or old (map (λ k. k) (lone_numbers_under n (f ∷ []))) → old ≡ last_unsigned n fields
    → new ≡ last_unsigned n (fields ++ f ∷ [])
unsigned_step n fields f old new e so_far =
    e ∙ ap (λ (ns : List ℕ). last_or old ns) (map-id (lone_numbers_under n (f ∷ [])))
    ∙ ap (λ (z : ℕ). last_or z (lone_numbers_under n (f ∷ []))) so_far ∙ sym (last_unsigned-more n fields (f ∷ []))

pub numbers_step : {T : Type 0} (of_word : ℕ → T) (n : ℕ) (fields : List Field) (f : Field) (old new : List T) → new ≡ old ++ map of_word (numbers_under n (f ∷ []))
    → old ≡ map of_word (numbers_under n fields) → new ≡ map of_word (numbers_under n (fields ++ f ∷ []))
numbers_step of_word n fields f old new e so_far =
    e ∙ ap (λ ts. ts ++ map of_word (numbers_under n (f ∷ []))) so_far ∙ sym (map-append of_word (numbers_under n fields) (numbers_under n (f ∷ [])))
    ∙ sym (ap (map of_word) (numbers_under-more n fields (f ∷ [])))

pub parts_step : (n : ℕ) (fields : List Field) (f : Field) (old new : List (List ℕ)) → new ≡ old ++ parts_under n (f ∷ []) → old ≡ parts_under n fields
    → new ≡ parts_under n (fields ++ f ∷ [])
parts_step n fields f old new e so_far =
    e ∙ ap (λ (ps : List (List ℕ)). ps ++ parts_under n (f ∷ [])) so_far ∙ sym (parts_under-more n fields (f ∷ []))

pub messages_step : {M : Type 0} (made : List Field → M) (n : ℕ) (fields : List Field) (f : Field) (old new : List M) → new ≡ old ++ messages_under n made (f ∷ [])
    → old ≡ messages_under n made fields → new ≡ messages_under n made (fields ++ f ∷ [])
messages_step made n fields f old new e so_far =
    e ∙ ap (λ ms. ms ++ messages_under n made (f ∷ [])) so_far ∙ sym (messages_under-more n made fields (f ∷ []))

-- ---- the first of several causes

pub first_of-one : (x : Option Cause) → first_of (x ∷ []) ≡ x
first_of-one None = refl
first_of-one (Some why) = refl

pub stops_first : (x : Option Cause) (more : List (Option Cause)) (stop : Stop) → StopsBy x stop → StopsBy (first_of (x ∷ more)) stop
stops_first x more (stop.Fault why) at = rw at refl
stops_first x more stop.Memory at = tt

pub fine_of-last : {T E : Type 0} (r : Result T E) (x : Option Cause) → OnOk r (x ≡ None) → OnOk r (first_of (x ∷ []) ≡ None)
fine_of-last r x fine = on_ok_weaker r (λ h. first_of-one x ∙ h) fine

pub stops_of-last : {T : Type 0} (r : Result T Stop) (x : Option Cause) → IfErr r (StopsBy x) → IfErr r (StopsBy (first_of (x ∷ [])))
stops_of-last r x at = subst (λ (y : Option Cause). IfErr r (StopsBy y)) (sym (first_of-one x)) at
