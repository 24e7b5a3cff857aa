-- Messages whose ids differ: each is the first with its id.
use Rattle.std.proofs.Common.{◌≡◌, ℕ, zero, suc, ◌+◌, ◌<◌, Bool, true, false, not, cond, eqb, List, [], ◌∷◌, ◌++◌, length, get_or, map, take, drop, Option, Some, None, refl, sym, ap, subst, ◌∙◌, append_assoc, arith}
use Rattle.std.specs.List.{find, slice_get, position}
use Rattle.std.proofs.lemmas.Bool.{or_parts, or_from, or_left, or_right, eqb-true, eqb-false, eq-eqb, ne_eqb, false≢true}
use Rattle.std.proofs.lemmas.List.{length-map, map_more, map-append, take-append-drop}
use Rattle.std.proofs.lemmas.List.Folds.{list_any-append}
use Rattle.std.proofs.lemmas.List.Quantifiers.{position-Some}
use Rattle.gp_wire.specs.declared.cause.Cause.{Cause}
use Rattle.gp_wire.specs.declared.cause.Cause.TheVariants.{BadStringIndex, BadId, BadFirstString}
use Rattle.gp_wire.specs.declared.profile.Profile.{Profile}
use Rattle.gp_wire.specs.Valid.{is_id_among, has_twin, bad_ids, location_ids, function_ids, begins_empty, has_bad_place, has_bad_name, has_bad_id, cause_of}

-- the id of a message is among those of all
among_at : {M : Type 0} (f : M → ℕ) (items : List M) (i : ℕ) (item : M) → slice_get items i ≡ Some item → is_id_among (map f items) (f item) ≡ true
among_at f [] i item e = absurd cc
among_at f (m ∷ ms) zero item e =
    let same : m ≡ item = cc in
    or_left (eqb (f item) (f m)) (is_id_among (map f ms) (f item)) (eq-eqb (f item) (f m) (ap f (sym same)))
among_at f (m ∷ ms) (suc i) item e = or_right (eqb (f item) (f m)) (is_id_among (map f ms) (f item)) (among_at f ms i item e)

pub found_at : {M : Type 0} (f : M → ℕ) (items : List M) (i : ℕ) (item : M) → has_twin (map f items) ≡ false → slice_get items i ≡ Some item
    → find (λ m. eqb (f m) (f item)) items ≡ Some item
found_at f [] i item once e = absurd cc
found_at f (m ∷ ms) zero item once e =
    let same : m ≡ item = cc in
    rw (eq-eqb (f m) (f item) (ap f same)) e
found_at f (m ∷ ms) (suc i) item once e =
    let parts = or_parts (is_id_among (map f ms) (f m)) (has_twin (map f ms)) once in
    let other : eqb (f m) (f item) ≡ false = ne_eqb (f m) (f item) (λ same. false≢true (sym parts.0 ∙ ap (is_id_among (map f ms)) same ∙ among_at f ms i item e)) in
    rw other (found_at f ms i item parts.1 e)

pub found_id : {M : Type 0} (f : M → ℕ) (items : List M) (i : ℕ) (item : M) (id : ℕ) → bad_ids (map f items) ≡ false → slice_get items i ≡ Some item → f item ≡ id
    → Some item ≡ find (λ m. eqb (f m) id) items
found_id f items i item id fine at is =
    let once = (or_parts (is_id_among (map f items) 0) (has_twin (map f items)) fine).1 in
    subst (λ (k : ℕ). Some item ≡ find (λ m. eqb (f m) k) items) is (sym (found_at f items i item once at))

slice_at : {M : Type 0} (f : M → ℕ) (items : List M) (i : ℕ) → i < length items → (m : M) × (slice_get items i ≡ Some m) × (get_or (map f items) i 0 ≡ f m)
slice_at f [] i lt = absurd (omega arith)
slice_at f (m ∷ ms) zero lt = (m, refl, refl)
slice_at f (m ∷ ms) (suc i) lt = slice_at f ms i (omega arith)

-- the place of an id is that of its message
pub found_place : {M : Type 0} (f : M → ℕ) (items : List M) (i id : ℕ) (keys : List ℕ) (got : Option M) → got ≡ slice_get items i → keys ≡ map f items
    → bad_ids (map f items) ≡ false → position (λ other. eqb id other) keys ≡ Some i → got ≡ find (λ m. eqb (f m) id) items
found_place f items i id keys got at are fine placed =
    let there = position-Some (λ other. eqb id other) (map f items) i 0 (ap (position (λ other. eqb id other)) (sym are) ∙ placed) in
    let s = slice_at f items i (omega (arith, there.0, length-map items f)) in
    let same : f s.0 ≡ id = sym s.2 ∙ sym (eqb-true id (get_or (map f items) i 0) there.1) in
    at ∙ s.1 ∙ found_id f items i s.0 id fine s.1 same

none_found : {M : Type 0} (f : M → ℕ) (items : List M) (id : ℕ) → is_id_among (map f items) id ≡ false → find (λ m. eqb (f m) id) items ≡ None
none_found f [] id none = refl
none_found f (m ∷ ms) id none =
    let parts = or_parts (eqb id (f m)) (is_id_among (map f ms) id) none in
    let other : eqb (f m) id ≡ false = ne_eqb (f m) id (λ same. eqb-false id (f m) parts.0 (sym same)) in
    rw other (none_found f ms id parts.1)

pub absent_id : {M : Type 0} (f : M → ℕ) (items : List M) (id : ℕ) (keys : List ℕ) → keys ≡ map f items → is_id_among keys id ≡ false → None ≡ find (λ m. eqb (f m) id) items
absent_id f items id keys are none = sym (none_found f items id (ap (λ (ids : List ℕ). is_id_among ids id) (sym are) ∙ none))

-- ---- ids that go into a set one after another

new_id : (xs ys : List ℕ) (x : ℕ) → has_twin (xs ++ x ∷ ys) ≡ false → is_id_among xs x ≡ false
new_id [] ys x once = refl
new_id (y ∷ xs) ys x once =
    let parts = or_parts (is_id_among (xs ++ x ∷ ys) y) (has_twin (xs ++ x ∷ ys)) once in
    let there = or_parts (is_id_among xs y) (is_id_among (x ∷ ys) y) (sym (list_any-append (λ other. eqb y other) xs (x ∷ ys)) ∙ parts.0) in
    let differs = or_parts (eqb y x) (is_id_among ys y) there.1 in
    or_from (eqb x y) (is_id_among xs x) (ne_eqb x y (λ same. eqb-false y x differs.0 (sym same))) (new_id xs ys x parts.1)

pub ids_more : {M : Type 0} (f : M → ℕ) (items : List M) (i : ℕ) (item : M) (id : ℕ) (keys new : List ℕ) → i < length items → item ≡ get_or items i item → id ≡ f item
    → bad_ids (map f items) ≡ false → keys ≡ map f (take i items) → new ≡ cond (is_id_among keys id) keys (keys ++ id ∷ []) → new ≡ map f (take (i + 1) items)
ids_more f items i item id keys new lt at is fine met made =
    let once = (or_parts (is_id_among (map f items) 0) (has_twin (map f items)) fine).1 in
    let more : map f (take (i + 1) items) ≡ map f (take i items) ++ id ∷ [] = map_more f items i item lt ∙ ap (λ (x : ℕ). map f (take i items) ++ x ∷ []) (ap f (sym at) ∙ sym is) in
    let split : map f items ≡ map f (take i items) ++ id ∷ map f (drop (i + 1) items) =
    ap (map f) (sym (take-append-drop (i + 1) items)) ∙ map-append f (take (i + 1) items) (drop (i + 1) items)
    ∙ ap (λ (xs : List ℕ). xs ++ map f (drop (i + 1) items)) more ∙ append_assoc (map f (take i items)) (id ∷ []) (map f (drop (i + 1) items)) in
    let fresh : is_id_among keys id ≡ false = ap (λ (ids : List ℕ). is_id_among ids id) met ∙ new_id (map f (take i items)) (map f (drop (i + 1) items)) id (ap has_twin (sym split) ∙ once) in
    made ∙ ap (λ (b : Bool). cond b keys (keys ++ id ∷ [])) fresh ∙ ap (λ (ids : List ℕ). ids ++ id ∷ []) met ∙ sym more

-- ---- the ids of a valid profile

no_bad_id : (a b c : Bool) (w x y : Cause) → cond a (Some w) (cond b (Some x) (cond c (Some y) None)) ≡ None → c ≡ false
no_bad_id true b c w x y e = absurd cc
no_bad_id false true c w x y e = absurd cc
no_bad_id false false true w x y e = absurd cc
no_bad_id false false false w x y e = refl

pub valid_locations : (p : Profile) → cause_of p ≡ None → bad_ids (location_ids p) ≡ false
unfolding cause_of has_bad_id
valid_locations p valid =
    (or_parts (bad_ids (location_ids p)) (has_bad_name p) (no_bad_id (not (begins_empty p.strings)) (has_bad_place p) (has_bad_id p) BadFirstString BadStringIndex BadId valid)).0

pub valid_functions : (p : Profile) → cause_of p ≡ None → bad_ids (function_ids p) ≡ false
unfolding cause_of has_bad_id has_bad_name
valid_functions p valid =
    let names = (or_parts (bad_ids (location_ids p)) (has_bad_name p) (no_bad_id (not (begins_empty p.strings)) (has_bad_place p) (has_bad_id p) BadFirstString BadStringIndex BadId valid)).1 in
    (or_parts (bad_ids (function_ids p)) _ names).0
