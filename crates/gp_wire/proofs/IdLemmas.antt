-- Ids as they are met one after another: which make a list with a twin, and which don't.
use Rattle.std.proofs.Common.{◌≡◌, ℕ, ◌+◌, ◌<◌, Bool, true, false, eqb, ◌||◌, List, [], ◌∷◌, ◌++◌, length, get_or, take, drop, map, cond, refl, sym, ap, ◌∙◌, arith, inl, inr}
use Rattle.std.proofs.lemmas.Bool.{or_cases, or_parts, or_from, or_left, or_right, eqb-true, eqb-false, eq-eqb, ne_eqb}
use Rattle.std.proofs.lemmas.List.{take-append-drop, drop_more, take-map, get_or-map, map_more, length-map}
use Rattle.std.proofs.lemmas.List.Folds.{list_any-append, list_any_at}
use Rattle.gp_wire.specs.Valid.{is_id_among, has_twin, bad_ids}

among_append : (xs ys : List ℕ) (x : ℕ) → is_id_among (xs ++ ys) x ≡ (is_id_among xs x || is_id_among ys x)
among_append xs ys x = list_any-append (λ other. eqb x other) xs ys

-- An id that was met before makes a twin, whatever follows.
twin_later : (xs ys : List ℕ) (x : ℕ) → is_id_among xs x ≡ true → has_twin (xs ++ x ∷ ys) ≡ true
twin_later [] ys x e = absurd cc
twin_later (y ∷ xs) ys x e = elim (or_cases (eqb x y) (is_id_among xs x) e) [
  | inl same ↦
      let here : eqb y x ≡ true = eq-eqb y x (sym (eqb-true x y same)) in
      or_left (is_id_among (xs ++ x ∷ ys) y) (has_twin (xs ++ x ∷ ys))
      (among_append xs (x ∷ ys) y ∙ or_right (is_id_among xs y) (is_id_among (x ∷ ys) y) (or_left (eqb y x) (is_id_among ys y) here))
  | inr before ↦ or_right (is_id_among (xs ++ x ∷ ys) y) (has_twin (xs ++ x ∷ ys)) (twin_later xs ys x before)
]

no_twin-push : (xs : List ℕ) (x : ℕ) → has_twin xs ≡ false → is_id_among xs x ≡ false → has_twin (xs ++ x ∷ []) ≡ false
no_twin-push [] x none new = refl
no_twin-push (y ∷ xs) x none new =
    let before = or_parts (is_id_among xs y) (has_twin xs) none in
    let other = or_parts (eqb x y) (is_id_among xs x) new in
    let differs : eqb y x ≡ false = ne_eqb y x (λ same. eqb-false x y other.0 (sym same)) in
    or_from (is_id_among (xs ++ x ∷ []) y) (has_twin (xs ++ x ∷ []))
    (among_append xs (x ∷ []) y ∙ or_from (is_id_among xs y) (is_id_among (x ∷ []) y) before.0 (or_from (eqb y x) false differs refl))
    (no_twin-push xs x before.1 other.1)

-- one id more that isn't 0 and wasn't met before
pub fine_ids-push : (xs : List ℕ) (x : ℕ) → bad_ids xs ≡ false → (x ≡ 0 → ⊥) → is_id_among xs x ≡ false → bad_ids (xs ++ x ∷ []) ≡ false
fine_ids-push xs x fine some new =
    let parts = or_parts (is_id_among xs 0) (has_twin xs) fine in
    let not_zero : eqb 0 x ≡ false = ne_eqb 0 x (λ same. some (sym same)) in
    or_from (is_id_among (xs ++ x ∷ []) 0) (has_twin (xs ++ x ∷ []))
    (among_append xs (x ∷ []) 0 ∙ or_from (is_id_among xs 0) (is_id_among (x ∷ []) 0) parts.0 (or_from (eqb 0 x) false not_zero refl))
    (no_twin-push xs x parts.1 new)

-- an id that is 0
pub bad_zero : (ids : List ℕ) (i : ℕ) → i < length ids → get_or ids i 0 ≡ 0 → bad_ids ids ≡ true
bad_zero ids i lt e = or_left (is_id_among ids 0) (has_twin ids) (list_any_at (λ other. eqb 0 other) ids i 0 lt (eq-eqb 0 (get_or ids i 0) (sym e)))

-- an id that was met before
pub bad_twin : (ids : List ℕ) (i : ℕ) → i < length ids → is_id_among (take i ids) (get_or ids i 0) ≡ true → bad_ids ids ≡ true
bad_twin ids i lt e =
    let split : take i ids ++ get_or ids i 0 ∷ drop (i + 1) ids ≡ ids = ap (λ (rest : List ℕ). take i ids ++ rest) (sym (drop_more ids i 0 lt)) ∙ take-append-drop i ids in
    or_right (is_id_among ids 0) (has_twin ids) (ap has_twin (sym split) ∙ twin_later (take i ids) (drop (i + 1) ids) (get_or ids i 0) e)

-- ---- one message after another

ids_at : {M : Type 0} (f : M → ℕ) (items : List M) (i : ℕ) (item : M) (id : ℕ) → i < length items → item ≡ get_or items i item → id ≡ f item → get_or (map f items) i 0 ≡ id
ids_at f items i item id lt at is = get_or-map f items i item 0 lt ∙ ap f (sym at) ∙ sym is

pub zero_id : {M : Type 0} (f : M → ℕ) (items : List M) (i : ℕ) (item : M) (id : ℕ) → i < length items → item ≡ get_or items i item → id ≡ f item → id ≡ 0
    → bad_ids (map f items) ≡ true
zero_id f items i item id lt at is zero =
    bad_zero (map f items) i (omega (arith, length-map items f)) (ids_at f items i item id lt at is ∙ zero)

pub twin_id : {M : Type 0} (f : M → ℕ) (items : List M) (i : ℕ) (item : M) (id : ℕ) (keys : List ℕ) → i < length items → item ≡ get_or items i item → id ≡ f item
    → keys ≡ map f (take i items) → is_id_among keys id ≡ true → bad_ids (map f items) ≡ true
twin_id f items i item id keys lt at is met among =
    bad_twin (map f items) i (omega (arith, length-map items f))
    (ap (λ (ids : List ℕ). is_id_among ids (get_or (map f items) i 0)) (take-map f i items ∙ sym met)
    ∙ ap (is_id_among keys) (ids_at f items i item id lt at is) ∙ among)

pub id_step : {M : Type 0} (f : M → ℕ) (items : List M) (i : ℕ) (item : M) (id : ℕ) (keys new : List ℕ) → i < length items → item ≡ get_or items i item → id ≡ f item
    → (id ≡ 0 → ⊥) → keys ≡ map f (take i items) → bad_ids (map f (take i items)) ≡ false → is_id_among keys id ≡ false
    → new ≡ cond (is_id_among keys id) keys (keys ++ id ∷ [])
    → (new ≡ map f (take (i + 1) items)) × (bad_ids (map f (take (i + 1) items)) ≡ false)
id_step f items i item id keys new lt at is some met fine fresh made =
    let more : map f (take (i + 1) items) ≡ map f (take i items) ++ id ∷ [] = map_more f items i item lt ∙ ap (λ (x : ℕ). map f (take i items) ++ x ∷ []) (ap f (sym at) ∙ sym is) in
    let unmet : is_id_among (map f (take i items)) id ≡ false = ap (λ (ids : List ℕ). is_id_among ids id) (sym met) ∙ fresh in (
      made ∙ ap (λ (b : Bool). cond b keys (keys ++ id ∷ [])) fresh ∙ ap (λ (ids : List ℕ). ids ++ id ∷ []) met ∙ sym more,
      ap bad_ids more ∙ fine_ids-push (map f (take i items)) id fine some unmet,
    )
