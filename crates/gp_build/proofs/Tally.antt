-- Counts, kept in a map in the order of first sight.
use Rattle.std.proofs.Common.{◌≡◌, ℕ, ◌+◌, ◌≤◌, Bool, true, false, not, ◌||◌, List, [], ◌∷◌, ◌++◌, filter, map, count_by, length, unwrap_or, Some, refl, sym, ap, ◌∙◌, true≢false, if◌then◌else◌, cond, arith}
use Rattle.std.proofs.lemmas.List.Sums.{sum_by-append, sum_by-cons, count_by-le-length}
use Rattle.std.specs.List.{list_any, AllByRecursion, IsDistinct}
use Rattle.std.specs.Cmp.{IsEquivalence}
use Rattle.std.specs.Map.{lookup}
use Rattle.indexmap.specs.IndexMap.{insert_entry}
use Rattle.indexmap.specs.IndexSet.{insert_key}
use Rattle.gp_build.specs.FirstNeed.{first_seen}
use Rattle.gp_build.proofs.FirstSeen.{first_seen-push, any-filter, not_true}

any-none : {X : Type 0} (q : X → Bool) (xs : List X) → list_any q xs ≡ false → count_by q xs ≡ 0
any-none q [] none = refl
any-none q (x ∷ xs) none = by (q x) refl (any-none q xs)
  where
    by : (b : Bool) → q x ≡ b → (list_any q xs ≡ false → count_by q xs ≡ 0) → count_by q (x ∷ xs) ≡ 0
    by true e rest = absurd (true≢false (ap (λ (a : Bool). a || list_any q xs) (sym e) ∙ none))
    by false e rest =
        sum_by-cons (λ y. cond (q y) 1 0) x xs
        ∙ ap (λ (a : Bool). cond a 1 0 + count_by q xs) e
        ∙ ap (λ (n : ℕ). 0 + n) (rest (ap (λ (a : Bool). a || list_any q xs) (sym e) ∙ none))

count_by-push : {X : Type 0} (p : X → Bool) (xs : List X) (x : X) → count_by p (xs ++ x ∷ []) ≡ count_by p xs + cond (p x) 1 0
count_by-push p xs x =
    sum_by-append (λ y. cond (p y) 1 0) xs (x ∷ [])
    ∙ ap (λ (n : ℕ). count_by p xs + n) (omega (arith, sum_by-cons (λ y. cond (p y) 1 0) x []))

module _ {X : Type 0} (P : X → Type 0) (p : X → Bool) where
  all-filter : (xs : List X) → AllByRecursion P xs → AllByRecursion P (filter p xs)
  all-filter [] all = tt
  all-filter (x ∷ xs) all = by (p x) (all-filter xs all.1)
    where
      by : (b : Bool) → AllByRecursion P (filter p xs) → AllByRecursion P (if b then x ∷ filter p xs else filter p xs)
      by true rest = (all.0, rest)
      by false rest = rest

distinct-filter : {X : Type 0} (same : X → X → Bool) (p : X → Bool) (xs : List X) → IsDistinct same xs → IsDistinct same (filter p xs)
unfolding IsDistinct
distinct-filter same p [] h = tt
distinct-filter {X} same p (x ∷ xs) h = by (p x) (distinct-filter same p xs h.1)
  where
    by : (b : Bool) → IsDistinct same (filter p xs) → IsDistinct same (if b then x ∷ filter p xs else filter p xs)
    by true rest = (all-filter (λ y. same x y ≡ false) p xs h.0, rest)
    by false rest = rest

passing : {X : Type 0} (test : X → Bool) (xs : List X) → AllByRecursion (λ y. test y ≡ false) (filter (λ y. not (test y)) xs)
passing test [] = tt
passing {X} test (x ∷ xs) = by (test x) refl (passing test xs)
  where
    by : (b : Bool) → test x ≡ b → AllByRecursion (λ y. test y ≡ false) (filter (λ y. not (test y)) xs)
        → AllByRecursion (λ y. test y ≡ false) (if not b then x ∷ filter (λ y. not (test y)) xs else filter (λ y. not (test y)) xs)
    by true e rest = rest
    by false e rest = (e, rest)

pub first_seen-distinct : {X : Type 0} (same : X → X → Bool) (xs : List X) → IsDistinct same (first_seen same xs)
unfolding first_seen IsDistinct
first_seen-distinct same [] = tt
first_seen-distinct same (x ∷ xs) = (passing (same x) (first_seen same xs), distinct-filter same (λ y. not (same x y)) (first_seen same xs) (first_seen-distinct same xs))

module _ {X : Type 0} {same : X → X → Bool} (laws : IsEquivalence same) where
  -- how often each of ks stands in xs
  abbrev pub counts_at : List X → List X → List (X × ℕ)
  counts_at xs ks = map (λ k. (k, count_by (same k) xs)) ks

  -- each of a list once, with how often it stands there
  abbrev pub tally : List X → List (X × ℕ)
  tally xs = counts_at xs (first_seen same xs)

  -- One that is the same is counted the same.
  count-same : (xs : List X) (x k : X) → same x k ≡ true → count_by (same k) xs ≡ count_by (same x) xs
  count-same xs x k e = λ i. count_by (λ z. sym (laws.congr x k z e) i) xs

  found_at : (xs ks : List X) (x : X) → list_any (same x) ks ≡ true → unwrap_or (lookup (same x) (counts_at xs ks)) 0 ≡ count_by (same x) xs
  found_at xs [] x some = absurd (true≢false (sym some))
  found_at xs (k ∷ ks) x some = by (same x k) refl (found_at xs ks x)
    where
      by : (b : Bool) → same x k ≡ b → (list_any (same x) ks ≡ true → unwrap_or (lookup (same x) (counts_at xs ks)) 0 ≡ count_by (same x) xs)
          → unwrap_or (cond b (Some (count_by (same k) xs)) (lookup (same x) (counts_at xs ks))) 0 ≡ count_by (same x) xs
      by true e rest = count-same xs x k e
      by false e rest = rest (ap (λ (b : Bool). b || list_any (same x) ks) (sym e) ∙ some)

  lost_at : (xs ks : List X) (x : X) → list_any (same x) ks ≡ false → unwrap_or (lookup (same x) (counts_at xs ks)) 0 ≡ 0
  lost_at xs [] x none = refl
  lost_at xs (k ∷ ks) x none = by (same x k) refl (lost_at xs ks x)
    where
      by : (b : Bool) → same x k ≡ b → (list_any (same x) ks ≡ false → unwrap_or (lookup (same x) (counts_at xs ks)) 0 ≡ 0)
          → unwrap_or (cond b (Some (count_by (same k) xs)) (lookup (same x) (counts_at xs ks))) 0 ≡ 0
      by true e rest = absurd (true≢false (ap (λ (b : Bool). b || list_any (same x) ks) (sym e) ∙ none))
      by false e rest = rest (ap (λ (b : Bool). b || list_any (same x) ks) (sym e) ∙ none)

  -- What is in a list was seen there.
  any-first_seen : (x : X) (xs : List X) → list_any (same x) (first_seen same xs) ≡ list_any (same x) xs
  unfolding first_seen
  any-first_seen x [] = refl
  any-first_seen x (y ∷ ys) = by (same x y) refl (any-first_seen x ys)
    where
      unlike : (z : X) → same x y ≡ false → not (same y z) ≡ false → same x z ≡ false
      unlike z apart alike = laws.symm x z ∙ sym (laws.congr y z x (not_true (same y z) alike)) ∙ laws.symm y x ∙ apart

      by : (b : Bool) → same x y ≡ b → list_any (same x) (first_seen same ys) ≡ list_any (same x) ys
          → (same x y || list_any (same x) (filter (λ other. not (same y other)) (first_seen same ys))) ≡ (same x y || list_any (same x) ys)
      by true e rest = ap (λ (a : Bool). a || list_any (same x) (filter (λ other. not (same y other)) (first_seen same ys))) e ∙ ap (λ (a : Bool). a || list_any (same x) ys) (sym e)
      by false e rest = ap (λ (a : Bool). same x y || a) (any-filter (same x) (λ other. not (same y other)) (λ z. unlike z e) (first_seen same ys) ∙ rest)

  -- The count that a tally has of x is how often x stands in the list.
  pub lookup-tally : (xs : List X) (x : X) → unwrap_or (lookup (same x) (tally xs)) 0 ≡ count_by (same x) xs
  lookup-tally xs x = by (list_any (same x) (first_seen same xs)) refl
    where
      by : (b : Bool) → list_any (same x) (first_seen same xs) ≡ b → unwrap_or (lookup (same x) (tally xs)) 0 ≡ count_by (same x) xs
      by true e = found_at xs (first_seen same xs) x e
      by false e = lost_at xs (first_seen same xs) x e ∙ sym (any-none (same x) xs (sym (any-first_seen x xs) ∙ e))

  -- Keys that aren't the same as x keep their counts.
  others-kept : (xs ks : List X) (x : X) → AllByRecursion (λ k. same k x ≡ false) ks → counts_at (xs ++ x ∷ []) ks ≡ counts_at xs ks
  others-kept xs [] x apart = refl
  others-kept xs (k ∷ ks) x apart =
      λ i. (k, count i) ∷ others-kept xs ks x apart.1 i
    where
      count : count_by (same k) (xs ++ x ∷ []) ≡ count_by (same k) xs
      count = count_by-push (same k) xs x ∙ ap (λ (b : Bool). count_by (same k) xs + cond b 1 0) apart.0 ∙ omega arith

  -- One more x is counted.
  insert_entry-counts : (xs ks : List X) (x : X) → IsDistinct same ks
      → insert_entry same (counts_at xs ks) x (count_by (same x) xs + 1) ≡ counts_at (xs ++ x ∷ []) (insert_key same ks x)
  unfolding IsDistinct
  insert_entry-counts xs [] x distinct =
      ap (λ (n : ℕ). (x, n) ∷ []) (sym (count_by-push (same x) xs x ∙ ap (λ (b : Bool). count_by (same x) xs + cond b 1 0) (laws.refl x)))
  insert_entry-counts xs (k ∷ ks) x distinct = by (same x k) refl (insert_entry-counts xs ks x distinct.1)
    where
      apart : (other : X) → same x k ≡ true → same k other ≡ false → same other x ≡ false
      apart other e h = laws.symm other x ∙ laws.congr x k other e ∙ h

      each : same x k ≡ true → (others : List X) → AllByRecursion (λ y. same k y ≡ false) others → AllByRecursion (λ y. same y x ≡ false) others
      each e [] all = tt
      each e (y ∷ ys) all = (apart y e all.0, each e ys all.1)

      one_more : same x k ≡ true → count_by (same x) xs + 1 ≡ count_by (same k) (xs ++ x ∷ [])
      one_more e =
          ap (λ (n : ℕ). n + 1) (sym (count-same xs x k e))
          ∙ sym (count_by-push (same k) xs x ∙ ap (λ (b : Bool). count_by (same k) xs + cond b 1 0) (laws.symm k x ∙ e))

      as_before : same x k ≡ false → count_by (same k) xs ≡ count_by (same k) (xs ++ x ∷ [])
      as_before e = sym (count_by-push (same k) xs x ∙ ap (λ (b : Bool). count_by (same k) xs + cond b 1 0) (laws.symm k x ∙ e) ∙ omega arith)

      later : (b : Bool) → (k, count_by (same k) (xs ++ x ∷ [])) ∷ counts_at (xs ++ x ∷ []) (if b then ks else ks ++ x ∷ []) ≡ counts_at (xs ++ x ∷ []) (if b then k ∷ ks else k ∷ (ks ++ x ∷ []))
      later true = refl
      later false = refl

      by : (b : Bool) → same x k ≡ b → insert_entry same (counts_at xs ks) x (count_by (same x) xs + 1) ≡ counts_at (xs ++ x ∷ []) (insert_key same ks x)
          → insert_entry same (counts_at xs (k ∷ ks)) x (count_by (same x) xs + 1) ≡ counts_at (xs ++ x ∷ []) (insert_key same (k ∷ ks) x)
      by true e rest =
          ap (λ (b : Bool). if b then (k, count_by (same x) xs + 1) ∷ counts_at xs ks else (k, count_by (same k) xs) ∷ insert_entry same (counts_at xs ks) x (count_by (same x) xs + 1)) e
          ∙ (λ i. (k, one_more e i) ∷ sym (others-kept xs ks x (each e ks distinct.0)) i)
          ∙ sym (ap (λ (b : Bool). counts_at (xs ++ x ∷ []) (if b || list_any (same x) ks then k ∷ ks else (k ∷ ks) ++ x ∷ [])) e)
      by false e rest =
          ap (λ (b : Bool). if b then (k, count_by (same x) xs + 1) ∷ counts_at xs ks else (k, count_by (same k) xs) ∷ insert_entry same (counts_at xs ks) x (count_by (same x) xs + 1)) e
          ∙ (λ i. (k, as_before e i) ∷ rest i)
          ∙ later (list_any (same x) ks)
          ∙ sym (ap (λ (b : Bool). counts_at (xs ++ x ∷ []) (if b || list_any (same x) ks then k ∷ ks else (k ∷ ks) ++ x ∷ [])) e)

  pub tally-push : (xs : List X) (x : X) → insert_entry same (tally xs) x (count_by (same x) xs + 1) ≡ tally (xs ++ x ∷ [])
  tally-push xs x =
      insert_entry-counts xs (first_seen same xs) x (first_seen-distinct same xs)
      ∙ ap (counts_at (xs ++ x ∷ [])) (sym (first_seen-push laws xs x))

  pub tally-nil : tally [] ≡ []
  unfolding first_seen
  tally-nil = refl

  -- One more x is counted in the map that has the tally of xs.
  pub tally-step : (es : List (X × ℕ)) (xs : List X) (x : X) → es ≡ tally xs → insert_entry same es x (unwrap_or (lookup (same x) es) 0 + 1) ≡ tally (xs ++ x ∷ [])
  tally-step es xs x e =
      (λ i. insert_entry same (e i) x (unwrap_or (lookup (same x) (e i)) 0 + 1))
      ∙ ap (λ (n : ℕ). insert_entry same (tally xs) x (n + 1)) (lookup-tally xs x)
      ∙ tally-push xs x

  -- A count is at most the length.
  pub lookup-small : (es : List (X × ℕ)) (xs : List X) (x : X) → es ≡ tally xs → unwrap_or (lookup (same x) es) 0 ≤ length xs
  lookup-small es xs x e =
      let count : unwrap_or (lookup (same x) es) 0 ≡ count_by (same x) xs = ap (λ (l : List (X × ℕ)). unwrap_or (lookup (same x) l) 0) e ∙ lookup-tally xs x in
      omega (arith, count_by-le-length (same x) xs)
