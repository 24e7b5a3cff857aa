-- A stable sort gives the list in order.
use Rattle.std.proofs.Common.{◌≡◌, ℕ, zero, suc, ◌<◌, ◌≤◌, Bool, true, false, not, ◌&&◌, List, [], ◌∷◌, length, filter, refl, sym, ap, subst, ◌∙◌, true≢false, if◌then◌else◌, arith}
use Rattle.std.specs.List.{AllByRecursion, slice_index_or}
use Rattle.std.specs.Cmp.{IsStrictWeakOrder}
use Rattle.std.specs.List.Sorted.{IsSortedBy, IsStableBy, ties}
use Rattle.std.proofs.lemmas.List.Elements.{recursion_from_All}
use Rattle.std.proofs.lemmas.List.Sorted.{sorted_far}
use Rattle.gp_events.specs.Order.{put, in_order}

module _ {X : Type 0} (lt : X → X → Bool) where
  -- No element is before one that stands in front of it.
  abbrev pub Rises : List X → Type 0
  Rises [] = Unit {0}
  Rises (x ∷ xs) = AllByRecursion (λ y. lt y x ≡ false) xs × Rises xs

module _ {A : Type 0} where
  abbrev head_of : A → List A → A
  head_of d [] = d
  head_of d (x ∷ xs) = x

  abbrev tail_of : List A → List A
  tail_of [] = []
  tail_of (x ∷ xs) = xs

  abbrev is_nil : List A → Bool
  is_nil [] = true
  is_nil (x ∷ xs) = false

  -- If the filtered list begins with y, whatever holds of the list's elements holds of y.
  kept_holds : (P : A → Type 0) (p : A → Bool) (y : A) (ys zs : List A) → filter p zs ≡ y ∷ ys → AllByRecursion P zs → P y
  kept_holds P p y ys [] e all = absurd (true≢false (ap is_nil e))
  kept_holds P p y ys (z ∷ zs) e all = by (p z) e (λ h. kept_holds P p y ys zs h all.1)
    where
      by : (b : Bool) → (if b then z ∷ filter p zs else filter p zs) ≡ y ∷ ys → (filter p zs ≡ y ∷ ys → P y) → P y
      by true e rest = subst P (ap (head_of z) e) all.0
      by false e rest = rest e

module _ {X : Type 0} {lt : X → X → Bool} (order : IsStrictWeakOrder lt) where
  irreflexive : (x : X) → lt x x ≡ false
  irreflexive x = by (lt x x) refl
    where
      by : (b : Bool) → lt x x ≡ b → lt x x ≡ false
      by true e = order.one_way x x e
      by false e = e

  far : (ys : List X) → ((i j : ℕ) (d : X) → i ≤ j → j < length ys → lt (slice_index_or ys j d) (slice_index_or ys i d) ≡ false) → Rises lt ys
  far [] h = tt
  far (y ∷ ys) h = (
    recursion_from_All (λ z. lt z y ≡ false) ys (λ k d within. h zero (suc k) d (omega arith) (omega arith)),
    far ys (λ i j d below within. h (suc i) (suc j) d (omega arith) (omega arith)),
  )

  rises-from_sorted : (xs : List X) → IsSortedBy lt xs → Rises lt xs
  rises-from_sorted xs sorted = far xs (λ i j d below within. sorted_far lt order xs sorted i j d below within)

  ties-itself : (x : X) → ties lt x x ≡ true
  ties-itself x = λ i. not (irreflexive x i) && not (irreflexive x i)

  ties-before : (x y : X) → lt x y ≡ true → ties lt x y ≡ false
  ties-before x y e = λ i. not (e i) && not (lt y x)

  ties-after : (x y : X) → lt y x ≡ true → ties lt x y ≡ false
  ties-after x y e = by (lt x y)
    where
      by : (b : Bool) → (not b && not (lt y x)) ≡ false
      by true = refl
      by false = ap not e

  -- The head of a filter by what ties with it.
  filter-head : (x : X) (xs : List X) → filter (ties lt x) (x ∷ xs) ≡ x ∷ filter (ties lt x) xs
  filter-head x xs = ap (λ (b : Bool). if b then x ∷ filter (ties lt x) xs else filter (ties lt x) xs) (ties-itself x)

  filter-none : (x y : X) (ys : List X) → ties lt x y ≡ false → filter (ties lt x) (y ∷ ys) ≡ filter (ties lt x) ys
  filter-none x y ys e = ap (λ (b : Bool). if b then y ∷ filter (ties lt x) ys else filter (ties lt x) ys) e

  filter-some : (x y : X) (ys : List X) → ties lt x y ≡ true → filter (ties lt x) (y ∷ ys) ≡ y ∷ filter (ties lt x) ys
  filter-some x y ys e = ap (λ (b : Bool). if b then y ∷ filter (ties lt x) ys else filter (ties lt x) ys) e

  -- Of two lists in order with the same ties, neither begins below the other.
  not-below : (y z : X) (ys zs : List X) → AllByRecursion (λ w. lt w z ≡ false) zs → filter (ties lt y) (y ∷ ys) ≡ filter (ties lt y) (z ∷ zs) → lt y z ≡ false
  not-below y z ys zs rises same = by (lt y z) refl
    where
      by : (b : Bool) → lt y z ≡ b → lt y z ≡ false
      by true e = kept_holds (λ w. lt w z ≡ false) (ties lt y) y (filter (ties lt y) ys) zs (sym (filter-none y z zs (ties-before y z e)) ∙ sym same ∙ filter-head y ys) rises
      by false e = e

  -- Lists in order with the same ties are the same.
  same_order : (ys zs : List X) → Rises lt ys → Rises lt zs → ((x : X) → filter (ties lt x) ys ≡ filter (ties lt x) zs) → ys ≡ zs
  same_order [] [] up up' same = refl
  same_order [] (z ∷ zs) up up' same = absurd (true≢false (ap is_nil (same z ∙ filter-head z zs)))
  same_order (y ∷ ys) [] up up' same = absurd (true≢false (ap is_nil (sym (same y) ∙ filter-head y ys)))
  same_order (y ∷ ys) (z ∷ zs) up up' same = λ i. first i ∷ same_order ys zs up.1 up'.1 rest i
    where
      below : lt y z ≡ false
      below = not-below y z ys zs up'.0 (same y)

      above : lt z y ≡ false
      above = not-below z y zs ys up.0 (sym (same z))

      tie : ties lt y z ≡ true
      tie = λ i. not (below i) && not (above i)

      first : y ≡ z
      first = ap (head_of y) (sym (filter-head y ys) ∙ same y ∙ filter-some y z zs tie)

      rest : (x : X) → filter (ties lt x) ys ≡ filter (ties lt x) zs
      rest x = by (ties lt x y) refl
        where
          shifted : filter (ties lt x) (y ∷ ys) ≡ filter (ties lt x) (y ∷ zs)
          shifted = same x ∙ ap (λ (w : X). filter (ties lt x) (w ∷ zs)) (sym first)

          by : (b : Bool) → ties lt x y ≡ b → filter (ties lt x) ys ≡ filter (ties lt x) zs
          by true e = ap tail_of (sym (filter-some x y ys e) ∙ shifted ∙ filter-some x y zs e)
          by false e = sym (filter-none x y ys e) ∙ shifted ∙ filter-none x y zs e

  -- ---- the list in order

  all-put : (P : X → Type 0) (x : X) (ys : List X) → P x → AllByRecursion P ys → AllByRecursion P (put lt x ys)
  unfolding put
  all-put P x [] h all = (h, tt)
  all-put P x (y ∷ ys) h all = by (lt y x) (all-put P x ys h all.1)
    where
      by : (b : Bool) → AllByRecursion P (put lt x ys) → AllByRecursion P (if b then y ∷ put lt x ys else x ∷ y ∷ ys)
      by true rest = (all.0, rest)
      by false rest = (h, all)

  chained : (x y : X) (ys : List X) → lt y x ≡ false → AllByRecursion (λ w. lt w y ≡ false) ys → AllByRecursion (λ w. lt w x ≡ false) ys
  chained x y [] h all = tt
  chained x y (z ∷ zs) h all = (order.chain z y x all.0 h, chained x y zs h all.1)

  rises-put : (x : X) (ys : List X) → Rises lt ys → Rises lt (put lt x ys)
  unfolding put
  rises-put x [] up = (tt, tt)
  rises-put x (y ∷ ys) up = by (lt y x) refl (rises-put x ys up.1)
    where
      by : (b : Bool) → lt y x ≡ b → Rises lt (put lt x ys) → Rises lt (if b then y ∷ put lt x ys else x ∷ y ∷ ys)
      by true e rest = (all-put (λ w. lt w y ≡ false) x ys (order.one_way y x e) up.0, rest)
      by false e rest = ((e, chained x y ys e up.0), up)

  rises-in_order : (xs : List X) → Rises lt (in_order lt xs)
  unfolding in_order
  rises-in_order [] = tt
  rises-in_order (x ∷ xs) = rises-put x (in_order lt xs) (rises-in_order xs)

  -- What ties with a third doesn't stand in order.
  no_ties : (v x y : X) → lt y x ≡ true → ties lt v x ≡ true → ties lt v y ≡ false
  no_ties v x y e h = by (ties lt v y) refl
    where
      first : (a b : Bool) → (not a && not b) ≡ true → a ≡ false
      first true b h = absurd (true≢false (sym h))
      first false b h = refl

      second : (a b : Bool) → (not a && not b) ≡ true → b ≡ false
      second true b h = absurd (true≢false (sym h))
      second false true h = absurd (true≢false (sym h))
      second false false h = refl

      by : (b : Bool) → ties lt v y ≡ b → ties lt v y ≡ false
      by true k = absurd (true≢false (sym e ∙ order.chain y v x (second (lt v y) (lt y v) k) (first (lt v x) (lt x v) h)))
      by false k = k

  stable-put : (v x : X) (ys : List X) → filter (ties lt v) (put lt x ys) ≡ filter (ties lt v) (x ∷ ys)
  unfolding put
  stable-put v x [] = refl
  stable-put v x (y ∷ ys) = by (lt y x) refl (stable-put v x ys)
    where
      swapped : lt y x ≡ true → (b c : Bool) → ties lt v x ≡ b → ties lt v y ≡ c → filter (ties lt v) (y ∷ x ∷ ys) ≡ filter (ties lt v) (x ∷ y ∷ ys)
      swapped e true c h k =
          filter-none v y (x ∷ ys) (no_ties v x y e h) ∙ filter-some v x ys h
          ∙ sym (filter-some v x (y ∷ ys) h ∙ ap (λ (l : List X). x ∷ l) (filter-none v y ys (no_ties v x y e h)))
      swapped e false true h k =
          filter-some v y (x ∷ ys) k ∙ ap (λ (l : List X). y ∷ l) (filter-none v x ys h)
          ∙ sym (filter-none v x (y ∷ ys) h ∙ filter-some v y ys k)
      swapped e false false h k =
          filter-none v y (x ∷ ys) k ∙ filter-none v x ys h
          ∙ sym (filter-none v x (y ∷ ys) h ∙ filter-none v y ys k)

      more : (c : Bool) → filter (ties lt v) (put lt x ys) ≡ filter (ties lt v) (x ∷ ys)
          → (if c then y ∷ filter (ties lt v) (put lt x ys) else filter (ties lt v) (put lt x ys))
          ≡ (if c then y ∷ filter (ties lt v) (x ∷ ys) else filter (ties lt v) (x ∷ ys))
      more true rest = ap (λ (l : List X). y ∷ l) rest
      more false rest = rest

      by : (b : Bool) → lt y x ≡ b → filter (ties lt v) (put lt x ys) ≡ filter (ties lt v) (x ∷ ys) → filter (ties lt v) (if b then y ∷ put lt x ys else x ∷ y ∷ ys) ≡ filter (ties lt v) (x ∷ y ∷ ys)
      by true e rest = more (ties lt v y) rest ∙ swapped e (ties lt v x) (ties lt v y) refl refl
      by false e rest = refl

  stable-in_order : (xs : List X) (v : X) → filter (ties lt v) (in_order lt xs) ≡ filter (ties lt v) xs
  unfolding in_order
  stable-in_order [] v = refl
  stable-in_order (x ∷ xs) v = stable-put v x (in_order lt xs) ∙ more (ties lt v x) (stable-in_order xs v)
    where
      more : (c : Bool) → filter (ties lt v) (in_order lt xs) ≡ filter (ties lt v) xs
          → (if c then x ∷ filter (ties lt v) (in_order lt xs) else filter (ties lt v) (in_order lt xs))
          ≡ (if c then x ∷ filter (ties lt v) xs else filter (ties lt v) xs)
      more true rest = ap (λ (l : List X). x ∷ l) rest
      more false rest = rest

  -- What a stable sort leaves is the list in order.
  pub in_order-from_sort : (xs ys : List X) → IsSortedBy lt ys → IsStableBy lt xs ys → ys ≡ in_order lt xs
  in_order-from_sort xs ys sorted stable =
      same_order ys (in_order lt xs) (rises-from_sorted ys sorted) (rises-in_order xs) (λ v. stable v ∙ sym (stable-in_order xs v))
