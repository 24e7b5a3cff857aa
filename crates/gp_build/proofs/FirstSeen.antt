-- A set in the order of first insertion holds what was seen first.
use Rattle.std.proofs.Common.{◌≡◌, ◌≤◌, ℕ, Bool, true, false, not, ◌||◌, List, [], ◌∷◌, ◌++◌, filter, length, take, refl, sym, ap, ◌∙◌, append_assoc, true≢false, if◌then◌else◌}
use Rattle.std.proofs.lemmas.List.{append-nil, take_all}
use Rattle.std.specs.List.{list_any}
use Rattle.std.specs.Cmp.{IsEquivalence}
use Rattle.indexmap.specs.IndexSet.{insert_key, insert_all}
use Rattle.indexmap.proofs.SetLemmas.{filter_keep, filter_skip}
use Rattle.gp_build.specs.FirstNeed.{first_seen}

-- Where all that passes one test passes another, a filter by the other leaves out nothing that passes the one.
pub any-filter : {X : Type 0} (q p : X → Bool) → ((x : X) → p x ≡ false → q x ≡ false) → (xs : List X) → list_any q (filter p xs) ≡ list_any q xs
any-filter q p fails [] = refl
any-filter {X} q p fails (x ∷ xs) = by (p x) refl (any-filter q p fails xs)
  where
    by : (b : Bool) → p x ≡ b → list_any q (filter p xs) ≡ list_any q xs → list_any q (if b then x ∷ filter p xs else filter p xs) ≡ (q x || list_any q xs)
    by true e rest = ap (λ (a : Bool). q x || a) rest
    by false e rest = rest ∙ ap (λ (a : Bool). a || list_any q xs) (sym (fails x e))

pub not_true : (b : Bool) → not b ≡ false → b ≡ true
not_true true e = refl
not_true false e = absurd (true≢false e)

module _ {X : Type 0} {same : X → X → Bool} (laws : IsEquivalence same) where
  -- What isn't the same as y fails the same test as y, at what is the same as y.
  unlike : (x y z : X) → same x y ≡ false → not (same y z) ≡ false → same x z ≡ false
  unlike x y z apart alike = laws.symm x z ∙ sym (laws.congr y z x (not_true (same y z) alike)) ∙ laws.symm y x ∙ apart

  -- what of a list isn't the same as y
  abbrev others : X → List X → List X
  others y seen = filter (λ other. not (same y other)) seen

  -- One thing more is inserted into what is left of a list behind y.
  behind : (y x : X) (seen : List X) → y ∷ others y (insert_key same seen x) ≡ insert_key same (y ∷ others y seen) x
  behind y x seen = by (same x y) refl
    where
      kept : (c : Bool) → not (same y x) ≡ false → y ∷ others y (if c then seen else seen ++ x ∷ []) ≡ y ∷ others y seen
      kept true e = refl
      kept false e = ap (λ (l : List X). y ∷ l) (filter_skip (λ other. not (same y other)) seen x e)

      added : (c : Bool) → not (same y x) ≡ true
          → y ∷ others y (if c then seen else seen ++ x ∷ []) ≡ (if c then y ∷ others y seen else (y ∷ others y seen) ++ x ∷ [])
      added true e = refl
      added false e = ap (λ (l : List X). y ∷ l) (filter_keep (λ other. not (same y other)) seen x e)

      -- what insertion makes of the list behind y, by whether x is the same as y
      inserted : Bool → List X
      inserted b = if b || list_any (same x) (others y seen) then y ∷ others y seen else (y ∷ others y seen) ++ x ∷ []

      by : (b : Bool) → same x y ≡ b → y ∷ others y (insert_key same seen x) ≡ insert_key same (y ∷ others y seen) x
      by true e = kept (list_any (same x) seen) (ap not (laws.symm y x ∙ e)) ∙ sym (ap inserted e)
      by false e =
          added (list_any (same x) seen) (ap not (laws.symm y x ∙ e))
          ∙ ap (λ (b : Bool). if b then y ∷ others y seen else (y ∷ others y seen) ++ x ∷ [])
          (sym (any-filter (same x) (λ other. not (same y other)) (λ z. unlike x y z e) seen))
          ∙ sym (ap inserted e)

  -- One thing more is seen.
  pub first_seen-push : (xs : List X) (x : X) → first_seen same (xs ++ x ∷ []) ≡ insert_key same (first_seen same xs) x
  unfolding first_seen
  first_seen-push [] x = refl
  first_seen-push (y ∷ ys) x =
      ap (λ (l : List X). y ∷ filter (λ other. not (same y other)) l) (first_seen-push ys x) ∙ behind y x (first_seen same ys)

  -- Things more are seen.
  pub first_seen-append : (xs ys : List X) → insert_all same (first_seen same xs) ys ≡ first_seen same (xs ++ ys)
  first_seen-append xs [] = ap (first_seen same) (sym (append-nil xs))
  first_seen-append xs (y ∷ ys) =
      ap (λ (l : List X). insert_all same l ys) (sym (first_seen-push xs y))
      ∙ first_seen-append (xs ++ y ∷ []) ys
      ∙ ap (first_seen same) (append_assoc xs (y ∷ []) ys)

  -- Where a set holds what was seen first, it does so after further insertions.
  pub seen_more : (old new xs ys : List X) → old ≡ first_seen same xs → new ≡ insert_all same old ys
      → new ≡ first_seen same (xs ++ ys)
  seen_more old new xs ys before after =
      after ∙ ap (λ (l : List X). insert_all same l ys) before ∙ first_seen-append xs ys

  -- All that is inserted into an empty set is what was seen first.
  pub insert_all-nil : (xs : List X) → insert_all same [] xs ≡ first_seen same xs
  unfolding first_seen
  insert_all-nil xs = first_seen-append [] xs

  -- All that some things need was inserted into an empty set.
  pub table_done : {Y : Type 0} (needs : List Y → List X) (ys : List Y) (n : ℕ) (keys start : List X) → start ≡ [] → length ys ≤ n → keys ≡ insert_all same start (needs (take n ys)) → keys ≡ first_seen same (needs ys)
  table_done needs ys n keys start empty all is =
      is ∙ (λ i. insert_all same (empty i) (needs (take_all n ys all i))) ∙ insert_all-nil (needs ys)
