-- Where a key stands in a list of which no two are the same.
use Rattle.std.proofs.Common.{◌≡◌, ◌+◌, ◌<◌, ℕ, zero, suc, Bool, true, false, not, ◌||◌, cond, List, [], ◌∷◌, length, get_or, Some, None, unwrap_or, nat_lt, refl, sym, ap, ◌∙◌, true≢false, lt-ltb, arith}
use Rattle.std.specs.List.{list_any, AllByRecursion, IsDistinct, position_or_len}
use Rattle.std.specs.Cmp.{IsEquivalence}
use Rattle.gp_build.specs.FirstNeed.{place_in}

module _ {X : Type 0} {same : X → X → Bool} (laws : IsEquivalence same) (x : X) where
  -- What is the same as a key is there.
  pub any-at : (keys : List X) (i : ℕ) (d : X) → i < length keys → same x (get_or keys i d) ≡ true → list_any (same x) keys ≡ true
  any-at [] i d lt e = absurd (omega arith)
  any-at (k ∷ ks) zero d lt e = ap (λ (b : Bool). b || list_any (same x) ks) e
  any-at (k ∷ ks) (suc i) d lt e = by (same x k) (any-at ks i d (omega arith) e)
    where
      by : (b : Bool) → list_any (same x) ks ≡ true → (b || list_any (same x) ks) ≡ true
      by true rest = refl
      by false rest = rest

  all-at : (P : X → Type 0) (keys : List X) (i : ℕ) (d : X) → i < length keys → AllByRecursion P keys → P (get_or keys i d)
  all-at P [] i d lt all = absurd (omega arith)
  all-at P (k ∷ ks) zero d lt all = all.0
  all-at P (k ∷ ks) (suc i) d lt all = all-at P ks i d (omega arith) all.1

  or_len-at : (keys : List X) (i : ℕ) (d : X) → IsDistinct same keys → i < length keys → same x (get_or keys i d) ≡ true → position_or_len (same x) keys ≡ i
  unfolding IsDistinct
  or_len-at [] i d distinct lt e = absurd (omega arith)
  or_len-at (k ∷ ks) zero d distinct lt e = ap (λ (b : Bool). cond (not b) (1 + position_or_len (same x) ks) 0) e
  or_len-at (k ∷ ks) (suc i) d distinct lt e = by (same x k) refl (or_len-at ks i d distinct.1 (omega arith) e)
    where
      apart : same x k ≡ true → true ≡ false
      apart alike = sym e ∙ laws.congr x k (get_or ks i d) alike ∙ all-at (λ z. same k z ≡ false) ks i d (omega arith) distinct.0

      by : (b : Bool) → same x k ≡ b → position_or_len (same x) ks ≡ i → cond (not b) (1 + position_or_len (same x) ks) 0 ≡ suc i
      by true alike rest = absurd (true≢false (apart alike))
      by false alike rest = ap (λ (n : ℕ). 1 + n) rest ∙ omega arith

  -- The place of what is the same as a key is that key's.
  pub place-at : (keys : List X) (i : ℕ) (d : X) → IsDistinct same keys → i < length keys → same x (get_or keys i d) ≡ true → place_in same keys x ≡ i
  place-at keys i d distinct lt e =
      ap (λ (n : ℕ). unwrap_or (cond (nat_lt n (length keys)) (Some n) None) 0) (or_len-at keys i d distinct lt e)
      ∙ ap (λ (b : Bool). unwrap_or (cond b (Some i) None) 0) (lt-ltb i (length keys) lt)
