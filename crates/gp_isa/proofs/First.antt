-- The first number that passes a test.
use Rattle.std.proofs.Common.{◌≡◌, ℕ, zero, suc, ◌+◌, ◌<◌, ◌≤◌, ◌⊎◌, Bool, true, false, Option, Some, None, refl, sym, ap, ◌∙◌, subst, inl, inr, arith}
use Rattle.std.proofs.lemmas.Bool.{cases_lt}
use Rattle.gp_isa.specs.Calls.{first_from}

abbrev choose : Bool → Option ℕ → ℕ → Option ℕ
choose b rest from = elim b as (λ _. Option ℕ) [ true ↦ Some from | false ↦ rest ]

pub first_from-Some : (test : ℕ → Bool) (from n k : ℕ) → from ≤ k → k < from + n → test k ≡ true →
    ((j : ℕ) → from ≤ j → j < k → test j ≡ false) → first_from test from n ≡ Some k
first_from-Some test from zero k low high here before = absurd (omega arith)
first_from-Some test from (suc n) k low high here before =
    at (cases_lt from k) (λ later. first_from-Some test (suc from) n k (omega arith) (omega arith) here (λ j above below. before j (omega arith) below))
  where
    at : (from < k) ⊎ (k ≤ from) → (from < k → first_from test (suc from) n ≡ Some k) → first_from test from (suc n) ≡ Some k
    at (inl later) rest = ap (λ b. choose b (first_from test (suc from) n) from) (before from (omega arith) later) ∙ rest later
    at (inr now) rest =
        let same : k ≡ from = omega arith in
        ap (λ b. choose b (first_from test (suc from) n) from) (subst (λ j. test j ≡ true) same here) ∙ ap Some (sym same)

pub first_from-None : (test : ℕ → Bool) (from n : ℕ) → ((j : ℕ) → from ≤ j → j < from + n → test j ≡ false) → first_from test from n ≡ None
first_from-None test from zero none = refl
first_from-None test from (suc n) none =
    ap (λ b. choose b (first_from test (suc from) n) from) (none from (omega arith) (omega arith)) ∙
    first_from-None test (suc from) n (λ j above below. none j (omega arith) (omega arith))

-- tests that agree on the numbers looked at pass first at the same one
pub first_from-same : (p q : ℕ → Bool) (from n : ℕ) → ((j : ℕ) → p j ≡ q j) → first_from p from n ≡ first_from q from n
first_from-same p q from zero same = refl
first_from-same p q from (suc n) same =
    ap (λ b. choose b (first_from p (suc from) n) from) (same from) ∙ ap (λ rest. choose (q from) rest from) (first_from-same p q (suc from) n same)

-- where none passes, each fails
pub each_fails : (test : ℕ → Bool) (from n : ℕ) → first_from test from n ≡ None → (k : ℕ) → from ≤ k → k < from + n → test k ≡ false
each_fails test from zero none k low high = absurd (omega arith)
each_fails test from (suc n) none k low high = at (test from) refl (each_fails test (suc from) n)
  where
    at : (b : Bool) → test from ≡ b → (first_from test (suc from) n ≡ None → (j : ℕ) → suc from ≤ j → j < suc from + n → test j ≡ false) → test k ≡ false
    at true here rest =
        let never : Some from ≡ None = sym (ap (λ b. choose b (first_from test (suc from) n) from) here) ∙ none in absurd (cc)
    at false here rest = by (cases_lt from k)
      where
        by : (from < k) ⊎ (k ≤ from) → test k ≡ false
        by (inl later) = rest (sym (ap (λ b. choose b (first_from test (suc from) n) from) here) ∙ none) k later (omega arith)
        by (inr now) = let same : from ≡ k = omega arith in subst (λ j. test j ≡ false) same here
