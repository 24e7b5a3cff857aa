-- What is rounded up is the next power of two.
use Rattle.std.proofs.Common.{◌≡◌, ◌⊎◌, inl, inr, ◌<◌, ◌≤◌, ◌+◌, ◌*◌, ◌/◌, ◌^◌, ℕ, zero, suc, Bool, true, false, nat_le, if◌then◌else◌, refl, sym, ap, ◌∙◌, subst, arith}
use Rattle.std.specs.Prelude.{max}
use Rattle.std.specs.Int.{IsNextPowerOfTwo}
use Rattle.std.proofs.Math.Nat.{pow-succ'}
use Rattle.std.proofs.Math.Pow.{pow_mono}
use Rattle.std.proofs.lemmas.Nat.{pow_pos}
use Rattle.std.proofs.lemmas.Bool.{cases_lt, leb-true, leb-false}
use Rattle.gp_samples.specs.RunRing.{rounded_from, rounded}
use Rattle.gp_samples.specs.RunRingLaw.{RoundedIsNext}

twice_halved : (a : ℕ) → (2 * a) / 2 ≡ a
twice_halved a = omega arith

module _ (n : ℕ) where
  from_next : (doublings k : ℕ) → n ≤ 2 ^ (k + doublings) → (2 ^ k) / 2 < max 1 n → IsNextPowerOfTwo n (rounded_from doublings (2 ^ k) n)
  from_next zero k enough least = ((k, refl), subst (λ m. n ≤ 2 ^ m) (let e : k + 0 ≡ k = omega arith in e) enough, least)
  from_next (suc doublings) k enough least = by (nat_le n (2 ^ k)) refl (λ more half. from_next doublings (suc k) more half)
    where
      by : (b : Bool) → nat_le n (2 ^ k) ≡ b → (n ≤ 2 ^ (suc k + doublings) → (2 ^ suc k) / 2 < max 1 n → IsNextPowerOfTwo n (rounded_from doublings (2 ^ suc k) n)) →
          IsNextPowerOfTwo n (if b then 2 ^ k else rounded_from doublings (2 * 2 ^ k) n)
      by true e later = ((k, refl), leb-true n (2 ^ k) e, least)
      by false e later =
          let above : 2 ^ k < n = leb-false n (2 ^ k) e in
          let more : k + suc doublings ≡ suc k + doublings = omega arith in
          let next : 2 ^ suc k ≡ 2 * 2 ^ k = pow-succ' 2 k in
          let half : (2 ^ suc k) / 2 < max 1 n = omega (arith, ap (λ m. m / 2) next, twice_halved (2 ^ k)) in
          subst (λ m. IsNextPowerOfTwo n (rounded_from doublings m n)) next
          (later (subst (λ m. n ≤ 2 ^ m) more enough) half)

pub rounded_is_next : RoundedIsNext
rounded_is_next n few = from_next n 32 0 few (omega arith)

-- there is one such power alone
no_less : (n a b : ℕ) → n ≤ 2 ^ a → (2 ^ b) / 2 < max 1 n → a < b → ⊥
no_less n a b enough least less =
    let up : 2 ^ suc a ≤ 2 ^ b = pow_mono (let e : suc a ≤ b = omega arith in e) in
    let next : 2 ^ suc a ≡ 2 * 2 ^ a = pow-succ' 2 a in
    let some = pow_pos a in
    absurd (omega arith)

pub is_rounded : (n p : ℕ) → n ≤ 2 ^ 32 → IsNextPowerOfTwo n p → p ≡ rounded n
is_rounded n p few next = by next (rounded_is_next n few)
  where
    same : (a b : ℕ) → n ≤ 2 ^ a → (2 ^ a) / 2 < max 1 n → n ≤ 2 ^ b → (2 ^ b) / 2 < max 1 n → a ≡ b
    same a b ea la eb lb = at (cases_lt a b) (cases_lt b a)
      where
        at : (a < b) ⊎ (b ≤ a) → (b < a) ⊎ (a ≤ b) → a ≡ b
        at (inl less) other = absurd (no_less n a b ea lb less)
        at (inr le) (inl less) = absurd (no_less n b a eb la less)
        at (inr le) (inr ge) = omega arith

    by : IsNextPowerOfTwo n p → IsNextPowerOfTwo n (rounded n) → p ≡ rounded n
    by ((a, p_is), ep, lp) ((b, q_is), eq, lq) =
        p_is
        ∙ ap (λ k. 2 ^ k) (same a b (subst (λ m. n ≤ m) p_is ep) (subst (λ m. m / 2 < max 1 n) p_is lp) (subst (λ m. n ≤ m) q_is eq) (subst (λ m. m / 2 < max 1 n) q_is lq))
        ∙ sym q_is
