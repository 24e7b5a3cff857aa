-- Counts modulo the length of a ring.
use Rattle.std.proofs.Common.{◌≡◌, ℕ, ◌+◌, ◌-◌, ◌%◌, ◌<◌, ◌≤◌, ap, sym, ◌∙◌, arith, inl, inr}
use Rattle.std.proofs.Math.Nat.{mod-add-mod, mod-eq_of_lt, mod-eq-sub-mod, mod_self, mod-lt}
use Rattle.std.proofs.lemmas.Bool.{cases_lt}

-- a count that goes on within its round
pub mod-add : (c i m : ℕ) → c % m + i < m → (c + i) % m ≡ c % m + i
mod-add c i m h = sym (mod-add-mod c m i) ∙ mod-eq_of_lt h

-- and to the end of its round
pub mod-up : (c m : ℕ) → 0 < m → (c + (m - c % m)) % m ≡ 0
mod-up c m h =
    let r : c % m < m = mod-lt c h in
    let e : c % m + (m - c % m) ≡ m = omega arith in
    sym (mod-add-mod c m (m - c % m)) ∙ ap (λ (k : ℕ). k % m) e ∙ mod_self m

over : (r d m : ℕ) → r < m → 0 < d → d < m → m ≤ r + d → (r + d) % m ≡ r → ⊥
over r d m a b c e f =
    let x : (r + d) % m ≡ (r + d - m) % m = mod-eq-sub-mod e in
    let l : r + d - m < m = omega arith in
    let y : (r + d - m) % m ≡ r + d - m = mod-eq_of_lt l in
    let z : r + d - m ≡ r = sym y ∙ sym x ∙ f in
    omega arith

under : (r d m : ℕ) → 0 < d → r + d < m → (r + d) % m ≡ r → ⊥
under r d m b e f = let y : (r + d) % m ≡ r + d = mod-eq_of_lt e in let z : r + d ≡ r = sym y ∙ f in omega arith

-- counts less than a round apart lie at different places
pub mod-differ : (j k m : ℕ) → j < k → k < j + m → j % m ≡ k % m → ⊥
mod-differ j k m a b e =
    let pos : 0 < m = omega arith in
    let r : j % m < m = mod-lt j pos in
    let d = k - j in
    let s : j + (k - j) ≡ k = omega arith in
    let f : (j % m + (k - j)) % m ≡ j % m = mod-add-mod j m (k - j) ∙ ap (λ (x : ℕ). x % m) s ∙ sym e in
    elim (cases_lt (j % m + (k - j)) m) as (λ _. ⊥) [
      | inl x ↦ under (j % m) (k - j) m (omega arith) x f
      | inr x ↦ over (j % m) (k - j) m r (omega arith) (omega arith) x f
    ]
