-- The words of a generator, one after another, and where a number of a run comes from.
use Rattle.std.proofs.Common.{◌≡◌, ◌⊎◌, inl, inr, ◌<◌, ◌≤◌, ◌+◌, ◌-◌, ℕ, slice_get, zero, suc, length, get_or, Some, None, refl, sym, ap, ◌∙◌, arith}
use Rattle.std.proofs.lemmas.Bool.{lt-ltb, le-ltb, cases_lt}
use Rattle.std.proofs.lemmas.Option.{get_or_from_slice_get, slice_get_within, slice_get-get_or}
use Rattle.rand_pcg.specs.Lcg.{Lcg, next_state, state_after, next, advance}
use Rattle.rand_pcg.specs.Pcg.{multiplier_64, output_xsh_rr, pcg32}
use Rattle.gp_journal.specs.declared.settings.Settings.{Settings}
use Rattle.gp_sim.specs.Choice.{number, seeded}
use native.Mathlib.Numerals.{unary_clauses}

pub no_step : (g : Lcg) → advance 64 multiplier_64 0 g ≡ g
unfolding state_after
no_step g = refl

state_next : (w m increment n state : ℕ) → state_after w m increment (suc n) state ≡ next_state w m increment (state_after w m increment n state)
unfolding state_after
state_next w m increment zero state = refl
state_next w m increment (suc n) state = state_next w m increment n (next_state w m increment state)

pub one_step : (n : ℕ) (g : Lcg) → advance 64 multiplier_64 (n + 1) g ≡ next 64 multiplier_64 (advance 64 multiplier_64 n g)
one_step n g = simp unary_clauses (ap (λ s. record g { state = s }) (state_next 64 multiplier_64 g.increment n g.state))

-- a number is a pick where one is left
pub is_pick : (settings : Settings) (k : ℕ) → k < length settings.picks → number settings k ≡ get_or settings.picks k 0
unfolding number
is_pick settings k within = rw (lt-ltb k (length settings.picks) within) refl

-- and else a word of the generator
pub is_word : (settings : Settings) (k : ℕ) → length settings.picks ≤ k → number settings k ≡ output_xsh_rr (advance 64 multiplier_64 (k - length settings.picks) (seeded settings)).state
unfolding number
is_word settings k past = rw (le-ltb k (length settings.picks) past) refl

-- what is found among the picks
pub picked : (settings : Settings) (k pick : ℕ) → slice_get settings.picks k ≡ Some pick → pick ≡ number settings k
picked settings k pick e = sym (get_or_from_slice_get settings.picks k pick 0 e) ∙ sym (is_pick settings k (slice_get_within settings.picks k pick e))

pub none_left : (settings : Settings) (k : ℕ) → slice_get settings.picks k ≡ None → length settings.picks ≤ k
none_left settings k e = at (cases_lt k (length settings.picks))
  where
    at : (k < length settings.picks) ⊎ (length settings.picks ≤ k) → length settings.picks ≤ k
    at (inl within) = let some = sym (slice_get-get_or settings.picks k 0 within) ∙ e in absurd (cc)
    at (inr past) = past

-- a word of the generator, and the generator behind it
pub drawn : (settings : Settings) (k : ℕ) (generator : Lcg) → slice_get settings.picks k ≡ None → generator ≡ advance 64 multiplier_64 (k - length settings.picks) (seeded settings) →
    ((pcg32 generator).0 ≡ number settings k) × ((pcg32 generator).1 ≡ advance 64 multiplier_64 (k + 1 - length settings.picks) (seeded settings))
drawn settings k generator e same =
    let past = none_left settings k e in
    let next_place : k + 1 - length settings.picks ≡ k - length settings.picks + 1 = omega arith in (
      ap (λ (g : Lcg). output_xsh_rr g.state) same ∙ sym (is_word settings k past),
      ap (next 64 multiplier_64) same ∙ sym (one_step (k - length settings.picks) (seeded settings)) ∙ ap (λ n. advance 64 multiplier_64 n (seeded settings)) (sym next_place),
    )
