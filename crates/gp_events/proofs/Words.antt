-- The words of a generator, one after another.
use Rattle.std.proofs.Common.{◌≡◌, ◌+◌, ℕ, zero, suc, refl, sym, ap}
use Rattle.rand_pcg.specs.Lcg.{Lcg, next_state, state_after, next, advance}
use Rattle.rand_pcg.specs.Pcg.{multiplier_64, output_xsh_rr}
use Rattle.gp_events.specs.Fraction.{generator, word, behind_next, choice_after}
use Rattle.gp_events.specs.FractionLaw.{ChoicesAreNumbered, FirstWords}
use native.Mathlib.Numerals.{unary_clauses}

pub no_step : (g : Lcg) → advance 64 multiplier_64 0 g ≡ g
unfolding state_after
no_step g = refl

state_next : (w m increment n state : ℕ) → state_after w m increment (suc n) state ≡ next_state w m increment (state_after w m increment n state)
unfolding state_after
state_next w m increment zero state = refl
state_next w m increment (suc n) state = state_next w m increment n (next_state w m increment state)

pub one_step : (n : ℕ) (g : Lcg) → advance 64 multiplier_64 (n + 1) g ≡ next 64 multiplier_64 (advance 64 multiplier_64 n g)
one_step n g = simp unary_clauses (ap (λ s. record g { state = s }) (state_next 64 multiplier_64 g.increment n g.state))

-- The word at a place is the output of the generator that has gone so far.
pub word_is : (seed k : ℕ) → word seed k ≡ output_xsh_rr (advance 64 multiplier_64 k (generator seed)).state
unfolding word
word_is seed k = refl

pub goes_on : (seed f k : ℕ) → behind_next (choice_after seed f k) ≡ choice_after seed f (k + 1)
goes_on seed f k =
    λ i. record {
      f = f;
      word = sym (word_is seed (k + 1)) i;
      behind = sym (one_step (k + 1) (generator seed)) i;
    }

pub choices_are_numbered : ChoicesAreNumbered
choices_are_numbered seed f k = record { kept = refl; behind = goes_on seed f k }

pub first_words : FirstWords
unfolding word state_after
first_words = refl
