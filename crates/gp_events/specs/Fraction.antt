-- Which of the events that come are kept, where one in so many is: the words of a generator tell.
use Rattle.std.specs.Prelude.{◌+◌, ◌%◌, ◌==◌, ℕ, Bool}
use Rattle.rand_pcg.specs.Lcg.{Lcg, started, advance, increment_of}
use Rattle.rand_pcg.specs.Pcg.{multiplier_64, output_xsh_rr, pcg32}

-- PCG32 at a seed, on stream 54
abbrev pub generator : ℕ → Lcg
generator seed = started 64 multiplier_64 seed (increment_of 64 54)

-- its words, counted from 0
unfoldable pub word : ℕ → ℕ → ℕ
word seed k = output_xsh_rr (advance 64 multiplier_64 k (generator seed)).state

-- Event k, counted from 0, is kept where word k modulo the fraction is 0.
abbrev pub is_kept : ℕ → ℕ → ℕ → Bool
is_kept seed f k = word seed k % f == 0

-- What a choice keeps: the fraction, the word of the next event, and the generator behind it.
pub record Choice : Type 0 where
  pub f : ℕ
  pub word : ℕ
  pub behind : Lcg

-- whether the next event is kept
abbrev pub keeps_next : Choice → Bool
keeps_next choice = choice.word % choice.f == 0

-- the choice once it came
abbrev pub behind_next : Choice → Choice
behind_next choice = record choice { word = (pcg32 choice.behind).0; behind = (pcg32 choice.behind).1 }

-- the choice of a fraction at a seed, once k events came
abbrev pub choice_after : ℕ → ℕ → ℕ → Choice
choice_after seed f k = record { f = f; word = word seed k; behind = advance 64 multiplier_64 (k + 1) (generator seed) }
