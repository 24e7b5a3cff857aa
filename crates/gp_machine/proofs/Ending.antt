-- Where a trace ends, and what is left of a list.
use Rattle.std.proofs.Common.{◌≡◌, ◌⊎◌, inl, inr, arith, ◌<◌, ◌≤◌, get_or, ℕ, ◌+◌, List, [], ◌∷◌, length, drop, refl, sym, ap, ◌∙◌, nat_le, zero, suc}
use Rattle.std.proofs.Math.Seq.{drop-nil}
use native.Mathlib.Numerals.{unary_clauses}
use Rattle.gp_isa.specs.declared.parts.Parts.{Parts}
use Rattle.gp_isa.specs.Trace.{trace}
use Rattle.gp_isa.proofs.NamedThere.{trace-past}
use Rattle.std.proofs.lemmas.Bool.{cases_lt}
use Rattle.std.proofs.lemmas.List.{get_or_past}
use Rattle.gp_stack.specs.Goroutine.{is_ended}
use Rattle.gp_journal.specs.declared.goroutine.Goroutine.{Goroutine}
use Rattle.gp_journal.specs.State.{code_of}
use Rattle.gp_journal.specs.Effect.{is_over_after}

-- a trace ends where it has no more points
pub ends_after : (program : Parts) (n : ℕ) (g : Goroutine) → is_over_after (code_of program) n g ≡ nat_le (length (trace program g.start)) (g.count + n)
unfolding is_ended
ends_after program n g = refl

-- one more dropped
next_drop : {X : Type 0} (n : ℕ) (xs : List X) → drop (suc n) xs ≡ drop 1 (drop n xs)
next_drop zero xs = refl
next_drop (suc n) [] = drop-nil (suc (suc n)) ∙ sym (drop-nil 1) ∙ sym (ap (drop 1) (drop-nil (suc n)))
next_drop (suc n) (x ∷ xs) = next_drop n xs

pub one_less : {X : Type 0} (n : ℕ) (xs : List X) → drop (n + 1) xs ≡ drop 1 (drop n xs)
one_less n xs = simp unary_clauses (next_drop n xs)

-- Numbers of points that are right for each function there is are right for the others too, which have none.
pub all_lengths : (program : Parts) (lengths : List ℕ) → length program.functions ≤ length lengths → ((k : ℕ) → k < length lengths → get_or lengths k 0 ≡ length (trace program k)) → (f : ℕ) → get_or lengths f 0 ≡ length (trace program f)
all_lengths program lengths all each f = at (cases_lt f (length lengths))
  where
    at : (f < length lengths) ⊎ (length lengths ≤ f) → get_or lengths f 0 ≡ length (trace program f)
    at (inl within) = each f within
    at (inr past) = get_or_past lengths f 0 past ∙ sym (ap length (trace-past program f (omega arith)))
