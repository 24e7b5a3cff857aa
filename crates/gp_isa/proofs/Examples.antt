-- The worked traces, computed.
use Rattle.std.proofs.Common.{◌≡◌, ℕ, suc, Bool, true, false, ◌||◌, ◌==◌, List, [], ◌∷◌, Option, Some, refl, ap, ◌∙◌}
use Rattle.std.specs.List.{list_any}
use Rattle.gp_isa.specs.declared.parts.Parts.{Parts}
use Rattle.gp_isa.proofs.Actions.{action-work, action-call, action-loop, action-send, action-labels}
use Rattle.gp_isa.specs.Trace.{trace, trace_within}
use Rattle.gp_isa.specs.Calls.{reaches, callees, first_from, is_recursive}
use Rattle.gp_isa.specs.WorkedTraces.{looping, LoopOfACall, circular, FirstOfACircle}

reached : (parts : Parts) (n f h : ℕ) (called : List ℕ) → callees parts f ≡ called → reaches parts (suc n) f h ≡ list_any (λ g. (h == g) || reaches parts n g h) called
unfolding reaches
reached parts n f h called e = ap (list_any (λ g. (h == g) || reaches parts n g h)) e

not_here : (test : ℕ → Bool) (from n : ℕ) → test from ≡ false → first_from test from (suc n) ≡ first_from test (suc from) n
not_here test from n e = ap (λ b. elim b as (λ _. Option ℕ) [ true ↦ Some from | false ↦ first_from test (suc from) n ]) e

here : (test : ℕ → Bool) (from n : ℕ) → test from ≡ true → first_from test from (suc n) ≡ Some from
here test from n e = ap (λ b. elim b as (λ _. Option ℕ) [ true ↦ Some from | false ↦ first_from test (suc from) n ]) e

main_calls : callees looping 0 ≡ 1 ∷ []
main_calls = rw (action-labels, action-loop, action-call) refl

f_calls : callees looping 1 ≡ []
f_calls = rw (action-work, action-send) refl

pub loop_of_a_call : LoopOfACall looping
unfolding trace trace_within
loop_of_a_call = record {
  of_f = rw (action-work, action-send) refl;
  of_main = rw (action-labels, action-loop, action-call, action-work, action-send) refl;
  calls = main_calls;
  checked =
      not_here (is_recursive looping) 0 1 (reached looping 1 0 0 (1 ∷ []) main_calls ∙ ap (λ b. ((0 == 1) || b) || false) (reached looping 0 1 0 [] f_calls))
      ∙ not_here (is_recursive looping) 1 0 (reached looping 1 1 1 [] f_calls);
}

none_called : callees circular 0 ≡ []
none_called = rw action-work refl

g_called : callees circular 1 ≡ 2 ∷ []
g_called = rw action-call refl

f_called : callees circular 2 ≡ 1 ∷ []
f_called = rw action-call refl

pub first_of_a_circle : FirstOfACircle
first_of_a_circle =
    not_here (is_recursive circular) 0 2 (reached circular 2 0 0 [] none_called)
    ∙ here (is_recursive circular) 1 1 (reached circular 2 1 1 (2 ∷ []) g_called ∙ ap (λ b. ((1 == 2) || b) || false) (reached circular 1 2 1 (1 ∷ []) f_called))
