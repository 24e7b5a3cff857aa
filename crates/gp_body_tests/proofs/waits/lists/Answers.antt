use Rattle.std.proofs.Common.{ℕ, List, [], ◌∷◌, length, IfOk, IfSome, Result, Ok, Err, ap, ◌∙◌}
use Rattle.std.specs.Result.{result_ok}
use Rattle.gp_sync.specs.WaitState.{WaitState, empty_lists}
use Rattle.gp_body_tests.proofs.waits.lists.Goals as goal

-- what is known of an Ok's value is known of it without the error
ok_then : {X Y : Type 0} (r : Result X Y) (P Q : X → Type 0) → ((x : X) → P x → Q x) → IfOk r P → IfSome (result_ok r) Q
ok_then (Ok x) P Q then p = then x p
ok_then (Err e) P Q then p = tt

pub returns : goal.returns
returns c =
    let program = c.in_ok-program.program in
    rw c.ok.ensures.value
    (ok_then c.new.result _ _
    (λ (lists : WaitState) is.
    is
    ∙ ap (λ (capacities : List ℕ). empty_lists 8 capacities (length program.mutexes)) c.in_ok-program.ensures.channels
    ∙ ap (λ (mutexes : ℕ). empty_lists 8 (1 ∷ 0 ∷ []) mutexes) c.in_ok-program.ensures.mutex)
    c.new.ensures)
