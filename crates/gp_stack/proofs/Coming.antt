-- What a look at the next point tells.
use Rattle.std.proofs.Common.{◌≡◌, ◌+◌, ◌≤◌, ℕ, zero, suc, true, false, List, [], ◌∷◌, length, take, Option, Some, None, refl, sym, ap, ◌∙◌, subst, arith, true≢false}
use Rattle.std.proofs.lemmas.Bool.{le-leb, leb-true}
use Rattle.std.proofs.Math.Dec.{leb-suc-suc, leb-suc-zero}
use Rattle.std.proofs.lemmas.List.{get_or_past}
use Rattle.std.proofs.Math.Seq.{take-nil}
use Rattle.gp_isa.specs.Trace.{Instruction, Point, Local, Labels, Send, Recv, Lock, Unlock, Spawn, is_local}
use Rattle.gp_stack.specs.Goroutine.{next_point, is_ended, no_point, stack_of}
use Rattle.gp_stack.specs.Body.{IsAtShared}
use Rattle.gp_stack.specs.Peek.{operation_of, then_is, then_at}
use Rattle.gp_stack.specs.declared.peek.Then.{Then}
use Rattle.gp_stack.specs.declared.peek.Then.TheVariants as follows
use Rattle.gp_stack.specs.declared.statement.Operation.{Operation}

-- what follows tells of a point
unfoldable pub Tells : List Point → ℕ → Then → Type 0
Tells points count follows.Local = (is_ended points count ≡ false) × (operation_of (next_point points count).instruction ≡ None)
Tells points count (follows.Shared o) = (is_ended points count ≡ false) × (operation_of (next_point points count).instruction ≡ Some o)
Tells points count follows.Over = is_ended points count ≡ true

told_by : (points : List Point) (count : ℕ) (found : Option Operation) → is_ended points count ≡ false → operation_of (next_point points count).instruction ≡ found → Tells points count (then_is found)
unfolding Tells
told_by points count None going same = (going, same)
told_by points count (Some o) going same = (going, same)

further : (p : Point) (ps : List Point) (count : ℕ) (found : Then) → Tells ps count found → Tells (p ∷ ps) (suc count) found
unfolding is_ended next_point Tells
further p ps count follows.Local tells = (leb-suc-suc (length ps) count ∙ tells.0, tells.1)
further p ps count (follows.Shared o) tells = (leb-suc-suc (length ps) count ∙ tells.0, tells.1)
further p ps count follows.Over tells = leb-suc-suc (length ps) count ∙ tells

pub told_at : (points : List Point) (count : ℕ) → Tells points count (then_at points count)
unfolding then_at is_ended next_point Tells
told_at [] zero = refl
told_at [] (suc count) = le-leb 0 (suc count) (omega arith)
told_at (p ∷ ps) zero = told_by (p ∷ ps) zero (operation_of p.instruction) (leb-suc-zero (length ps)) refl
told_at (p ∷ ps) (suc count) = further p ps count (then_at ps count) (told_at ps count)

-- a look at the very next point
pub told : (points : List Point) (count k : ℕ) (found : Then) → found ≡ then_at points (count + k) → k ≤ 0 → Tells points count found
told points count k found e none =
    let same : count + k ≡ count = omega arith in
    subst (Tells points count) (sym (e ∙ ap (then_at points) same)) (told_at points count)

-- that is shared
pub at_shared : (points : List Point) (count : ℕ) → IsAtShared points count → (found : Then) → Tells points count found → (o : Operation) → found ≡ follows.Shared o → operation_of (next_point points count).instruction ≡ Some o
unfolding Tells
at_shared points count shared found tells o e = (subst (Tells points count) e tells).1

no_operation : (i : Instruction) → is_local i ≡ false → operation_of i ≡ None → ⊥
no_operation Local shared e = absurd (true≢false shared)
no_operation (Labels s) shared e = absurd (true≢false shared)
no_operation (Send c) shared e = absurd (cc)
no_operation (Recv c) shared e = absurd (cc)
no_operation (Lock m) shared e = absurd (cc)
no_operation (Unlock m) shared e = absurd (cc)
no_operation (Spawn f) shared e = absurd (cc)

pub not_local : (points : List Point) (count : ℕ) → IsAtShared points count → (found : Then) → Tells points count found → found ≡ follows.Local → ⊥
unfolding Tells
not_local points count shared found tells e = no_operation (next_point points count).instruction shared.shared ((subst (Tells points count) e tells).1)

pub not_over : (points : List Point) (count : ℕ) → IsAtShared points count → (found : Then) → Tells points count found → found ≡ follows.Over → ⊥
unfolding Tells
not_over points count shared found tells e = absurd (true≢false (sym (subst (Tells points count) e tells) ∙ shared.going))

pub over_ended : (points : List Point) (count : ℕ) (found : Then) → Tells points count found → found ≡ follows.Over → is_ended points count ≡ true
unfolding Tells
over_ended points count found tells e = subst (Tells points count) e tells

pub local_going : (points : List Point) (count : ℕ) (found : Then) → Tells points count found → found ≡ follows.Local → is_ended points count ≡ false
unfolding Tells
local_going points count found tells e = (subst (Tells points count) e tells).0

pub shared_going : (points : List Point) (count : ℕ) (found : Then) (o : Operation) → Tells points count found → found ≡ follows.Shared o → is_ended points count ≡ false
unfolding Tells
shared_going points count found o tells e = (subst (Tells points count) e tells).0

-- past its end a trace has no stack
pub no_stack : (points : List Point) (count m : ℕ) → is_ended points count ≡ true → take m (stack_of points count) ≡ []
unfolding is_ended stack_of next_point
no_stack points count m ended = ap (λ (p : Point). take m p.stack) (get_or_past points count no_point (leb-true (length points) count ended)) ∙ take-nil m
