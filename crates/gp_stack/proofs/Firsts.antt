-- A look at points of which the first shared one is known, with how many local ones come before it.
use Rattle.std.proofs.Common.{◌≡◌, ◌<◌, ◌≤◌, ◌+◌, ℕ, zero, suc, cond, List, [], ◌∷◌, Option, Some, None, refl, sym, ap, ap₂, ◌∙◌, arith}
use Rattle.gp_isa.specs.declared.size.Shared.{Shared}
use Rattle.gp_isa.specs.Size.{shared_of, local_before, first_shared}
use Rattle.gp_isa.specs.Trace.{Instruction, Local as LocalPoint, Labels, Send, Recv, Lock, Unlock, Spawn, Point, is_local}
use Rattle.gp_stack.specs.declared.peek.Peek.{Peek}
use Rattle.gp_stack.specs.declared.peek.Then.{Then}
use Rattle.gp_stack.specs.declared.peek.Then.TheVariants.{Local, Shared as SharedThen, Over}
use Rattle.gp_stack.specs.declared.statement.Operation.{Operation}
use Rattle.gp_stack.specs.Peek.{operation_of}
use Rattle.gp_stack.specs.kept.Looks.{steps, one_local, peek_of, operation_as}

abbrev found : ℕ → Then → Peek
found n then' = record { local = n; then = then' }

-- a local point more, and a limit that is one higher
one_more : (rest : List (Option Operation)) (n limit : ℕ) (then' : Then) → found n then' ≡ peek_of rest limit → found (n + 1) then' ≡ peek_of (None ∷ rest) (suc limit)
one_more rest n limit then' is = ap (λ (p : Peek). found (p.local + 1) p.then) is

-- where the limit comes first
short_at : (i : Instruction) (rest : List (Option Operation)) (before limit : ℕ) → ((l : ℕ) → l < before → found l Local ≡ peek_of rest l) → limit < cond (is_local i) (before + 1) 0 →
    found limit Local ≡ peek_of (operation_of i ∷ rest) limit
short_at LocalPoint rest before zero is less = refl
short_at LocalPoint rest before (suc l) is less = let one : suc l ≡ l + 1 = omega arith in ap (λ n. found n Local) one ∙ one_more rest l l Local (is l (omega arith))
short_at (Labels set) rest before zero is less = refl
short_at (Labels set) rest before (suc l) is less = let one : suc l ≡ l + 1 = omega arith in ap (λ n. found n Local) one ∙ one_more rest l l Local (is l (omega arith))
short_at (Send c) rest before limit is less = absurd (omega arith)
short_at (Recv c) rest before limit is less = absurd (omega arith)
short_at (Lock m) rest before limit is less = absurd (omega arith)
short_at (Unlock m) rest before limit is less = absurd (omega arith)
short_at (Spawn f) rest before limit is less = absurd (omega arith)

pub first_short : (points : List Point) (limit : ℕ) → limit < local_before points → found limit Local ≡ peek_of (steps points) limit
first_short [] limit less = absurd (omega arith)
first_short (p ∷ points) limit less = short_at p.instruction (steps points) (local_before points) limit (first_short points) less

-- what the first shared point is told to be
abbrev then_of : Option Shared → Then
then_of None = Over
then_of (Some s) = SharedThen (operation_as s)

-- where the shared point, or the end, comes first
long_at : (i : Instruction) (rest : List (Option Operation)) (before limit : ℕ) (first : Option Shared) → ((l : ℕ) → before ≤ l → found before (then_of first) ≡ peek_of rest l) → cond (is_local i) (before + 1) 0 ≤ limit →
    found (cond (is_local i) (before + 1) 0) (then_of (cond (is_local i) first (shared_of i))) ≡ peek_of (operation_of i ∷ rest) limit
long_at LocalPoint rest before zero first is less = absurd (omega arith)
long_at LocalPoint rest before (suc l) first is less = one_more rest before l (then_of first) (is l (omega arith))
long_at (Labels set) rest before zero first is less = absurd (omega arith)
long_at (Labels set) rest before (suc l) first is less = one_more rest before l (then_of first) (is l (omega arith))
long_at (Send c) rest before limit first is less = refl
long_at (Recv c) rest before limit first is less = refl
long_at (Lock m) rest before limit first is less = refl
long_at (Unlock m) rest before limit first is less = refl
long_at (Spawn f) rest before limit first is less = refl

first_long : (points : List Point) (limit : ℕ) → local_before points ≤ limit → found (local_before points) (then_of (first_shared points)) ≡ peek_of (steps points) limit
first_long [] limit less = refl
first_long (p ∷ points) limit less = long_at p.instruction (steps points) (local_before points) limit (first_shared points) (first_long points) less

pub first_found : (points : List Point) (limit n : ℕ) (o : Operation) (s : Shared) → n ≡ local_before points → n ≤ limit → first_shared points ≡ Some s → o ≡ operation_as s → found n (SharedThen o) ≡ peek_of (steps points) limit
first_found points limit n o s is less told as' =
    ap₂ found is (ap SharedThen as' ∙ ap then_of (sym told)) ∙ first_long points limit (omega arith)

pub first_none : (points : List Point) (limit n : ℕ) → n ≡ local_before points → n ≤ limit → first_shared points ≡ None → found n Over ≡ peek_of (steps points) limit
first_none points limit n is less told = ap₂ found is (ap then_of (sym told)) ∙ first_long points limit (omega arith)
