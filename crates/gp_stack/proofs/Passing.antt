-- Points of work that are passed many at once.
use Rattle.std.proofs.Common.{◌≡◌, ◌<◌, ◌≤◌, ◌+◌, ◌*◌, ◌/◌, min, ◌&&◌, ℕ, zero, suc, true, List, [], ◌∷◌, ◌++◌, length, map, refl, ap, sym, ◌∙◌, arith, subst, length-append}
use Rattle.std.proofs.Math.Nat.{div-mul-le_self}
use Rattle.std.proofs.lemmas.Nat.{le-div, mul-le}
use Rattle.std.proofs.lemmas.Bool.{and_parts, and_from}
use Rattle.std.proofs.lemmas.List.{append_assoc, append-nil, length-map, map-append}
use Rattle.gp_isa.specs.declared.frame.Frame.{Frame}
use Rattle.gp_isa.specs.declared.parts.Parts.{Parts}
use Rattle.gp_isa.specs.Size.{is_work, all_pass}
use Rattle.gp_isa.specs.declared.statement.Stmt.{Stmt}
use Rattle.gp_isa.specs.Block.{between}
use Rattle.gp_isa.specs.Trace.{Instruction, Local, Labels, Send, Recv, Lock, Unlock, Spawn, Point, called_at, repeated}
use Rattle.gp_isa.proofs.Sizes.{all_pass-append, all_pass-called}
use Rattle.gp_stack.specs.declared.level.Level.{Level}
use Rattle.gp_stack.specs.Goroutine.{set_after, set_after_all}
use Rattle.gp_stack.specs.kept.Level.{is_base, body_at, callers, called_from, points_of_statements, left_here, left}
use Rattle.gp_stack.specs.kept.Passing.{WorkBefore, Passes, AreWork, IsWorkRun, IsWorkTurn}
use Rattle.gp_stack.proofs.Moves.{left_run, left_cons, here_end, body_turning}

-- where no point is passed
pub work_none : (points : List Point) → WorkBefore points points 0
work_none points = record { points = []; split = refl; count = refl; work = refl }

pub passes_none : (parts : Parts) (before after : List Level) → left parts after ≡ left parts before → Passes parts before after 0
passes_none parts before after same = subst (λ rest. WorkBefore (left parts before) rest 0) (sym same) (work_none (left parts before))

-- a move that passes no point, behind others
pub passes_to : (parts : Parts) (before between after : List Level) (n : ℕ) → left parts after ≡ left parts between → Passes parts before between n → Passes parts before after n
passes_to parts before between after n same passes = subst (λ rest. WorkBefore (left parts before) rest n) (sym same) passes

pub none_passed : (parts : Parts) (before after : List Level) (n : ℕ) → Passes parts before after n → n ≤ 0 → left parts after ≡ left parts before
none_passed parts before after n passes few = at passes.points passes.split passes.count
  where
    at : (points : List Point) → left parts before ≡ points ++ left parts after → length points ≡ n → left parts after ≡ left parts before
    at [] split count = sym split
    at (p ∷ points) split count = absurd (omega arith)

-- and then more points
pub work_more : (whole between rest : List Point) (n m : ℕ) → WorkBefore whole between n → WorkBefore between rest m → WorkBefore whole rest (n + m)
work_more whole between rest n m first second = record {
  points = first.points ++ second.points;
  split = first.split ∙ (ap (λ xs. first.points ++ xs) second.split ∙ sym (append_assoc first.points second.points rest));
  count = length-append first.points second.points ∙ omega (arith, first.count, second.count);
  work = all_pass-append is_work first.points second.points ∙ and_from (all_pass is_work first.points) (all_pass is_work second.points) first.work second.work;
}

pub work_piece : (whole points rest : List Point) (n : ℕ) → whole ≡ points ++ rest → AreWork points n → WorkBefore whole rest n
work_piece whole points rest n split are = record { points = points; split = split; count = are.count; work = are.work }

pub work_whole : (whole : List Point) (n : ℕ) → WorkBefore whole [] n → AreWork whole n
work_whole whole n before = subst (λ points. AreWork points n) (sym (before.split ∙ append-nil before.points)) (record { count = before.count; work = before.work })

-- turns of work
pub work_times : (points : List Point) (k n : ℕ) → AreWork points n → AreWork (repeated k points) (k * n)
work_times points zero n are = record { count = omega arith; work = refl }
work_times points (suc k) n are =
    let more : AreWork (repeated k points) (k * n) = work_times points k n are in
    record {
      count = length-append points (repeated k points) ∙ omega (arith, are.count, more.count);
      work = all_pass-append is_work points (repeated k points) ∙ and_from (all_pass is_work points) (all_pass is_work (repeated k points)) are.work more.work;
    }

repeated_add : (k r : ℕ) (points : List Point) → repeated (k + r) points ≡ repeated k points ++ repeated r points
repeated_add zero r points = let none : 0 + r ≡ r = omega arith in rw none refl
repeated_add (suc k) r points = let one : suc k + r ≡ suc (k + r) = omega arith in rw one (ap (λ xs. points ++ xs) (repeated_add k r points) ∙ sym (append_assoc points (repeated k points) (repeated r points)))

all_pass-called_from : (frames : List Frame) (points : List Point) → all_pass is_work (map (called_from frames) points) ≡ all_pass is_work points
all_pass-called_from frames [] = refl
all_pass-called_from frames (p ∷ points) = ap (λ b. is_work p.instruction && b) (all_pass-called_from frames points)

pub work_called_from : (frames : List Frame) (points : List Point) (n : ℕ) → AreWork points n → AreWork (map (called_from frames) points) n
work_called_from frames points n are = record {
  count = length-map points (called_from frames) ∙ are.count;
  work = all_pass-called_from frames points ∙ are.work;
}

pub work_call_at : (f line : ℕ) (points : List Point) (n : ℕ) → AreWork points n → AreWork (map (called_at f line) points) n
work_call_at f line points n are = record {
  count = length-map points (called_at f line) ∙ are.count;
  work = all_pass-called is_work f line points ∙ are.work;
}

-- turns that are passed whole
pub passes_turns : (parts : Parts) (level : Level) (outer : List Level) (n k r : ℕ) → IsWorkTurn parts level outer n → level.turns ≡ k + r → Passes parts (level ∷ outer) (record level { turns = r } ∷ outer) (k * n)
passes_turns parts level outer n k r turn split =
    let body : List Stmt = body_at parts level outer in
    let points : List Point = points_of_statements parts level body in
    let called : List Point → List Point = map (called_from (callers parts (is_base level) outer)) in
    let here : left_here parts level body ≡ repeated k points ++ repeated r points =
    here_end parts level body turn.over ∙ (ap (λ m. repeated m points) split ∙ repeated_add k r points) in
    let rest : left parts (record level { turns = r } ∷ outer) ≡ called (repeated r points) ++ left parts outer =
    left_cons parts (record level { turns = r }) outer ∙ ap (λ xs. called xs ++ left parts outer)
    (ap (left_here parts (record level { turns = r })) (body_turning parts level r outer) ∙ here_end parts (record level { turns = r }) body turn.over) in
    let whole : left parts (level ∷ outer) ≡ called (repeated k points) ++ left parts (record level { turns = r } ∷ outer) =
    left_cons parts level outer ∙ (ap (λ xs. called xs ++ left parts outer) here ∙
    (ap (λ xs. xs ++ left parts outer) (map-append (called_from (callers parts (is_base level) outer)) (repeated k points) (repeated r points)) ∙
    (append_assoc (called (repeated k points)) (called (repeated r points)) (left parts outer) ∙ ap (λ xs. called (repeated k points) ++ xs) (sym rest)))) in
    work_piece (left parts (level ∷ outer)) (called (repeated k points)) (left parts (record level { turns = r } ∷ outer)) (k * n) whole
    (work_called_from (callers parts (is_base level) outer) (repeated k points) (k * n) (work_times points k n turn.work))

-- statements whose points are work are passed at once
pub passes_run : (parts : Parts) (level : Level) (outer : List Level) (to n : ℕ) → IsWorkRun parts level outer to n → Passes parts (level ∷ outer) (record level { at = to } ∷ outer) n
passes_run parts level outer to n run =
    let points : List Point = points_of_statements parts level (between level.at to (body_at parts level outer)) in
    work_piece (left parts (level ∷ outer)) (map (called_from (callers parts (is_base level) outer)) points) (left parts (record level { at = to } ∷ outer)) n (left_run parts level outer to (omega (arith, run.some)))
    (work_called_from (callers parts (is_base level) outer) points n run.work)

-- points of work change no labels
keeps_labels : (set : ℕ) (i : Instruction) → is_work i ≡ true → set_after set i ≡ set
keeps_labels set Local w = refl
keeps_labels set (Labels s) w = cc
keeps_labels set (Send c) w = refl
keeps_labels set (Recv c) w = refl
keeps_labels set (Lock m) w = refl
keeps_labels set (Unlock m) w = refl
keeps_labels set (Spawn f) w = refl

pub work_keeps_labels : (set : ℕ) (points : List Point) → all_pass is_work points ≡ true → set_after_all set points ≡ set
work_keeps_labels set [] all = refl
work_keeps_labels set (p ∷ points) all =
    let both : (is_work p.instruction ≡ true) × (all_pass is_work points ≡ true) = and_parts (is_work p.instruction) (all_pass is_work points) all in
    ap (λ s. set_after_all s points) (keeps_labels set p.instruction both.0) ∙ work_keeps_labels set points both.1

-- as many turns as fit
few_times : (k q once most : ℕ) → k * once ≤ q * once → q * once ≤ most → k * once ≤ most
few_times k q once most less times = omega (arith, less, times)

pub turns_fit : (most once turns k : ℕ) → k ≡ min (most / once) turns → 0 < once → once ≤ most → 0 < turns → (0 < k) × (k ≤ turns) × (k * once ≤ most)
turns_fit most once turns k is some fits again =
    let one : 1 ≤ most / once = le-div 1 most once some (omega arith) in
    (omega arith, omega arith, few_times k (most / once) once most (mul-le k once (most / once) once (omega arith) (omega arith)) (div-mul-le_self most once))
