-- What the bodies of a state's goroutines tell of it.
use Rattle.std.proofs.Common.{◌≡◌, ◌<◌, ◌≤◌, ◌==◌, ◌||◌, not, ℕ, Bool, true, false, List, [], ◌∷◌, ◌++◌, length, get_or, Some, refl, sym, ap, ◌∙◌, subst, arith, if◌then◌else◌, nat_le, true≢false}
use Rattle.std.proofs.lemmas.Bool.{leb-true}
use Rattle.std.proofs.lemmas.List.{get_or_past}
use Rattle.std.proofs.lemmas.Option.{same_Some}
use Rattle.gp_isa.specs.declared.parts.Parts.{Parts}
use Rattle.gp_isa.specs.Trace.{Point, trace, is_local}
use Rattle.gp_stack.specs.declared.record.Record.{Record as Row}
use Rattle.gp_stack.specs.declared.statement.Operation.TheVariants as operation
use Rattle.gp_stack.specs.Body.{Progress, IsAtShared}
use Rattle.gp_stack.specs.Goroutine.{next_point, no_point, is_ended, labels_of, local_ahead}
use Rattle.gp_stack.specs.Peek.{operation_of}
use Rattle.gp_stack.specs.Record.{record_of}
use Rattle.gp_journal.specs.declared.answer.Applied.{Applied}
use Rattle.gp_journal.specs.declared.answer.Applied.TheVariants.{Plain, Passed, Born, Blocked, Fault}
use Rattle.gp_journal.specs.declared.answer.SharedPoint.{SharedPoint}
use Rattle.gp_journal.specs.declared.entry.Entry.TheVariants.{Run, Op, Tick, Park}
use Rattle.gp_journal.specs.declared.settings.Settings.{Settings}
use Rattle.gp_journal.specs.State.{Code, State, code_of, goroutine, worker, trace_of, is_live, births}
use Rattle.gp_journal.specs.Due.{asked, over, due, extent, next_instruction}
use Rattle.gp_journal.specs.Settings.{AreInRange, quantum}
use Rattle.gp_journal.specs.Frozen.{row}
use Rattle.gp_journal.specs.May.{May, IsDue}
use Rattle.gp_journal.specs.Effect.{after}
use Rattle.gp_journal.specs.Answer.{op_answer}
use Rattle.gp_journal.specs.Reached.{IsReached}
use Rattle.gp_journal.specs.Shown.{IsPointOf}
use Rattle.gp_journal.proofs.Parts.{live_status}
use Rattle.gp_journal.proofs.Reached.{is_whole, is_kept}
use Rattle.gp_journal.proofs.Whole.{live_within}
use Rattle.gp_journal.specs.Bodies.{nowhere, AreBodiesOf, followed}
use Rattle.gp_journal.proofs.Following.{Moved, follows_op, op_shared, op_not_plain, op_bears}

-- a Run passes no more points than are local
chosen_run : (tick stop shared : Bool) (w g n e : ℕ) → (if tick then Tick w g else if stop then Park w g else if shared then Op w g else Run w g e) ≡ Run w g n → n ≡ e
chosen_run true stop shared w g n e same = absurd (cc)
chosen_run false true shared w g n e same = absurd (cc)
chosen_run false false true w g n e same = absurd (cc)
chosen_run false false false w g n e same = cc

run_within : (code : Code) (settings : Settings) (s : State) (w g n : ℕ) → due code settings s w g ≡ Run w g n → n ≤ local_ahead (trace_of code (goroutine s g)) (goroutine s g).count
unfolding due extent
run_within code settings s w g n e =
    let same = chosen_run (worker s w).tick (asked settings s || over settings s || ((worker s w).slice == quantum)) (not (is_local (next_instruction code s g))) w g n (extent code settings s w g) e in omega arith

-- a goroutine whose next instruction isn't local is at a shared point
at_shared_point : (points : List Point) (count : ℕ) → is_local (next_point points count).instruction ≡ false → IsAtShared points count
unfolding next_point is_ended
at_shared_point points count shared = record { going = by (nat_le (length points) count) refl; shared = shared }
  where
    by : (b : Bool) → nat_le (length points) count ≡ b → nat_le (length points) count ≡ false
    by false e = e
    by true e = absurd (true≢false (sym (ap (λ (p : Point). is_local p.instruction) (get_or_past points count no_point (leb-true (length points) count e))) ∙ shared))

module _ (program : Parts) (settings : Settings) (s : State) (reached : IsReached (code_of program) settings s) (range : AreInRange settings) (bodies : List Progress) (are : AreBodiesOf s bodies) where
  -- who is born has a body
  pub has_body : (g : ℕ) → is_live (goroutine s g) ≡ true → g < length bodies
  has_body g live = let born = live_within s.goroutines g live in let each = are.each in omega arith

  pub runner_live : (w g : ℕ) → (worker s w).runs ≡ Some g → is_live (goroutine s g) ≡ true
  runner_live w g runs = live_status (goroutine s g) ((is_whole (code_of program) settings s reached).on_worker w g runs) refl

  pub run_ahead : (w g n : ℕ) → IsDue (code_of program) settings s w g (Run w g n) → n ≤ local_ahead (trace program (get_or bodies g nowhere).start) (get_or bodies g nowhere).count
  run_ahead w g n due =
      subst (λ (p : Progress). n ≤ local_ahead (trace program p.start) p.count) (sym (are.live g (runner_live w g due.runs))) (run_within (code_of program) settings s w g n due.is_next)

  pub op_at_shared : (w g : ℕ) → IsDue (code_of program) settings s w g (Op w g) → IsAtShared (trace program (get_or bodies g nowhere).start) (get_or bodies g nowhere).count
  op_at_shared w g due =
      subst (λ (p : Progress). IsAtShared (trace program p.start) p.count) (sym (are.live g (runner_live w g due.runs)))
      (at_shared_point (trace program (goroutine s g).start) (goroutine s g).count (op_shared (code_of program) settings s w g due.is_next))

  -- the point that a body shows is the goroutine's
  pub point_is : (w g : ℕ) (point : SharedPoint) → IsDue (code_of program) settings s w g (Op w g) →
      operation_of (next_point (trace program (get_or bodies g nowhere).start) (get_or bodies g nowhere).count).instruction ≡ Some point.operation →
      point.labels ≡ labels_of (trace program (get_or bodies g nowhere).start) (get_or bodies g nowhere).set (get_or bodies g nowhere).count → IsPointOf (code_of program) s g point
  point_is w g point due shown labels =
      let same = are.live g (runner_live w g due.runs) in
      record {
        operation = ap (λ (p : Progress). operation_of (next_point (trace program p.start) p.count).instruction) (sym same) ∙ shown;
        labels = labels ∙ ap (λ (p : Progress). labels_of (trace program p.start) p.set p.count) same;
      }

  -- The bodies once g came to a shared point. Where nobody was born there they are those of the goroutines.
  pub bodies_follow : (w g : ℕ) (answer : Applied) → May (code_of program) settings s (Op w g) → answer ≡ op_answer (code_of program) settings g s → ((h : ℕ) (died : Bool) → answer ≡ Born h died → ⊥) →
      AreBodiesOf (after (code_of program) settings s (Op w g)) (followed g answer bodies)
  bodies_follow w g answer may e nobody = by answer e nobody (subst (Moved (code_of program) settings w g s bodies) (sym e) (follows_op (code_of program) settings s w g bodies reached may are))
    where
      by : (a : Applied) → a ≡ op_answer (code_of program) settings g s → ((h : ℕ) (died : Bool) → a ≡ Born h died → ⊥) → Moved (code_of program) settings w g s bodies a →
          AreBodiesOf (after (code_of program) settings s (Op w g)) (followed g a bodies)
      by (Plain died) same nobody moved = absurd (op_not_plain (code_of program) settings s g w died may (sym same))
      by (Passed woke event died) same nobody moved = moved
      by Blocked same nobody moved = moved
      by (Fault cause) same nobody moved = moved
      by (Born h died) same nobody moved = absurd (nobody h died refl)

  -- Where somebody was born, they are with that one's.
  pub bodies_gain : (w g f h : ℕ) (died : Bool) (point : SharedPoint) (answer : Applied) → May (code_of program) settings s (Op w g) → IsPointOf (code_of program) s g point → point.operation ≡ operation.Spawn f →
      answer ≡ op_answer (code_of program) settings g s →
      answer ≡ Born h died → AreBodiesOf (after (code_of program) settings s (Op w g)) (followed g answer bodies ++ record { start = f; set = point.labels; count = 0 } ∷ [])
  bodies_gain w g f h died point answer may is spawn e born =
      rw (born, is.labels) ((subst (Moved (code_of program) settings w g s bodies) (sym e ∙ born) (follows_op (code_of program) settings s w g bodies reached may are)) f (is.operation ∙ ap Some spawn))

  -- Nobody is born where the point is no spawn, or no cell is left.
  pub nobody_born : (g : ℕ) (point : SharedPoint) (answer : Applied) → IsPointOf (code_of program) s g point → answer ≡ op_answer (code_of program) settings g s →
      ((f : ℕ) → point.operation ≡ operation.Spawn f → settings.cells ≤ births s) → (h : ℕ) (died : Bool) → answer ≡ Born h died → ⊥
  nobody_born g point answer is e full h died born =
      let by = op_bears (code_of program) settings s g h died (sym e ∙ born) in
      let none = full by.function (same_Some point.operation (operation.Spawn by.function) (sym is.operation ∙ by.by_spawn)) in
      let some = by.has_cell in
      omega arith

  -- and each has a cell
  pub bodies_fit : length bodies ≤ settings.cells
  bodies_fit = let few = (is_kept (code_of program) settings s reached range).numbered.born_bound in let each = are.each in omega arith

  -- the record of a body is the row of its goroutine
  pub row_is : (g : ℕ) (it : Row) → is_live (goroutine s g) ≡ true → it ≡ record_of program g (get_or bodies g nowhere) → it ≡ row (code_of program) g (goroutine s g)
  row_is g it live e = e ∙ ap (record_of program g) (are.live g live)
