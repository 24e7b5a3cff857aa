-- What the body of whom a worker runs shows, which entry is due, and how far a body moves with it.
use Rattle.std.proofs.Common.{◌≡◌, ◌⊎◌, inl, inr, ◌+◌, ◌<◌, ◌≤◌, ℕ, true, true≢false, List, map, min, Some, refl, sym, ap, ◌∙◌, subst, arith}
use Rattle.std.proofs.lemmas.Bool.{cases_lt}
use Rattle.std.proofs.lemmas.List.{get_or-map, length-map}
use Rattle.gp_isa.specs.declared.parts.Parts.{Parts}
use Rattle.gp_isa.specs.Trace.{trace}
use Rattle.gp_stack.specs.declared.peek.Peek.{Peek}
use Rattle.gp_stack.specs.declared.peek.Then.TheVariants as follows
use Rattle.gp_stack.specs.declared.statement.Operation.{Operation}
use Rattle.gp_stack.specs.Body.{Progress, IsAtShared, labels_at, ahead_at}
use Rattle.gp_stack.specs.Peek.{then_at}
use Rattle.gp_stack.proofs.Coming.{told, at_shared, not_local, not_over}
use Rattle.gp_journal.specs.declared.answer.Applied.{Applied}
use Rattle.gp_journal.specs.declared.answer.Applied.TheVariants.{Plain, Passed, Born, Blocked, Fault}
use Rattle.gp_journal.specs.declared.entry.Entry.{Entry}
use Rattle.gp_journal.specs.declared.entry.Entry.TheVariants.{Start, Run, Op, Tick, Park, Open, Refuse, Record, Close}
use Rattle.gp_journal.specs.declared.settings.Settings.{Settings}
use Rattle.gp_journal.specs.Bodies.{nowhere, standing, AreBodiesOf, further}
use Rattle.gp_journal.specs.Due.{due}
use Rattle.gp_journal.specs.May.{May}
use Rattle.gp_journal.specs.Reached.{IsReached}
use Rattle.gp_journal.specs.Run.{IsLegal, state_of}
use Rattle.gp_journal.specs.Settings.{AreInRange, quantum}
use Rattle.gp_journal.specs.Shown.{IsPeekAt, IsPointOf}
use Rattle.gp_journal.specs.State.{Code, State, code_of, goroutine, worker, nobody, is_live}
use Rattle.gp_journal.proofs.Lemmas.{live_born, runner_live, op_at_shared, run_ahead}
use Rattle.gp_machine.specs.declared.at_point.AtPoint.TheVariants.{Stays, Passes, Bears}
use Rattle.gp_machine.specs.AtPoint.{at_point}
use Rattle.gp_machine.specs.OnWorker.{IsDueOn}
use Rattle.gp_machine.proofs.Peeked.{ahead_local}
use Rattle.gp_core.specs.Stepped.{points_by}
use Rattle.gp_core.proofs.Turns.{IsOf}
use Rattle.gp_core.proofs.Entries.{due_is}

-- ---- which entry is due

abbrev IsKind : Entry → Type 0
IsKind (Run w g n) = Unit {0}
IsKind (Op w g) = Unit {0}
IsKind (Tick w g) = Unit {0}
IsKind (Park w g) = Unit {0}
IsKind _ = ⊥

of_kind : (w g : ℕ) (made : Entry) → IsOf w g made → IsKind made
of_kind w g made (inl tick) = subst IsKind (sym tick) tt
of_kind w g made (inr (inl park)) = subst IsKind (sym park) tt
of_kind w g made (inr (inr (inl op))) = subst IsKind (sym op) tt
of_kind w g made (inr (inr (inr run))) = subst IsKind (sym run.1) tt

run_of : (w g : ℕ) (made : Entry) (v h n : ℕ) → made ≡ Run v h n → IsOf w g made → made ≡ Run w g n
run_of w g made v h n e (inl tick) = let clash : Run v h n ≡ Tick w g = sym e ∙ tick in absurd (cc)
run_of w g made v h n e (inr (inl park)) = let clash : Run v h n ≡ Park w g = sym e ∙ park in absurd (cc)
run_of w g made v h n e (inr (inr (inl op))) = let clash : Run v h n ≡ Op w g = sym e ∙ op in absurd (cc)
run_of w g made v h n e (inr (inr (inr run))) = let same : Run v h n ≡ Run w g run.0 = sym e ∙ run.1 in let so : run.0 ≡ n = cc in run.1 ∙ ap (λ k. Run w g k) so

op_of : (w g : ℕ) (made : Entry) (v h : ℕ) → made ≡ Op v h → IsOf w g made → made ≡ Op w g
op_of w g made v h e (inl tick) = let clash : Op v h ≡ Tick w g = sym e ∙ tick in absurd (cc)
op_of w g made v h e (inr (inl park)) = let clash : Op v h ≡ Park w g = sym e ∙ park in absurd (cc)
op_of w g made v h e (inr (inr (inl op))) = op
op_of w g made v h e (inr (inr (inr run))) = let clash : Op v h ≡ Run w g run.0 = sym e ∙ run.1 in absurd (cc)

tick_of : (w g : ℕ) (made : Entry) (v h : ℕ) → made ≡ Tick v h → IsOf w g made → made ≡ Tick w g
tick_of w g made v h e (inl tick) = tick
tick_of w g made v h e (inr (inl park)) = let clash : Tick v h ≡ Park w g = sym e ∙ park in absurd (cc)
tick_of w g made v h e (inr (inr (inl op))) = let clash : Tick v h ≡ Op w g = sym e ∙ op in absurd (cc)
tick_of w g made v h e (inr (inr (inr run))) = let clash : Tick v h ≡ Run w g run.0 = sym e ∙ run.1 in absurd (cc)

park_of : (w g : ℕ) (made : Entry) (v h : ℕ) → made ≡ Park v h → IsOf w g made → made ≡ Park w g
park_of w g made v h e (inl tick) = let clash : Park v h ≡ Tick w g = sym e ∙ tick in absurd (cc)
park_of w g made v h e (inr (inl park)) = park
park_of w g made v h e (inr (inr (inl op))) = let clash : Park v h ≡ Op w g = sym e ∙ op in absurd (cc)
park_of w g made v h e (inr (inr (inr run))) = let clash : Park v h ≡ Run w g run.0 = sym e ∙ run.1 in absurd (cc)

-- what the machine tells to be due is
pub due_told : (program : Parts) (settings : Settings) (journal : List Entry) (w g : ℕ) (made : Entry) → IsDueOn program settings journal w made →
    (worker (state_of program settings journal) w).runs ≡ Some g → made ≡ due (code_of program) settings (state_of program settings journal) w g
due_told program settings journal w g made told runs = told g runs

module _ (code : Code) (settings : Settings) (s : State) (w g : ℕ) (made : Entry) (is : made ≡ due code settings s w g) where
  its_own : IsOf w g made
  its_own = subst (IsOf w g) (sym is) (due_is code settings s w g)

  pub due_run : (v h n : ℕ) → made ≡ Run v h n → due code settings s w g ≡ Run w g n
  due_run v h n e = sym is ∙ run_of w g made v h n e its_own

  pub due_op : (v h : ℕ) → made ≡ Op v h → due code settings s w g ≡ Op w g
  due_op v h e = sym is ∙ op_of w g made v h e its_own

  pub due_tick : (v h : ℕ) → made ≡ Tick v h → due code settings s w g ≡ Tick w g
  due_tick v h e = sym is ∙ tick_of w g made v h e its_own

  pub due_park : (v h : ℕ) → made ≡ Park v h → due code settings s w g ≡ Park w g
  due_park v h e = sym is ∙ park_of w g made v h e its_own

  -- no other is due
  kind : IsKind made
  kind = of_kind w g made its_own

  pub not_start : (v h : ℕ) → made ≡ Start v h → ⊥
  not_start v h e = subst IsKind e kind

  pub not_open : (epoch room : ℕ) → made ≡ Open epoch room → ⊥
  not_open epoch room e = subst IsKind e kind

  pub not_refuse : (room n : ℕ) → made ≡ Refuse room n → ⊥
  not_refuse room n e = subst IsKind e kind

  pub not_record : (a h : ℕ) → made ≡ Record a h → ⊥
  not_record a h e = subst IsKind e kind

  pub not_close : (epoch : ℕ) → made ≡ Close epoch → ⊥
  not_close epoch e = subst IsKind e kind

-- ---- how far a body moves

pub passes_one : (a : Applied) → Passes ≡ at_point a → points_by a ≡ 1
passes_one (Passed woke event died) e = refl
passes_one (Born h died) e = refl
passes_one (Plain died) e = absurd (cc)
passes_one Blocked e = absurd (cc)
passes_one (Fault cause) e = absurd (cc)

pub bears_one : (a : Applied) → Bears ≡ at_point a → points_by a ≡ 1
bears_one (Passed woke event died) e = refl
bears_one (Born h died) e = refl
bears_one (Plain died) e = absurd (cc)
bears_one Blocked e = absurd (cc)
bears_one (Fault cause) e = absurd (cc)

pub stays_none : (a : Applied) → Stays ≡ at_point a → points_by a ≡ 0
stays_none (Passed woke event died) e = absurd (cc)
stays_none (Born h died) e = absurd (cc)
stays_none (Plain died) e = refl
stays_none Blocked e = refl
stays_none (Fault cause) e = refl

pub further_none : (n : ℕ) (place : Progress) → n ≡ 0 → place ≡ further n place
further_none n place none = let same : place.count ≡ place.count + n = omega arith in λ i. record place { count = same i }

-- ---- the body of whom a worker runs

module _ (program : Parts) (settings : Settings) (journal : List Entry) (legal : IsLegal (code_of program) settings journal) (range : AreInRange settings) (w g : ℕ) where
  abbrev state : State
  state = state_of program settings journal

  reached : IsReached (code_of program) settings state
  reached = record { journal = journal; legal = legal; its_last = refl }

  -- where bodies stand that stand with their goroutines
  abbrev bodies : List Progress
  bodies = map standing state.goroutines

  are : AreBodiesOf state bodies
  are = record {
    each = length-map state.goroutines standing;
    live = λ h lives. get_or-map standing state.goroutines h nobody nowhere (live_born (code_of program) settings state reached h lives);
  }

  lives : (worker state w).runs ≡ Some g → is_live (goroutine state g) ≡ true
  lives runs = runner_live program settings state reached range bodies are w g runs

  -- A Run passes local points that are ahead, and at an Op the next point is shared.
  pub is_ahead : (place : Progress) (n : ℕ) → place ≡ standing (goroutine state g) → May (code_of program) settings state (Run w g n) → n ≤ ahead_at program place
  is_ahead place n there may =
      subst (λ (p : Progress). n ≤ ahead_at program p) (are.live g (lives may.runs) ∙ sym there) (run_ahead program settings state reached range bodies are w g n may)

  pub is_at_shared : (place : Progress) → place ≡ standing (goroutine state g) → May (code_of program) settings state (Op w g) → IsAtShared (trace program place.start) place.count
  is_at_shared place there may =
      subst (λ (p : Progress). IsAtShared (trace program p.start) p.count) (are.live g (lives may.runs) ∙ sym there) (op_at_shared program settings state reached range bodies are w g may)

  -- A look ahead finds that point.
  tells : (place : Progress) (peek : Peek) → place ≡ standing (goroutine state g) → May (code_of program) settings state (Op w g) → IsPeekAt (code_of program) state g peek → peek.local ≡ 0
  tells place peek there may look = by (cases_lt 0 peek.local)
    where
      by : (0 < peek.local) ⊎ (peek.local ≤ 0) → peek.local ≡ 0
      by (inl some) =
          let shared = is_at_shared (standing (goroutine state g)) refl may in
          absurd (true≢false (sym (ahead_local (trace program (goroutine state g).start) (goroutine state g).count peek.local peek.then (record { so_many = look.local; comes = look.then }) some) ∙ shared.shared))
      by (inr none) = omega arith

  pub point_found : (place : Progress) (peek : Peek) (o : Operation) (labels : ℕ) → place ≡ standing (goroutine state g) → May (code_of program) settings state (Op w g) → IsPeekAt (code_of program) state g peek →
      peek.then ≡ follows.Shared o → labels ≡ labels_at program place → IsPointOf (code_of program) state g (record { operation = o; labels = labels })
  point_found place peek o labels there may look shows same =
      let it = goroutine state g in
      let none = tells place peek there may look in
      record {
        operation = at_shared (trace program it.start) it.count (is_at_shared (standing it) refl may) peek.then (told (trace program it.start) it.count peek.local peek.then look.then (omega arith)) o shows;
        labels = same ∙ ap (labels_at program) there;
      }

  pub none_local : (place : Progress) (peek : Peek) → place ≡ standing (goroutine state g) → May (code_of program) settings state (Op w g) → IsPeekAt (code_of program) state g peek → peek.then ≡ follows.Local → ⊥
  none_local place peek there may look shows =
      let it = goroutine state g in
      let none = tells place peek there may look in
      not_local (trace program it.start) it.count (is_at_shared (standing it) refl may) peek.then (told (trace program it.start) it.count peek.local peek.then look.then (omega arith)) shows

  pub none_over : (place : Progress) (peek : Peek) → place ≡ standing (goroutine state g) → May (code_of program) settings state (Op w g) → IsPeekAt (code_of program) state g peek → peek.then ≡ follows.Over → ⊥
  none_over place peek there may look shows =
      let it = goroutine state g in
      let none = tells place peek there may look in
      not_over (trace program it.start) it.count (is_at_shared (standing it) refl may) peek.then (told (trace program it.start) it.count peek.local peek.then look.then (omega arith)) shows

-- a look ahead at a body is at its goroutine's next points
pub peek_there : (program : Parts) (s : State) (g : ℕ) (place : Progress) (peek : Peek) → place ≡ standing (goroutine s g) → peek.local ≡ min quantum (ahead_at program place) →
    peek.then ≡ then_at (trace program place.start) (place.count + peek.local) → IsPeekAt (code_of program) s g peek
peek_there program s g place peek there local comes = record {
  local = local ∙ ap (λ (p : Progress). min quantum (ahead_at program p)) there;
  then = comes ∙ ap (λ (p : Progress). then_at (trace program p.start) (p.count + peek.local)) there;
}
