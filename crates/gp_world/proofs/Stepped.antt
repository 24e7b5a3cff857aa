-- What is so of a worker that runs a goroutine, of that one's body, and of what its due entry does.
use Rattle.std.proofs.Common.{◌≡◌, ◌⊎◌, inl, inr, ◌+◌, ◌<◌, ◌≤◌, ◌==◌, ◌||◌, not, ℕ, Bool, true, false, true≢false, List, [], ◌∷◌, ◌++◌, length, get_or, map, min, Option, Some, None, IfSome, refl, sym, ap, ◌∙◌, subst, arith, if◌then◌else◌, length-set}
use Rattle.std.specs.Prelude.{Result, Ok, Err, OnErr}
use Rattle.std.proofs.lemmas.Bool.{cases_lt}
use Rattle.std.proofs.lemmas.List.{append-nil, get_or-map, length-map, get_or_push}
use Rattle.std.proofs.lemmas.Option.{same_Some}
use Rattle.gp_isa.specs.declared.parts.Parts.{Parts}
use Rattle.gp_isa.specs.InLimits.{AreInLimits}
use Rattle.gp_isa.specs.Trace.{trace, is_local}
use Rattle.gp_stack.specs.declared.peek.Peek.{Peek}
use Rattle.gp_stack.specs.declared.peek.Then.TheVariants as follows
use Rattle.gp_stack.specs.declared.statement.Operation.{Operation}
use Rattle.gp_stack.specs.declared.statement.Operation.TheVariants as operation
use Rattle.gp_stack.specs.Body.{Progress, IsAtShared, labels_at, ahead_at, HasRoom}
use Rattle.gp_stack.specs.Peek.{operation_of, then_at}
use Rattle.gp_stack.proofs.Coming.{told, at_shared, not_local, not_over}
use Rattle.gp_journal.specs.declared.answer.Applied.{Applied}
use Rattle.gp_journal.specs.declared.answer.Applied.TheVariants as answer
use Rattle.gp_journal.specs.declared.answer.SharedPoint.{SharedPoint}
use Rattle.gp_journal.specs.declared.entry.Entry.{Entry}
use Rattle.gp_journal.specs.declared.entry.Entry.TheVariants.{Start, Run, Op, Tick, Park, Open, Refuse, Record, Close}
use Rattle.gp_journal.specs.declared.goroutine.Status.{Status}
use Rattle.gp_journal.specs.declared.goroutine.Status.TheVariants.{Runnable, Running, Blocked, Faulted, Dead}
use Rattle.gp_journal.specs.declared.settings.Settings.{Settings}
use Rattle.gp_journal.specs.Answer.{op_answer}
use Rattle.gp_journal.specs.Bodies.{nowhere, standing, AreBodiesOf, followed}
use Rattle.gp_journal.specs.Due.{asked, over, due, extent, next_instruction}
use Rattle.gp_journal.specs.Effect.{after}
use Rattle.gp_journal.specs.May.{May, IsDue}
use Rattle.gp_journal.specs.Reached.{IsReached}
use Rattle.gp_journal.specs.Run.{IsLegal, state_of}
use Rattle.gp_journal.specs.Settings.{AreInRange, quantum}
use Rattle.gp_journal.specs.Shown.{IsPeekAt, IsPointOf}
use Rattle.gp_journal.specs.Standing.{times}
use Rattle.gp_journal.specs.State.{Code, State, code_of, goroutine, worker, nobody, is_live, is_runnable, first}
use Rattle.gp_journal.specs.StepLaws.{joining}
use Rattle.gp_journal.proofs.Lemmas.{appended, is_whole, holds_runnable, live_status, live_born, runner_live, op_at_shared, op_bears, born_there, bodies_gain, step_queue, times_push, one_at, place}
use Rattle.gp_machine.specs.OnWorker.{IsDueOn, OpIsDueOn, IsNextOn, IsPeekOn}
use Rattle.gp_machine.proofs.Peeked.{ahead_local}
use Rattle.gp_journal.specs.declared.answer.Woken.{Woken}
use Rattle.gp_journal.specs.declared.answer.Wait.{Wait}
use Rattle.gp_cpu.specs.Samples.{sample_of}
use Rattle.gp_world.specs.Scene.{Scene}
use Rattle.gp_world.specs.declared.ring_end.RingEnd.{RingEnd}
use Rattle.gp_world.specs.declared.step.Step.TheVariants as step
use Rattle.gp_world.specs.Calls.{IsStep}
use Rattle.gp_world.specs.RingEnds.{with_sample}
use Rattle.gp_stack.specs.declared.body.Body.{Body}
use Rattle.gp_world.specs.kept.Entering.{IsSpare}
use Rattle.gp_world.specs.kept.Workers.{after_due, BearsIn, start_of, place_of_newborn}
use Rattle.gp_world.proofs.Started.{entered}

-- ---- which entry is due

-- One that is due is of the worker and of whom it runs.
abbrev IsOf : ℕ → ℕ → Entry → Type 0
IsOf w g (Run v h n) = (v ≡ w) × (h ≡ g)
IsOf w g (Op v h) = (v ≡ w) × (h ≡ g)
IsOf w g (Tick v h) = (v ≡ w) × (h ≡ g)
IsOf w g (Park v h) = (v ≡ w) × (h ≡ g)
IsOf w g _ = ⊥

one_of : (tick stop shared : Bool) (w g n : ℕ) → IsOf w g (if tick then Tick w g else if stop then Park w g else if shared then Op w g else Run w g n)
one_of true stop shared w g n = (refl, refl)
one_of false true shared w g n = (refl, refl)
one_of false false true w g n = (refl, refl)
one_of false false false w g n = (refl, refl)

due_is_of : (code : Code) (settings : Settings) (s : State) (w g : ℕ) → IsOf w g (due code settings s w g)
unfolding due
due_is_of code settings s w g =
    one_of (worker s w).tick (asked settings s || over settings s || ((worker s w).slice == quantum)) (not (is_local (next_instruction code s g))) w g (extent code settings s w g)

module _ (code : Code) (settings : Settings) (s : State) (w g : ℕ) (made : Entry) (is : made ≡ due code settings s w g) where
  its_own : IsOf w g made
  its_own = subst (IsOf w g) (sym is) (due_is_of code settings s w g)

  pub due_run : (v h n : ℕ) → made ≡ Run v h n → due code settings s w g ≡ Run w g n
  due_run v h n e = let same = subst (IsOf w g) e its_own in sym is ∙ e ∙ (λ i. Run (same.0 i) (same.1 i) n)

  pub due_op : (v h : ℕ) → made ≡ Op v h → due code settings s w g ≡ Op w g
  due_op v h e = let same = subst (IsOf w g) e its_own in sym is ∙ e ∙ (λ i. Op (same.0 i) (same.1 i))

  pub due_tick : (v h : ℕ) → made ≡ Tick v h → due code settings s w g ≡ Tick w g
  due_tick v h e = let same = subst (IsOf w g) e its_own in sym is ∙ e ∙ (λ i. Tick (same.0 i) (same.1 i))

  pub due_park : (v h : ℕ) → made ≡ Park v h → due code settings s w g ≡ Park w g
  due_park v h e = let same = subst (IsOf w g) e its_own in sym is ∙ e ∙ (λ i. Park (same.0 i) (same.1 i))

  -- No other is due.
  pub not_start : (v h : ℕ) → made ≡ Start v h → ⊥
  not_start v h e = subst (IsOf w g) e its_own

  pub not_open : (epoch room : ℕ) → made ≡ Open epoch room → ⊥
  not_open epoch room e = subst (IsOf w g) e its_own

  pub not_refuse : (room n : ℕ) → made ≡ Refuse room n → ⊥
  not_refuse room n e = subst (IsOf w g) e its_own

  pub not_record : (actor h : ℕ) → made ≡ Record actor h → ⊥
  not_record actor h e = subst (IsOf w g) e its_own

  pub not_close : (epoch : ℕ) → made ≡ Close epoch → ⊥
  not_close epoch e = subst (IsOf w g) e its_own

-- ---- the body of whom a worker runs

module _ (program : Parts) (settings : Settings) (journal : List Entry) (legal : IsLegal (code_of program) settings journal) (range : AreInRange settings) (w g : ℕ) where
  abbrev pub now : State
  now = state_of program settings journal

  reached : IsReached (code_of program) settings now
  reached = record { journal = journal; legal = legal; its_last = refl }

  -- where bodies stand that stand with their goroutines
  abbrev bodies : List Progress
  bodies = map standing now.goroutines

  are : AreBodiesOf now bodies
  are = record {
    each = length-map now.goroutines standing;
    live = λ h lives. get_or-map standing now.goroutines h nobody nowhere (live_born (code_of program) settings now reached h lives);
  }

  pub lives : (worker now w).runs ≡ Some g → is_live (goroutine now g) ≡ true
  lives runs = runner_live program settings now reached range bodies are w g runs

  -- At an Op its next point is shared.
  pub is_at_shared : (place : Progress) → place ≡ standing (goroutine now g) → May (code_of program) settings now (Op w g) → IsAtShared (trace program place.start) place.count
  is_at_shared place there may =
      subst (λ (p : Progress). IsAtShared (trace program p.start) p.count) (are.live g (lives may.runs) ∙ sym there) (op_at_shared program settings now reached range bodies are w g may)

  -- A look ahead finds that point,
  tells : (place : Progress) (peek : Peek) → place ≡ standing (goroutine now g) → May (code_of program) settings now (Op w g) → IsPeekAt (code_of program) now g peek → peek.local ≡ 0
  tells place peek there may look = by (cases_lt 0 peek.local)
    where
      by : (0 < peek.local) ⊎ (peek.local ≤ 0) → peek.local ≡ 0
      by (inl some) =
          let shared = is_at_shared (standing (goroutine now g)) refl may in
          absurd (true≢false (sym (ahead_local (trace program (goroutine now g).start) (goroutine now g).count peek.local peek.then (record { so_many = look.local; comes = look.then }) some) ∙ shared.shared))
      by (inr none) = omega arith

  pub found : (place : Progress) (peek : Peek) (o : Operation) (labels : ℕ) → place ≡ standing (goroutine now g) → May (code_of program) settings now (Op w g) → IsPeekAt (code_of program) now g peek →
      peek.then ≡ follows.Shared o → labels ≡ labels_at program place → IsPointOf (code_of program) now g (record { operation = o; labels = labels })
  found place peek o labels there may look shows same =
      let it = goroutine now g in
      let none = tells place peek there may look in
      record {
        operation = at_shared (trace program it.start) it.count (is_at_shared (standing it) refl may) peek.then (told (trace program it.start) it.count peek.local peek.then look.then (omega arith)) o shows;
        labels = same ∙ ap (labels_at program) there;
      }

  pub found_local : (place : Progress) (peek : Peek) → place ≡ standing (goroutine now g) → May (code_of program) settings now (Op w g) → IsPeekAt (code_of program) now g peek → peek.then ≡ follows.Local → ⊥
  found_local place peek there may look shows =
      let it = goroutine now g in
      let none = tells place peek there may look in
      not_local (trace program it.start) it.count (is_at_shared (standing it) refl may) peek.then (told (trace program it.start) it.count peek.local peek.then look.then (omega arith)) shows

  pub found_over : (place : Progress) (peek : Peek) → place ≡ standing (goroutine now g) → May (code_of program) settings now (Op w g) → IsPeekAt (code_of program) now g peek → peek.then ≡ follows.Over → ⊥
  found_over place peek there may look shows =
      let it = goroutine now g in
      let none = tells place peek there may look in
      not_over (trace program it.start) it.count (is_at_shared (standing it) refl may) peek.then (told (trace program it.start) it.count peek.local peek.then look.then (omega arith)) shows

  -- ---- who is born

  module _ (may : May (code_of program) settings now (Op w g)) (point : SharedPoint) (is : IsPointOf (code_of program) now g point) (h : ℕ) (died : Bool)
      (born : op_answer (code_of program) settings g now ≡ answer.Born h died) where
    -- The point spawns a function of the program.
    by_spawn : (f : ℕ) → operation_of (next_instruction (code_of program) now g) ≡ Some (operation.Spawn f) → point.operation ≡ operation.Spawn f
    by_spawn f e = same_Some point.operation (operation.Spawn f) (sym is.operation ∙ e)

    pub bears_in : AreInLimits program → BearsIn program point.operation
    bears_in limits =
        let bears = op_bears (code_of program) settings now g h died born in
        subst (BearsIn program) (sym (by_spawn bears.function bears.by_spawn)) (born_there program now g bears.function limits bears.by_spawn)

    abbrev longer : List Entry
    longer = journal ++ Op w g ∷ []

    abbrev pub next : State
    next = after (code_of program) settings now (Op w g)

    reached_next : IsReached (code_of program) settings next
    reached_next = record { journal = longer; legal = appended (code_of program) settings (first (code_of program) settings) journal (Op w g) legal may; its_last = sym (entered program settings journal (Op w g)) }

    -- Who is born is runnable, and stands at the start of that function.
    by_status : (status : Status) (n : ℕ) → n ≡ (if is_runnable status then 1 else 0) → 1 ≤ n → status ≡ Runnable
    by_status Runnable n e some = refl
    by_status (Running v) n e some = absurd (omega arith)
    by_status Blocked n e some = absurd (omega arith)
    by_status Faulted n e some = absurd (omega arith)
    by_status Dead n e some = absurd (omega arith)

    pub newborn_lives : is_live (goroutine next h) ≡ true
    newborn_lives =
        let queue : next.queue ≡ now.queue ++ h ∷ [] =
        step_queue (code_of program) settings now (Op w g) (is_whole (code_of program) settings now reached) ∙ ap (λ a. now.queue ++ joining (Op w g) a) born in
        let some : 1 ≤ times h next.queue = omega (arith, ap (times h) queue, times_push h now.queue h, one_at h) in
        live_status (goroutine next h) (by_status (goroutine next h).status (times h next.queue) (holds_runnable (code_of program) settings next reached_next h) some) refl

    pub newborn_stands : place_of_newborn point ≡ standing (goroutine next h)
    newborn_stands =
        let bears = op_bears (code_of program) settings now g h died born in
        let spawn = by_spawn bears.function bears.by_spawn in
        let all = bodies_gain program settings now reached range bodies are w g bears.function h died point (op_answer (code_of program) settings g now) may is spawn refl born in
        let at : Progress = record { start = bears.function; set = point.labels; count = 0 } in
        let here : get_or (followed g (op_answer (code_of program) settings g now) bodies ++ at ∷ []) h nowhere ≡ at =
        get_or_push (followed g (op_answer (code_of program) settings g now) bodies) at nowhere h
        (sym (bears.next_number ∙ sym (ap (λ a. length (followed g a bodies)) born ∙ length-set bodies g _ ∙ length-map now.goroutines standing))) in
        (λ i. record { start = start_of (spawn i); set = point.labels; count = 0 }) ∙ sym here ∙ all.live h newborn_lives

-- ---- what a step answers

-- a worker's goroutine passed its point
pub passed_step : (program : Parts) (settings : Settings) (s : State) (ring ring_next : RingEnd) (w g : ℕ) (woke : Option Woken) (event : Option Wait) (died : Bool) →
    due (code_of program) settings s w g ≡ Op w g → op_answer (code_of program) settings g s ≡ answer.Passed woke event died →
    IsStep program settings s ring ring_next w g (if died then step.Died else step.Passed)
passed_step program settings s ring ring_next w g woke event true is told = inr (record { is_op = is; woke = woke; event = event; told = told })
passed_step program settings s ring ring_next w g woke event false is told = record { is_op = is; woke = woke; event = event; told = told }

-- A look ahead at a body is at the next points of its goroutine.
pub peek_there : (program : Parts) (s : State) (g : ℕ) (place : Progress) (peek : Peek) → place ≡ standing (goroutine s g) → peek.local ≡ min quantum (ahead_at program place) →
    peek.then ≡ then_at (trace program place.start) (place.count + peek.local) → IsPeekAt (code_of program) s g peek
peek_there program s g place peek there local comes = record {
  local = local ∙ ap (λ (p : Progress). min quantum (ahead_at program p)) there;
  then = comes ∙ ap (λ (p : Progress). then_at (trace program p.start) (p.count + peek.local)) there;
}

-- a body for who is born has room
pub spare_room : (program : Parts) (a : Applied) (spare : Option Body) (h : ℕ) (died : Bool) → a ≡ answer.Born h died → IsSpare program a spare → IfSome spare (HasRoom program)
spare_room program a (Some body) h died born has = subst (λ x. IsSpare program x (Some body)) born has
spare_room program a None h died born has = tt

-- ---- what is asked of the machine and of a history

pub due_on : (program : Parts) (settings : Settings) (journal : List Entry) (w g : ℕ) → May (code_of program) settings (state_of program settings journal) (Op w g) → OpIsDueOn program settings journal w
due_on program settings journal w g may = λ h runs.
    subst (λ (k : ℕ). IsDue (code_of program) settings (state_of program settings journal) w k (Op w k)) (same_Some g h (sym may.runs ∙ runs)) may

pub next_on : (program : Parts) (settings : Settings) (journal : List Entry) (w g : ℕ) (o : Operation) → (worker (state_of program settings journal) w).runs ≡ Some g →
    operation_of (next_instruction (code_of program) (state_of program settings journal) g) ≡ Some o → IsNextOn program settings journal w o
next_on program settings journal w g o there does = λ h runs.
    subst (λ (k : ℕ). operation_of (next_instruction (code_of program) (state_of program settings journal) k) ≡ Some o) (same_Some g h (sym there ∙ runs)) does

pub peek_on : (program : Parts) (settings : Settings) (journal : List Entry) (w g : ℕ) (peek : Peek) → (worker (state_of program settings journal) w).runs ≡ Some g →
    IsPeekAt (code_of program) (state_of program settings journal) g peek → IsPeekOn program settings journal w peek
peek_on program settings journal w g peek there look = λ h runs.
    subst (λ (k : ℕ). IsPeekAt (code_of program) (state_of program settings journal) k peek) (same_Some g h (sym there ∙ runs)) look

pub due_told : (program : Parts) (settings : Settings) (there journal : List Entry) (n w g : ℕ) (made : Entry) → IsDueOn program settings there n made → there ≡ journal → n ≡ w →
    (worker (state_of program settings journal) w).runs ≡ Some g → made ≡ due (code_of program) settings (state_of program settings journal) w g
due_told program settings there journal n w g made told same number =
    (subst (λ x. IsDueOn program settings x w made) same (subst (λ k. IsDueOn program settings there k made) number told)) g

-- the scene after a Tick
pub tick_scene : (program : Parts) (settings : Settings) (scene next : Scene) (w g : ℕ) →
    let s = state_of program settings scene.journal in
    record scene { journal = scene.journal ++ Tick w g ∷ []; ring = with_sample scene.ring next.ring (sample_of (code_of program) s (goroutine s g)) } ≡ after_due program settings scene next (Tick w g)
tick_scene program settings scene next w g =
    let s = state_of program settings scene.journal in
    λ i. record scene { journal = scene.journal ++ Tick w g ∷ []; waiting = sym (append-nil scene.waiting) i; ring = with_sample scene.ring next.ring (sample_of (code_of program) s (goroutine s g)) }

-- what is so beside where there is no value
pub on_error : {A E : Type 0} (B C : Type 0) (r : Result A E) → B → OnErr r C → OnErr r (B × C)
on_error B C (Ok x) b c = c
on_error B C (Err e) b c = (b, c)

pub on_error_so : {A E : Type 0} (C : Type 0) (r : Result A E) → C → OnErr r C
on_error_so C (Ok x) c = tt
on_error_so C (Err e) c = c
