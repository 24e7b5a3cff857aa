-- What an Op can do and tell, as a list of cases, so that each law goes over them once.
use Rattle.std.proofs.Common.{◌≡◌, ℕ, ◌<◌, ◌≤◌, Bool, true, false, List, refl, sym, subst, arith, if◌then◌else◌, nat_lt, Some, None}
use Rattle.std.proofs.lemmas.Bool.{ltb-true}
use Rattle.gp_isa.specs.Trace.{Instruction}
use Rattle.gp_stack.specs.Peek.{operation_of}
use Rattle.gp_sync.specs.declared.effect.Effect.{Effect}
use Rattle.gp_sync.specs.declared.effect.Effect.TheVariants.{Done, Blocks, Wakes, Fault}
use Rattle.gp_sync.specs.Operations.{Channel, Mutex}
use Rattle.gp_journal.specs.declared.answer.Applied.{Applied}
use Rattle.gp_journal.specs.declared.answer.Applied.TheVariants.{Plain, Passed, Born, Blocked as Waits, Fault as Faults}
use Rattle.gp_journal.specs.declared.goroutine.Status.TheVariants.{Blocked}
use Rattle.gp_journal.specs.declared.settings.Settings.{Settings}
use Rattle.gp_journal.specs.State.{Code, State, goroutine, births}
use Rattle.gp_journal.specs.Due.{next_instruction}
use Rattle.gp_journal.specs.Effect.{is_over_after, with_goroutine, unmarked, passes, blocks, faults, wakes, bears, meets, Outcome, Meets, Spawns, Stays, outcome_of, comes_to, operates, resumes, acts}
use Rattle.gp_journal.specs.Answer.{answer_to, told as answer_of, operation_answer, op_answer, block_delay}
use Rattle.gp_sync.specs.Places.{places_of}
use Rattle.gp_journal.proofs.Whole.{seats, IsWhole}
use Rattle.gp_journal.proofs.Parts.{one_if_eq, Balances, with_wait_lists, blocked_by}
use Rattle.gp_journal.proofs.Outcomes.{MovesBy, outcome_moves}

-- The state after an Op of g on w is one of these with its answer, whatever the wait lists are then. `died` tells
-- that the trace of g ends with it.
pub record Told (code : Code) (settings : Settings) (w g : ℕ) (s : State) (died : Bool) (Q : State → Applied → Type 0) : Type 0 where
  pub stays : Q s (Plain false)
  pub resumed : Q (passes code settings w g 1 (with_goroutine g (unmarked (goroutine s g)) s)) (Passed None (Some (record { delay = block_delay (goroutine s g) })) died)
  pub passed : (cs : List Channel) (ms : List Mutex) → Q (passes code settings w g 1 (with_wait_lists cs ms s)) (Passed None None died)
  pub woke : (cs : List Channel) (ms : List Mutex) (h since : ℕ) (contended : Bool) → (goroutine s h).status ≡ Blocked →
      Q (passes code settings w g 1 (wakes h (with_wait_lists cs ms s))) (Passed (Some (record { g = h; since = since; contended = contended })) None died)
  pub blocked : (cs : List Channel) (ms : List Mutex) → Q (blocks w g (with_wait_lists cs ms s)) Waits
  pub faulted : (cause : ℕ) (cs : List Channel) (ms : List Mutex) → 1 ≤ cause → Q (faults cause w g (with_wait_lists cs ms s)) (Faults cause)
  pub bore : (function : ℕ) → births s < settings.cells → Q (passes code settings w g 1 (bears code function g s)) (Born (births s) died)

module _ (code : Code) (settings : Settings) (w g : ℕ) (s : State) (Q : State → Applied → Type 0) (whole : IsWhole s) (told : Told code settings w g s (is_over_after code 1 (goroutine s g)) Q) where
  abbrev died : Bool
  died = is_over_after code 1 (goroutine s g)

  meets_all : (contended : Bool) (cs : List Channel) (ms : List Mutex) (effect : Effect) → ((k : ℕ) → Balances effect g k (places_of s.channels s.mutexes k) (places_of cs ms k)) →
      Q (meets code settings w g effect (with_wait_lists cs ms s)) (answer_to contended died effect)
  unfolding meets
  meets_all contended cs ms Done balance = told.passed cs ms
  meets_all contended cs ms (Wakes h since) balance =
      let mine = balance h in
      let one = one_if_eq h h refl in
      let seat : 1 ≤ seats (goroutine s h).status = let b = whole.waits h in omega arith in
      told.woke cs ms h since contended (blocked_by (goroutine s h).status seat)
  meets_all contended cs ms Blocks balance = told.blocked cs ms
  meets_all contended cs ms Fault balance = told.faulted 1 cs ms (omega arith)

  spawns_all : (function : ℕ) (room : Bool) → nat_lt (births s) settings.cells ≡ room →
      Q (if room then passes code settings w g 1 (bears code function g s) else faults 2 w g s) (if room then Born (births s) died else Faults 2)
  spawns_all function true e = told.bore function (ltb-true (births s) settings.cells e)
  spawns_all function false e = told.faulted 2 s.channels s.mutexes (omega arith)

  comes_all : (outcome : Outcome) → MovesBy g s outcome → Q (comes_to code settings w g outcome s) (answer_of settings died outcome s)
  comes_all (Meets unlocks effect left) moves =
      subst (λ (t : State). Q (meets code settings w g effect t) (answer_to unlocks died effect)) (sym moves.alone) (meets_all unlocks left.channels left.mutexes effect moves.balance)
  comes_all (Spawns function) moves = spawns_all function (nat_lt (births s) settings.cells) refl
  comes_all Stays moves = told.stays

  operates_all : (instruction : Instruction) → Q (operates code settings w g instruction s) (operation_answer code settings g died instruction s)
  unfolding operates operation_answer
  operates_all instruction = comes_all (outcome_of code g (operation_of instruction) s) (outcome_moves code g (operation_of instruction) s)

  acts_at : (granted : Bool) →
      Q (if granted then resumes code settings w g s else operates code settings w g (next_instruction code s g) s)
      (if granted then Passed None (Some (record { delay = block_delay (goroutine s g) })) died else operation_answer code settings g died (next_instruction code s g) s)
  acts_at true = told.resumed
  acts_at false = operates_all (next_instruction code s g)

  pub acts_told : Q (acts code settings w g s) (op_answer code settings g s)
  acts_told = acts_at (goroutine s g).granted

-- The same of the state alone.
pub record Cases (code : Code) (settings : Settings) (w g : ℕ) (s : State) (Q : State → Type 0) : Type 0 where
  pub stays : Q s
  pub resumed : Q (passes code settings w g 1 (with_goroutine g (unmarked (goroutine s g)) s))
  pub passed : (cs : List Channel) (ms : List Mutex) → Q (passes code settings w g 1 (with_wait_lists cs ms s))
  pub woke : (cs : List Channel) (ms : List Mutex) (h : ℕ) → (goroutine s h).status ≡ Blocked → Q (passes code settings w g 1 (wakes h (with_wait_lists cs ms s)))
  pub blocked : (cs : List Channel) (ms : List Mutex) → Q (blocks w g (with_wait_lists cs ms s))
  pub faulted : (cause : ℕ) (cs : List Channel) (ms : List Mutex) → 1 ≤ cause → Q (faults cause w g (with_wait_lists cs ms s))
  pub bore : (function : ℕ) → births s < settings.cells → Q (passes code settings w g 1 (bears code function g s))

pub acts_all : (code : Code) (settings : Settings) (w g : ℕ) (s : State) (Q : State → Type 0) → IsWhole s → Cases code settings w g s Q → Q (acts code settings w g s)
acts_all code settings w g s Q whole cases =
    acts_told code settings w g s (λ t a. Q t) whole (record {
      stays = cases.stays;
      resumed = cases.resumed;
      passed = cases.passed;
      woke = λ cs ms h since contended blocked. cases.woke cs ms h blocked;
      blocked = cases.blocked;
      faulted = cases.faulted;
      bore = cases.bore;
    })
