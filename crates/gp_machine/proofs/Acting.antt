-- What an Op needs where it is due, and what it does by its operation.
use Rattle.std.proofs.Common.{◌≡◌, ℕ, ◌<◌, ◌≤◌, Bool, false, zero, suc, List, [], ◌∷◌, length, get_or, sum_by, Some, refl, sym, ap, ◌∙◌, subst, arith, if◌then◌else◌}
use Rattle.std.proofs.lemmas.List.{get_or_past}
use Rattle.std.proofs.lemmas.List.Sums.{sum_by-cons}
use Rattle.gp_isa.specs.declared.parts.Parts.{Parts}
use Rattle.gp_isa.specs.InLimits.{AreInLimits}
use Rattle.gp_isa.specs.Names.{IsThere}
use Rattle.gp_isa.specs.Trace.{Instruction, Local, Labels, Send, Recv, Lock, Unlock, Spawn}
use Rattle.gp_stack.specs.Peek.{operation_of}
use Rattle.gp_stack.specs.declared.statement.Operation.{Operation}
use Rattle.gp_stack.specs.declared.statement.Operation.TheVariants as operation
use Rattle.gp_sync.specs.declared.effect.Effect.{Effect}
use Rattle.gp_sync.specs.declared.effect.Effect.TheVariants.{Done, Blocks, Wakes, Fault}
use Rattle.gp_sync.specs.Operations.{Channel, Mutex}
use Rattle.gp_sync.specs.Places.{places_of}
use Rattle.gp_journal.specs.declared.goroutine.Goroutine.{Goroutine}
use Rattle.gp_journal.specs.declared.goroutine.Worker.{Worker}
use Rattle.gp_journal.specs.declared.settings.Settings.{Settings}
use Rattle.gp_journal.specs.Settings.{AreInRange, quantum}
use Rattle.gp_journal.specs.State.{Code, State, code_of, resting, goroutine, births, nobody, is_runnable}
use Rattle.gp_journal.specs.Due.{next_instruction}
use Rattle.gp_journal.specs.Effect.{acts, operates, is_last_point, Outcome, Meets, Spawns, outcome_at, comes_to, spawned}
use Rattle.gp_journal.specs.Answer.{told, op_answer, operation_answer}
use Rattle.gp_journal.proofs.Lemmas.{with_wait_lists, Moves, MovesBy, operation_moves, seats, IsWhole, live_within, live_status, one_if_eq, Balances, blocked_by, HasPlaces, last_has_places, is_whole}
use Rattle.gp_journal.proofs.Lemmas.{holds_runnable, absent_unless, has_come, is_kept, clock_fits, next_named}
use Rattle.gp_journal.specs.Reached.{IsReached, Runs}
use Rattle.gp_machine.specs.kept.Present.{CanCount, CanMeet, CanWake}
use Rattle.gp_journal.specs.Standing.{times}
use Rattle.gp_journal.specs.declared.goroutine.Status.TheVariants.{Blocked}

member_le : (f : Worker → ℕ) (ws : List Worker) (w : ℕ) → f resting ≡ 0 → f (get_or ws w resting) ≤ sum_by f ws
member_le f [] w none = omega arith
member_le f (v ∷ ws) zero none = omega (arith, sum_by-cons f v ws)
member_le f (v ∷ ws) (suc w) none = omega (arith, sum_by-cons f v ws, member_le f ws w none)

some_is : {a b : Operation} → Some a ≡ Some b → a ≡ b
some_is e = cc

-- the channel or mutex of an operation is there
abbrev pub HasPlace : State → Operation → Type 0
HasPlace s (operation.Send c) = c < length s.channels
HasPlace s (operation.Recv c) = c < length s.channels
HasPlace s (operation.Lock m) = m < length s.mutexes
HasPlace s (operation.Unlock m) = m < length s.mutexes
HasPlace s (operation.Spawn f) = Unit {0}

there_at : (program : Parts) (s : State) (made : Operation) → HasPlaces (length program.channels) (length program.mutexes) s →
    (i : Instruction) → IsThere program i → operation_of i ≡ Some made → HasPlace s made
there_at program s made places Local there e = absurd (cc)
there_at program s made places (Labels l) there e = absurd (cc)
there_at program s made places (Send c) there e = subst (HasPlace s) (some_is e) (let many = places.of_channels in omega (arith, there))
there_at program s made places (Recv c) there e = subst (HasPlace s) (some_is e) (let many = places.of_channels in omega (arith, there))
there_at program s made places (Lock m) there e = subst (HasPlace s) (some_is e) (let many = places.of_mutexes in omega (arith, there))
there_at program s made places (Unlock m) there e = subst (HasPlace s) (some_is e) (let many = places.of_mutexes in omega (arith, there))
there_at program s made places (Spawn f) there e = subst (HasPlace s) (some_is e) tt

module _ (program : Parts) (settings : Settings) (s : State) (reached : IsReached (code_of program) settings s) (range : AreInRange settings) where
  code : Code
  code = code_of program

  whole : IsWhole s
  whole = is_whole (code_of program) settings s reached

  places : HasPlaces (length program.channels) (length program.mutexes) s
  places = subst (HasPlaces (length program.channels) (length program.mutexes)) (sym reached.its_last) (last_has_places (code_of program) settings reached.journal)

  -- so many instructions can be counted
  pub can_count : (w g n : ℕ) → n ≤ quantum → CanCount s w g n
  can_count w g n few =
      let clock = clock_fits (code_of program) settings s reached range in
      let come = has_come (code_of program) settings s reached g in
      let numbered = (is_kept (code_of program) settings s reached range).numbered in
      let worker_part = member_le (λ (v : Worker). v.instructions) s.workers w refl in
      let sum = numbered.sum in
      let count = come.count in
      let slice = numbered.slices w in
      record { clock = omega arith; count = omega arith; instructions = omega arith; slice = omega arith }

  -- the channel or mutex of an operation is there
  pub is_there : (g : ℕ) (made : Operation) → AreInLimits program → operation_of (next_instruction (code_of program) s g) ≡ Some made → HasPlace s made
  is_there g made limits e = there_at program s made places (next_instruction (code_of program) s g) (next_named program s g limits) e

  -- one that is blocked can be woken
  can_wake : (h : ℕ) → (goroutine s h).status ≡ Blocked → CanWake settings s h
  can_wake h blocked =
      let born = live_within s.goroutines h (live_status (goroutine s h) blocked refl) in
      record {
        is_born = born;
        is_cell = let few = (is_kept (code_of program) settings s reached range).numbered.born_bound in omega arith;
        blocked = blocked;
        absent = absent_unless (code_of program) settings s reached h Blocked blocked refl;
      }

  -- whom an effect wakes can be woken
  pub meets_ready : (g : ℕ) (cs : List Channel) (ms : List Mutex) (effect : Effect) → ((k : ℕ) → Balances effect g k (places_of s.channels s.mutexes k) (places_of cs ms k)) → CanMeet settings s effect
  meets_ready g cs ms Done balance = tt
  meets_ready g cs ms Blocks balance = tt
  meets_ready g cs ms Fault balance = tt
  meets_ready g cs ms (Wakes h since) balance =
      let mine = balance h in
      let one = one_if_eq h h refl in
      let seat : 1 ≤ seats (goroutine s h).status = let b = whole.waits h in omega arith in
      can_wake h (blocked_by (goroutine s h).status seat)

  -- the next number stands in no queue
  pub next_absent : times (births s) s.queue ≡ 0
  next_absent = holds_runnable (code_of program) settings s reached (births s) ∙ ap (λ (x : Goroutine). if is_runnable x.status then 1 else 0) (get_or_past s.goroutines (births s) nobody (omega arith))

-- What is known of the state that an operation leaves, before its effect is met: all but the wait lists is as before,
-- and whom the effect wakes can be woken.
module _ (program : Parts) (settings : Settings) (s : State) (reached : IsReached (code_of program) settings s) (range : AreInRange settings)
    (g : ℕ) (made : Operation) (contended : Bool) (effect : Effect) (left : State) (is : Meets contended effect left ≡ outcome_at (code_of program) g made s) where
  moves : Moves g s effect left
  moves = subst (MovesBy g s) (sym is) (operation_moves (code_of program) g made s)

  pub left_runs : (w : ℕ) → Runs settings s w g → Runs settings left w g
  left_runs w runs = subst (λ t. Runs settings t w g) (sym moves.alone) (record { is_worker = runs.is_worker; is_born = runs.is_born; is_cell = runs.is_cell; status = runs.status })

  pub left_counts : (w : ℕ) → CanCount s w g 1 → CanCount left w g 1
  left_counts w can = subst (λ t. CanCount t w g 1) (sym moves.alone) (record { clock = can.clock; count = can.count; instructions = can.instructions; slice = can.slice })

  wakes_there : (e : Effect) (cs : List Channel) (ms : List Mutex) → CanMeet settings s e → CanMeet settings (with_wait_lists cs ms s) e
  wakes_there Done cs ms can = tt
  wakes_there Blocks cs ms can = tt
  wakes_there Fault cs ms can = tt
  wakes_there (Wakes h since) cs ms can = record { is_born = can.is_born; is_cell = can.is_cell; blocked = can.blocked; absent = can.absent }

  pub left_ready : CanMeet settings left effect
  left_ready =
      let can = meets_ready program settings s reached range g left.channels left.mutexes effect moves.balance in
      subst (λ t. CanMeet settings t effect) (sym moves.alone) (wakes_there effect left.channels left.mutexes can)

  pub left_lasts : is_last_point (code_of program) left g ≡ is_last_point (code_of program) s g
  left_lasts = ap (λ t. is_last_point (code_of program) t g) moves.alone

-- What an Op does and answers where the point isn't granted.
module _ (code : Code) (settings : Settings) (w g : ℕ) (s : State) (bare : (goroutine s g).granted ≡ false) (made : Operation) (is : operation_of (next_instruction code s g) ≡ Some made) where
  pub acts_by : (outcome : Outcome) → outcome ≡ outcome_at code g made s → comes_to code settings w g outcome s ≡ acts code settings w g s
  unfolding operates
  acts_by outcome e = rw (bare, is, e) refl

  pub answers_by : (outcome : Outcome) → outcome ≡ outcome_at code g made s → told settings (is_last_point code s g) outcome s ≡ op_answer code settings g s
  unfolding operation_answer
  answers_by outcome e = rw (bare, is, e) refl

-- an operation that bears a goroutine comes to that
pub spawns_at : (code : Code) (g function : ℕ) (made : Operation) (s : State) → spawned made ≡ Some function → Spawns function ≡ outcome_at code g made s
spawns_at code g function (operation.Spawn f) s e = cc
spawns_at code g function (operation.Send c) s e = absurd (cc)
spawns_at code g function (operation.Recv c) s e = absurd (cc)
spawns_at code g function (operation.Lock m) s e = absurd (cc)
spawns_at code g function (operation.Unlock m) s e = absurd (cc)
