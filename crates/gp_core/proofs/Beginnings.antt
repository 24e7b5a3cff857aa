-- Where goroutines begin is there: each runs a function of the program.
use Rattle.std.proofs.Common.{◌≡◌, ℕ, zero, suc, ◌<◌, Bool, true, false, List, [], ◌∷◌, length, get_or, set, Option, Some, None, refl, sym, arith, if◌then◌else◌, nat_lt, true≢false}
use Rattle.std.specs.Prelude.{IsSome, unwrap_or}
use Rattle.gp_isa.specs.declared.parts.Parts.{Parts}
use Rattle.gp_isa.specs.Calls.{IsProgram}
use Rattle.gp_isa.specs.Checked.{main_of}
use Rattle.gp_isa.specs.InLimits.{AreInLimits}
use Rattle.gp_stack.specs.declared.statement.Operation.{Operation}
use Rattle.gp_stack.specs.declared.statement.Operation.TheVariants as operation
use Rattle.gp_stack.specs.Peek.{operation_of}
use Rattle.gp_sync.specs.declared.effect.Effect.{Effect}
use Rattle.gp_sync.specs.declared.effect.Effect.TheVariants.{Done, Blocks, Wakes, Fault}
use Rattle.gp_sync.specs.Operations.{send, recv, lock, unlock}
use Rattle.gp_journal.specs.declared.entry.Entry.{Entry}
use Rattle.gp_journal.specs.declared.entry.Entry.TheVariants.{Start, Run, Op, Tick, Park, Open, Refuse, Record, Close}
use Rattle.gp_journal.specs.declared.goroutine.Goroutine.{Goroutine}
use Rattle.gp_journal.specs.declared.settings.Settings.{Settings}
use Rattle.gp_journal.specs.State.{Code, State, code_of, nobody, goroutine, channel, mutex, births, first}
use Rattle.gp_journal.specs.Due.{next_instruction}
use Rattle.gp_journal.specs.Effect.{unmarked, woken_at, child_of, with_channel, with_mutex, passes, faults, bears, meets, waiter, comes_to, outcome_of, operates, resumes, after}
use Rattle.gp_journal.specs.Run.{after_all, state_of}
use Rattle.gp_journal.proofs.Lemmas.{changed, pushed, born_there, main_there}

module _ (program : Parts) (limits : AreInLimits program) (some : 0 < length program.functions) (settings : Settings) where
  abbrev code : Code
  code = code_of program

  -- a goroutine runs a function of the program
  abbrev Begins : Goroutine → Type 0
  Begins x = x.start < length program.functions

  abbrev AllBegin : List Goroutine → Type 0
  AllBegin gs = (g : ℕ) → Begins (get_or gs g nobody)

  -- another goroutine at a number
  with_other : (gs : List Goroutine) (g : ℕ) (y : Goroutine) → AllBegin gs → Begins y → AllBegin (set gs g y)
  with_other gs g y all new = changed (λ k x. Begins x) nobody gs g y new all

  meets_begin : (w g : ℕ) (s : State) (effect : Effect) → AllBegin s.goroutines → AllBegin (meets code settings w g effect s).goroutines
  unfolding meets
  meets_begin w g s Done all = with_other s.goroutines g _ all (all g)
  meets_begin w g s (Wakes h since) all =
      let woken = with_other s.goroutines h (woken_at s.clock (goroutine s h)) all (all h) in with_other _ g _ woken (woken g)
  meets_begin w g s Blocks all = with_other s.goroutines g _ all (all g)
  meets_begin w g s Fault all = with_other s.goroutines g _ all (all g)

  spawns_begin : (w g function : ℕ) (s : State) → function < length program.functions → AllBegin s.goroutines → (room : Bool) →
      AllBegin (if room then passes code settings w g 1 (bears code function g s) else faults 2 w g s).goroutines
  spawns_begin w g function s there all true =
      let born = pushed (λ k x. Begins x) nobody s.goroutines (child_of code function g s) there all in with_other _ g _ born (born g)
  spawns_begin w g function s there all false = with_other s.goroutines g _ all (all g)

  comes_begin : (w g : ℕ) (s : State) → AllBegin s.goroutines → (made : Option Operation) → operation_of (next_instruction code s g) ≡ made →
      AllBegin (comes_to code settings w g (outcome_of code g made s) s).goroutines
  comes_begin w g s all None e = all
  comes_begin w g s all (Some (operation.Send c)) e =
      let done = send (code.capacity c) (channel s c) (waiter s g) in meets_begin w g (with_channel c done.1 s) done.0 all
  comes_begin w g s all (Some (operation.Recv c)) e = let done = recv (channel s c) (waiter s g) in meets_begin w g (with_channel c done.1 s) done.0 all
  comes_begin w g s all (Some (operation.Lock m)) e = let done = lock (mutex s m) (waiter s g) in meets_begin w g (with_mutex m done.1 s) done.0 all
  comes_begin w g s all (Some (operation.Unlock m)) e = let done = unlock (mutex s m) in meets_begin w g (with_mutex m done.1 s) done.0 all
  comes_begin w g s all (Some (operation.Spawn function)) e =
      spawns_begin w g function s (born_there program s g function limits e) all (nat_lt (births s) settings.cells)

  acts_begin : (w g : ℕ) (s : State) → AllBegin s.goroutines → (granted : Bool) →
      AllBegin (if granted then resumes code settings w g s else operates code settings w g (next_instruction code s g) s).goroutines
  unfolding operates
  acts_begin w g s all true = let cleared = with_other s.goroutines g (unmarked (goroutine s g)) all (all g) in with_other _ g _ cleared (cleared g)
  acts_begin w g s all false = comes_begin w g s all (operation_of (next_instruction code s g)) refl

  step_begins : (s : State) (entry : Entry) → AllBegin s.goroutines → AllBegin (after code settings s entry).goroutines
  unfolding after
  step_begins s (Start w g) all = with_other s.goroutines g _ all (all g)
  step_begins s (Run w g n) all = with_other s.goroutines g _ all (all g)
  step_begins s (Op w g) all = acts_begin w g s all (goroutine s g).granted
  step_begins s (Tick w g) all = all
  step_begins s (Park w g) all = with_other s.goroutines g _ all (all g)
  step_begins s (Open epoch room) all = all
  step_begins s (Refuse room n) all = all
  step_begins s (Record actor g) all = with_other s.goroutines g _ all (all g)
  step_begins s (Close epoch) all = all

  all_begin : (s : State) (entries : List Entry) → AllBegin s.goroutines → AllBegin (after_all code settings s entries).goroutines
  all_begin s [] all = all
  all_begin s (entry ∷ entries) all = all_begin (after code settings s entry) entries (step_begins s entry all)

  first_begins : code.main < length program.functions → AllBegin (first code settings).goroutines
  first_begins main zero = main
  first_begins main (suc g) = some

main_within : (program : Parts) (found : Option ℕ) → main_of program ≡ found → IsSome found → unwrap_or found 0 < length program.functions
main_within program (Some f) e is = main_there program f e
main_within program None e is = absurd (true≢false (sym is))

pub begins_there : (program : Parts) (settings : Settings) (journal : List Entry) (g : ℕ) → AreInLimits program → IsProgram program →
    (goroutine (state_of program settings journal) g).start < length program.functions
begins_there program settings journal g limits checked =
    let main = main_within program (main_of program) refl checked.has_main in
    all_begin program limits (omega arith) settings (first (code_of program) settings) journal (first_begins program limits (omega arith) settings main) g
