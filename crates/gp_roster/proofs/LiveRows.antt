-- A live goroutine's trace isn't ended, in each legal journal of a checked program.
use Rattle.std.proofs.Common.{◌≡◌, ◌+◌, ◌<◌, ℕ, zero, suc, Bool, true, false, not, List, [], ◌∷◌, ◌++◌, length, map, get_or, set, Some, None, refl, sym, ap, ◌∙◌, subst, arith, true≢false, if◌then◌else◌, get_or-set_other, length-set, append_assoc, append-nil, unwrap_or, IsSome}
use Rattle.std.proofs.lemmas.Bool.Decides.{nat_tests}
use Rattle.std.proofs.lemmas.List.{get_or_push, length_push, length-map, get_or-map}
use Rattle.std.specs.Prelude.{Option}
use Rattle.gp_isa.specs.declared.parts.Parts.{Parts}
use Rattle.gp_isa.specs.Calls.{IsProgram}
use Rattle.gp_isa.specs.Checked.{main_of}
use Rattle.gp_isa.specs.InLimits.{AreInLimits}
use Rattle.gp_isa.specs.Trace.{Point, trace}
use Rattle.gp_stack.specs.Body.{Progress}
use Rattle.gp_stack.specs.Goroutine.{is_ended}
use Rattle.gp_journal.specs.declared.answer.Applied.{Applied}
use Rattle.gp_journal.specs.declared.answer.Applied.TheVariants.{Plain, Passed, Born, Blocked as Waits, Fault}
use Rattle.gp_journal.specs.declared.entry.Entry.{Entry}
use Rattle.gp_journal.specs.declared.entry.Entry.TheVariants.{Start, Run, Op, Tick, Park, Open, Refuse, Record, Close}
use Rattle.gp_journal.specs.declared.goroutine.Goroutine.{Goroutine}
use Rattle.gp_journal.specs.declared.goroutine.Status.TheVariants.{Runnable, Running, Faulted, Dead}
use Rattle.gp_journal.specs.declared.settings.Settings.{Settings}
use Rattle.gp_journal.specs.Answer.{op_answer}
use Rattle.gp_journal.specs.Bodies.{nowhere, standing, AreBodiesOf, further, moved_on}
use Rattle.gp_journal.specs.Effect.{turned, recorded, passed, is_over_after, unmarked, blocked_at, woken_at, child_of, passes, bears, acts, after}
use Rattle.gp_journal.specs.May.{May}
use Rattle.gp_journal.specs.Reached.{IsReached}
use Rattle.gp_journal.specs.Run.{IsLegal, last}
use Rattle.gp_journal.specs.State.{Code, State, code_of, nobody, goroutine, worker, births, is_dead, is_live, main_goroutine, first}
use Rattle.gp_journal.proofs.Lemmas.{IsWhole, is_whole, changed, pushed, acts_all, live_within, live_status, after_all-append, front_legal, rest_legal}
use Rattle.gp_journal.proofs.Lemmas.{Moved, follows_op, op_not_plain, op_bears, born_there, main_there}
use Rattle.gp_roster.specs.RowLaws.{LiveRowsAreLive}
use Rattle.gp_roster.proofs.SomePoint.{some_point}

-- a goroutine goes on where it is live
abbrev GoesOn : Code → ℕ → Goroutine → Type 0
GoesOn code k x = is_live x ≡ true → is_ended (code.points x.start) x.count ≡ false

abbrev AllGoOn : Code → List Goroutine → Type 0
AllGoOn code gs = (k : ℕ) → GoesOn code k (get_or gs k nobody)

not_ended : (points : List Point) → 0 < length points → is_ended points 0 ≡ false
unfolding is_ended
not_ended points some = grind (arith, nat_tests)

-- another goroutine at a number, that stands where the old one stood, and lives only where that lived
keeps : (code : Code) (gs : List Goroutine) (g : ℕ) (y : Goroutine) → AllGoOn code gs → (is_live y ≡ true → is_live (get_or gs g nobody) ≡ true) → standing y ≡ standing (get_or gs g nobody) → AllGoOn code (set gs g y)
keeps code gs g y all lives same =
    changed (GoesOn code) nobody gs g y
    (λ live. subst (λ (p : Progress). is_ended (code.points p.start) p.count ≡ false) (sym same) (all g (lives live))) all

-- one passes points, and dies where its trace ends
passer : (code : Code) (gs : List Goroutine) (g n : ℕ) → AllGoOn code gs → AllGoOn code (set gs g (passed code n (get_or gs g nobody)))
passer code gs g n all = changed (GoesOn code) nobody gs g (passed code n (get_or gs g nobody)) (at (is_over_after code n (get_or gs g nobody)) refl) all
  where
    x : Goroutine
    x = get_or gs g nobody

    at : (over : Bool) → is_over_after code n (get_or gs g nobody) ≡ over → GoesOn code g (passed code n (get_or gs g nobody))
    at false going live = going
    at true over live = absurd (true≢false (sym live ∙ ap (λ b. not (is_dead (if b then Dead else (get_or gs g nobody).status))) over))

-- whoever is born between two states has a point
abbrev NewbornsHavePoints : Code → State → State → Type 0
NewbornsHavePoints code before now =
    births before < births now → is_live (goroutine now (births before)) ≡ true → 0 < length (code.points (goroutine now (births before)).start)

module _ (code : Code) (settings : Settings) (w g : ℕ) (s : State) (whole : IsWhole s) (runs : (worker s w).runs ≡ Some g) (all : AllGoOn code s.goroutines) where
  alive : is_live (goroutine s g) ≡ true
  alive = live_status (goroutine s g) (whole.on_worker w g runs) refl

  born : g < length s.goroutines
  born = live_within s.goroutines g alive

  -- a newborn stands behind the others
  child_there : (function : ℕ) → goroutine (passes code settings w g 1 (bears code function g s)) (births s) ≡ child_of code function g s
  child_there function =
      get_or-set_other (s.goroutines ++ child_of code function g s ∷ []) g (births s) (passed code 1 (get_or (s.goroutines ++ child_of code function g s ∷ []) g nobody)) nobody
      (λ same. let within = born in omega arith) ∙ get_or_push s.goroutines (child_of code function g s) nobody (births s) refl

  one_more : (function : ℕ) → births s < births (passes code settings w g 1 (bears code function g s))
  one_more function =
      omega (
        arith,
        length-set (s.goroutines ++ child_of code function g s ∷ []) g (passed code 1 (get_or (s.goroutines ++ child_of code function g s ∷ []) g nobody)),
        length_push s.goroutines (child_of code function g s),
      )

  child_goes : (function : ℕ) → NewbornsHavePoints code s (passes code settings w g 1 (bears code function g s)) → GoesOn code (births s) (child_of code function g s)
  child_goes function have live =
      let there = child_there function in
      not_ended (code.points function)
      (subst (λ (x : Goroutine). 0 < length (code.points x.start)) there (have (one_more function) (ap is_live there)))

  acts_go : NewbornsHavePoints code s (acts code settings w g s) → AllGoOn code (acts code settings w g s).goroutines
  acts_go = acts_all code settings w g s (λ t. NewbornsHavePoints code s t → AllGoOn code t.goroutines) whole (record {
    stays = λ have. all;
    resumed = λ have. passer code (set s.goroutines g (unmarked (goroutine s g))) g 1 (keeps code s.goroutines g (unmarked (goroutine s g)) all (λ live. live) refl);
    passed = λ cs ms have. passer code s.goroutines g 1 all;
    woke = λ cs ms h blocked have.
        passer code (set s.goroutines h (woken_at s.clock (goroutine s h))) g 1
        (keeps code s.goroutines h (woken_at s.clock (goroutine s h)) all (λ live. live_status (goroutine s h) blocked refl) refl);
    blocked = λ cs ms have. keeps code s.goroutines g (blocked_at s.clock (goroutine s g)) all (λ live. alive) refl;
    faulted = λ cause cs ms some have. keeps code s.goroutines g (turned Faulted (goroutine s g)) all (λ live. alive) refl;
    bore = λ function room have.
        passer code (s.goroutines ++ child_of code function g s ∷ []) g 1
        (pushed (GoesOn code) nobody s.goroutines (child_of code function g s) (child_goes function have) all);
  })

step_goes : (code : Code) (settings : Settings) (s : State) (entry : Entry) → IsWhole s → May code settings s entry → AllGoOn code s.goroutines → NewbornsHavePoints code s (after code settings s entry) →
    AllGoOn code (after code settings s entry).goroutines
unfolding after
step_goes code settings s (Start w g) whole may all have =
    keeps code s.goroutines g (turned (Running w) (goroutine s g)) all (λ live. live_status (goroutine s g) may.runnable refl) refl
step_goes code settings s (Run w g n) whole may all have = passer code s.goroutines g n all
step_goes code settings s (Op w g) whole may all have = acts_go code settings w g s whole may.runs all have
step_goes code settings s (Tick w g) whole may all have = all
step_goes code settings s (Park w g) whole may all have =
    keeps code s.goroutines g (turned Runnable (goroutine s g)) all (λ live. live_status (goroutine s g) (whole.on_worker w g may.runs) refl) refl
step_goes code settings s (Open epoch room) whole may all have = all
step_goes code settings s (Refuse room n) whole may all have = all
step_goes code settings s (Record actor g) whole may all have = keeps code s.goroutines g (recorded s.active (goroutine s g)) all (λ live. live) refl
step_goes code settings s (Close epoch) whole may all have = all

-- ---- who is born runs a function of the program

same_births : (s t : State) (places : List Progress) (n : ℕ) → AreBodiesOf t places → length places ≡ n → n ≡ births s → births s < births t → ⊥
same_births s t places n are long few more = let each = are.each in omega arith

module _ (program : Parts) (settings : Settings) (s : State) (w g : ℕ) (limits : AreInLimits program) (reached : IsReached (code_of program) settings s) (may : May (code_of program) settings s (Op w g)) where
  abbrev code : Code
  code = code_of program

  abbrev now : State
  now = after (code_of program) settings s (Op w g)

  places : List Progress
  places = map standing s.goroutines

  as_many : length places ≡ births s
  unfolding places
  as_many = length-map s.goroutines standing

  stand_there : AreBodiesOf s places
  unfolding places
  stand_there = record {
    each = length-map s.goroutines standing;
    live = λ k live. get_or-map standing s.goroutines k nobody nowhere (live_within s.goroutines k live);
  }

  moved_many : length (moved_on places g 1) ≡ births s
  moved_many = length-set places g (further 1 (get_or places g nowhere)) ∙ as_many

  start_there : (answer : Applied) → op_answer code settings g s ≡ answer → Moved code settings w g s places answer →
      births s < births now → is_live (goroutine now (births s)) ≡ true → (goroutine now (births s)).start < length program.functions
  start_there (Plain died) is moved more live = absurd (op_not_plain code settings s g w died may is)
  start_there (Passed woke event died) is moved more live = absurd (same_births s now (moved_on places g 1) (births s) moved moved_many refl more)
  start_there Waits is moved more live = absurd (same_births s now places (births s) moved as_many refl more)
  start_there (Fault cause) is moved more live = absurd (same_births s now places (births s) moved as_many refl more)
  start_there (Born h died) is moved more live =
      let by = op_bears code settings s g h died is in
      let stands = (moved by.function by.by_spawn).live (births s) live in
      let start : by.function ≡ (goroutine now (births s)).start = ap (λ (p : Progress). p.start) (sym (get_or_push (moved_on places g 1) _ nowhere (births s) moved_many) ∙ stands) in
      subst (λ f. f < length program.functions) start (born_there program s g by.function limits by.by_spawn)

  spawned_there : births s < births now → is_live (goroutine now (births s)) ≡ true → (goroutine now (births s)).start < length program.functions
  spawned_there = start_there (op_answer code settings g s) refl (follows_op code settings s w g places reached may stand_there)

-- no other entry bears
none_born : (code : Code) (settings : Settings) (s : State) (entry : Entry) → ((w g : ℕ) → entry ≡ Op w g → ⊥) → births s < births (after code settings s entry) → ⊥
unfolding after
none_born code settings s (Start w g) other more = let same = length-set s.goroutines g (turned (Running w) (goroutine s g)) in omega arith
none_born code settings s (Run w g n) other more = let same = length-set s.goroutines g (passed code n (goroutine s g)) in omega arith
none_born code settings s (Op w g) other more = other w g refl
none_born code settings s (Tick w g) other more = omega arith
none_born code settings s (Park w g) other more = let same = length-set s.goroutines g (turned Runnable (goroutine s g)) in omega arith
none_born code settings s (Open epoch room) other more = omega arith
none_born code settings s (Refuse room n) other more = omega arith
none_born code settings s (Record actor g) other more = let same = length-set s.goroutines g (recorded s.active (goroutine s g)) in omega arith
none_born code settings s (Close epoch) other more = omega arith

module _ (program : Parts) (settings : Settings) (limits : AreInLimits program) (checked : IsProgram program) where
  have_points : (s : State) (entry : Entry) → IsReached (code_of program) settings s → May (code_of program) settings s entry → NewbornsHavePoints (code_of program) s (after (code_of program) settings s entry)
  have_points s (Op w g) reached may more live =
      some_point program limits checked (goroutine (after (code_of program) settings s (Op w g)) (births s)).start (spawned_there program settings s w g limits reached may more live)
  have_points s (Start w g) reached may more live = absurd (none_born (code_of program) settings s (Start w g) (λ v h e. cc) more)
  have_points s (Run w g n) reached may more live = absurd (none_born (code_of program) settings s (Run w g n) (λ v h e. cc) more)
  have_points s (Tick w g) reached may more live = absurd (none_born (code_of program) settings s (Tick w g) (λ v h e. cc) more)
  have_points s (Park w g) reached may more live = absurd (none_born (code_of program) settings s (Park w g) (λ v h e. cc) more)
  have_points s (Open epoch room) reached may more live = absurd (none_born (code_of program) settings s (Open epoch room) (λ v h e. cc) more)
  have_points s (Refuse room n) reached may more live = absurd (none_born (code_of program) settings s (Refuse room n) (λ v h e. cc) more)
  have_points s (Record actor g) reached may more live = absurd (none_born (code_of program) settings s (Record actor g) (λ v h e. cc) more)
  have_points s (Close epoch) reached may more live = absurd (none_born (code_of program) settings s (Close epoch) (λ v h e. cc) more)

  -- main has a point
  main_function : (main : Option ℕ) → main_of program ≡ main → IsSome main → unwrap_or main 0 < length program.functions
  main_function None is some = absurd (true≢false (sym some))
  main_function (Some f) is some = main_there program f is

  main_goes : AllGoOn (code_of program) (main_goroutine (code_of program) ∷ [])
  main_goes zero live =
      not_ended (trace program (unwrap_or (main_of program) 0))
      (some_point program limits checked (unwrap_or (main_of program) 0) (main_function (main_of program) refl checked.has_main))
  main_goes (suc k) live = absurd (true≢false (sym live))

  -- entries after others of a legal journal
  more_go : (before entries : List Entry) → IsLegal (code_of program) settings (before ++ entries) → AllGoOn (code_of program) (last (code_of program) settings before).goroutines →
      AllGoOn (code_of program) (last (code_of program) settings (before ++ entries)).goroutines
  more_go before [] legal all = subst (λ (xs : List Entry). AllGoOn (code_of program) (last (code_of program) settings xs).goroutines) (sym (append-nil before)) all
  more_go before (entry ∷ entries) legal all =
      let code = code_of program in
      let start = first code settings in
      let s = last code settings before in
      let reached : IsReached code settings s = record { journal = before; legal = front_legal code settings start before (entry ∷ entries) legal; its_last = refl } in
      let may = (rest_legal code settings start before (entry ∷ entries) legal).0 in
      let joined : (before ++ entry ∷ []) ++ entries ≡ before ++ (entry ∷ entries) = append_assoc before (entry ∷ []) entries in
      subst (λ (xs : List Entry). AllGoOn code (last code settings xs).goroutines) joined
      (more_go (before ++ entry ∷ []) entries (subst (IsLegal code settings) (sym joined) legal)
      (subst (λ (t : State). AllGoOn code t.goroutines) (sym (after_all-append code settings start before (entry ∷ [])))
      (step_goes code settings s entry (is_whole code settings s reached) may all (have_points s entry reached may))))

  all_go : (journal : List Entry) → IsLegal (code_of program) settings journal → AllGoOn (code_of program) (last (code_of program) settings journal).goroutines
  all_go journal legal = more_go [] journal legal main_goes

some_number : (g : ℕ) (live : Bool) → live ≡ true → 0 < (if live then g + 1 else 0)
some_number g true e = omega arith
some_number g false e = absurd (true≢false (sym e))

pub live_rows_are_live : LiveRowsAreLive
live_rows_are_live program settings journal g limits checked legal live = record {
  lives = some_number g (is_live (goroutine (last (code_of program) settings journal) g)) live;
  going = all_go program settings limits checked journal legal g live;
}
