-- How the places where bodies stand have to move with each entry, so that they are still those of the goroutines.
use Rattle.std.proofs.Common.{◌≡◌, ◌⊎◌, inl, inr, ◌+◌, ◌<◌, ◌≤◌, ℕ, zero, suc, Bool, true, false, not, ◌||◌, ◌==◌, List, [], ◌∷◌, ◌++◌, length, get_or, set, Some, None, refl, sym, ap, ◌∙◌, subst, arith, true≢false, if◌then◌else◌, nat_lt, get_or-set_same, get_or-set_other, length-set}
use Rattle.std.proofs.lemmas.Bool.{cases_eq, cases_lt, ltb-true}
use Rattle.std.proofs.lemmas.List.{set_past, set-append_left, get_or_past, get_or_push, get_or_append_left, length_push}
use Rattle.std.proofs.lemmas.List.Quantifiers.{position-Some}
use Rattle.std.specs.List.{position}
use Rattle.std.specs.Prelude.{codes}
use Rattle.std.specs.Str.{bytes_eq}
use Rattle.gp_isa.specs.declared.parts.Parts.{Parts}
use Rattle.gp_isa.specs.declared.parts.Function.{Function}
use Rattle.gp_isa.specs.Checked.{main_of}
use Rattle.gp_isa.specs.InLimits.{AreInLimits}
use Rattle.gp_isa.specs.Names.{IsThere}
use Rattle.gp_isa.specs.Trace.{Instruction, Local, Labels, Send, Recv, Lock, Unlock, Spawn, is_local}
use Rattle.gp_stack.specs.Body.{Progress}
use Rattle.gp_stack.specs.Peek.{operation_of}
use Rattle.gp_stack.specs.declared.statement.Operation.TheVariants as operation
use Rattle.gp_sync.specs.declared.effect.Effect.{Effect}
use Rattle.gp_sync.specs.declared.effect.Effect.TheVariants as effect
use Rattle.gp_sync.specs.Operations.{Channel, Mutex, send, recv, lock, unlock}
use Rattle.gp_sync.specs.Places.{places_of}
use Rattle.gp_journal.specs.declared.answer.Applied.{Applied}
use Rattle.gp_journal.specs.declared.answer.Applied.TheVariants.{Plain, Passed, Born, Blocked, Fault}
use Rattle.gp_journal.specs.declared.entry.Entry.{Entry}
use Rattle.gp_journal.specs.declared.entry.Entry.TheVariants.{Start, Run, Op, Tick, Park, Open, Refuse, Record, Close}
use Rattle.gp_journal.specs.declared.goroutine.Goroutine.{Goroutine}
use Rattle.gp_journal.specs.declared.goroutine.Status.{Status}
use Rattle.gp_journal.specs.declared.goroutine.Status.TheVariants.{Runnable, Running, Faulted, Dead, Blocked as Waiting}
use Rattle.gp_journal.specs.declared.settings.Settings.{Settings}
use Rattle.gp_journal.specs.State.{Code, State, code_of, nobody, goroutine, worker, channel, mutex, births, main_goroutine, first, is_dead, is_live}
use Rattle.gp_journal.specs.Settings.{quantum}
use Rattle.gp_journal.specs.Due.{asked, over, due, extent, next_instruction}
use Rattle.gp_journal.specs.May.{May}
use Rattle.gp_journal.specs.Effect.{turned, recorded, passed, is_over_after, unmarked, blocked_at, woken_at, child_of, labels_at, with_goroutine, passes, faults, bears, meets, operates, waiter, acts, after}
use Rattle.gp_journal.specs.Answer.{answer_to, op_answer, operation_answer, block_delay}
use Rattle.gp_journal.specs.Reached.{IsReached}
use Rattle.gp_journal.proofs.Naming.{next_named}
use Rattle.gp_journal.proofs.Parts.{one_if_eq, Balances, with_wait_lists, blocked_by, live_status}
use Rattle.gp_journal.proofs.Places.{changed}
use Rattle.gp_journal.proofs.Reached.{is_whole}
use Rattle.gp_journal.proofs.WaitLists.{send_moves, recv_moves, lock_moves, unlock_moves}
use Rattle.gp_journal.proofs.Whole.{seats, IsWhole, live_within}
use Rattle.gp_journal.specs.Bodies.{nowhere, standing, AreBodiesOf, further, moved_on}

-- There is a place for each goroutine, and a live one stands there.
record Stand (gs : List Goroutine) (ps : List Progress) : Type 0 where
  each : length ps ≡ length gs
  live : (g : ℕ) → is_live (get_or gs g nobody) ≡ true → get_or ps g nowhere ≡ standing (get_or gs g nobody)

stand : (s : State) (ps : List Progress) → AreBodiesOf s ps → Stand s.goroutines ps
stand s ps are = record { each = are.each; live = are.live }

are_bodies : (s : State) (ps : List Progress) → Stand s.goroutines ps → AreBodiesOf s ps
are_bodies s ps all = record { each = all.each; live = all.live }

-- another goroutine at a number, that stands where the old one stood, and lives only where that lived
keeps : (gs : List Goroutine) (ps : List Progress) (g : ℕ) (y : Goroutine) → Stand gs ps → (is_live y ≡ true → is_live (get_or gs g nobody) ≡ true) → standing y ≡ standing (get_or gs g nobody) → Stand (set gs g y) ps
keeps gs ps g y all lives same = record {
  each = all.each ∙ sym (length-set gs g y);
  live = changed (λ k x. is_live x ≡ true → get_or ps k nowhere ≡ standing x) nobody gs g y (λ live. all.live g (lives live) ∙ sym same) all.live;
}

-- one that stands n points further
moves : (gs : List Goroutine) (ps : List Progress) (g n : ℕ) (y : Goroutine) → Stand gs ps → (is_live y ≡ true → is_live (get_or gs g nobody) ≡ true) → standing y ≡ further n (standing (get_or gs g nobody)) → Stand (set gs g y) (moved_on ps g n)
moves gs ps g n y all lives same = at (cases_lt g (length gs))
  where
    at : (g < length gs) ⊎ (length gs ≤ g) → Stand (set gs g y) (moved_on ps g n)
    at (inr past) =
        let beyond : length ps ≤ g = let e = all.each in omega arith in
        rw (set_past gs g y past, set_past ps g (further n (get_or ps g nowhere)) beyond) all
    at (inl within) = record {
      each = length-set ps g (further n (get_or ps g nowhere)) ∙ all.each ∙ sym (length-set gs g y);
      live = λ k. here k (cases_eq k g);
    }
      where
        here : (k : ℕ) → (k ≡ g) ⊎ (k ≡ g → ⊥) → is_live (get_or (set gs g y) k nobody) ≡ true → get_or (moved_on ps g n) k nowhere ≡ standing (get_or (set gs g y) k nobody)
        here k (inr other) live =
            let old : is_live (get_or gs k nobody) ≡ true = ap is_live (sym (get_or-set_other gs g k y nobody other)) ∙ live in
            get_or-set_other ps g k (further n (get_or ps g nowhere)) nowhere other ∙ all.live k old ∙ ap standing (sym (get_or-set_other gs g k y nobody other))
        here k (inl same_place) live =
            let mine : get_or (set gs g y) k nobody ≡ y = ap (λ i. get_or (set gs g y) i nobody) same_place ∙ get_or-set_same gs g y nobody within in
            let inside : g < length ps = let e = all.each in omega arith in
            let old = all.live g (lives (ap is_live (sym mine) ∙ live)) in
            ap (λ i. get_or (moved_on ps g n) i nowhere) same_place
            ∙ get_or-set_same ps g (further n (get_or ps g nowhere)) nowhere inside
            ∙ ap (further n) old ∙ sym same ∙ ap standing (sym mine)

-- one more
gains : (gs : List Goroutine) (ps : List Progress) (y : Goroutine) → Stand gs ps → Stand (gs ++ y ∷ []) (ps ++ standing y ∷ [])
gains gs ps y all = record {
  each = length_push ps (standing y) ∙ ap (λ n. n + 1) all.each ∙ sym (length_push gs y);
  live = λ k. at k (cases_lt k (length gs)) (cases_eq k (length gs));
}
  where
    at : (k : ℕ) → (k < length gs) ⊎ (length gs ≤ k) → (k ≡ length gs) ⊎ (k ≡ length gs → ⊥) → is_live (get_or (gs ++ y ∷ []) k nobody) ≡ true → get_or (ps ++ standing y ∷ []) k nowhere ≡ standing (get_or (gs ++ y ∷ []) k nobody)
    at k (inl within) end live =
        let inside : k < length ps = let e = all.each in omega arith in
        let same = get_or_append_left gs (y ∷ []) nobody k within in
        get_or_append_left ps (standing y ∷ []) nowhere k inside ∙ all.live k (ap is_live (sym same) ∙ live) ∙ ap standing (sym same)
    at k (inr past) (inl last) live =
        get_or_push ps (standing y) nowhere k (all.each ∙ sym last) ∙ ap standing (sym (get_or_push gs y nobody k (sym last)))
    at k (inr past) (inr other) live =
        let beyond : length (gs ++ y ∷ []) ≤ k = omega (arith, length_push gs y) in
        absurd (true≢false (sym live ∙ ap is_live (get_or_past (gs ++ y ∷ []) k nobody beyond)))

-- one that passes n points
passer : (code : Code) (gs : List Goroutine) (ps : List Progress) (g n : ℕ) → Stand gs ps → Stand (set gs g (passed code n (get_or gs g nobody))) (moved_on ps g n)
passer code gs ps g n all = moves gs ps g n (passed code n (get_or gs g nobody)) all (lived (is_over_after code n (get_or gs g nobody)) (get_or gs g nobody).status) refl
  where
    lived : (ended : Bool) (status : Status) → not (is_dead (if ended then Dead else status)) ≡ true → not (is_dead status) ≡ true
    lived true status live = absurd (true≢false (sym live))
    lived false status live = live

-- whether an entry leaves the bodies where they stand: all do but a Run and an Op
abbrev pub leaves_bodies : Entry → Bool
leaves_bodies (Run w g n) = false
leaves_bodies (Op w g) = false
leaves_bodies _ = true

-- Then they are still those of the goroutines.
pub stays : (code : Code) (settings : Settings) (s : State) (entry : Entry) (bodies : List Progress) → leaves_bodies entry ≡ true → IsReached code settings s → May code settings s entry → AreBodiesOf s bodies →
    AreBodiesOf (after code settings s entry) bodies
unfolding after
stays code settings s (Start w g) bodies none reached may are =
    are_bodies _ bodies (keeps s.goroutines bodies g (turned (Running w) (goroutine s g)) (stand s bodies are) (λ live. live_status (goroutine s g) may.runnable refl) refl)
stays code settings s (Run w g n) bodies none reached may are = absurd (true≢false (sym none))
stays code settings s (Op w g) bodies none reached may are = absurd (true≢false (sym none))
stays code settings s (Tick w g) bodies none reached may are = record { each = are.each; live = are.live }
stays code settings s (Park w g) bodies none reached may are =
    let status = (is_whole code settings s reached).on_worker w g may.runs in
    are_bodies _ bodies (keeps s.goroutines bodies g (turned Runnable (goroutine s g)) (stand s bodies are) (λ live. live_status (goroutine s g) status refl) refl)
stays code settings s (Open epoch room) bodies none reached may are = record { each = are.each; live = are.live }
stays code settings s (Refuse room n) bodies none reached may are = record { each = are.each; live = are.live }
stays code settings s (Record actor g) bodies none reached may are =
    are_bodies _ bodies (keeps s.goroutines bodies g (recorded s.active (goroutine s g)) (stand s bodies are) (λ live. live) refl)
stays code settings s (Close epoch) bodies none reached may are = record { each = are.each; live = are.live }

-- A body moves on by a Run's points.
pub follows_run : (code : Code) (settings : Settings) (s : State) (w g n : ℕ) (bodies : List Progress) → AreBodiesOf s bodies → AreBodiesOf (after code settings s (Run w g n)) (moved_on bodies g n)
unfolding after
follows_run code settings s w g n bodies are = are_bodies _ _ (passer code s.goroutines bodies g n (stand s bodies are))

-- the place of a newborn goroutine of g
abbrev pub newborn_place : Code → State → ℕ → ℕ → Progress
newborn_place code s g function = record { start = function; set = labels_at code (goroutine s g); count = 0 }

-- How the bodies stand after an Op of g, by its answer: where somebody was born that one's comes to the others.
abbrev pub Moved : Code → Settings → ℕ → ℕ → State → List Progress → Applied → Type 0
Moved code settings w g s bodies (Passed woke event died) = AreBodiesOf (after code settings s (Op w g)) (moved_on bodies g 1)
Moved code settings w g s bodies (Born h died) =
    (f : ℕ) → operation_of (next_instruction code s g) ≡ Some (operation.Spawn f) → AreBodiesOf (after code settings s (Op w g)) (moved_on bodies g 1 ++ newborn_place code s g f ∷ [])
Moved code settings w g s bodies Blocked = AreBodiesOf (after code settings s (Op w g)) bodies
Moved code settings w g s bodies (Fault cause) = AreBodiesOf (after code settings s (Op w g)) bodies
Moved code settings w g s bodies (Plain died) = Unit {0}

-- the same of the goroutines that an Op leaves
abbrev Leaves : Code → ℕ → State → List Progress → Applied → State → Type 0
Leaves code g s ps (Passed woke event died) t = Stand t.goroutines (moved_on ps g 1)
Leaves code g s ps (Born h died) t = (f : ℕ) → operation_of (next_instruction code s g) ≡ Some (operation.Spawn f) → Stand t.goroutines (moved_on ps g 1 ++ newborn_place code s g f ∷ [])
Leaves code g s ps Blocked t = Stand t.goroutines ps
Leaves code g s ps (Fault cause) t = Stand t.goroutines ps
Leaves code g s ps (Plain died) t = Unit {0}

module _ (code : Code) (settings : Settings) (w g : ℕ) (s : State) (ps : List Progress) (whole : IsWhole s) (runs : (worker s w).runs ≡ Some g) (all : Stand s.goroutines ps) where
  alive : is_live (goroutine s g) ≡ true
  alive = live_status (goroutine s g) (whole.on_worker w g runs) refl

  born : g < length s.goroutines
  born = live_within s.goroutines g alive

  meets_leaves : (cs : List Channel) (ms : List Mutex) (contended died : Bool) (outcome : Effect) → ((k : ℕ) → Balances outcome g k (places_of s.channels s.mutexes k) (places_of cs ms k)) →
      Leaves code g s ps (answer_to contended died outcome) (meets code settings w g outcome (with_wait_lists cs ms s))
  unfolding meets
  meets_leaves cs ms contended died effect.Done balance = passer code s.goroutines ps g 1 all
  meets_leaves cs ms contended died (effect.Wakes h since) balance =
      let mine = balance h in
      let one = one_if_eq h h refl in
      let seat : 1 ≤ seats (goroutine s h).status = let b = whole.waits h in omega arith in
      let waits : (goroutine s h).status ≡ Waiting = blocked_by (goroutine s h).status seat in
      passer code _ ps g 1 (keeps s.goroutines ps h (woken_at s.clock (goroutine s h)) all (λ live. live_status (goroutine s h) waits refl) refl)
  meets_leaves cs ms contended died effect.Blocks balance = keeps s.goroutines ps g (blocked_at s.clock (goroutine s g)) all (λ live. alive) refl
  meets_leaves cs ms contended died effect.Fault balance = keeps s.goroutines ps g (turned Faulted (goroutine s g)) all (λ live. alive) refl

  -- a goroutine is born of g, which passes its point
  bears_leaves : (function : ℕ) → Stand (passes code settings w g 1 (bears code function g s)).goroutines (moved_on ps g 1 ++ newborn_place code s g function ∷ [])
  bears_leaves function =
      let child = child_of code function g s in
      let inside : g < length ps = let e = all.each in let b = born in omega arith in
      let two : Stand (s.goroutines ++ child ∷ []) (ps ++ standing child ∷ []) = gains s.goroutines ps child all in
      let on : moved_on (ps ++ standing child ∷ []) g 1 ≡ moved_on ps g 1 ++ standing child ∷ [] =
      ap (λ (p : Progress). set (ps ++ standing child ∷ []) g (further 1 p)) (get_or_append_left ps (standing child ∷ []) nowhere g inside)
      ∙ set-append_left ps (standing child ∷ []) g (further 1 (get_or ps g nowhere)) inside in
      subst (Stand (set (s.goroutines ++ child ∷ []) g (passed code 1 (get_or (s.goroutines ++ child ∷ []) g nobody)))) on (passer code (s.goroutines ++ child ∷ []) (ps ++ standing child ∷ []) g 1 two)

  spawns_leaves : (function : ℕ) (room died : Bool) → next_instruction code s g ≡ Spawn function →
      Leaves code g s ps (if room then Born (births s) died else Fault 2) (if room then passes code settings w g 1 (bears code function g s) else faults 2 w g s)
  spawns_leaves function true died next = λ f is.
      let same : function ≡ f = let e : Some (operation.Spawn function) ≡ Some (operation.Spawn f) = sym (ap operation_of next) ∙ is in cc in
      subst (λ n. Stand (passes code settings w g 1 (bears code function g s)).goroutines (moved_on ps g 1 ++ newborn_place code s g n ∷ [])) same (bears_leaves function)
  spawns_leaves function false died next = keeps s.goroutines ps g (turned Faulted (goroutine s g)) all (λ live. alive) refl

  operates_leaves : (died : Bool) (i : Instruction) → next_instruction code s g ≡ i → Leaves code g s ps (operation_answer code settings g died i s) (operates code settings w g i s)
  unfolding operates operation_answer
  operates_leaves died Local next = tt
  operates_leaves died (Labels l) next = tt
  operates_leaves died (Send c) next =
      let outcome = send (code.capacity c) (channel s c) (waiter s g) in
      meets_leaves (set s.channels c outcome.1) s.mutexes false died outcome.0 (λ k. send_moves s.channels s.mutexes (waiter s g) k c (code.capacity c))
  operates_leaves died (Recv c) next =
      let outcome = recv (channel s c) (waiter s g) in
      meets_leaves (set s.channels c outcome.1) s.mutexes false died outcome.0 (λ k. recv_moves s.channels s.mutexes (waiter s g) k c)
  operates_leaves died (Lock m) next =
      let outcome = lock (mutex s m) (waiter s g) in
      meets_leaves s.channels (set s.mutexes m outcome.1) false died outcome.0 (λ k. lock_moves s.channels s.mutexes (waiter s g) k m)
  operates_leaves died (Unlock m) next =
      let outcome = unlock (mutex s m) in
      meets_leaves s.channels (set s.mutexes m outcome.1) true died outcome.0 (λ k. unlock_moves s.channels s.mutexes (waiter s g) k m)
  operates_leaves died (Spawn function) next = spawns_leaves function (nat_lt (births s) settings.cells) died next

  acts_leaves_at : (granted died : Bool) → Leaves code g s ps
      (if granted then Passed None (Some (record { delay = block_delay (goroutine s g) })) died else operation_answer code settings g died (next_instruction code s g) s)
      (if granted then passes code settings w g 1 (with_goroutine g (unmarked (goroutine s g)) s) else operates code settings w g (next_instruction code s g) s)
  acts_leaves_at true died = passer code _ ps g 1 (keeps s.goroutines ps g (unmarked (goroutine s g)) all (λ live. live) refl)
  acts_leaves_at false died = operates_leaves died (next_instruction code s g) refl

  acts_leaves : Leaves code g s ps (op_answer code settings g s) (acts code settings w g s)
  acts_leaves = acts_leaves_at (goroutine s g).granted (is_over_after code 1 (goroutine s g))

moved_by : (code : Code) (settings : Settings) (w g : ℕ) (s : State) (bodies : List Progress) (answer : Applied) → Leaves code g s bodies answer (acts code settings w g s) → Moved code settings w g s bodies answer
unfolding after
moved_by code settings w g s bodies (Passed woke event died) all = are_bodies _ _ all
moved_by code settings w g s bodies (Born h died) all = λ f is. are_bodies _ _ (all f is)
moved_by code settings w g s bodies Blocked all = are_bodies _ bodies all
moved_by code settings w g s bodies (Fault cause) all = are_bodies _ bodies all
moved_by code settings w g s bodies (Plain died) all = tt

-- The bodies move with an Op as its answer tells.
pub follows_op : (code : Code) (settings : Settings) (s : State) (w g : ℕ) (bodies : List Progress) → IsReached code settings s → May code settings s (Op w g) → AreBodiesOf s bodies → Moved code settings w g s bodies (op_answer code settings g s)
follows_op code settings s w g bodies reached may are =
    moved_by code settings w g s bodies (op_answer code settings g s) (acts_leaves code settings w g s bodies (is_whole code settings s reached) may.runs (stand s bodies are))

-- An Op is due only at a shared point, so its answer is that of an operation.
shared_chosen : (tick stop shared : Bool) (w g n : ℕ) → (if tick then Tick w g else if stop then Park w g else if shared then Op w g else Run w g n) ≡ Op w g → shared ≡ true
shared_chosen true stop shared w g n e = absurd (cc)
shared_chosen false true shared w g n e = absurd (cc)
shared_chosen false false true w g n e = refl
shared_chosen false false false w g n e = absurd (cc)

not_not : (b : Bool) → not b ≡ true → b ≡ false
not_not true e = absurd (true≢false (sym e))
not_not false e = refl

pub op_shared : (code : Code) (settings : Settings) (s : State) (w g : ℕ) → due code settings s w g ≡ Op w g → is_local (next_instruction code s g) ≡ false
unfolding due
op_shared code settings s w g e =
    not_not (is_local (next_instruction code s g))
    (shared_chosen (worker s w).tick (asked settings s || over settings s || ((worker s w).slice == quantum)) (not (is_local (next_instruction code s g))) w g (extent code settings s w g) e)

-- what an operation's answer isn't
never_plain : (contended died ended : Bool) (outcome : Effect) → answer_to contended died outcome ≡ Plain ended → ⊥
never_plain contended died ended effect.Done e = absurd (cc)
never_plain contended died ended (effect.Wakes h since) e = absurd (cc)
never_plain contended died ended effect.Blocks e = absurd (cc)
never_plain contended died ended effect.Fault e = absurd (cc)

never_born : (contended died ended : Bool) (h : ℕ) (outcome : Effect) → answer_to contended died outcome ≡ Born h ended → ⊥
never_born contended died ended h effect.Done e = absurd (cc)
never_born contended died ended h (effect.Wakes other since) e = absurd (cc)
never_born contended died ended h effect.Blocks e = absurd (cc)
never_born contended died ended h effect.Fault e = absurd (cc)

-- Who is born: by a spawn, where a cell is left, under the next number.
pub record Bears (settings : Settings) (s : State) (h : ℕ) (i : Instruction) : Type 0 where
  pub function : ℕ
  pub by_spawn : operation_of i ≡ Some (operation.Spawn function)
  pub next_number : h ≡ births s
  pub has_cell : births s < settings.cells

module _ (code : Code) (settings : Settings) (s : State) (g : ℕ) where
  spawn_plain : (room died ended : Bool) → (if room then Born (births s) died else Fault 2) ≡ Plain ended → ⊥
  spawn_plain true died ended e = absurd (cc)
  spawn_plain false died ended e = absurd (cc)

  operation_plain : (died ended : Bool) (i : Instruction) → is_local i ≡ false → operation_answer code settings g died i s ≡ Plain ended → ⊥
  unfolding operation_answer
  operation_plain died ended Local shared e = absurd (true≢false shared)
  operation_plain died ended (Labels l) shared e = absurd (true≢false shared)
  operation_plain died ended (Send c) shared e = never_plain false died ended (send (code.capacity c) (channel s c) (waiter s g)).0 e
  operation_plain died ended (Recv c) shared e = never_plain false died ended (recv (channel s c) (waiter s g)).0 e
  operation_plain died ended (Lock m) shared e = never_plain false died ended (lock (mutex s m) (waiter s g)).0 e
  operation_plain died ended (Unlock m) shared e = never_plain true died ended (unlock (mutex s m)).0 e
  operation_plain died ended (Spawn function) shared e = spawn_plain (nat_lt (births s) settings.cells) died ended e

  answer_plain : (granted died ended : Bool) → is_local (next_instruction code s g) ≡ false →
      (if granted then Passed None (Some (record { delay = block_delay (goroutine s g) })) died else operation_answer code settings g died (next_instruction code s g) s) ≡ Plain ended → ⊥
  answer_plain true died ended shared e = absurd (cc)
  answer_plain false died ended shared e = operation_plain died ended (next_instruction code s g) shared e

  -- The answer to an Op isn't a plain one.
  pub op_not_plain : (w : ℕ) (ended : Bool) → May code settings s (Op w g) → op_answer code settings g s ≡ Plain ended → ⊥
  op_not_plain w ended may e = answer_plain (goroutine s g).granted (is_over_after code 1 (goroutine s g)) ended (op_shared code settings s w g may.is_next) e

  spawn_born : (function : ℕ) (room died ended : Bool) (h : ℕ) → nat_lt (births s) settings.cells ≡ room → (if room then Born (births s) died else Fault 2) ≡ Born h ended → Bears settings s h (Spawn function)
  spawn_born function true died ended h some e = record { function = function; by_spawn = refl; next_number = cc; has_cell = ltb-true (births s) settings.cells some }
  spawn_born function false died ended h none e = absurd (cc)

  operation_born : (died ended : Bool) (h : ℕ) (i : Instruction) → operation_answer code settings g died i s ≡ Born h ended → Bears settings s h i
  unfolding operation_answer
  operation_born died ended h Local e = absurd (cc)
  operation_born died ended h (Labels l) e = absurd (cc)
  operation_born died ended h (Send c) e = absurd (never_born false died ended h (send (code.capacity c) (channel s c) (waiter s g)).0 e)
  operation_born died ended h (Recv c) e = absurd (never_born false died ended h (recv (channel s c) (waiter s g)).0 e)
  operation_born died ended h (Lock m) e = absurd (never_born false died ended h (lock (mutex s m) (waiter s g)).0 e)
  operation_born died ended h (Unlock m) e = absurd (never_born true died ended h (unlock (mutex s m)).0 e)
  operation_born died ended h (Spawn function) e = spawn_born function (nat_lt (births s) settings.cells) died ended h refl e

  answer_born : (granted died ended : Bool) (h : ℕ) →
      (if granted then Passed None (Some (record { delay = block_delay (goroutine s g) })) died else operation_answer code settings g died (next_instruction code s g) s) ≡ Born h ended → Bears settings s h (next_instruction code s g)
  answer_born true died ended h e = absurd (cc)
  answer_born false died ended h e = operation_born died ended h (next_instruction code s g) e

  pub op_bears : (h : ℕ) (ended : Bool) → op_answer code settings g s ≡ Born h ended → Bears settings s h (next_instruction code s g)
  op_bears h ended e = answer_born (goroutine s g).granted (is_over_after code 1 (goroutine s g)) ended h e

-- who is to be born runs a function of the program
spawned_there : (parts : Parts) (i : Instruction) (f : ℕ) → operation_of i ≡ Some (operation.Spawn f) → IsThere parts i → f < length parts.functions
spawned_there parts Local f e there = absurd (cc)
spawned_there parts (Labels l) f e there = absurd (cc)
spawned_there parts (Send c) f e there = absurd (cc)
spawned_there parts (Recv c) f e there = absurd (cc)
spawned_there parts (Lock m) f e there = absurd (cc)
spawned_there parts (Unlock m) f e there = absurd (cc)
spawned_there parts (Spawn h) f e there = let same : h ≡ f = cc in subst (λ n. n < length parts.functions) same there

pub born_there : (program : Parts) (s : State) (g f : ℕ) → AreInLimits program → operation_of (next_instruction (code_of program) s g) ≡ Some (operation.Spawn f) → f < length program.functions
born_there program s g f limits e = spawned_there program (next_instruction (code_of program) s g) f e (next_named program s g limits)

-- `main` is a function of the program
main_within : (test : Function → Bool) (fs : List Function) (f : ℕ) → position test fs ≡ Some f → f < length fs
main_within test [] f e = absurd (cc)
main_within test (first_one ∷ others) f e = (position-Some test (first_one ∷ others) f first_one e).0

pub main_there : (program : Parts) (f : ℕ) → main_of program ≡ Some f → f < length program.functions
main_there program f e = main_within (λ (declared : Function). bytes_eq declared.name (codes "main")) program.functions f e

-- The first goroutine's body.
pub first_bodies : (code : Code) (settings : Settings) → AreBodiesOf (first code settings) (standing (main_goroutine code) ∷ [])
first_bodies code settings = record { each = refl; live = at }
  where
    at : (g : ℕ) → is_live (goroutine (first code settings) g) ≡ true → get_or (standing (main_goroutine code) ∷ []) g nowhere ≡ standing (goroutine (first code settings) g)
    at zero live = refl
    at (suc g) live = absurd (true≢false (sym live))
