-- The bodies stand where their goroutines do, once each follows what became of it by the entry that was due.
use Rattle.std.proofs.Common.{◌≡◌, ◌<◌, ◌≤◌, ◌++◌, ◌∷◌, [], inl, inr, ℕ, Bool, true, false, not, List, length, get_or, set, refl, sym, ap, ◌∙◌, subst, true≢false, arith, length-set}
use Rattle.std.specs.Prelude.{if◌then◌else◌}
use Rattle.std.proofs.lemmas.List.{set-get_or, get_or_push, get_or-map, length-map, map-set}
use Rattle.std.proofs.ByRecursion.{All-get_or}
use Rattle.gp_isa.specs.declared.parts.Parts.{Parts}
use Rattle.gp_stack.specs.declared.body.Body.{Body}
use Rattle.gp_stack.specs.Body.{Progress, progress_of, StandsIn, ahead_at}
use Rattle.gp_journal.specs.declared.answer.Applied.{Applied}
use Rattle.gp_journal.specs.declared.answer.Applied.TheVariants as answer
use Rattle.gp_journal.specs.declared.entry.Entry.{Entry}
use Rattle.gp_journal.specs.declared.entry.Entry.TheVariants.{Run, Op, Tick, Park}
use Rattle.gp_journal.specs.declared.goroutine.Status.{Status}
use Rattle.gp_journal.specs.declared.goroutine.Status.TheVariants.{Runnable, Running, Blocked, Faulted, Dead}
use Rattle.gp_journal.specs.declared.settings.Settings.{Settings}
use Rattle.gp_journal.specs.Answer.{applied}
use Rattle.gp_journal.specs.Bodies.{nowhere, standing, AllStand, AreBodiesOf, further, moved_on, progress_each}
use Rattle.gp_journal.specs.Due.{due}
use Rattle.gp_journal.specs.Effect.{after, passed, is_over_after}
use Rattle.gp_journal.specs.May.{May}
use Rattle.gp_journal.specs.Reached.{IsReached}
use Rattle.gp_journal.specs.Run.{IsLegal, last, state_of}
use Rattle.gp_journal.specs.Settings.{AreInRange}
use Rattle.gp_journal.specs.Standing.{times}
use Rattle.gp_journal.specs.State.{Code, State, code_of, goroutine, nobody, is_live, is_dead, is_runnable}
use Rattle.gp_journal.specs.StepLaws.{joining}
use Rattle.gp_journal.proofs.Lemmas.{is_whole, holds_runnable, live_status, step_queue, times_push, one_at, changed, stays, follows_run, follows_op, Moved, op_bears, run_ahead, live_within}
use Rattle.gp_journal.proofs.Following.{newborn_place}
use Rattle.gp_world.specs.declared.ring_end.RingEnd.{RingEnd}
use Rattle.gp_world.specs.declared.step.Step.{Step}
use Rattle.gp_world.specs.declared.step.Step.TheVariants as step
use Rattle.gp_world.specs.Calls.{IsStep, HasPassed, moved_by}
use Rattle.gp_world.specs.Scene.{Scene}
use Rattle.gp_workers.specs.kept.Following.{CanFollow, places_behind}
use Rattle.gp_workers.specs.kept.Locked.{Fit}
use Rattle.gp_workers.proofs.Keeping.{state_is}

-- The bodies after a Run that ended g's trace: that of g may stand where it stood.
ran_out : (code : Code) (settings : Settings) (s : State) (w g n : ℕ) (bodies : List Progress) → is_over_after code n (goroutine s g) ≡ true → AreBodiesOf s bodies → AreBodiesOf (after code settings s (Run w g n)) bodies
unfolding after
ran_out code settings s w g n bodies ended are = record {
  each = are.each ∙ sym (length-set s.goroutines g (passed code n (goroutine s g)));
  live = changed (λ k x. is_live x ≡ true → get_or bodies k nowhere ≡ standing x) nobody s.goroutines g (passed code n (goroutine s g))
      (λ live. absurd (true≢false (sym live ∙ ap (λ b. not (is_dead (if b then Dead else (goroutine s g).status))) ended))) are.live;
}

is_there : (status : Status) (n : ℕ) → n ≡ (if is_runnable status then 1 else 0) → 1 ≤ n → status ≡ Runnable
is_there Runnable n e some = refl
is_there (Running w) n e some = absurd (omega arith)
is_there Blocked n e some = absurd (omega arith)
is_there Faulted n e some = absurd (omega arith)
is_there Dead n e some = absurd (omega arith)

module _ (program : Parts) (settings : Settings) (s : State) (w g : ℕ) (bodies : List Progress) (reached : IsReached (code_of program) settings s) (are : AreBodiesOf s bodies) where
  abbrev code : Code
  code = code_of program

  abbrev made : Entry
  made = due code settings s w g

  abbrev place : Progress
  place = get_or bodies g nowhere

  -- where they stand once the entry was made
  abbrev pub places_at : Entry → List Progress
  places_at entry = set bodies g (moved_by (applied code settings s entry) place)

  -- and that they are those of the goroutines
  abbrev Behind : Step → Entry → Type 0
  Behind it entry = AreBodiesOf (after code settings s entry) (places_behind g it (places_at entry))

  abbrev unmoved : set bodies g place ≡ bodies
  unmoved = set-get_or bodies g nowhere

  -- an Op by its answer
  operated : May code settings s (Op w g) → (told : Applied) → applied code settings s (Op w g) ≡ told → Moved code settings w g s bodies told
  operated may told e = subst (Moved code settings w g s bodies) e (follows_op code settings s w g bodies reached may are)

  op_passed : (it : Step) → ((places : List Progress) → places_behind g it places ≡ places) → (died : Bool) → May code settings s made → HasPassed code settings s w g died → Behind it made
  op_passed it same died may is =
      subst (Behind it) (sym is.is_op)
      (subst (λ a. AreBodiesOf (after code settings s (Op w g)) (places_behind g it (set bodies g (moved_by a place)))) (sym is.told)
      (subst (AreBodiesOf (after code settings s (Op w g))) (sym (same (moved_on bodies g 1)))
      (operated (subst (May code settings s) is.is_op may) (answer.Passed is.woke is.event died) is.told)))

  -- one by which no body moves, nor does g's
  op_stood : (it : Step) (told : Applied) → ((places : List Progress) → places_behind g it places ≡ places) → made ≡ Op w g → applied code settings s (Op w g) ≡ told → moved_by told place ≡ place →
      AreBodiesOf (after code settings s (Op w g)) bodies → Behind it made
  op_stood it told same is_op is stood moved =
      subst (Behind it) (sym is_op)
      (subst (λ a. AreBodiesOf (after code settings s (Op w g)) (places_behind g it (set bodies g (moved_by a place)))) (sym is)
      (subst (AreBodiesOf (after code settings s (Op w g))) (sym (same _ ∙ ap (set bodies g) stood ∙ unmoved)) moved))

  -- an entry that leaves them all
  stayed : (it : Step) (entry : Entry) → ((places : List Progress) → places_behind g it places ≡ places) → made ≡ entry → applied code settings s entry ≡ answer.Plain false →
      AreBodiesOf (after code settings s entry) bodies → Behind it made
  stayed it entry same is told moved =
      subst (Behind it) (sym is)
      (subst (AreBodiesOf (after code settings s entry)) (sym (same _ ∙ ap (λ a. set bodies g (moved_by a place)) told ∙ unmoved)) moved)

  -- ---- who is born

  module _ (range : AreInRange settings) (may : May code settings s (Op w g)) (h : ℕ) (died : Bool) (told : applied code settings s (Op w g) ≡ answer.Born h died)
      (reached_next : IsReached code settings (after code settings s (Op w g))) where
    abbrev next : State
    next = after code settings s (Op w g)

    lives : is_live (goroutine next h) ≡ true
    lives =
        let queue : next.queue ≡ s.queue ++ h ∷ [] = step_queue code settings s (Op w g) (is_whole code settings s reached) ∙ ap (λ a. s.queue ++ joining (Op w g) a) told in
        let some : 1 ≤ times h next.queue = omega (arith, ap (times h) queue, times_push h s.queue h, one_at h) in
        live_status (goroutine next h) (is_there (goroutine next h).status (times h next.queue) (holds_runnable code settings next reached_next h) some) refl

    newborn_is : (f : ℕ) → AreBodiesOf next (moved_on bodies g 1 ++ newborn_place code s g f ∷ []) → newborn_place code s g f ≡ standing (goroutine next h)
    newborn_is f all =
        let bears = op_bears code settings s g h died told in
        let at : length (moved_on bodies g 1) ≡ h = length-set bodies g (further 1 place) ∙ are.each ∙ sym bears.next_number in
        sym (get_or_push (moved_on bodies g 1) (newborn_place code s g f) nowhere h at) ∙ all.live h lives

    bore : (body : Body) → progress_of body ≡ standing (goroutine next h) → AreBodiesOf next (moved_on bodies g 1 ++ progress_of body ∷ [])
    bore body stands =
        let bears = op_bears code settings s g h died told in
        let all = operated may (answer.Born h died) told bears.function bears.by_spawn in
        subst (λ (p : Progress). AreBodiesOf next (moved_on bodies g 1 ++ p ∷ [])) (newborn_is bears.function all ∙ sym stands) all

  -- ---- any step

  module _ (range : AreInRange settings) (ring ring_next : RingEnd) (may : May code settings s made) (reached_next : IsReached code settings (after code settings s made)) where
    may_op : made ≡ Op w g → May code settings s (Op w g)
    may_op is = subst (May code settings s) is may

    pub follows : (it : Step) → IsStep program settings s ring ring_next w g it → Behind it made
    follows (step.Advance n) is =
        subst (Behind (step.Advance n)) (sym is.0)
        (subst (λ (ps : List Progress). AreBodiesOf (after code settings s (Run w g n)) (moved_on ps g n)) (sym unmoved) (follows_run code settings s w g n bodies are))
    follows step.Died (inl out) =
        subst (Behind step.Died) (sym out.is_run)
        (subst (AreBodiesOf (after code settings s (Run w g out.n))) (sym unmoved) (ran_out code settings s w g out.n bodies (plain_is out.told) are))
      where
        plain_is : {b : Bool} → answer.Plain b ≡ answer.Plain true → b ≡ true
        plain_is e = cc
    follows step.Died (inr it) = op_passed step.Died (λ places. refl) true may it
    follows (step.Born h epoch body died) is =
        let told = is.1.0 in
        subst (Behind (step.Born h epoch body died)) (sym is.0)
        (subst (λ a. AreBodiesOf (after code settings s (Op w g)) (set bodies g (moved_by a place) ++ progress_of body ∷ [])) (sym told)
        (bore range (may_op is.0) h died told (subst (λ e. IsReached code settings (after code settings s e)) is.0 reached_next) body is.1.1.1.stands))
    follows (step.Ticked wrote) is = stayed (step.Ticked wrote) (Tick w g) (λ places. refl) is.0 refl (stays code settings s (Tick w g) bodies refl reached (subst (May code settings s) is.0 may) are)
    follows step.Passed is = op_passed step.Passed (λ places. refl) false may is
    follows step.Blocked is = op_stood step.Blocked answer.Blocked (λ places. refl) is.0 is.1 refl (operated (may_op is.0) answer.Blocked is.1)
    follows step.Parked is = stayed step.Parked (Park w g) (λ places. refl) is refl (stays code settings s (Park w g) bodies refl reached (subst (May code settings s) is may) are)
    follows (step.Faulted cause) is = op_stood (step.Faulted cause) (answer.Fault cause) (λ places. refl) is.0 is.1 refl (operated (may_op is.0) (answer.Fault cause) is.1)

    -- What it tells can be done with the bodies.
    pub can_follow : (room : ℕ) → settings.cells ≤ room → (it : Step) → IsStep program settings s ring ring_next w g it → CanFollow program g room (places_at made) it
    can_follow room fits (step.Advance n) is =
        let due_run = subst (May code settings s) is.0 may in
        subst (λ e. n ≤ ahead_at program (get_or (places_at e) g nowhere)) (sym is.0)
        (subst (λ (ps : List Progress). n ≤ ahead_at program (get_or ps g nowhere)) (sym unmoved) (run_ahead program settings s reached range bodies are w g n due_run))
    can_follow room fits step.Died is = tt
    can_follow room fits (step.Born h epoch body died) is =
        let bears = op_bears code settings s g h died (is.1.0) in
        let some = bears.has_cell in
        let each = are.each in
        let same : length (places_at made) ≡ length bodies = length-set bodies g _ in
        (is.1.1.0, omega arith)
    can_follow room fits (step.Ticked wrote) is = tt
    can_follow room fits step.Passed is = tt
    can_follow room fits step.Blocked is = tt
    can_follow room fits step.Parked is = tt
    can_follow room fits (step.Faulted cause) is = tt

-- ---- the turn of a worker that runs one

-- the body of a live goroutine is among them
pub body_there : (program : Parts) (settings : Settings) (journal : List Entry) (room g : ℕ) (bodies : List Body) → Fit program settings journal room bodies → is_live (goroutine (state_of program settings journal) g) ≡ true → g < length bodies
body_there program settings journal room g bodies fit live =
    let born = live_within (state_of program settings journal).goroutines g live in
    let each = fit.its_bodies.each in
    let same = length-map bodies progress_of in
    omega arith

pub body_stands : (program : Parts) (settings : Settings) (journal : List Entry) (room g : ℕ) (bodies : List Body) (body : Body) → Fit program settings journal room bodies → is_live (goroutine (state_of program settings journal) g) ≡ true →
    body ≡ get_or bodies g body → StandsIn program body
body_stands program settings journal room g bodies body fit live was =
    subst (StandsIn program) (sym was) (All-get_or (StandsIn program) bodies g body (body_there program settings journal room g bodies fit live) fit.stand)

pub body_place : (program : Parts) (settings : Settings) (journal : List Entry) (room g : ℕ) (bodies : List Body) (body : Body) → Fit program settings journal room bodies → is_live (goroutine (state_of program settings journal) g) ≡ true →
    body ≡ get_or bodies g body → progress_of body ≡ standing (goroutine (state_of program settings journal) g)
body_place program settings journal room g bodies body fit live was =
    ap progress_of was ∙ sym (get_or-map progress_of bodies g body nowhere (body_there program settings journal room g bodies fit live)) ∙ fit.its_bodies.live g live

-- one that is lent and comes back as it was
pub lent_back : (bodies : List Body) (g : ℕ) (body back : Body) → body ≡ get_or bodies g body → back ≡ body → set bodies g back ≡ bodies
lent_back bodies g body back was same = ap (set bodies g) (same ∙ was) ∙ set-get_or bodies g body

module _ (program : Parts) (settings : Settings) (old new : Scene) (w b g room : ℕ) (its : b ≡ g) (bodies : List Body) (body back : Body) (it : Step) (fit : Fit program settings old.journal room bodies)
    (legal : IsLegal (code_of program) settings old.journal) (legal_next : IsLegal (code_of program) settings new.journal) (live : is_live (goroutine (state_of program settings old.journal) g) ≡ true)
    (was : body ≡ get_or bodies g body) (is_b : IsStep program settings (state_of program settings old.journal) old.ring new.ring w b it)
    (grown_b : new.journal ≡ old.journal ++ due (code_of program) settings (state_of program settings old.journal) w b ∷ [])
    (moved_b : progress_of back ≡ moved_by (applied (code_of program) settings (state_of program settings old.journal) (due (code_of program) settings (state_of program settings old.journal) w b)) (progress_of body)) where
  abbrev now : State
  now = state_of program settings old.journal

  abbrev entry : Entry
  entry = due (code_of program) settings now w g

  is : IsStep program settings now old.ring new.ring w g it
  is = subst (λ n. IsStep program settings now old.ring new.ring w n it) its is_b

  grown : new.journal ≡ old.journal ++ entry ∷ []
  grown = grown_b ∙ ap (λ n. old.journal ++ due (code_of program) settings now w n ∷ []) its

  moved : progress_of back ≡ moved_by (applied (code_of program) settings now entry) (progress_of body)
  moved = moved_b ∙ ap (λ n. moved_by (applied (code_of program) settings now (due (code_of program) settings now w n)) (progress_of body)) its

  here : IsReached (code_of program) settings now
  here = record { journal = old.journal; legal = legal; its_last = refl }

  longer : IsLegal (code_of program) settings (old.journal ++ entry ∷ [])
  longer = subst (IsLegal (code_of program) settings) grown legal_next

  next_is : last (code_of program) settings (old.journal ++ entry ∷ []) ≡ after (code_of program) settings now entry
  next_is = state_is program settings fit.in_range old.journal entry longer

  there : IsReached (code_of program) settings (after (code_of program) settings now entry)
  there = record { journal = old.journal ++ entry ∷ []; legal = longer; its_last = sym next_is }

  due_may : May (code_of program) settings now entry
  due_may = Rattle.gp_workers.proofs.Keeping.may program settings fit.in_range old.journal entry longer

  placed : progress_each (set bodies g back) ≡ places_at program settings now w g (progress_each bodies) here fit.its_bodies entry
  placed =
      map-set progress_of bodies g back
      ∙ ap (set (progress_each bodies) g)
      (moved ∙ ap (moved_by (applied (code_of program) settings now entry)) (ap progress_of was ∙ sym (get_or-map progress_of bodies g body nowhere (body_there program settings old.journal room g bodies fit live))))

  pub able : CanFollow program g room (progress_each (set bodies g back)) it
  able = subst (λ (ps : List Progress). CanFollow program g room ps it) (sym placed) (can_follow program settings now w g (progress_each bodies) here fit.its_bodies fit.in_range old.ring new.ring due_may there room fit.has_room it is)

  pub still_fit : (bodies' : List Body) (room' : ℕ) → AllStand program bodies' → progress_each bodies' ≡ places_behind g it (progress_each (set bodies g back)) → room' ≡ room → Fit program settings new.journal room' bodies'
  still_fit bodies' room' stand places same = record {
    in_range = fit.in_range;
    stand = stand;
    its_bodies =
        subst (λ (ps : List Progress). AreBodiesOf (state_of program settings new.journal) ps) (sym (places ∙ ap (places_behind g it) placed))
        (subst (λ s. AreBodiesOf s (places_behind g it (places_at program settings now w g (progress_each bodies) here fit.its_bodies entry)))
        (sym (ap (last (code_of program) settings) grown ∙ next_is))
        (follows program settings now w g (progress_each bodies) here fit.its_bodies fit.in_range old.ring new.ring due_may there it is));
    has_room = subst (λ n. settings.cells ≤ n) (sym same) fit.has_room;
  }
