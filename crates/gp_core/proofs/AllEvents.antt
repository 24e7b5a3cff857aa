-- Every list of events keeps what the core keeps, and so the invariant, and each copy recorded is frozen.
use Rattle.std.proofs.Common.{◌≡◌, ◌⊎◌, ℕ, ◌+◌, ◌<◌, ◌≤◌, Bool, true, false, List, [], ◌∷◌, ◌++◌, length, get_or, replicate, Option, Some, None, refl, sym, ap, ◌∙◌, subst, inl, inr, arith, zero, suc, true≢false, append_assoc}
use Rattle.std.proofs.lemmas.List.{append-nil}
use Rattle.gp_stack.specs.declared.record.Record.{Record as Row}
use Rattle.gp_journal.specs.declared.entry.Entry.{Entry}
use Rattle.gp_journal.specs.declared.entry.Entry.TheVariants.{Record}
use Rattle.gp_journal.specs.declared.goroutine.Status.TheVariants as status
use Rattle.gp_journal.specs.declared.settings.Settings.{Settings}
use Rattle.gp_journal.specs.Settings.{AreInRange}
use Rattle.gp_journal.specs.State.{Code, State, nobody, goroutine, main_goroutine, is_live, is_running, births, first}
use Rattle.gp_journal.specs.Due.{due}
use Rattle.gp_journal.specs.Effect.{after}
use Rattle.gp_journal.specs.Run.{IsLegal, last}
use Rattle.gp_journal.specs.JournalLaw.{StandsAs}
use Rattle.gp_journal.proofs.Lemmas.{IsWhole, Behind, active_last, rows_are_frozen, epochs_hold, unrecorded_stand}
use Rattle.gp_core.specs.declared.word.Word.{Word}
use Rattle.gp_core.specs.declared.word.Word.TheVariants.{Dead, Home, Claimed, Running}
use Rattle.gp_core.specs.declared.hold.Hold.{Hold}
use Rattle.gp_core.specs.declared.hold.How.{How}
use Rattle.gp_core.specs.declared.hold.How.TheVariants as how
use Rattle.gp_core.specs.declared.event.CoreEvent.{CoreEvent}
use Rattle.gp_core.specs.declared.event.CoreEvent.TheVariants as event
use Rattle.gp_core.specs.CoreState.{CoreState, first_core, word, hand, now, Holds, HoldsBy}
use Rattle.gp_core.specs.Enabled.{IsEnabled, MayCommitClaim, MayCommitDue}
use Rattle.gp_core.specs.Stepped.{stepped, commits, commits_by, commits_claim, commits_due}
use Rattle.gp_core.specs.Events.{AreEnabled, after_events, core_after, is_borne, is_buried}
use Rattle.gp_core.specs.Invariant.{KeepsJournal, Names, WordsNameHands, HomesHaveEpochs, ClaimsStand, IsRunning, WordsFollowLives, CopiesAreRows}
use Rattle.gp_core.specs.CoreLaws.{InvariantHolds, CopiesAreFrozen}
use Rattle.gp_core.proofs.Cells.{FitsWord, FitsCopy, FitsHand, names_held, one_named}
use Rattle.gp_core.proofs.Pasts.{FitsPast, not_borne}
use Rattle.gp_core.proofs.Keeps.{Kept, its_whole, more_events, unborn}
use Rattle.gp_core.proofs.Steps.{claims, satisfies, takes, gives, buries, bears, copies}
use Rattle.gp_core.proofs.Entries.{due_kept, claim_kept, begin_kept, open_kept, close_kept}

-- all places of what is made by replicate are alike, and they are so many
same_places : {X : Type 0} (x : X) (n k : ℕ) → get_or (replicate n x) k x ≡ x
same_places x zero k = refl
same_places x (suc n) zero = refl
same_places x (suc n) (suc k) = same_places x n k

so_many : {X : Type 0} (x : X) (n : ℕ) → length (replicate n x) ≡ n
so_many x zero = refl
so_many x (suc n) = ap suc (so_many x n)

-- the goroutine of a number in the first state
first_live : (code : Code) (g : ℕ) → g < 1 → is_live (get_or (main_goroutine code ∷ []) g nobody) ≡ true
first_live code zero within = refl
first_live code (suc g) within = absurd (omega arith)

first_stands : (code : Code) (g : ℕ) → is_running (get_or (main_goroutine code ∷ []) g nobody).status ≡ false
first_stands code zero = refl
first_stands code (suc g) = refl

first_count : (code : Code) (g : ℕ) → (get_or (main_goroutine code ∷ []) g nobody).count ≡ 0
first_count code zero = refl
first_count code (suc g) = refl

dead_none : (way : How) (a : ℕ) → Names way a Dead → ⊥
dead_none how.Claim a names = names
dead_none how.Take a names = names

first_kept : (code : Code) (settings : Settings) → Kept code settings [] (first_core settings) (first code settings)
first_kept code settings = record {
  is_now = refl;
  legal = tt;
  cells = so_many Dead settings.cells;
  bodies = so_many 0 settings.cells;
  actors = so_many None (settings.workers + 1);
  agree = record {
    words_fit = λ g. subst (FitsWord 0 (get_or (main_goroutine code ∷ []) g nobody)) (sym (all_dead g)) (first_stands code g);
    hands_fit = λ a. subst (FitsHand code (first code settings) (word (first_core settings)) a) (sym (all_free a)) tt;
    named = λ way a g names. absurd (dead_none way a (subst (Names way a) (all_dead g) names));
  };
  pasts = λ g. record {
    before_bear = λ e. (all_dead g, refl, first_live code g, first_count code g);
    between = λ e. absurd (true≢false (sym e));
    after_bury = λ e. absurd (true≢false (sym e));
    dying = λ e. absurd (true≢false (sym e));
    is_born = λ e. absurd (true≢false (sym e));
  };
  counts = λ g. same_places 0 settings.cells g ∙ sym (first_count code g);
  copies = tt;
  opened = λ some. absurd (omega (arith, some));
}
  where
    all_dead : (g : ℕ) → get_or (replicate settings.cells Dead) g Dead ≡ Dead
    all_dead g = same_places Dead settings.cells g

    all_free : (a : ℕ) → hand (first_core settings) a ≡ None
    all_free a = same_places None (settings.workers + 1) a

-- After an event, of the machine's state then.
AfterEvent : Code → Settings → List CoreEvent → CoreState → CoreEvent → Type 0
AfterEvent code settings events core it = Kept code settings (events ++ it ∷ []) (stepped code settings core it) (now code settings (stepped code settings core it))

-- a core is what it is of the state that its journal reaches
at_now : (code : Code) (settings : Settings) (events : List CoreEvent) (core : CoreState) (t : State) → Kept code settings events core t → Kept code settings events core (now code settings core)
at_now code settings events core t kept = subst (Kept code settings events core) (sym kept.is_now) kept

-- what is committed is told by the hand
pub claims_commit : (code : Code) (settings : Settings) (s : State) (core : CoreState) (a g : ℕ) (it : Option Hold) → HoldsBy how.Claim g it → commits code settings s a g it core ≡ commits_claim s a g core
claims_commit code settings s core a g None has = absurd has
claims_commit code settings s core a g (Some hold) has = ap (λ way. commits_by code settings s a g way core) has.1

pub takes_commit : (code : Code) (settings : Settings) (s : State) (core : CoreState) (a g : ℕ) (it : Option Hold) → HoldsBy how.Take g it → commits code settings s a g it core ≡ commits_due code settings s a g core
takes_commit code settings s core a g None has = absurd has
takes_commit code settings s core a g (Some hold) has = ap (λ way. commits_by code settings s a g way core) has.1

module _ (code : Code) (settings : Settings) (range : AreInRange settings) (events : List CoreEvent) (core : CoreState) (kept : Kept code settings events core (now code settings core)) where
  commit_kept : (a g : ℕ) → a ≤ settings.workers → g < births (now code settings core) →
      MayCommitClaim code settings (now code settings core) core a g ⊎ MayCommitDue code settings (now code settings core) core a g → AfterEvent code settings events core (event.Commit a g)
  unfolding AfterEvent
  commit_kept a g actor born (inl m) =
      let s = now code settings core in
      let same = claims_commit code settings s core a g (hand core a) m.has_claimed in
      let done = claim_kept code settings events core s kept a g actor born m in
      at_now code settings (events ++ event.Commit a g ∷ []) (commits code settings s a g (hand core a) core) _
      (subst (λ (c : CoreState). Kept code settings (events ++ event.Commit a g ∷ []) c (after code settings (now code settings core) (Record a g))) (sym same)
      (more_events code settings events (commits_claim s a g core) _ done (event.Commit a g) (λ k. (refl, refl))))
  commit_kept a g actor born (inr m) =
      let s = now code settings core in
      let same = takes_commit code settings s core a g (hand core a) m.has_taken in
      let done = due_kept code settings events core s kept range a g born m in
      at_now code settings (events ++ event.Commit a g ∷ []) (commits code settings s a g (hand core a) core) _
      (subst (λ (c : CoreState). Kept code settings (events ++ event.Commit a g ∷ []) c (after code settings (now code settings core) (due code settings (now code settings core) a g))) (sym same)
      (more_events code settings events (commits_due code settings s a g core) _ done (event.Commit a g) (λ k. (refl, refl))))

  event_kept : (it : CoreEvent) → IsEnabled code settings core it → AfterEvent code settings events core it
  unfolding AfterEvent
  event_kept (event.Claim a g) may = claims code settings range events core (now code settings core) kept a g may
  event_kept (event.Copy a g) may = copies code settings range events core (now code settings core) kept a g may
  event_kept (event.Satisfy a g) may = satisfies code settings range events core (now code settings core) kept a g may
  event_kept (event.Take w g) may = takes code settings range events core (now code settings core) kept w g may
  event_kept (event.Give w g) may = gives code settings range events core (now code settings core) kept w g may
  event_kept (event.Bear w g) may = bears code settings range events core (now code settings core) kept w g may
  event_kept (event.Bury w g) may = buries code settings range events core (now code settings core) kept w g may
  event_kept (event.Begin w g) may =
      let s = now code settings core in
      at_now code settings (events ++ event.Begin w g ∷ []) (stepped code settings core (event.Begin w g)) _
      (more_events code settings events (stepped code settings core (event.Begin w g)) _ (begin_kept code settings events core s kept w g may.is_worker may.is_born may.holds_too) (event.Begin w g) (λ k. (refl, refl)))
  event_kept (event.Commit a g) may = commit_kept a g may.is_actor may.is_born may.holds_too
  event_kept event.OpenAll may =
      at_now code settings (events ++ event.OpenAll ∷ []) (stepped code settings core event.OpenAll) _
      (more_events code settings events (stepped code settings core event.OpenAll) _ (open_kept code settings events core (now code settings core) kept may) event.OpenAll (λ k. (refl, refl)))
  event_kept event.CloseAll may =
      at_now code settings (events ++ event.CloseAll ∷ []) (stepped code settings core event.CloseAll) _
      (more_events code settings events (stepped code settings core event.CloseAll) _ (close_kept code settings events core (now code settings core) kept may) event.CloseAll (λ k. (refl, refl)))

-- All events of a list, from a core on.
all_kept : (code : Code) (settings : Settings) (range : AreInRange settings) (past : List CoreEvent) (core : CoreState) → Kept code settings past core (now code settings core) → (events : List CoreEvent) → AreEnabled code settings core events →
    Kept code settings (past ++ events) (after_events code settings core events) (now code settings (after_events code settings core events))
unfolding AfterEvent
all_kept code settings range past core kept [] enabled = subst (λ (es : List CoreEvent). Kept code settings es core (now code settings core)) (sym (append-nil past)) kept
all_kept code settings range past core kept (it ∷ events) enabled =
    subst (λ (es : List CoreEvent). Kept code settings es (after_events code settings (stepped code settings core it) events) (now code settings (after_events code settings (stepped code settings core it) events)))
    (append_assoc past (it ∷ []) events)
    (all_kept code settings range (past ++ it ∷ []) (stepped code settings core it) (event_kept code settings range past core kept it enabled.0) events enabled.1)

-- what the core keeps after a list of events that the protocol allows
pub kept_after : (code : Code) (settings : Settings) (events : List CoreEvent) → AreInRange settings → AreEnabled code settings (first_core settings) events →
    Kept code settings events (core_after code settings events) (now code settings (core_after code settings events))
kept_after code settings events range enabled = all_kept code settings range [] (first_core settings) (first_kept code settings) events enabled

-- The points of the invariant.
keeps_journal : (code : Code) (settings : Settings) (journal : List Entry) → IsLegal code settings journal → KeepsJournal code settings journal
keeps_journal code settings journal legal = record {
  legal = legal;
  epochs = λ k. epochs_hold code settings journal k legal;
  stand = λ before epoch room during g e none live below.
      subst (λ (j : List Entry). IsLegal code settings j → is_live (goroutine (last code settings j) g) ≡ true → (goroutine (last code settings j) g).epoch + 1 ≡ epoch →
      StandsAs code (last code settings before) (last code settings j) g) (sym e)
      (λ its lives under. unrecorded_stand code settings before epoch room during g its none lives under) legal live below;
  rows = λ before epoch room during e closes. rows_are_frozen code settings before epoch room during (subst (IsLegal code settings) e legal) closes;
}

module _ (code : Code) (settings : Settings) (events : List CoreEvent) (core : CoreState) (s : State) (kept : Kept code settings events core s) where
  fits_at : (g : ℕ) (v : Word) → word core g ≡ v → FitsWord s.active (goroutine s g) v
  fits_at g v e = subst (FitsWord s.active (goroutine s g)) e (kept.agree.words_fit g)

  -- some way in which a word names who holds
  how_held : (a g : ℕ) → Holds g (hand core a) → (way : How) × Names way a (word core g)
  how_held a g holds = by (hand core a) (kept.agree.hands_fit a) holds
    where
      by : (it : Option Hold) → FitsHand code s (word core) a it → Holds g it → (way : How) × Names way a (word core g)
      by None fits has = absurd has
      by (Some hold) fits has = (hold.how, subst (λ n. Names hold.how a (word core n)) has fits.0)

  words_name : WordsNameHands core
  words_name = record {
    once = λ a b g x y. let p = how_held a g x in let q = how_held b g y in one_named p.0 q.0 a b (word core g) p.1 q.1;
    named_holds = kept.agree.named;
    held_named = λ way a g has. names_held code s (word core) a g way (hand core a) (kept.agree.hands_fit a) has;
  }

  homes_have : HomesHaveEpochs s core
  homes_have = record {
    its_epoch = λ g epoch e. (fits_at g (Home epoch) e).2;
    near_last = λ g epoch e. let fits = fits_at g (Home epoch) e in near g epoch fits.2 (whole.epochs g fits.0);
  }
    where
      whole : IsWhole s
      whole = its_whole code settings events core s kept

      near : (g epoch : ℕ) → epoch ≡ (goroutine s g).epoch → ((goroutine s g).epoch ≡ s.last_epoch) ⊎ Behind s.active s.last_epoch (goroutine s g) →
          (epoch ≡ s.last_epoch) ⊎ ((epoch + 1 ≡ s.last_epoch) × (s.active ≡ s.last_epoch))
      near g epoch e (inl same) = inl (e ∙ same)
      near g epoch e (inr behind) = inr (ap (λ n. n + 1) e ∙ behind.1, active_last s whole behind.0)

  claims_stand : ClaimsStand s core
  claims_stand = record {
    stands = λ g epoch a e. (fits_at g (Claimed epoch a) e).1;
    its_epoch = λ g epoch a e. (fits_at g (Claimed epoch a) e).2;
  }

  runs_word : (g w : ℕ) (v : Word) → FitsWord s.active (goroutine s g) v → (goroutine s g).status ≡ status.Running w → Names how.Take w v
  runs_word g w Dead fits runs = absurd (true≢false (sym (ap is_running runs) ∙ fits))
  runs_word g w (Home epoch) fits runs = absurd (true≢false (sym (ap is_running runs) ∙ fits.1))
  runs_word g w (Claimed epoch actor) fits runs = absurd (true≢false (sym (ap is_running runs) ∙ fits.1))
  runs_word g w (Running epoch actor) fits runs = sym (fits w runs)

  until_bury_at : (borne buried : Bool) (g : ℕ) (v : Word) → FitsPast borne buried (births s) g (goroutine s g) v → g < births s → is_live (goroutine s g) ≡ false → buried ≡ false → IsRunning v
  until_bury_at true buried g v past born gone none = past.dying refl none gone
  until_bury_at false buried g v past born gone none = absurd (true≢false (sym ((past.before_bear refl).2 born) ∙ gone))

  follow_lives : WordsFollowLives s events core
  follow_lives = record {
    runs = λ g w e. runs_word g w (word core g) (kept.agree.words_fit g) e;
    until_bear = λ g live. (
      λ dead. not_borne (is_borne events g) (is_buried events g) (births s) g (goroutine s g) (word core g) (kept.pasts g) live dead,
      λ none. ((kept.pasts g).before_bear none).0,
    );
    until_bury = λ g born gone none. until_bury_at (is_borne events g) (is_buried events g) g (word core g) (kept.pasts g) born gone none;
    from_bury = λ g e. ((kept.pasts g).after_bury e).0;
    unborn = unborn code settings events core s kept;
  }

  copy_fits : (a : ℕ) (hold : Hold) (copy : Row) → hand core a ≡ Some hold → hold.copy ≡ Some copy → FitsCopy code (goroutine s hold.g) hold.g (Some copy)
  copy_fits a hold copy e c =
      let fits : FitsHand code s (word core) a (Some hold) = subst (FitsHand code s (word core) a) e (kept.agree.hands_fit a) in
      subst (FitsCopy code (goroutine s hold.g) hold.g) c fits.1

  are_rows : CopiesAreRows code s core
  are_rows = record {
    its_row = λ a hold copy e c. (copy_fits a hold copy e c).0;
    stands = λ a hold copy e c. (copy_fits a hold copy e c).1;
  }

pub invariant_holds : InvariantHolds
invariant_holds code settings events range enabled =
    let core = core_after code settings events in
    let s = now code settings core in
    let kept = kept_after code settings events range enabled in
    record {
      journal = keeps_journal code settings core.journal kept.legal;
      hands = words_name code settings events core s kept;
      homes = homes_have code settings events core s kept;
      claims = claims_stand code settings events core s kept;
      lives = follow_lives code settings events core s kept;
      bodies = kept.counts;
      copies = are_rows code settings events core s kept;
    }

pub copies_are_frozen : CopiesAreFrozen
copies_are_frozen code settings events range enabled = (kept_after code settings events range enabled).copies
