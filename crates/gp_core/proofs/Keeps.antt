-- What the core keeps after a list of events, and how each part of an event keeps it.
use Rattle.std.proofs.Common.{◌≡◌, ◌⊎◌, ℕ, ◌+◌, ◌<◌, ◌≤◌, true, false, List, [], ◌∷◌, ◌++◌, length, get_or, set, Option, Some, None, sym, ap, ◌∙◌, subst, inl, inr, arith, length-set}
use Rattle.std.specs.List.{AllByRecursion}
use Rattle.std.proofs.lemmas.Bool.{cases_eq}
use Rattle.std.proofs.lemmas.List.{get_or_past, append-nil}
use Rattle.gp_stack.specs.declared.record.Record.{Record as Row}
use Rattle.gp_journal.specs.declared.entry.Entry.{Entry}
use Rattle.gp_journal.specs.declared.goroutine.Goroutine.{Goroutine}
use Rattle.gp_journal.specs.declared.settings.Settings.{Settings}
use Rattle.gp_journal.specs.Settings.{AreInRange}
use Rattle.gp_journal.specs.State.{Code, State, nobody, goroutine, is_live, is_behind, births, first}
use Rattle.gp_journal.specs.May.{May}
use Rattle.gp_journal.specs.Effect.{after}
use Rattle.gp_journal.specs.Run.{IsLegal, last}
use Rattle.gp_journal.specs.Reached.{IsReached}
use Rattle.gp_journal.proofs.Lemmas.{IsWhole, is_whole, born_cell, appended, after_all-append}
use Rattle.gp_core.specs.declared.word.Word.TheVariants.{Dead}
use Rattle.gp_core.specs.declared.hold.Hold.{Hold}
use Rattle.gp_core.specs.declared.event.CoreEvent.{CoreEvent}
use Rattle.gp_core.specs.CoreState.{CoreState, word, count, hand, with_copy, with_hand}
use Rattle.gp_core.specs.Events.{is_borne, is_buried}
use Rattle.gp_core.specs.Stepped.{kept_with, with_entries, with_recorded}
use Rattle.gp_core.specs.Invariant.{IsRunning}
use Rattle.gp_core.specs.CoreLaws.{IsFrozenCopy}
use Rattle.gp_core.proofs.Lists.{set_changes, all_mapped, all_pushed}
use Rattle.gp_core.proofs.Turns.{Stays, IsNewborn, TurnsAll}
use Rattle.gp_core.proofs.Cells.{FitsWord, FitsCopy, FitsHand, Agree, copy_agrees, entry_agrees}
use Rattle.gp_core.proofs.Pasts.{FitsPast, PastsFit, IsPlain, plain_past, unborn_dead, entry_past}
use Rattle.gp_core.proofs.Frozens.{IsOpen, longer_copy, copy_frozen, entry_open}

-- After events, with the machine's state s.
pub record Kept (code : Code) (settings : Settings) (events : List CoreEvent) (core : CoreState) (s : State) : Type 0 where
  pub is_now : last code settings core.journal ≡ s
  pub legal : IsLegal code settings core.journal
  pub cells : length core.words ≡ settings.cells
  pub bodies : length core.counts ≡ settings.cells
  pub actors : length core.hands ≡ settings.workers + 1
  pub agree : Agree code s (word core) (hand core)
  pub pasts : PastsFit events s (word core)
  pub counts : (g : ℕ) → count core g ≡ (goroutine s g).count
  pub copies : AllByRecursion (IsFrozenCopy code settings core.journal) core.copies
  pub opened : 0 < s.active → IsOpen code settings core.journal s

module _ (code : Code) (settings : Settings) (events : List CoreEvent) (core : CoreState) (s : State) (kept : Kept code settings events core s) where
  pub reached : IsReached code settings s
  reached = record { journal = core.journal; legal = kept.legal; its_last = sym kept.is_now }

  pub its_whole : IsWhole s
  its_whole = is_whole code settings s reached

  pub has_cell : AreInRange settings → (g : ℕ) → g < births s → g < length core.words
  has_cell range g born = let e = kept.cells in let b = born_cell code settings s reached range g born in omega arith

  pub has_body : AreInRange settings → (g : ℕ) → g < births s → g < length core.counts
  has_body range g born = let e = kept.bodies in let b = born_cell code settings s reached range g born in omega arith

  pub has_hand : (a : ℕ) → a ≤ settings.workers → a < length core.hands
  has_hand a actor = let e = kept.actors in omega arith

  pub unborn : (k : ℕ) → births s ≤ k → word core k ≡ Dead
  unborn k past = unborn_dead _ _ (births s) k (goroutine s k) (word core k) (kept.pasts k) past

  pub active_le : s.active ≤ s.last_epoch
  active_le = which its_whole.is_last
    where
      which : (s.active ≡ 0) ⊎ (s.active ≡ s.last_epoch) → s.active ≤ s.last_epoch
      which (inl none) = omega arith
      which (inr same) = omega arith

  -- one event more, which bears and buries nobody
  pub more_events : (event : CoreEvent) → IsPlain event → Kept code settings (events ++ event ∷ []) core s
  more_events event plain = record {
    is_now = kept.is_now;
    legal = kept.legal;
    cells = kept.cells;
    bodies = kept.bodies;
    actors = kept.actors;
    agree = kept.agree;
    pasts = plain_past events event s (word core) plain kept.pasts;
    counts = kept.counts;
    copies = kept.copies;
    opened = kept.opened;
  }

  -- another copy in the hand of a
  pub with_copy_kept : (a : ℕ) (copy : Option Row) → a ≤ settings.workers →
      ((hold : Hold) → hand core a ≡ Some hold → FitsCopy code (goroutine s hold.g) hold.g copy) →
      Kept code settings events (with_hand a (with_copy copy (hand core a)) core) s
  with_copy_kept a copy actor fits = record {
    is_now = kept.is_now;
    legal = kept.legal;
    cells = kept.cells;
    bodies = kept.bodies;
    actors = length-set core.hands a (with_copy copy (hand core a)) ∙ kept.actors;
    agree = copy_agrees code s (word core) (hand core) kept.agree (λ b. get_or (set core.hands a (with_copy copy (hand core a))) b None) a copy
        (set_changes None core.hands a (with_copy copy (hand core a)) (has_hand a actor)) fits;
    pasts = kept.pasts;
    counts = kept.counts;
    copies = kept.copies;
    opened = kept.opened;
  }

  -- one copy more, or none, of a goroutine that has still to be recorded
  pub recorded_kept : (g : ℕ) (copy : Option Row) → 0 < s.active → is_behind s.active (goroutine s g) ≡ true → FitsCopy code (goroutine s g) g copy →
      Kept code settings events (with_recorded s.active copy core) s
  recorded_kept g copy some behind fits = record {
    is_now = kept.is_now;
    legal = kept.legal;
    cells = kept.cells;
    bodies = kept.bodies;
    actors = kept.actors;
    agree = kept.agree;
    pasts = kept.pasts;
    counts = kept.counts;
    copies = all copy fits;
    opened = kept.opened;
  }
    where
      all : (it : Option Row) → FitsCopy code (goroutine s g) g it → AllByRecursion (IsFrozenCopy code settings core.journal) (core.copies ++ kept_with s.active it)
      all None nothing = subst (AllByRecursion (IsFrozenCopy code settings core.journal)) (sym (append-nil core.copies)) kept.copies
      all (Some it) its = all_pushed (IsFrozenCopy code settings core.journal) core.copies (s.active, it) kept.copies
          (subst (λ (j : List Entry). IsFrozenCopy code settings j (s.active, it)) (append-nil core.journal) (copy_frozen code settings core.journal [] s g it (kept.opened some) behind its.0))

  pub not_recorded_kept : Kept code settings events (with_recorded s.active None core) s
  not_recorded_kept = record {
    is_now = kept.is_now;
    legal = kept.legal;
    cells = kept.cells;
    bodies = kept.bodies;
    actors = kept.actors;
    agree = kept.agree;
    pasts = kept.pasts;
    counts = kept.counts;
    copies = subst (AllByRecursion (IsFrozenCopy code settings core.journal)) (sym (append-nil core.copies)) kept.copies;
    opened = kept.opened;
  }

  -- with one legal entry more
  pub now_after : (entry : Entry) → last code settings (core.journal ++ entry ∷ []) ≡ after code settings s entry
  now_after entry = after_all-append code settings (first code settings) core.journal (entry ∷ []) ∙ ap (λ (u : State). after code settings u entry) kept.is_now

  pub legal_after : (entry : Entry) → May code settings s entry → IsLegal code settings (core.journal ++ entry ∷ [])
  legal_after entry may = appended code settings (first code settings) core.journal entry kept.legal (subst (λ (u : State). May code settings u entry) (sym kept.is_now) may)

  -- the counts of bodies after an entry of g
  pub counts_after : (t : State) (g : ℕ) (counts' : List ℕ) → TurnsAll s t g → ((k : ℕ) → (k ≡ g → ⊥) → get_or counts' k 0 ≡ count core k) → get_or counts' g 0 ≡ (goroutine t g).count →
      (k : ℕ) → get_or counts' k 0 ≡ (goroutine t k).count
  counts_after t g counts' turn same own k = at (cases_eq k g)
    where
      other : (k ≡ g → ⊥) → (Stays (goroutine s k) (goroutine t k) × (k < births t → k < births s)) ⊎ ((births s ≤ k) × IsNewborn s.last_epoch (goroutine t k)) → get_or counts' k 0 ≡ (goroutine t k).count
      other away (inl stays) = same k away ∙ kept.counts k ∙ sym stays.0.count
      other away (inr born) = same k away ∙ kept.counts k ∙ ap (λ (x : Goroutine). x.count) (get_or_past s.goroutines k nobody born.0) ∙ sym born.1.none_passed

      at : (k ≡ g) ⊎ (k ≡ g → ⊥) → get_or counts' k 0 ≡ (goroutine t k).count
      at (inl here) = subst (λ n. get_or counts' n 0 ≡ (goroutine t n).count) (sym here) own
      at (inr away) = other away (turn.others.each k away)

  -- An entry of goroutine g, whose body somebody has.
  pub entry_kept : (entry : Entry) (g : ℕ) (counts' : List ℕ) → May code settings s entry → TurnsAll s (after code settings s entry) g →
      FitsWord s.active (goroutine (after code settings s entry) g) (word core g) →
      ((a : ℕ) (hold : Hold) → hand core a ≡ Some hold → hold.g ≡ g → FitsCopy code (goroutine (after code settings s entry) g) g hold.copy) →
      (word core g ≡ Dead → ⊥) → (is_live (goroutine (after code settings s entry) g) ≡ false → IsRunning (word core g)) →
      is_behind s.active (goroutine (after code settings s entry) g) ≡ false →
      length counts' ≡ length core.counts → ((k : ℕ) → get_or counts' k 0 ≡ (goroutine (after code settings s entry) k).count) →
      Kept code settings events (record core { journal = core.journal ++ entry ∷ []; counts = counts' }) (after code settings s entry)
  entry_kept entry g counts' may turn own_word own_copy isnt dies behind as_many counts = record {
    is_now = now_after entry;
    legal = legal_after entry may;
    cells = kept.cells;
    bodies = as_many ∙ kept.bodies;
    actors = kept.actors;
    agree = entry_agrees code s (after code settings s entry) (word core) (hand core) kept.agree g turn unborn own_word own_copy;
    pasts = entry_past events s (after code settings s entry) (word core) g kept.pasts turn isnt dies;
    counts = counts;
    copies = all_mapped _ _ core.copies (λ copy it. longer_copy code settings core.journal (entry ∷ []) copy it) kept.copies;
    opened = λ some. entry_open code settings core.journal (entry ∷ []) s (after code settings s entry) g (kept.opened (subst (λ n. 0 < n) turn.active some)) turn active_le behind;
  }

  -- An entry that changes no goroutine.
  pub still_kept : (entry : Entry) → May code settings s entry → (after code settings s entry).goroutines ≡ s.goroutines →
      ((g : ℕ) → FitsWord s.active (goroutine s g) (word core g) → FitsWord (after code settings s entry).active (goroutine s g) (word core g)) →
      (0 < (after code settings s entry).active → IsOpen code settings (core.journal ++ entry ∷ []) (after code settings s entry)) →
      Kept code settings events (with_entries (entry ∷ []) core) (after code settings s entry)
  still_kept entry may same fits opened = record {
    is_now = now_after entry;
    legal = legal_after entry may;
    cells = kept.cells;
    bodies = kept.bodies;
    actors = kept.actors;
    agree = record {
      words_fit = λ g. subst (λ (x : Goroutine). FitsWord (after code settings s entry).active x (word core g)) (at g) (fits g (kept.agree.words_fit g));
      hands_fit = λ a. still_hand a (hand core a) (kept.agree.hands_fit a);
      named = kept.agree.named;
    };
    pasts = λ g. subst (λ (gs : List Goroutine). FitsPast (is_borne events g) (is_buried events g) (length gs) g (get_or gs g nobody) (word core g)) (sym same) (kept.pasts g);
    counts = λ g. kept.counts g ∙ ap (λ (x : Goroutine). x.count) (at g);
    copies = all_mapped _ _ core.copies (λ copy it. longer_copy code settings core.journal (entry ∷ []) copy it) kept.copies;
    opened = opened;
  }
    where
      at : (g : ℕ) → goroutine s g ≡ goroutine (after code settings s entry) g
      at g = ap (λ (gs : List Goroutine). get_or gs g nobody) (sym same)

      still_hand : (a : ℕ) (it : Option Hold) → FitsHand code s (word core) a it → FitsHand code (after code settings s entry) (word core) a it
      still_hand a None old = tt
      still_hand a (Some hold) old = (old.0, subst (λ (x : Goroutine). FitsCopy code x hold.g hold.copy) (at hold.g) old.1)
