-- The invariant of the core, point by point.
use Rattle.std.specs.Prelude.{◌≡◌, ◌⊎◌, ◌↔◌, ◌+◌, ◌≤◌, ◌<◌, ℕ, true, false, List, [], ◌∷◌, ◌++◌, Some}
use Rattle.gp_stack.specs.declared.record.Record.{Record as Row}
use Rattle.gp_journal.specs.declared.entry.Entry.{Entry}
use Rattle.gp_journal.specs.declared.entry.Entry.TheVariants.{Open}
use Rattle.gp_journal.specs.declared.goroutine.Status.TheVariants as status
use Rattle.gp_journal.specs.declared.settings.Settings.{Settings}
use Rattle.gp_journal.specs.State.{Code, State, goroutine, is_live, is_running, births}
use Rattle.gp_journal.specs.Run.{IsLegal, last, at}
use Rattle.gp_journal.specs.Frozen.{row, frozen, rows_taken, sorted}
use Rattle.gp_journal.specs.JournalLaw.{KeepsEpochs, StandsAs, has_close}
use Rattle.gp_core.specs.declared.word.Word.{Word}
use Rattle.gp_core.specs.declared.word.Word.TheVariants.{Dead, Home, Claimed, Running}
use Rattle.gp_core.specs.declared.hold.Hold.{Hold}
use Rattle.gp_core.specs.declared.hold.How.{How}
use Rattle.gp_core.specs.declared.hold.How.TheVariants.{Claim, Take}
use Rattle.gp_core.specs.declared.event.CoreEvent.{CoreEvent}
use Rattle.gp_core.specs.CoreState.{CoreState, word, count, hand, now, Holds, HoldsBy}
use Rattle.gp_core.specs.Events.{is_borne, is_buried}

-- 1. The journal is legal, and the journal law holds of it.
pub record KeepsJournal (code : Code) (settings : Settings) (journal : List Entry) : Type 0 where
  pub legal : IsLegal code settings journal
  -- at every step its state keeps the epochs
  pub epochs : (k : ℕ) → KeepsEpochs (at code settings journal k)
  -- a goroutine that has still to be recorded stands where it stood at the Open
  pub stand : (before : List Entry) (epoch room : ℕ) (during : List Entry) (g : ℕ) → journal ≡ before ++ Open epoch room ∷ during →
      has_close during ≡ false → is_live (goroutine (last code settings journal) g) ≡ true →
      (goroutine (last code settings journal) g).epoch + 1 ≡ epoch →
      StandsAs code (last code settings before) (last code settings journal) g
  -- the rows taken up to the Close are those that were frozen at the Open
  pub rows : (before : List Entry) (epoch room : ℕ) (during : List Entry) → journal ≡ before ++ Open epoch room ∷ during →
      has_close during ≡ true →
      sorted (rows_taken code settings (last code settings (before ++ Open epoch room ∷ [])) during)
      ≡ frozen code (last code settings before)

-- whom a word names: the actor that has the body, and how it came to it
abbrev pub Names : How → ℕ → Word → Type 0
Names Claim a (Claimed epoch actor) = actor ≡ a
Names Take a (Running epoch actor) = actor ≡ a
Names _ a _ = ⊥

-- 2. Words and hands agree: a goroutine is held by at most one actor; a Claimed or Running word names the actor whose
-- hand holds it, by a claim or by a take, and no other word is held.
pub record WordsNameHands (core : CoreState) : Type 0 where
  pub once : (a b g : ℕ) → Holds g (hand core a) → Holds g (hand core b) → a ≡ b
  pub named_holds : (how : How) (a g : ℕ) → Names how a (word core g) → HoldsBy how g (hand core a)
  pub held_named : (how : How) (a g : ℕ) → HoldsBy how g (hand core a) → Names how a (word core g)

-- 3. A home word has the epoch of its goroutine. So it is that before the last one only while the last one is active.
pub record HomesHaveEpochs (state : State) (core : CoreState) : Type 0 where
  pub its_epoch : (g epoch : ℕ) → word core g ≡ Home epoch → epoch ≡ (goroutine state g).epoch
  pub near_last : (g epoch : ℕ) → word core g ≡ Home epoch →
      (epoch ≡ state.last_epoch) ⊎ ((epoch + 1 ≡ state.last_epoch) × (state.active ≡ state.last_epoch))

-- 4. Under a claim in an epoch the goroutine doesn't run, and has that epoch, or the one before while it is active.
pub record ClaimsStand (state : State) (core : CoreState) : Type 0 where
  pub stands : (g epoch a : ℕ) → word core g ≡ Claimed epoch a → is_running (goroutine state g).status ≡ false
  pub its_epoch : (g epoch a : ℕ) → word core g ≡ Claimed epoch a →
      ((goroutine state g).epoch ≡ epoch) ⊎ (((goroutine state g).epoch + 1 ≡ epoch) × (state.active ≡ epoch))

-- a word under which a worker has the body
abbrev pub IsRunning : Word → Type 0
IsRunning (Running epoch actor) = Unit {0}
IsRunning _ = ⊥

-- 5. Who runs has a Running word of its worker. A live goroutine has word Dead only between its birth and its Bear, and
-- a dead one has a Running word until its Bury, then Dead.
pub record WordsFollowLives (state : State) (events : List CoreEvent) (core : CoreState) : Type 0 where
  pub runs : (g w : ℕ) → (goroutine state g).status ≡ status.Running w → Names Take w (word core g)
  pub until_bear : (g : ℕ) → is_live (goroutine state g) ≡ true → (word core g ≡ Dead) ↔ (is_borne events g ≡ false)
  pub until_bury : (g : ℕ) → g < births state → is_live (goroutine state g) ≡ false → is_buried events g ≡ false → IsRunning (word core g)
  pub from_bury : (g : ℕ) → is_buried events g ≡ true → word core g ≡ Dead
  pub unborn : (g : ℕ) → births state ≤ g → word core g ≡ Dead

-- 6. Each body has passed as many points as its goroutine.
abbrev pub BodiesCount : State → CoreState → Type 0
BodiesCount state core = (g : ℕ) → count core g ≡ (goroutine state g).count

-- 7. A copy in a hand is the row of its goroutine, which doesn't run.
pub record CopiesAreRows (code : Code) (state : State) (core : CoreState) : Type 0 where
  pub its_row : (a : ℕ) (hold : Hold) (copy : Row) → hand core a ≡ Some hold → hold.copy ≡ Some copy →
      copy ≡ row code hold.g (goroutine state hold.g)
  pub stands : (a : ℕ) (hold : Hold) (copy : Row) → hand core a ≡ Some hold → hold.copy ≡ Some copy →
      is_running (goroutine state hold.g).status ≡ false

-- All seven hold after a list of events.
pub record KeepsInvariant (code : Code) (settings : Settings) (events : List CoreEvent) (core : CoreState) : Type 0 where
  pub journal : KeepsJournal code settings core.journal
  pub hands : WordsNameHands core
  pub homes : HomesHaveEpochs (now code settings core) core
  pub claims : ClaimsStand (now code settings core) core
  pub lives : WordsFollowLives (now code settings core) events core
  pub bodies : BodiesCount (now code settings core) core
  pub copies : CopiesAreRows code (now code settings core) core
