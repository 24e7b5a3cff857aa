-- Laws on single entries of legal journals: what each leaves, and what it does to the queue.
use Rattle.std.specs.Prelude.{◌≡◌, ℕ, true, Some, List, [], ◌∷◌, ◌++◌}
use Rattle.gp_journal.specs.declared.answer.Applied.{Applied}
use Rattle.gp_journal.specs.declared.answer.Applied.TheVariants.{Passed, Born}
use Rattle.gp_journal.specs.declared.entry.Entry.{Entry}
use Rattle.gp_journal.specs.declared.entry.Entry.TheVariants.{Start, Park, Open, Close}
use Rattle.gp_journal.specs.declared.settings.Settings.{Settings}
use Rattle.gp_journal.specs.State.{Code, State, worker}
use Rattle.gp_journal.specs.Standing.{without}
use Rattle.gp_journal.specs.Due.{over, IsComplete}
use Rattle.gp_journal.specs.Answer.{applied}
use Rattle.gp_journal.specs.Run.{IsLegal, last}
use Rattle.gp_journal.specs.Actors.{actor_of}

-- Something holds of each entry of a legal journal, with the states before and after it.
abbrev pub OfEachEntry : (Code → Settings → State → Entry → State → Type 0) → Type 0
OfEachEntry P = (code : Code) (settings : Settings) (journal : List Entry) (entry : Entry) →
    let longer = journal ++ entry ∷ [] in
    IsLegal code settings longer → P code settings (last code settings journal) entry (last code settings longer)

-- A worker that isn't the entry's actor stays.
abbrev pub OthersStay : Type 0
OthersStay = OfEachEntry (λ code settings before entry now.
    (w : ℕ) → (w ≡ actor_of settings.workers entry → ⊥) → worker now w ≡ worker before w)

-- whether an entry opens or closes a profile
abbrev pub LeavesEpochs : Entry → Type 0
LeavesEpochs (Open epoch room) = ⊥
LeavesEpochs (Close epoch) = ⊥
LeavesEpochs entry = Unit {0}

-- two states have the same active and the same last epoch
pub record SameEpochs (before now : State) : Type 0 where
  pub active : now.active ≡ before.active
  pub last_epoch : now.last_epoch ≡ before.last_epoch

-- An entry that is no Open and no Close leaves both epochs.
abbrev pub EpochsStay : Type 0
EpochsStay = OfEachEntry (λ code settings before entry now. LeavesEpochs entry → SameEpochs before now)

-- the queue without the one that an entry starts
abbrev pub remaining : Entry → List ℕ → List ℕ
remaining (Start w g) queue = without g queue
remaining entry queue = queue

-- who joins the queue with an entry that is answered so: who is put back, whom it woke, or who was born
abbrev pub joining : Entry → Applied → List ℕ
joining (Park w g) answer = g ∷ []
joining entry (Passed (Some woken) event died) = woken.g ∷ []
joining entry (Born g died) = g ∷ []
joining entry answer = []

-- Who is started leaves the queue, and who is put back, woken or born goes to its tail.
abbrev pub QueueAfter : Type 0
QueueAfter = OfEachEntry (λ code settings before entry now.
    now.queue ≡ remaining entry before.queue ++ joining entry (applied code settings before entry))

-- A run that is over stays over.
abbrev pub OverStays : Type 0
OverStays = OfEachEntry (λ code settings before entry now. over settings before ≡ true → over settings now ≡ true)

-- No entry comes after a complete run.
abbrev pub NothingAfterComplete : Type 0
NothingAfterComplete = OfEachEntry (λ code settings before entry now. IsComplete settings before → ⊥)
