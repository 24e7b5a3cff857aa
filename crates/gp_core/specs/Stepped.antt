-- What each event does. What it doesn't name stays.
use Rattle.std.specs.Prelude.{◌+◌, ℕ, List, [], ◌∷◌, ◌++◌, if◌then◌else◌, Option, Some, None}
use Rattle.gp_stack.specs.declared.record.Record.{Record as Row}
use Rattle.gp_journal.specs.declared.answer.Applied.{Applied}
use Rattle.gp_journal.specs.declared.answer.Applied.TheVariants.{Passed, Born}
use Rattle.gp_journal.specs.declared.entry.Entry.{Entry}
use Rattle.gp_journal.specs.declared.entry.Entry.TheVariants.{Run, Record, Close}
use Rattle.gp_journal.specs.declared.settings.Settings.{Settings}
use Rattle.gp_journal.specs.State.{Code, State, goroutine}
use Rattle.gp_journal.specs.Due.{due}
use Rattle.gp_journal.specs.Answer.{applied}
use Rattle.gp_journal.specs.Frozen.{row}
use Rattle.gp_core.specs.declared.word.Word.{Word}
use Rattle.gp_core.specs.declared.word.Word.TheVariants.{Dead, Home, Claimed, Running}
use Rattle.gp_core.specs.declared.hold.Hold.{Hold}
use Rattle.gp_core.specs.declared.hold.How.{How}
use Rattle.gp_core.specs.declared.hold.How.TheVariants.{Claim, Take}
use Rattle.gp_core.specs.declared.event.CoreEvent.{CoreEvent}
use Rattle.gp_core.specs.declared.event.CoreEvent.TheVariants as event
use Rattle.gp_core.specs.CoreState.{CoreState, word, count, hand, now, copy_in, with_copy, with_word, with_count, with_hand}
use Rattle.gp_core.specs.Enabled.{is_needed, beginning_of, opening_of}

-- The actor takes g in hand, by a claim or a take, with no copy.
abbrev pub held : ℕ → How → Option Hold
held g how = Some (record { g = g; how = how; copy = None })

-- the epoch of a home word
abbrev pub home_epoch : Word → ℕ
home_epoch (Home epoch) = epoch
home_epoch _ = 0

-- What a copy of g has: its stack, cut, and its labels, where its body stands.
abbrev pub copy_of : Code → State → CoreState → ℕ → Row
copy_of code state core g = row code g (record (goroutine state g) { count = count core g })

-- how many points an entry passes, by its answer: a Run those that it says, an Op one where its goroutine goes on
abbrev pub points_by : Applied → ℕ
points_by (Passed woke event died) = 1
points_by (Born h died) = 1
points_by _ = 0

abbrev pub points_of : Code → Settings → State → Entry → ℕ
points_of code settings state (Run w g n) = n
points_of code settings state entry = points_by (applied code settings state entry)

-- entries are added
abbrev pub with_entries : List Entry → CoreState → CoreState
with_entries entries core = record core { journal = core.journal ++ entries }

-- the copy in a hand goes into the records of an epoch
abbrev pub kept_with : ℕ → Option Row → List (ℕ × Row)
kept_with epoch None = []
kept_with epoch (Some copy) = (epoch, copy) ∷ []

abbrev pub with_recorded : ℕ → Option Row → CoreState → CoreState
with_recorded epoch copy core = record core { copies = core.copies ++ kept_with epoch copy }

-- The Record of a claim.
abbrev pub commits_claim : State → ℕ → ℕ → CoreState → CoreState
commits_claim state a g core =
    with_entries (Record a g ∷ [])
    (with_recorded state.active (copy_in (hand core a)) (with_hand a (with_copy None (hand core a)) core))

-- The entry that is due, with which the body goes on.
abbrev pub commits_due : Code → Settings → State → ℕ → ℕ → CoreState → CoreState
commits_due code settings state a g core =
    let entry = due code settings state a g in
    with_entries (entry ∷ []) (with_count g (count core g + points_of code settings state entry) core)

-- What is committed is told by how the actor came to hold the goroutine.
abbrev pub commits_by : Code → Settings → State → ℕ → ℕ → How → CoreState → CoreState
commits_by code settings state a g Claim core = commits_claim state a g core
commits_by code settings state a g Take core = commits_due code settings state a g core

abbrev pub commits : Code → Settings → State → ℕ → ℕ → Option Hold → CoreState → CoreState
commits code settings state a g None core = core
commits code settings state a g (Some hold) core = commits_by code settings state a g hold.how core

-- The beginning of a goroutine. The copy is recorded where the Record is needed, else dropped.
abbrev pub begins : Code → Settings → State → ℕ → ℕ → CoreState → CoreState
begins code settings state w g core =
    with_entries (beginning_of code settings state w g)
    (with_recorded state.active (if is_needed state g then copy_in (hand core w) else None)
    (with_hand w (with_copy None (hand core w)) core))

-- The state after an event.
abbrev pub stepped : Code → Settings → CoreState → CoreEvent → CoreState
stepped code settings core (event.Claim a g) =
    with_word g (Claimed (now code settings core).last_epoch a) (with_hand a (held g Claim) core)
stepped code settings core (event.Copy a g) =
    with_hand a (with_copy (Some (copy_of code (now code settings core) core g)) (hand core a)) core
stepped code settings core (event.Satisfy a g) =
    with_word g (Home (goroutine (now code settings core) g).epoch) (with_hand a None core)
stepped code settings core (event.Take w g) =
    with_word g (Running (home_epoch (word core g)) w) (with_hand w (held g Take) core)
stepped code settings core (event.Begin w g) = begins code settings (now code settings core) w g core
stepped code settings core (event.Commit a g) = commits code settings (now code settings core) a g (hand core a) core
stepped code settings core (event.Give w g) =
    with_word g (Home (goroutine (now code settings core) g).epoch) (with_hand w None core)
stepped code settings core (event.Bear w g) =
    with_word g (Home (goroutine (now code settings core) g).epoch) (with_count g 0 core)
stepped code settings core (event.Bury w g) = with_word g Dead (with_hand w None core)
stepped code settings core event.OpenAll =
    with_entries (opening_of settings (now code settings core) ∷ []) core
stepped code settings core event.CloseAll =
    with_entries (Close (now code settings core).active ∷ []) core
