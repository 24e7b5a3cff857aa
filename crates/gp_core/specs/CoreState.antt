-- What the core keeps: the journal, a word for each cell, bodies, hands and the copies that were recorded.
use Rattle.std.specs.Prelude.{◌≡◌, ◌+◌, ℕ, List, [], get_or, set, replicate, Option, Some, None}
use Rattle.gp_stack.specs.declared.record.Record.{Record as Row}
use Rattle.gp_journal.specs.declared.entry.Entry.{Entry}
use Rattle.gp_journal.specs.declared.settings.Settings.{Settings}
use Rattle.gp_journal.specs.State.{Code, State}
use Rattle.gp_journal.specs.Run.{last}
use Rattle.gp_core.specs.declared.word.Word.{Word}
use Rattle.gp_core.specs.declared.word.Word.TheVariants.{Dead}
use Rattle.gp_core.specs.declared.hold.Hold.{Hold}
use Rattle.gp_core.specs.declared.hold.How.{How}

-- The state of the core.
pub record CoreState : Type 0 where
  -- the entries that its events have added, which is what they project to
  pub journal : List Entry
  -- by goroutine: the word of its cell
  pub words : List Word
  -- by goroutine: how many points its body has passed
  pub counts : List ℕ
  -- by actor: what it holds, where its hand isn't free
  pub hands : List (Option Hold)
  -- the copies that were recorded, each with its profile's epoch
  pub copies : List (ℕ × Row)

-- the word of a goroutine's cell
abbrev pub word : CoreState → ℕ → Word
word core g = get_or core.words g Dead

-- how many points its body has passed
abbrev pub count : CoreState → ℕ → ℕ
count core g = get_or core.counts g 0

-- what an actor holds
abbrev pub hand : CoreState → ℕ → Option Hold
hand core a = get_or core.hands a None

-- the machine's state after the journal
abbrev pub now : Code → Settings → CoreState → State
now code settings core = last code settings core.journal

-- The first state: nothing has happened, no cell has a body, and all hands are free. The profiler is the actor behind
-- the workers.
abbrev pub first_core : Settings → CoreState
first_core settings = record {
  journal = [];
  words = replicate settings.cells Dead;
  counts = replicate settings.cells 0;
  hands = replicate (settings.workers + 1) None;
  copies = [];
}

-- an actor holds g; it does so by a claim, or by a take
abbrev pub Holds : ℕ → Option Hold → Type 0
Holds g None = ⊥
Holds g (Some hold) = hold.g ≡ g

abbrev pub HoldsBy : How → ℕ → Option Hold → Type 0
HoldsBy how g None = ⊥
HoldsBy how g (Some hold) = (hold.g ≡ g) × (hold.how ≡ how)

-- the copy in a hand
abbrev pub copy_in : Option Hold → Option Row
copy_in None = None
copy_in (Some hold) = hold.copy

-- a hand with a copy in it, or with none
abbrev pub with_copy : Option Row → Option Hold → Option Hold
with_copy copy None = None
with_copy copy (Some hold) = Some (record hold { copy = copy })

-- the core with another word, another count, another hand, or more entries
abbrev pub with_word : ℕ → Word → CoreState → CoreState
with_word g new core = record core { words = set core.words g new }

abbrev pub with_count : ℕ → ℕ → CoreState → CoreState
with_count g new core = record core { counts = set core.counts g new }

abbrev pub with_hand : ℕ → Option Hold → CoreState → CoreState
with_hand a new core = record core { hands = set core.hands a new }
