-- What the calls test of an event: the truth of its condition.
use Rattle.std.specs.Prelude.{ℕ, ◌-◌, Bool, true, false, not, ◌&&◌, ◌||◌, ◌==◌, Option, Some, None, is_some, is_none, if◌then◌else◌, nat_lt, nat_le}
use Rattle.gp_journal.specs.declared.settings.Settings.{Settings}
use Rattle.gp_journal.specs.State.{Code, State, goroutine, worker, is_live, is_running, is_idle, is_behind, births, running}
use Rattle.gp_journal.specs.Due.{asked}
use Rattle.gp_journal.specs.Standing.{first_behind}
use Rattle.gp_core.specs.declared.word.Word.{Word}
use Rattle.gp_core.specs.declared.word.Word.TheVariants.{Dead, Home, Claimed}
use Rattle.gp_core.specs.declared.hold.Hold.{Hold}
use Rattle.gp_core.specs.declared.hold.How.{How}
use Rattle.gp_core.specs.declared.hold.How.TheVariants.{Claim, Take}
use Rattle.gp_core.specs.declared.event.CoreEvent.{CoreEvent}
use Rattle.gp_core.specs.declared.event.CoreEvent.TheVariants as event
use Rattle.gp_core.specs.CoreState.{CoreState, word, hand, now, copy_in}
use Rattle.gp_core.specs.Enabled.{is_needed, may_start}

-- of a word: that no body is there, that it is at home, there with an epoch, or claimed by an actor in an epoch
abbrev pub is_empty : Word → Bool
is_empty Dead = true
is_empty _ = false

abbrev pub is_home : Word → Bool
is_home (Home epoch) = true
is_home _ = false

abbrev pub is_home_of : ℕ → Word → Bool
is_home_of of (Home epoch) = epoch == of
is_home_of of _ = false

abbrev pub is_claim_of : ℕ → ℕ → Word → Bool
is_claim_of of a (Claimed epoch actor) = (epoch == of) && (actor == a)
is_claim_of of a _ = false

-- of a hand: that it holds a goroutine, and how it came to
abbrev pub is_same : How → How → Bool
is_same Claim Claim = true
is_same Take Take = true
is_same _ _ = false

abbrev pub holds : ℕ → Option Hold → Bool
holds g None = false
holds g (Some hold) = hold.g == g

abbrev pub holds_by : How → ℕ → Option Hold → Bool
holds_by how g None = false
holds_by how g (Some hold) = (hold.g == g) && is_same hold.how how

-- of the state: that a number is g, that a Record is legal, and a Close
abbrev pub is_number : ℕ → Option ℕ → Bool
is_number g None = false
is_number g (Some h) = h == g

abbrev pub may_record : Settings → State → ℕ → ℕ → Bool
may_record settings s a g = nat_lt 0 s.active && (is_behind s.active (goroutine s g) && ((a == settings.workers) || is_idle s a))

abbrev pub may_open : Settings → State → Bool
may_open settings s = asked settings s && (running s == 0)

abbrev pub may_close : State → Bool
may_close s = nat_lt 0 s.active && is_none (first_behind s.active s.goroutines)

-- that an actor and a goroutine are there, or a worker and a goroutine
abbrev pub is_pair : Settings → State → ℕ → ℕ → Bool
is_pair settings s a g = nat_le a settings.workers && nat_lt g (births s)

abbrev pub is_workers_pair : Settings → State → ℕ → ℕ → Bool
is_workers_pair settings s w g = nat_lt w settings.workers && nat_lt g (births s)

-- and what each event asks beside
abbrev pub may_claim : State → CoreState → ℕ → ℕ → Bool
may_claim s core a g = is_none (hand core a) && (nat_le 1 s.last_epoch && is_home_of (s.last_epoch - 1) (word core g))

abbrev pub may_copy : State → CoreState → ℕ → ℕ → Bool
may_copy s core a g = holds g (hand core a) && (is_live (goroutine s g) && not (is_running (goroutine s g).status))

abbrev pub may_satisfy : State → CoreState → ℕ → ℕ → Bool
may_satisfy s core a g = is_claim_of (goroutine s g).epoch a (word core g)

abbrev pub may_take : CoreState → ℕ → ℕ → Bool
may_take core w g = is_none (hand core w) && is_home (word core g)

abbrev pub may_begin : Settings → State → CoreState → ℕ → ℕ → Bool
may_begin settings s core w g =
    holds_by Take g (hand core w)
    && (if is_needed s g then is_some (copy_in (hand core w)) && may_record settings s w g else may_start settings s w g)

abbrev pub may_commit_claim : Settings → State → CoreState → ℕ → ℕ → Bool
may_commit_claim settings s core a g =
    holds_by Claim g (hand core a)
    && (is_claim_of s.active a (word core g) && (is_some (copy_in (hand core a)) && may_record settings s a g))

abbrev pub may_commit_due : State → CoreState → ℕ → ℕ → Bool
may_commit_due s core a g = holds_by Take g (hand core a) && is_number g (worker s a).runs

abbrev pub may_give : State → CoreState → ℕ → ℕ → Bool
may_give s core w g = holds_by Take g (hand core w) && (is_live (goroutine s g) && not (is_running (goroutine s g).status))

abbrev pub may_bear : State → CoreState → ℕ → Bool
may_bear s core g = is_live (goroutine s g) && is_empty (word core g)

abbrev pub may_bury : State → CoreState → ℕ → ℕ → Bool
may_bury s core w g = holds_by Take g (hand core w) && not (is_live (goroutine s g))

abbrev pub admits_in : Settings → State → CoreState → CoreEvent → Bool
admits_in settings s core (event.Claim a g) = is_pair settings s a g && may_claim s core a g
admits_in settings s core (event.Copy a g) = is_pair settings s a g && may_copy s core a g
admits_in settings s core (event.Satisfy a g) = is_pair settings s a g && may_satisfy s core a g
admits_in settings s core (event.Take w g) = is_workers_pair settings s w g && may_take core w g
admits_in settings s core (event.Begin w g) = is_workers_pair settings s w g && may_begin settings s core w g
admits_in settings s core (event.Commit a g) =
    is_pair settings s a g && (may_commit_claim settings s core a g || may_commit_due s core a g)
admits_in settings s core (event.Give w g) = is_workers_pair settings s w g && may_give s core w g
admits_in settings s core (event.Bear w g) = is_workers_pair settings s w g && may_bear s core g
admits_in settings s core (event.Bury w g) = is_workers_pair settings s w g && may_bury s core w g
admits_in settings s core event.OpenAll = may_open settings s
admits_in settings s core event.CloseAll = may_close s

-- An event is enabled.
abbrev pub admits : Code → Settings → CoreState → CoreEvent → Bool
admits code settings core event = admits_in settings (now code settings core) core event
