-- Which actors can act, told by numbers.
use Rattle.std.specs.Prelude.{◌≡◌, ◌<◌, ◌+◌, ◌==◌, ℕ, Bool, true, ◌||◌, take, count_by, if◌then◌else◌, length, is_some, Option, None}
use Rattle.gp_journal.specs.declared.goroutine.Worker.{Worker}
use Rattle.gp_journal.specs.declared.settings.Settings.{Settings}
use Rattle.gp_journal.specs.declared.answer.SharedPoint.{SharedPoint}
use Rattle.gp_journal.specs.State.{Code, State, worker}
use Rattle.gp_journal.specs.Due.{asked, over}
use Rattle.gp_journal.specs.Standing.{head_of}
use Rattle.gp_journal.specs.Shown.{IsGiven}
use Rattle.gp_machine.specs.OnWorker.{is_busy}
use Rattle.gp_sim.specs.declared.numbers.Act.{Act}
use Rattle.gp_sim.specs.declared.numbers.Act.TheVariants.{Make, Read}

-- whom idle workers go on with, where they can act
abbrev pub idle_head : Settings → State → Option ℕ
idle_head settings state = if asked settings state || over settings state then None else head_of state.queue

-- whether a worker can act, where idle ones go on with somebody or with nobody
abbrev pub can_act : Option ℕ → Worker → Bool
can_act head w = is_some head || is_busy w

-- how many workers can
abbrev pub able : Settings → State → ℕ
able settings state = count_by (can_act (idle_head settings state)) state.workers

-- how many actors can act, of which so many make entries, where the reader has something to read or not
abbrev pub number_acting : ℕ → Bool → ℕ
number_acting entries reads = if entries == 0 then 0 else entries + (if reads then 1 else 0)

-- an entry that is made comes with its goroutine's next point
abbrev pub IsGivenTo : Code → State → Act → Option SharedPoint → Type 0
IsGivenTo code state (Make entry) point = IsGiven code state entry point
IsGivenTo code state Read point = Unit {0}

-- A worker can act.
pub record IsAble (settings : Settings) (state : State) (w : ℕ) : Type 0 where
  pub within : w < length state.workers
  pub can : can_act (idle_head settings state) (worker state w) ≡ true

-- A worker stands at a place, counted from 0, among those that can act.
pub record IsAbleAt (settings : Settings) (state : State) (place w : ℕ) : Type 0 where
  pub is_able : IsAble settings state w
  pub before : count_by (can_act (idle_head settings state)) (take w state.workers) ≡ place
