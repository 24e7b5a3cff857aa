-- The ranges of a run's options.
use Rattle.std.specs.Prelude.{◌≡◌, ◌≤◌, ◌<◌, ◌^◌, ◌/◌, ◌%◌, ℕ, length, All}
use Rattle.gp_isa.specs.Limits as limit
pub use Rattle.gp_isa.specs.Limits.{quantum}
use Rattle.gp_journal.specs.declared.settings.Settings.{Settings}
use Rattle.gp_journal.specs.declared.settings.Request.{Request}
use Rattle.gp_journal.specs.declared.settings.Request.TheVariants.{Clock, End}

-- an instant at which a profile may be asked for: a clock up to 2^40, or the end
abbrev pub IsInstant : Request → Type 0
IsInstant (Clock clock) = clock ≤ limit.most_instant
IsInstant End = Unit {0}

-- The options lie in their ranges.
pub record AreInRange (settings : Settings) : Type 0 where
  pub some_worker : 1 ≤ settings.workers
  pub workers : settings.workers ≤ limit.most_workers
  pub few_requests : length settings.at ≤ limit.most_requests
  pub instants : All IsInstant settings.at
  pub room : settings.room ≤ limit.most_room
  pub some_hz : 1 ≤ settings.hz
  pub hz : limit.instructions_per_second % settings.hz ≡ 0
  pub block : settings.block ≤ limit.most_block_rate
  pub mutex : settings.mutex ≤ limit.most_mutex_fraction
  pub seed : settings.seed < 2 ^ 64
  pub some_cell : 1 ≤ settings.cells
  pub cells : settings.cells ≤ limit.most_cells
  pub some_entries : limit.least_entries ≤ settings.entries
  pub entries : settings.entries ≤ limit.most_entries
  pub some_ring : limit.least_ring_words ≤ settings.ring
  pub ring : settings.ring ≤ limit.most_ring_words
  pub some_tag : 1 ≤ settings.tags
  pub tags : settings.tags ≤ limit.most_tags
  pub picks : length settings.picks ≤ limit.most_picks
  pub each_pick : All (λ pick. pick < 2 ^ 32) settings.picks

-- how many instructions of a worker lie between two CPU ticks
abbrev pub period : Settings → ℕ
period settings = limit.instructions_per_second / settings.hz
