-- The CPU profile: the profile of the records that a reader took from the ring of samples.
use Rattle.std.specs.Prelude.{◌*◌, ◌/◌, ℕ, pos, nat_lt, if◌then◌else◌, List, [], ◌∷◌, map, codes, Some}
use Rattle.gp_isa.specs.declared.parts.Parts.{Parts}
use Rattle.gp_wire.specs.declared.profile.Profile.{Profile}
use Rattle.gp_cpu.specs.declared.record.CpuRecord.{CpuRecord}
use Rattle.gp_cpu.specs.declared.sum.CpuKey.{CpuKey}
use Rattle.gp_cpu.specs.declared.sum.CpuKey.TheVariants.{At, Lost}
use Rattle.gp_cpu.specs.declared.sum.CpuSum.{CpuSum}
use Rattle.gp_cpu.specs.Sums.{cpu_sums}
use Rattle.gp_build.specs.declared.sample.Header.{Header}
use Rattle.gp_build.specs.declared.sample.Kind.{Kind}
use Rattle.gp_build.specs.declared.sample.StackSample.{StackSample}
use Rattle.gp_build.specs.declared.site.Site.{Site}
use Rattle.gp_build.specs.Contention.{capped}
use Rattle.gp_build.specs.Message.{profile_of}
use Rattle.gp_build.specs.Site.{site_of, lost_site}

-- samples, counted
abbrev pub sampled : Kind
sampled = record { name = codes "samples"; unit = codes "count" }

-- the time that they stand for
abbrev pub processor_time : Kind
processor_time = record { name = codes "cpu"; unit = codes "nanoseconds" }

-- the nanoseconds between two ticks, of which a second has so many
abbrev pub tick_time : ℕ → ℕ
tick_time hz = 1000000000 / hz

-- Two sample types, as period the nanoseconds between two ticks, and as duration those of a clock, of which each
-- instruction has 1,000.
unfoldable pub cpu_header : ℕ → ℕ → Header
cpu_header hz clock = record {
  types = sampled ∷ processor_time ∷ [];
  period_type = Some processor_time;
  period = pos (tick_time hz);
  duration = pos (1000 * clock);
}

-- Samples that were lost stand nowhere in the program.
abbrev pub sites_of_key : CpuKey → List Site
sites_of_key (At stack tag) = map site_of stack
sites_of_key Lost = lost_site ∷ []

-- A tag is the number of a label set. A larger one than label sets have stands for no labels, and so does a loss.
abbrev pub set_of_key : CpuKey → ℕ
set_of_key (At stack tag) = if nat_lt tag 256 then tag else 0
set_of_key Lost = 0

-- the sample of a sum: the count, and the time of so many ticks
abbrev pub sample_of_cpu_sum : ℕ → CpuSum → StackSample
sample_of_cpu_sum period sum = record {
  stack = sites_of_key sum.key;
  set = set_of_key sum.key;
  values = capped sum.count ∷ capped (sum.count * period) ∷ [];
}

-- The profile of records: a sample for each sum, in order of first sight. `hz` is the ticks of a second, and `clock` the
-- instructions of the run.
unfoldable pub cpu_profile_of : Parts → List ℕ → List CpuRecord → ℕ → ℕ → Profile
cpu_profile_of parts file records hz clock =
    profile_of parts file (cpu_header hz clock) (map (sample_of_cpu_sum (tick_time hz)) (cpu_sums records))
