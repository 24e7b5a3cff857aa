-- The block profile and the mutex profile: the profile of sums of waits.
use Rattle.std.specs.Prelude.{ℕ, ℤ, pos, min, List, [], ◌∷◌, map, codes, Some}
use Rattle.gp_isa.specs.declared.parts.Parts.{Parts}
use Rattle.gp_wire.specs.declared.profile.Profile.{Profile}
use Rattle.gp_events.specs.declared.sum.Sum.{Sum}
use Rattle.gp_build.specs.declared.sample.Header.{Header}
use Rattle.gp_build.specs.declared.sample.Kind.{Kind}
use Rattle.gp_build.specs.declared.sample.StackSample.{StackSample}
use Rattle.gp_build.specs.Message.{profile_of}
use Rattle.gp_build.specs.Site.{site_of}

-- waits, counted
abbrev pub contentions : Kind
contentions = record { name = codes "contentions"; unit = codes "count" }

-- how long they took
abbrev pub delays : Kind
delays = record { name = codes "delay"; unit = codes "nanoseconds" }

-- two sample types, a period of one wait, no duration
unfoldable pub contention_header : Header
contention_header = record {
  types = contentions ∷ delays ∷ [];
  period_type = Some contentions;
  period = pos 1;
  duration = pos 0;
}

-- A value is the sum, or 2^63 - 1 where the sum is above that.
abbrev pub capped : ℕ → ℤ
capped sum = pos (min sum 9223372036854775807)

-- the sample of a sum: no labels, the count and the delay
abbrev pub sample_of_sum : Sum → StackSample
sample_of_sum sum = record {
  stack = map site_of sum.stack;
  set = 0;
  values = capped sum.count ∷ capped sum.delay ∷ [];
}

-- The profile of sums, in their order.
unfoldable pub contention_profile_of : Parts → List ℕ → List Sum → Profile
contention_profile_of parts file sums = profile_of parts file contention_header (map sample_of_sum sums)
