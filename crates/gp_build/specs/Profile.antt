-- The goroutine profile of records.
use Rattle.std.specs.Prelude.{ℕ, pos, List, [], ◌∷◌, map, codes, Some}
use Rattle.gp_isa.specs.declared.parts.Parts.{Parts}
use Rattle.gp_stack.specs.declared.record.Record.{Record}
use Rattle.gp_wire.specs.declared.profile.Profile.{Profile}
use Rattle.gp_build.specs.declared.sample.Header.{Header}
use Rattle.gp_build.specs.declared.sample.Kind.{Kind}
use Rattle.gp_build.specs.declared.sample.StackSample.{StackSample}
use Rattle.gp_build.specs.declared.samples.Group.{Group}
use Rattle.gp_build.specs.Message.{profile_of}
use Rattle.gp_build.specs.Samples.{groups_in_order}
use Rattle.gp_build.specs.Site.{site_of}

-- goroutines, counted
abbrev pub goroutines : Kind
goroutines = record { name = codes "goroutine"; unit = codes "count" }

-- one sample type, a period of one goroutine, no duration
unfoldable pub goroutine_header : Header
goroutine_header = record {
  types = goroutines ∷ [];
  period_type = Some goroutines;
  period = pos 1;
  duration = pos 0;
}

-- what some records show, with their number
abbrev pub sample_of_group : Group → StackSample
sample_of_group group = record {
  stack = map site_of group.shown.stack;
  set = group.shown.set;
  values = pos group.count ∷ [];
}

-- the samples of records
unfoldable pub goroutine_samples : Parts → List Record → List StackSample
goroutine_samples parts rows = map sample_of_group (groups_in_order parts rows)

-- the goroutine profile of records
unfoldable pub goroutine_profile_of : Parts → List ℕ → List Record → Profile
goroutine_profile_of parts file rows = profile_of parts file goroutine_header (goroutine_samples parts rows)
