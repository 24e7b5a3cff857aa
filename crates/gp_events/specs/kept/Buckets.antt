-- What buckets keep.
use Rattle.std.specs.Prelude.{ℕ, ◌+◌, List, map, unwrap_or}
use Rattle.indexmap.specs.IndexMap.{insert_entry}
use Rattle.std.specs.Map.{lookup}
use Rattle.gp_isa.specs.declared.frame.Frame.{Frame}
use Rattle.gp_events.specs.declared.buckets.Total.{Total}
use Rattle.gp_events.specs.declared.sum.Sum.{Sum}
use Rattle.gp_events.specs.Event.{same_stack}

-- nothing added yet
abbrev pub nothing : Total
nothing = record { count = 0; delay = 0 }

-- a stack with what was added to it
abbrev pub sum_of_entry : List Frame × Total → Sum
sum_of_entry entry = record { stack = entry.0; count = entry.1.count; delay = entry.1.delay }

abbrev pub sums_of_entries : List (List Frame × Total) → List Sum
sums_of_entries entries = map sum_of_entry entries

-- a total with an event more
abbrev pub raised : Total → ℕ → ℕ → Total
raised total count delay = record { count = total.count + count; delay = total.delay + delay }

-- what was added to a stack
abbrev pub total_at : List (List Frame × Total) → List Frame → Total
total_at entries stack = unwrap_or (lookup (same_stack stack) entries) nothing

-- the entries with an event more
abbrev pub entered : List (List Frame × Total) → List Frame → ℕ → ℕ → List (List Frame × Total)
entered entries stack count delay = insert_entry same_stack entries stack (raised (total_at entries stack) count delay)
