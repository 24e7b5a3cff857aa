-- The sums of events: one for each stack.
use Rattle.std.specs.Prelude.{◌+◌, ℕ, List, [], ◌∷◌, filter, map, sum_by, if◌then◌else◌}
use Rattle.gp_isa.specs.declared.frame.Frame.{Frame}
use Rattle.gp_events.specs.declared.sum.Sum.{Sum}
use Rattle.gp_events.specs.Event.{Event, same_stack, stacks_of}

-- the events of a stack
abbrev pub at_stack : List Frame → List Event → List Event
at_stack stack events = filter (λ (event : Event). same_stack stack event.stack) events

-- what they add up to
abbrev pub sum_at : List Event → List Frame → Sum
sum_at events stack = record {
  stack = stack;
  count = sum_by (λ (event : Event). event.count) (at_stack stack events);
  delay = sum_by (λ (event : Event). event.delay) (at_stack stack events);
}

-- The sums of events: for each stack that they show, what the events of that stack add up to.
unfoldable pub sums : List Event → List Sum
sums events = map (sum_at events) (stacks_of events)

-- the counts, and the delays, of all sums together
abbrev pub total_count : List Sum → ℕ
total_count all = sum_by (λ (sum : Sum). sum.count) all

abbrev pub total_delay : List Sum → ℕ
total_delay all = sum_by (λ (sum : Sum). sum.delay) all

-- a sum with an event more
abbrev pub with_event : Sum → Event → Sum
with_event sum event = record sum { count = sum.count + event.count; delay = sum.delay + event.delay }

-- the sum of one event
abbrev pub sum_of : Event → Sum
sum_of event = record { stack = event.stack; count = event.count; delay = event.delay }

-- Sums with an event more: it goes to the sum of its stack, and is the first of its stack where there is none.
abbrev pub added : List Sum → Event → List Sum
added [] event = sum_of event ∷ []
added (sum ∷ rest) event = if same_stack event.stack sum.stack then with_event sum event ∷ rest else sum ∷ added rest event
