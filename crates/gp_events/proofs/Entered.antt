-- What a map's entries are after an event more.
use Rattle.std.proofs.Common.{◌≡◌, ◌≤◌, ℕ, Bool, true, false, List, [], ◌∷◌, Some, unwrap_or, cond, refl, ap, zero-add, if◌then◌else◌, arith}
use Rattle.std.proofs.lemmas.List.Sums.{sum_by-cons}
use Rattle.std.specs.Map.{lookup}
use Rattle.indexmap.specs.IndexMap.{insert_entry}
use Rattle.gp_isa.specs.declared.frame.Frame.{Frame}
use Rattle.gp_events.specs.declared.buckets.Total.{Total}
use Rattle.gp_events.specs.declared.sum.Sum.{Sum}
use Rattle.gp_events.specs.Event.{same_stack}
use Rattle.gp_events.specs.Sums.{added, with_event, total_count, total_delay}
use Rattle.gp_events.specs.kept.Buckets.{nothing, raised, total_at, entered, sum_of_entry, sums_of_entries}

-- The sums of entries with an event more have it more.
pub entered_is : (entries : List (List Frame × Total)) (stack : List Frame) (count delay : ℕ)
    → sums_of_entries (entered entries stack count delay) ≡ added (sums_of_entries entries) (record { stack = stack; count = count; delay = delay })
entered_is [] stack count delay = λ i. record { stack = stack; count = zero-add count i; delay = zero-add delay i } ∷ []
entered_is (entry ∷ entries) stack count delay = by (same_stack stack entry.0) (entered_is entries stack count delay)
  where
    by : (b : Bool) → sums_of_entries (entered entries stack count delay) ≡ added (sums_of_entries entries) (record { stack = stack; count = count; delay = delay })
        → sums_of_entries
        (if b then (entry.0, raised (unwrap_or (cond b (Some entry.1) (lookup (same_stack stack) entries)) nothing) count delay) ∷ entries
        else entry ∷ insert_entry same_stack entries stack (raised (unwrap_or (cond b (Some entry.1) (lookup (same_stack stack) entries)) nothing) count delay))
        ≡ (if b then with_event (sum_of_entry entry) (record { stack = stack; count = count; delay = delay }) ∷ sums_of_entries entries
        else sum_of_entry entry ∷ added (sums_of_entries entries) (record { stack = stack; count = count; delay = delay }))
    by true later = refl
    by false later = ap (λ (l : List Sum). sum_of_entry entry ∷ l) later

-- What was added to a stack is no more than what was added to all.
pub count_within : (entries : List (List Frame × Total)) (stack : List Frame) → (total_at entries stack).count ≤ total_count (sums_of_entries entries)
count_within [] stack = omega arith
count_within (entry ∷ entries) stack = by (same_stack stack entry.0) (count_within entries stack)
  where
    by : (b : Bool) → (total_at entries stack).count ≤ total_count (sums_of_entries entries)
        → (unwrap_or (cond b (Some entry.1) (lookup (same_stack stack) entries)) nothing).count ≤ total_count (sum_of_entry entry ∷ sums_of_entries entries)
    by true later = omega (arith, sum_by-cons (λ (sum : Sum). sum.count) (sum_of_entry entry) (sums_of_entries entries))
    by false later = omega (arith, sum_by-cons (λ (sum : Sum). sum.count) (sum_of_entry entry) (sums_of_entries entries))

pub delay_within : (entries : List (List Frame × Total)) (stack : List Frame) → (total_at entries stack).delay ≤ total_delay (sums_of_entries entries)
delay_within [] stack = omega arith
delay_within (entry ∷ entries) stack = by (same_stack stack entry.0) (delay_within entries stack)
  where
    by : (b : Bool) → (total_at entries stack).delay ≤ total_delay (sums_of_entries entries)
        → (unwrap_or (cond b (Some entry.1) (lookup (same_stack stack) entries)) nothing).delay ≤ total_delay (sum_of_entry entry ∷ sums_of_entries entries)
    by true later = omega (arith, sum_by-cons (λ (sum : Sum). sum.delay) (sum_of_entry entry) (sums_of_entries entries))
    by false later = omega (arith, sum_by-cons (λ (sum : Sum). sum.delay) (sum_of_entry entry) (sums_of_entries entries))
