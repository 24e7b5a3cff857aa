-- What is kept of waits goes on with each entry.
use Rattle.std.proofs.Common.{◌≡◌, ◌+◌, ◌-◌, ◌*◌, ◌^◌, ◌==◌, ◌≤◌, ◌<◌, ℕ, suc, Bool, true, false, List, [], ◌∷◌, ◌++◌, length, map, Option, Some, None, if◌then◌else◌, refl, sym, ap, ◌∙◌, subst, arith, add-zero, zero-add}
use Rattle.std.specs.List.{AllByRecursion}
use Rattle.std.proofs.lemmas.Bool.{and_parts, eqb-false}
use Rattle.std.proofs.lemmas.List.{append-nil, map-append, length-append}
use Rattle.std.proofs.Math.Nat.{mul-le-mul_left}
use Rattle.gp_isa.specs.declared.frame.Frame.{Frame}
use Rattle.gp_isa.specs.declared.parts.Parts.{Parts}
use Rattle.gp_events.specs.declared.sum.Sum.{Sum}
use Rattle.gp_events.specs.Event.{Event}
use Rattle.gp_events.specs.Sums.{sums, added}
use Rattle.gp_events.specs.Fraction.{Choice, is_kept, keeps_next, behind_next, choice_after}
use Rattle.gp_events.proofs.Lemmas.{sums_begin, sums_grow, total_count-added, total_delay-added, goes_on}
use Rattle.gp_journal.specs.declared.entry.Entry.{Entry}
use Rattle.gp_journal.specs.declared.entry.Entry.TheVariants.{Op}
use Rattle.gp_journal.specs.declared.goroutine.Goroutine.{Goroutine}
use Rattle.gp_journal.specs.declared.settings.Settings.{Settings}
use Rattle.gp_journal.specs.Settings.{AreInRange}
use Rattle.gp_journal.specs.State.{Code, State, code_of, goroutine}
use Rattle.gp_journal.specs.Due.{next_instruction}
use Rattle.gp_journal.specs.Answer.{foreseen, block_delay, instruction_time}
use Rattle.gp_journal.specs.Reached.{IsReached}
use Rattle.gp_journal.specs.Run.{IsLegal, last}
use Rattle.gp_journal.specs.Waits.{Waited, cut_stack, wait_ended, hands_over_to, wait_for, contention_by, ended_at, contention_at, waits_of, contentions_of}
use Rattle.gp_journal.specs.WaitsLaw.{first_delay}
use Rattle.gp_journal.proofs.Lemmas.{waits_begin, contentions_begin, waits_grow, contentions_grow, foreseen_is, wait_fits, contention_fits, clock_fits, entries_are_bounded}
use Rattle.gp_history.specs.declared.op_event.OpEvent.{OpEvent}
use Rattle.gp_history.specs.declared.op_event.OpEvent.TheVariants.{Nothing, Block, Mutex, Skipped}
use Rattle.gp_history.specs.Events.{counted, weighed, block_events, kept_from, mutex_events, unlocks_so_far, unlock_event, event_foreseen, event_of, frames_of}
use Rattle.gp_history.specs.kept.Waits.{KeptWaits, are_off, mutex_event, event_by, one_at, some_at, noted, MayNote, AreBounded, AreWaits}

-- The events of a journal, by its waits.
abbrev block_by : Settings → List Waited → List Event
block_by settings waits = if settings.block == 0 then [] else map counted waits

abbrev mutex_by : Settings → List Waited → List Event
mutex_by settings waits = if settings.mutex == 0 then [] else kept_from settings.seed settings.mutex 0 waits

block_events_are : (code : Code) (settings : Settings) (journal : List Entry) → block_events code settings journal ≡ block_by settings (waits_of code settings journal)
unfolding block_events
block_events_are code settings journal = refl

mutex_events_are : (code : Code) (settings : Settings) (journal : List Entry) → mutex_events code settings journal ≡ mutex_by settings (contentions_of code settings journal)
unfolding mutex_events
mutex_events_are code settings journal = refl

-- One wait more at the end of those of which some are kept.
kept_from-push : (seed f k : ℕ) (waits : List Waited) (it : Waited) → kept_from seed f k (waits ++ it ∷ []) ≡ kept_from seed f k waits ++ (if is_kept seed f (k + length waits) then weighed f it ∷ [] else [])
kept_from-push seed f k [] it = ap (λ (n : ℕ). if is_kept seed f n then weighed f it ∷ [] else []) (sym (add-zero k))
kept_from-push seed f k (x ∷ xs) it = by (is_kept seed f k) (kept_from-push seed f (suc k) xs it)
  where
    place : suc k + length xs ≡ k + suc (length xs)
    place = omega arith

    by : (b : Bool) → kept_from seed f (suc k) (xs ++ it ∷ []) ≡ kept_from seed f (suc k) xs ++ (if is_kept seed f (suc k + length xs) then weighed f it ∷ [] else [])
        → (if b then weighed f x ∷ kept_from seed f (suc k) (xs ++ it ∷ []) else kept_from seed f (suc k) (xs ++ it ∷ []))
        ≡ (if b then weighed f x ∷ kept_from seed f (suc k) xs else kept_from seed f (suc k) xs) ++ (if is_kept seed f (k + suc (length xs)) then weighed f it ∷ [] else [])
    by true rest = ap (λ (l : List Event). weighed f x ∷ l) rest ∙ ap (λ (n : ℕ). weighed f x ∷ kept_from seed f (suc k) xs ++ (if is_kept seed f n then weighed f it ∷ [] else [])) place
    by false rest = rest ∙ ap (λ (n : ℕ). kept_from seed f (suc k) xs ++ (if is_kept seed f n then weighed f it ∷ [] else [])) place

-- What a history has of waits as it begins.
nothing_bounded : AreBounded 0 []
nothing_bounded = record { count = omega arith; delay = omega arith }

pub waits_begun : (program : Parts) (settings : Settings) → AreWaits program settings [] (record { rate = settings.block; block = []; mutex = []; choice = choice_after settings.seed settings.mutex 0 })
waits_begun program settings = record {
  rate = refl;
  block = sym (ap sums (block_events_are (code_of program) settings [] ∙ ap (block_by settings) (waits_begin (code_of program) settings) ∙ no_block (settings.block == 0)) ∙ sums_begin);
  mutex = sym (ap sums (mutex_events_are (code_of program) settings [] ∙ ap (mutex_by settings) (contentions_begin (code_of program) settings) ∙ no_mutex (settings.mutex == 0)) ∙ sums_begin);
  choice = sym (ap (λ (l : List Waited). choice_after settings.seed settings.mutex (if settings.mutex == 0 then 0 else length l)) (contentions_begin (code_of program) settings) ∙ none_taken (settings.mutex == 0));
  block_bound = nothing_bounded;
  mutex_bound = nothing_bounded;
}
  where
    no_block : (b : Bool) → (if b then [] else map counted []) ≡ []
    no_block true = refl
    no_block false = refl

    no_mutex : (b : Bool) → (if b then [] else kept_from settings.seed settings.mutex 0 []) ≡ []
    no_mutex true = refl
    no_mutex false = refl

    none_taken : (b : Bool) → choice_after settings.seed settings.mutex (if b then 0 else 0) ≡ choice_after settings.seed settings.mutex 0
    none_taken true = refl
    none_taken false = refl

-- Numbers.
abbrev FitsIn : ℕ → Option ℕ → Type 0
FitsIn n None = Unit {0}
FitsIn n (Some delay) = delay ≤ n

first_fits : (n : ℕ) (waits : List Waited) → AllByRecursion (λ (it : Waited). it.delay ≤ n) waits → FitsIn n (first_delay waits)
first_fits n [] all = tt
first_fits n (it ∷ rest) all = all.0

wider : (n m : ℕ) (o : Option ℕ) → n ≤ m → FitsIn n o → FitsIn m o
wider n m None le fits = tt
wider n m (Some delay) le fits = omega arith

product_fits : (f delay : ℕ) → f ≤ 1000000000 → delay ≤ 2 ^ 51 → f * delay ≤ 2 ^ 90
product_fits f delay small fits = let most = mul-le-mul_left f fits in omega arith

bounded_more : (n : ℕ) (all : List Sum) → AreBounded n all → AreBounded (n + 1) all
bounded_more n all bound = record { count = let b = bound.count in omega arith; delay = let b = bound.delay in omega arith }

bounded_added : (n : ℕ) (all : List Sum) (event : Event) → event.count ≤ 2 ^ 32 → event.delay ≤ 2 ^ 90 → AreBounded n all → AreBounded (n + 1) (added all event)
bounded_added n all event count delay bound = record {
  count = let more = total_count-added all event in let b = bound.count in omega arith;
  delay = let more = total_delay-added all event in let b = bound.delay in omega arith;
}

-- What an Op leaves is small.
abbrev IsSmall : KeptWaits → OpEvent → Type 0
IsSmall waits Nothing = Unit {0}
IsSmall waits (Block delay) = delay ≤ 2 ^ 90
IsSmall waits (Mutex delay) = (0 < waits.choice.f) × ((waits.choice.f ≤ 2 ^ 32) × (waits.choice.f * delay ≤ 2 ^ 90))
IsSmall waits Skipped = 0 < waits.choice.f

-- What is kept of waits after a legal journal.
module _ (program : Parts) (settings : Settings) (journal : List Entry) (waits : KeptWaits) (it : AreWaits program settings journal waits)
    (range : AreInRange settings) (legal : IsLegal (code_of program) settings journal) where
  abbrev code : Code
  code = code_of program

  abbrev now : State
  now = last code settings journal

  abbrev k : ℕ
  k = unlocks_so_far code settings journal

  abbrev all : List Waited
  all = contentions_of code settings journal

  abbrev seed : ℕ
  seed = settings.seed

  abbrev f : ℕ
  f = settings.mutex

  reached : IsReached code settings now
  reached = record { journal = journal; legal = legal; its_last = refl }

  same_f : waits.choice.f ≡ settings.mutex
  same_f = ap (λ (c : Choice). c.f) it.choice

  was_block : waits.block ≡ sums (block_by settings (waits_of code settings journal))
  was_block = it.block ∙ ap sums (block_events_are code settings journal)

  was_mutex : waits.mutex ≡ sums (mutex_by settings (contentions_of code settings journal))
  was_mutex = it.mutex ∙ ap sums (mutex_events_are code settings journal)

  -- What the code finds of an event is what the definition says.
  unlock_is : (delay : ℕ) → mutex_event waits delay ≡ unlock_event settings k (Some delay)
  unlock_is delay = ap (λ (c : Choice). if c.f == 0 then Nothing else if keeps_next c then Mutex delay else Skipped) it.choice ∙ by (settings.mutex == 0)
    where
      by : (b : Bool) → (if b then Nothing else if keeps_next (choice_after settings.seed settings.mutex (if b then 0 else k)) then Mutex delay else Skipped)
          ≡ (if b then Nothing else if is_kept settings.seed settings.mutex k then Mutex delay else Skipped)
      by true = refl
      by false = refl

  pub event_is : (wait contended : Option ℕ) → event_by waits wait contended ≡ event_foreseen settings k wait contended
  event_is (Some delay) contended = ap (λ (rate : ℕ). if rate == 0 then Nothing else Block delay) it.rate
  event_is None (Some delay) = unlock_is delay
  event_is None None = refl

  pub none_where_off : are_off waits ≡ true → (wait contended : Option ℕ) → Nothing ≡ event_foreseen settings k wait contended
  none_where_off off (Some delay) contended =
      let both = and_parts (waits.rate == 0) (waits.choice.f == 0) off in
      sym (ap (λ (b : Bool). if b then Nothing else Block delay) (ap (λ (r : ℕ). r == 0) (sym it.rate) ∙ both.0))
  none_where_off off None (Some delay) =
      let both = and_parts (waits.rate == 0) (waits.choice.f == 0) off in
      sym (ap (λ (b : Bool). if b then Nothing else if is_kept settings.seed settings.mutex k then Mutex delay else Skipped) (ap (λ (f : ℕ). f == 0) (sym same_f) ∙ both.1))
  none_where_off off None None = refl

  -- It is small, and there is room for it.
  some_f : (settings.mutex == 0) ≡ false → 0 < waits.choice.f
  some_f e = let not_zero = eqb-false settings.mutex 0 e in let same = same_f in positive settings.mutex not_zero same
    where
      positive : (f : ℕ) → (f ≡ 0 → ⊥) → waits.choice.f ≡ f → 0 < waits.choice.f
      positive f not_zero same = omega arith

  small_event : (wait contended : Option ℕ) → FitsIn (2 ^ 51) wait → FitsIn (2 ^ 51) contended → IsSmall waits (event_foreseen settings k wait contended)
  small_event (Some delay) contended fits fits' = by (settings.block == 0)
    where
      by : (b : Bool) → IsSmall waits (if b then Nothing else Block delay)
      by true = tt
      by false = omega arith
  small_event None None fits fits' = tt
  small_event None (Some delay) fits fits' = by (settings.mutex == 0) (is_kept settings.seed settings.mutex k) refl
    where
      few : waits.choice.f ≤ 1000000000
      few = let most = range.mutex in let same = same_f in omega arith

      by : (b kept : Bool) → (settings.mutex == 0) ≡ b → IsSmall waits (if b then Nothing else if kept then Mutex delay else Skipped)
      by true kept e = tt
      by false true e = (some_f e, ((let most = few in omega arith), product_fits waits.choice.f delay few fits'))
      by false false e = some_f e

  pub is_small : (g : ℕ) (event : OpEvent) → event ≡ event_of program settings journal g → IsSmall waits event
  is_small g event e =
      let told = foreseen_is code settings now reached g in
      let low = clock_fits code settings now reached range in
      let ended = first_fits (instruction_time * now.clock + 1) (wait_ended code (goroutine now g)) (wait_fits code settings now reached g) in
      let contended = first_fits (instruction_time * now.clock) (contention_by code now g) (contention_fits code settings now reached g) in
      subst (IsSmall waits) (sym e)
      (small_event (foreseen code now g).wait (foreseen code now g).contended
      (subst (FitsIn (2 ^ 51)) (sym told.ended) (wider (instruction_time * now.clock + 1) (2 ^ 51) (first_delay (wait_ended code (goroutine now g))) (omega arith) ended))
      (subst (FitsIn (2 ^ 51)) (sym told.contended) (wider (instruction_time * now.clock) (2 ^ 51) (first_delay (contention_by code now g)) (omega arith) contended)))

  few_entries : length journal ≤ 2 ^ 30
  few_entries =
      let few = entries_are_bounded code settings journal range legal in
      let a = range.entries in
      let b = range.cells in
      let c = range.workers in
      omega arith

  pub may_note : (event : OpEvent) → IsSmall waits event → MayNote waits event
  may_note Nothing small = tt
  may_note (Block delay) small =
      let few = few_entries in
      record { count = let b = it.block_bound.count in omega arith; delay = let b = it.block_bound.delay in omega arith }
  may_note (Mutex delay) small =
      let few = few_entries in
      let f = small.1.0 in
      let d = small.1.1 in
      (small.0, record { count = let b = it.mutex_bound.count in omega arith; delay = let b = it.mutex_bound.delay in omega arith })
  may_note Skipped small = small

  block_bounded : (event : OpEvent) (stack : List Frame) → IsSmall waits event → AreBounded (length journal + 1) (noted event stack waits).block
  block_bounded Nothing stack small = bounded_more (length journal) waits.block it.block_bound
  block_bounded (Block delay) stack small = bounded_added (length journal) waits.block (one_at stack delay) (omega arith) small it.block_bound
  block_bounded (Mutex delay) stack small = bounded_more (length journal) waits.block it.block_bound
  block_bounded Skipped stack small = bounded_more (length journal) waits.block it.block_bound

  mutex_bounded : (event : OpEvent) (stack : List Frame) → IsSmall waits event → AreBounded (length journal + 1) (noted event stack waits).mutex
  mutex_bounded Nothing stack small = bounded_more (length journal) waits.mutex it.mutex_bound
  mutex_bounded (Block delay) stack small = bounded_more (length journal) waits.mutex it.mutex_bound
  mutex_bounded (Mutex delay) stack small = bounded_added (length journal) waits.mutex (some_at waits.choice.f stack delay) small.1.0 small.1.1 it.mutex_bound
  mutex_bounded Skipped stack small = bounded_more (length journal) waits.mutex it.mutex_bound

  rate_kept : (event : OpEvent) (stack : List Frame) → (noted event stack waits).rate ≡ waits.rate
  rate_kept Nothing stack = refl
  rate_kept (Block delay) stack = refl
  rate_kept (Mutex delay) stack = refl
  rate_kept Skipped stack = refl

  long : (entry : Entry) → length (journal ++ entry ∷ []) ≡ length journal + 1
  long entry = length-append journal (entry ∷ [])

  -- An entry that ends no wait and hands over no mutex leaves all.
  pub waits_stay : (entry : Entry) → ended_at code now entry ≡ [] → contention_at code now entry ≡ [] → AreWaits program settings (journal ++ entry ∷ []) waits
  waits_stay entry none nobody =
      let same_waits = waits_grow code settings journal entry ∙ ap (λ (l : List Waited). waits_of code settings journal ++ l) none ∙ append-nil (waits_of code settings journal) in
      let same_contentions = contentions_grow code settings journal entry ∙ ap (λ (l : List Waited). contentions_of code settings journal ++ l) nobody ∙ append-nil (contentions_of code settings journal) in
      record {
        rate = it.rate;
        block = was_block ∙ ap (λ (l : List Waited). sums (block_by settings l)) (sym same_waits) ∙ ap sums (sym (block_events_are code settings (journal ++ entry ∷ [])));
        mutex = was_mutex ∙ ap (λ (l : List Waited). sums (mutex_by settings l)) (sym same_contentions) ∙ ap sums (sym (mutex_events_are code settings (journal ++ entry ∷ [])));
        choice = it.choice ∙ ap (λ (l : List Waited). choice_after settings.seed settings.mutex (if settings.mutex == 0 then 0 else length l)) (sym same_contentions);
        block_bound = subst (λ (n : ℕ). AreBounded n waits.block) (sym (long entry)) (bounded_more (length journal) waits.block it.block_bound);
        mutex_bound = subst (λ (n : ℕ). AreBounded n waits.mutex) (sym (long entry)) (bounded_more (length journal) waits.mutex it.mutex_bound);
      }

  -- An Op of g.
  module _ (g : ℕ) (stack : List Frame) where
    abbrev me : Goroutine
    me = goroutine now g

    -- the wait that its Op ends, and the one of h to whom it hands a mutex over
    abbrev ended_one : Waited
    ended_one = record { stack = cut_stack 32 code me; delay = block_delay me }

    abbrev handed_one : ℕ → Waited
    handed_one h = record { stack = cut_stack 32 code me; delay = instruction_time * (now.clock - (goroutine now h).blocked) }

    -- what comes of the block events, where the Op ends a wait and where it doesn't
    block_same : (contended : Option ℕ) → (noted (unlock_event settings k contended) stack waits).block ≡ waits.block
    block_same None = refl
    block_same (Some delay) = by (settings.mutex == 0) (is_kept settings.seed settings.mutex k)
      where
        by : (b kept : Bool) → (noted (if b then Nothing else if kept then Mutex delay else Skipped) stack waits).block ≡ waits.block
        by true kept = refl
        by false true = refl
        by false false = refl

    block_is : (granted : Bool) (contended : Option ℕ)
        → stack ≡ cut_stack (frames_of (event_foreseen settings k (if granted then Some (block_delay me) else None) contended)) code me
        → (noted (event_foreseen settings k (if granted then Some (block_delay me) else None) contended) stack waits).block
        ≡ sums (block_by settings (waits_of code settings journal ++ (if granted then record { stack = cut_stack 32 code me; delay = block_delay me } ∷ [] else [])))
    block_is false contended cut =
        block_same contended ∙ was_block ∙ ap (λ (l : List Waited). sums (block_by settings l)) (sym (append-nil (waits_of code settings journal)))
    block_is true contended cut = by (settings.block == 0) cut was_block
      where
        by : (b : Bool) → stack ≡ cut_stack (frames_of (if b then Nothing else Block (block_delay me))) code me
            → waits.block ≡ sums (if b then [] else map counted (waits_of code settings journal))
            → (noted (if b then Nothing else Block (block_delay me)) stack waits).block ≡ sums (if b then [] else map counted (waits_of code settings journal ++ ended_one ∷ []))
        by true cut was = was
        by false cut was =
            (λ i. added (was i) (one_at (cut i) (block_delay me)))
            ∙ sym (sums_grow (map counted (waits_of code settings journal)) (counted ended_one))
            ∙ ap sums (sym (map-append counted (waits_of code settings journal) (ended_one ∷ [])))

    -- what comes of the mutex events, where the Op ends a wait
    mutex_same : (delay : ℕ) → ((noted (if settings.block == 0 then Nothing else Block delay) stack waits).mutex ≡ waits.mutex)
        × ((noted (if settings.block == 0 then Nothing else Block delay) stack waits).choice ≡ waits.choice)
    mutex_same delay = by (settings.block == 0)
      where
        by : (b : Bool) → ((noted (if b then Nothing else Block delay) stack waits).mutex ≡ waits.mutex) × ((noted (if b then Nothing else Block delay) stack waits).choice ≡ waits.choice)
        by true = (refl, refl)
        by false = (refl, refl)

    -- and where it doesn't
    unlocked : (h : Option ℕ)
        → stack ≡ cut_stack (frames_of (unlock_event settings k (first_delay (wait_for code now g h)))) code me
        → ((noted (unlock_event settings k (first_delay (wait_for code now g h))) stack waits).mutex
        ≡ sums (mutex_by settings (contentions_of code settings journal ++ wait_for code now g h)))
        × ((noted (unlock_event settings k (first_delay (wait_for code now g h))) stack waits).choice
        ≡ choice_after settings.seed settings.mutex (if settings.mutex == 0 then 0 else length (contentions_of code settings journal ++ wait_for code now g h)))
    unlocked None cut = (
      was_mutex ∙ ap (λ (l : List Waited). sums (mutex_by settings l)) (sym (append-nil (contentions_of code settings journal))),
      it.choice ∙ ap (λ (l : List Waited). choice_after settings.seed settings.mutex (if settings.mutex == 0 then 0 else length l)) (sym (append-nil (contentions_of code settings journal))),
    )
    unlocked (Some h) cut = by (settings.mutex == 0) (is_kept settings.seed settings.mutex k) refl cut was_mutex it.choice
      where
        next : waits.choice ≡ choice_after seed f k → behind_next waits.choice ≡ choice_after seed f (length (all ++ (handed_one h) ∷ []))
        next was = ap behind_next was ∙ goes_on seed f k ∙ ap (choice_after seed f) (sym (length-append all (handed_one h ∷ [])))

        kept_is : (kept : Bool) → is_kept seed f k ≡ kept → kept_from seed f 0 (all ++ (handed_one h) ∷ []) ≡ kept_from seed f 0 all ++ (if kept then weighed f (handed_one h) ∷ [] else [])
        kept_is kept e =
            kept_from-push seed f 0 all (handed_one h)
            ∙ ap (λ (n : ℕ). kept_from seed f 0 all ++ (if is_kept seed f n then weighed f (handed_one h) ∷ [] else [])) (zero-add (length all))
            ∙ ap (λ (b : Bool). kept_from seed f 0 all ++ (if b then weighed f (handed_one h) ∷ [] else [])) e

        by : (b kept : Bool) → is_kept seed f k ≡ kept → stack ≡ cut_stack (frames_of (if b then Nothing else if kept then Mutex (handed_one h).delay else Skipped)) code me
            → waits.mutex ≡ sums (if b then [] else kept_from seed f 0 all) → waits.choice ≡ choice_after seed f (if b then 0 else k)
            → ((noted (if b then Nothing else if kept then Mutex (handed_one h).delay else Skipped) stack waits).mutex ≡ sums (if b then [] else kept_from seed f 0 (all ++ (handed_one h) ∷ [])))
            × ((noted (if b then Nothing else if kept then Mutex (handed_one h).delay else Skipped) stack waits).choice ≡ choice_after seed f (if b then 0 else length (all ++ (handed_one h) ∷ [])))
        by true kept e cut was choice = (was, choice)
        by false true e cut was choice = (
          (λ i. added (was i) (some_at (same_f i) (cut i) (handed_one h).delay))
              ∙ sym (sums_grow (kept_from seed f 0 all) (weighed f (handed_one h)))
              ∙ ap sums (sym (kept_is true e)),
          next choice,
        )
        by false false e cut was choice = (was ∙ ap sums (sym (kept_is false e ∙ append-nil (kept_from seed f 0 all))), next choice)

    mutex_is : (granted : Bool) (h : Option ℕ)
        → stack ≡ cut_stack (frames_of (event_foreseen settings k (if granted then Some (block_delay me) else None) (first_delay (wait_for code now g (if granted then None else h))))) code me
        → ((noted (event_foreseen settings k (if granted then Some (block_delay me) else None) (first_delay (wait_for code now g (if granted then None else h)))) stack waits).mutex
        ≡ sums (mutex_by settings (contentions_of code settings journal ++ wait_for code now g (if granted then None else h))))
        × ((noted (event_foreseen settings k (if granted then Some (block_delay me) else None) (first_delay (wait_for code now g (if granted then None else h)))) stack waits).choice
        ≡ choice_after settings.seed settings.mutex (if settings.mutex == 0 then 0 else length (contentions_of code settings journal ++ wait_for code now g (if granted then None else h))))
    mutex_is false h cut = unlocked h cut
    mutex_is true h cut =
        let same = mutex_same (block_delay me) in (
          same.0 ∙ was_mutex ∙ ap (λ (l : List Waited). sums (mutex_by settings l)) (sym (append-nil (contentions_of code settings journal))),
          same.1 ∙ it.choice ∙ ap (λ (l : List Waited). choice_after settings.seed settings.mutex (if settings.mutex == 0 then 0 else length l)) (sym (append-nil (contentions_of code settings journal))),
        )

    pub goes : (w : ℕ) (event : OpEvent) → event ≡ event_of program settings journal g → stack ≡ cut_stack (frames_of event) code me
        → AreWaits program settings (journal ++ Op w g ∷ []) (noted event stack waits)
    goes w event e cut =
        let told = foreseen_is code settings now reached g in
        let small = is_small g event e in
        let is = e ∙ ap (event_foreseen settings k (foreseen code now g).wait) told.contended in
        let cut_by = cut ∙ ap (λ (o : OpEvent). cut_stack (frames_of o) code me) is in
        let mutex = mutex_is me.granted (hands_over_to now (next_instruction code now g)) cut_by in
        record {
          rate = rate_kept event stack ∙ it.rate;
          block = ap (λ (o : OpEvent). (noted o stack waits).block) is ∙ block_is me.granted (first_delay (contention_by code now g)) cut_by
              ∙ ap (λ (l : List Waited). sums (block_by settings l)) (sym (waits_grow code settings journal (Op w g)))
              ∙ ap sums (sym (block_events_are code settings (journal ++ Op w g ∷ [])));
          mutex = ap (λ (o : OpEvent). (noted o stack waits).mutex) is ∙ mutex.0
              ∙ ap (λ (l : List Waited). sums (mutex_by settings l)) (sym (contentions_grow code settings journal (Op w g)))
              ∙ ap sums (sym (mutex_events_are code settings (journal ++ Op w g ∷ [])));
          choice = ap (λ (o : OpEvent). (noted o stack waits).choice) is ∙ mutex.1
              ∙ ap (λ (l : List Waited). choice_after settings.seed settings.mutex (if settings.mutex == 0 then 0 else length l)) (sym (contentions_grow code settings journal (Op w g)));
          block_bound = subst (λ (n : ℕ). AreBounded n (noted event stack waits).block) (sym (long (Op w g))) (block_bounded event stack small);
          mutex_bound = subst (λ (n : ℕ). AreBounded n (noted event stack waits).mutex) (sym (long (Op w g))) (mutex_bounded event stack small);
        }
