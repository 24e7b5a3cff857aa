-- How sums grow with each event.
use Rattle.std.proofs.Common.{◌≡◌, ℕ, ◌+◌, Bool, true, false, not, List, [], ◌∷◌, ◌++◌, filter, map, sum_by, refl, sym, ap, ◌∙◌, subst, append_assoc, if◌then◌else◌, arith}
use Rattle.std.proofs.lemmas.List.{append-nil}
use Rattle.std.proofs.lemmas.List.Sums.{sum_by-append, sum_by-cons}
use Rattle.indexmap.proofs.SetLemmas.{filter_keep, filter_skip}
use Rattle.gp_isa.specs.declared.frame.Frame.{Frame}
use Rattle.gp_events.specs.declared.sum.Sum.{Sum}
use Rattle.gp_events.specs.Event.{Event, same_stack, stacks_of}
use Rattle.gp_events.specs.Sums.{at_stack, sum_at, sums, with_event, sum_of, added, total_count, total_delay}
use Rattle.gp_events.specs.SumsLaw.{SumsBegin, SumsGrow, SumsAreShares}
use Rattle.gp_events.specs.laws.Alike.{same_stack_equiv}

-- what events of one stack add up to
abbrev summed : List Frame → List Event → Sum
summed stack chosen = record {
  stack = stack;
  count = sum_by (λ (event : Event). event.count) chosen;
  delay = sum_by (λ (event : Event). event.delay) chosen;
}

-- the sums of other stacks
abbrev apart : List Frame → List Sum → List Sum
apart stack all = filter (λ (sum : Sum). not (same_stack stack sum.stack)) all

-- One event in front leaves the sums of other stacks.
at-other : (x : Event) (xs : List Event) (k : List Frame) → same_stack x.stack k ≡ false → sum_at (x ∷ xs) k ≡ sum_at xs k
at-other x xs k e = ap (λ (b : Bool). summed k (if b then x ∷ at_stack k xs else at_stack k xs)) (same_stack_equiv.symm k x.stack ∙ e)

apart-map : (x : Event) (xs : List Event) (ks : List (List Frame)) → map (sum_at (x ∷ xs)) (filter (λ other. not (same_stack x.stack other)) ks) ≡ apart x.stack (map (sum_at xs) ks)
apart-map x xs [] = refl
apart-map x xs (k ∷ ks) = by (same_stack x.stack k) refl (apart-map x xs ks)
  where
    by : (b : Bool) → same_stack x.stack k ≡ b → map (sum_at (x ∷ xs)) (filter (λ other. not (same_stack x.stack other)) ks) ≡ apart x.stack (map (sum_at xs) ks) →
        map (sum_at (x ∷ xs)) (if not b then k ∷ filter (λ other. not (same_stack x.stack other)) ks else filter (λ other. not (same_stack x.stack other)) ks)
        ≡ (if not b then sum_at xs k ∷ apart x.stack (map (sum_at xs) ks) else apart x.stack (map (sum_at xs) ks))
    by true e rest = rest
    by false e rest = λ i. at-other x xs k e i ∷ rest i

sums-cons : (x : Event) (xs : List Event) → sums (x ∷ xs) ≡ sum_at (x ∷ xs) x.stack ∷ apart x.stack (sums xs)
unfolding sums stacks_of
sums-cons x xs = ap (λ (l : List Sum). sum_at (x ∷ xs) x.stack ∷ l) (apart-map x xs (stacks_of xs))

-- One event at the back.
pushed : (w : Event → ℕ) (events : List Event) (e : Event) → sum_by w (events ++ e ∷ []) ≡ sum_by w events + w e
pushed w events e = sum_by-append w events (e ∷ []) ∙ ap (λ (n : ℕ). sum_by w events + n) (omega (arith, sum_by-cons w e []))

more : (events : List Event) (e : Event) (k : List Frame) → same_stack k e.stack ≡ true → sum_at (events ++ e ∷ []) k ≡ with_event (sum_at events k) e
more events e k h =
    ap (summed k) (filter_keep (λ (event : Event). same_stack k event.stack) events e h)
    ∙ (λ i. record {
      stack = k;
      count = pushed (λ (event : Event). event.count) (at_stack k events) e i;
      delay = pushed (λ (event : Event). event.delay) (at_stack k events) e i;
    })

as_before : (events : List Event) (e : Event) (k : List Frame) → same_stack k e.stack ≡ false → sum_at (events ++ e ∷ []) k ≡ sum_at events k
as_before events e k h = ap (summed k) (filter_skip (λ (event : Event). same_stack k event.stack) events e h)

alone : (w : Event → ℕ) (e : Event) → sum_by w (e ∷ []) ≡ w e
alone w e = omega (arith, sum_by-cons w e [])

first_one : (e : Event) → sum_at (e ∷ []) e.stack ≡ sum_of e
first_one e =
    ap (λ (b : Bool). summed e.stack (if b then e ∷ [] else [])) (same_stack_equiv.refl e.stack)
    ∙ (λ i. record {
      stack = e.stack;
      count = alone (λ (event : Event). event.count) e i;
      delay = alone (λ (event : Event). event.delay) e i;
    })

-- An event of a stack leaves the sums of all others,
apart-same : (t : List Frame) (e : Event) (all : List Sum) → same_stack t e.stack ≡ true → apart t (added all e) ≡ apart t all
apart-same t e [] h = ap (λ (b : Bool). if not b then sum_of e ∷ [] else []) h
apart-same t e (sum ∷ rest) h = by (same_stack e.stack sum.stack) refl (apart-same t e rest h)
  where
    out : same_stack e.stack sum.stack ≡ true → same_stack t sum.stack ≡ true
    out s = same_stack_equiv.congr t e.stack sum.stack h ∙ s

    by : (b : Bool) → same_stack e.stack sum.stack ≡ b → apart t (added rest e) ≡ apart t rest → apart t (if b then with_event sum e ∷ rest else sum ∷ added rest e) ≡ apart t (sum ∷ rest)
    by true s later =
        ap (λ (c : Bool). if not c then with_event sum e ∷ apart t rest else apart t rest) (out s)
        ∙ sym (ap (λ (c : Bool). if not c then sum ∷ apart t rest else apart t rest) (out s))
    by false s later = ap (λ (l : List Sum). if not (same_stack t sum.stack) then sum ∷ l else l) later

-- and one of another stack goes to those.
apart-other : (t : List Frame) (e : Event) (all : List Sum) → same_stack t e.stack ≡ false → apart t (added all e) ≡ added (apart t all) e
apart-other t e [] h = ap (λ (b : Bool). if not b then sum_of e ∷ [] else []) h
apart-other t e (sum ∷ rest) h = by (same_stack e.stack sum.stack) refl (apart-other t e rest h)
  where
    within : same_stack e.stack sum.stack ≡ true → same_stack t sum.stack ≡ false
    within s = same_stack_equiv.symm t sum.stack ∙ sym (same_stack_equiv.congr e.stack sum.stack t s) ∙ same_stack_equiv.symm e.stack t ∙ h

    -- where the stack stands among those that are left
    found : (b : Bool) → same_stack e.stack sum.stack ≡ b → added (sum ∷ apart t rest) e ≡ (if b then with_event sum e ∷ apart t rest else sum ∷ added (apart t rest) e)
    found b s = ap (λ (b : Bool). if b then with_event sum e ∷ apart t rest else sum ∷ added (apart t rest) e) s

    later_on : (c : Bool) → same_stack e.stack sum.stack ≡ false → apart t (added rest e) ≡ added (apart t rest) e
        → (if not c then sum ∷ apart t (added rest e) else apart t (added rest e)) ≡ added (if not c then sum ∷ apart t rest else apart t rest) e
    later_on true s later = later
    later_on false s later = ap (λ (l : List Sum). sum ∷ l) later ∙ sym (found false s)

    by : (b : Bool) → same_stack e.stack sum.stack ≡ b → apart t (added rest e) ≡ added (apart t rest) e
        → apart t (if b then with_event sum e ∷ rest else sum ∷ added rest e) ≡ added (apart t (sum ∷ rest)) e
    by true s later =
        ap (λ (c : Bool). if not c then with_event sum e ∷ apart t rest else apart t rest) (within s)
        ∙ sym (found true s)
        ∙ sym (ap (λ (c : Bool). added (if not c then sum ∷ apart t rest else apart t rest) e) (within s))
    by false s later = later_on (same_stack t sum.stack) s later

pub sums_begin : SumsBegin
unfolding sums stacks_of
sums_begin = refl

pub sums_grow : SumsGrow
sums_grow [] e =
    sums-cons e []
    ∙ (λ i. first_one e i ∷ apart e.stack (sums_begin i))
    ∙ sym (ap (λ (l : List Sum). added l e) sums_begin)
sums_grow (x ∷ xs) e =
    sums-cons x (xs ++ e ∷ [])
    ∙ ap (λ (l : List Sum). sum_at (x ∷ xs ++ e ∷ []) x.stack ∷ apart x.stack l) (sums_grow xs e)
    ∙ by (same_stack x.stack e.stack) refl
    ∙ sym (ap (λ (l : List Sum). added l e) (sums-cons x xs))
  where
    found : (b : Bool) → same_stack x.stack e.stack ≡ b → added (sum_at (x ∷ xs) x.stack ∷ apart x.stack (sums xs)) e
        ≡ (if b then with_event (sum_at (x ∷ xs) x.stack) e ∷ apart x.stack (sums xs) else sum_at (x ∷ xs) x.stack ∷ added (apart x.stack (sums xs)) e)
    found b s =
        ap (λ (b : Bool). if b then with_event (sum_at (x ∷ xs) x.stack) e ∷ apart x.stack (sums xs) else sum_at (x ∷ xs) x.stack ∷ added (apart x.stack (sums xs)) e)
        (same_stack_equiv.symm e.stack x.stack ∙ s)

    by : (b : Bool) → same_stack x.stack e.stack ≡ b → sum_at (x ∷ xs ++ e ∷ []) x.stack ∷ apart x.stack (added (sums xs) e) ≡ added (sum_at (x ∷ xs) x.stack ∷ apart x.stack (sums xs)) e
    by true s = (λ i. more (x ∷ xs) e x.stack s i ∷ apart-same x.stack e (sums xs) s i) ∙ sym (found true s)
    by false s = (λ i. as_before (x ∷ xs) e x.stack s i ∷ apart-other x.stack e (sums xs) s i) ∙ sym (found false s)

-- All sums together, with an event more.
module _ (w : Sum → ℕ) (v : Event → ℕ) (more_is : (sum : Sum) (e : Event) → w (with_event sum e) ≡ w sum + v e) (one_is : (e : Event) → w (sum_of e) ≡ v e) where
  total-added : (all : List Sum) (e : Event) → sum_by w (added all e) ≡ sum_by w all + v e
  total-added [] e = let one = one_is e in omega (arith, sum_by-cons w (sum_of e) [])
  total-added (sum ∷ rest) e = by (same_stack e.stack sum.stack) (total-added rest e)
    where
      by : (b : Bool) → sum_by w (added rest e) ≡ sum_by w rest + v e → sum_by w (if b then with_event sum e ∷ rest else sum ∷ added rest e) ≡ sum_by w (sum ∷ rest) + v e
      by true later = let raised = more_is sum e in omega (arith, sum_by-cons w (with_event sum e) rest, sum_by-cons w sum rest)
      by false later = omega (arith, sum_by-cons w sum (added rest e), sum_by-cons w sum rest)

  -- What is so before some events is so behind them.
  shared_on : (before later : List Event) → sum_by w (sums before) ≡ sum_by v before → sum_by w (sums (before ++ later)) ≡ sum_by v (before ++ later)
  shared_on before [] is = subst (λ (l : List Event). sum_by w (sums l) ≡ sum_by v l) (sym (append-nil before)) is
  shared_on before (e ∷ later) is =
      subst (λ (l : List Event). sum_by w (sums l) ≡ sum_by v l) (append_assoc before (e ∷ []) later)
      (shared_on (before ++ e ∷ []) later
      (ap (sum_by w) (sums_grow before e) ∙ total-added (sums before) e ∙ ap (λ (n : ℕ). n + v e) is ∙ sym (pushed v before e)))

  shared : (events : List Event) → sum_by w (sums events) ≡ sum_by v events
  shared events = shared_on [] events (ap (sum_by w) sums_begin)

pub total_count-added : (all : List Sum) (e : Event) → total_count (added all e) ≡ total_count all + e.count
total_count-added all e = total-added (λ (sum : Sum). sum.count) (λ (event : Event). event.count) (λ sum e. refl) (λ e. refl) all e

pub total_delay-added : (all : List Sum) (e : Event) → total_delay (added all e) ≡ total_delay all + e.delay
total_delay-added all e = total-added (λ (sum : Sum). sum.delay) (λ (event : Event). event.delay) (λ sum e. refl) (λ e. refl) all e

pub sums_are_shares : SumsAreShares
sums_are_shares events = record {
  count = shared (λ (sum : Sum). sum.count) (λ (event : Event). event.count) (λ sum e. refl) (λ e. refl) events;
  delay = shared (λ (sum : Sum). sum.delay) (λ (event : Event). event.delay) (λ sum e. refl) (λ e. refl) events;
}
