-- What the fields of wait lists tell of the state that they stand for.
use Rattle.std.proofs.Common.{◌≡◌, ℕ, ◌<◌, Bool, false, List, [], length, get_or, set, sum_by, refl, sym, ◌∙◌, vec_len, arith}
use Rattle.gp_sync.specs.declared.effect.Waiter.{Waiter}
use Rattle.gp_sync.specs.declared.wait_list.WaitList.{WaitList}
use Rattle.gp_sync.specs.declared.wait_list.WaitList.TheVariants.{Senders, Receivers, Lockers}
use Rattle.gp_sync.specs.declared.wait_lists.WaitLists.TheInside.{Inside}
use Rattle.gp_sync.specs.Places.{in_line, places_of}
use Rattle.gp_sync.specs.WaitState.{WaitState, channel, mutex, with_channel, with_mutex}
use Rattle.gp_sync.specs.kept.Layout.{state_of, IsLaidOut}
use Rattle.gp_sync.specs.kept.WaitList.{IsThere, waiters_in, with_waiters, number_of}
use Rattle.gp_sync.proofs.Parts as part

module _ (w : Inside) (whole : IsLaidOut w.capacities.items w.buffered.items w.held.items w.lines.lines) where
  abbrev caps : List ℕ
  caps = w.capacities.items

  abbrev bs : List ℕ
  bs = w.buffered.items

  abbrev hs : List Bool
  hs = w.held.items

  abbrev state : WaitState
  state = state_of caps bs hs w.lines

  channel_there : (c : ℕ) → c < length state.channels → c < length bs
  channel_there c lt = omega (arith, lt, part.channels_count caps bs hs w.lines whole)

  mutex_there : (m : ℕ) → m < length state.mutexes → m < length hs
  mutex_there m lt = omega (arith, lt, part.mutexes_count caps bs hs w.lines whole)

  line_within : (list : WaitList) → IsThere state list → number_of (length bs) list < length w.lines.lines
  line_within (Senders c) lt = omega (arith, channel_there c lt, whole.line_each)
  line_within (Receivers c) lt = omega (arith, channel_there c lt, whole.line_each)
  line_within (Lockers m) lt = omega (arith, mutex_there m lt, whole.line_each)

  line_is : (list : WaitList) → IsThere state list → waiters_in state list ≡ get_or w.lines.lines (number_of (length bs) list) []
  line_is (Senders c) lt = part.senders_at caps bs hs w.lines whole c (channel_there c lt)
  line_is (Receivers c) lt = part.receivers_at caps bs hs w.lines whole c (channel_there c lt)
  line_is (Lockers m) lt = part.waiters_at caps bs hs w.lines whole m (mutex_there m lt)

  with_line : (list : WaitList) (new : List Waiter) → IsThere state list →
      state_of caps bs hs (record w.lines { lines = set w.lines.lines (number_of (length bs) list) new }) ≡ with_waiters state list new
  with_line (Senders c) new lt = part.with_senders caps bs hs w.lines whole c new (channel_there c lt)
  with_line (Receivers c) new lt = part.with_receivers caps bs hs w.lines whole c new (channel_there c lt)
  with_line (Lockers m) new lt = part.with_waiters caps bs hs w.lines whole m new

  -- the same, told of the value
  module _ (value : WaitState) (is : state ≡ value) where
    pub there : (c : ℕ) → c < length value.channels → c < length bs
    there c lt = channel_there c (rw (← is) at lt)

    pub there_mutex : (m : ℕ) → m < length value.mutexes → m < length hs
    there_mutex m lt = mutex_there m (rw (← is) at lt)

    pub channel_each : length value.channels ≡ length bs
    channel_each = rw (← is) (part.channels_count caps bs hs w.lines whole)

    -- so many values as there are channels
    pub as_many : (k : ℕ) → k ≡ vec_len w.buffered → k ≡ length value.channels
    as_many k e = e ∙ (w.buffered.ok.0 ∙ sym channel_each)

    pub nowhere : (g : ℕ) → places_of value.channels value.mutexes g ≡ 0 → sum_by (in_line g) w.lines.lines ≡ 0
    nowhere g none = part.no_places caps bs hs w.lines whole g (rw (← is) at none)

    pub capacities_are : value.capacities ≡ caps
    capacities_are = rw (← is) refl

    pub buffered_is : (c : ℕ) → c < length value.channels → (channel value c).buffered ≡ get_or bs c 0
    buffered_is c lt = rw (← is) (part.buffered_at caps bs hs w.lines whole c (there c lt))

    pub held_is : (m : ℕ) → m < length value.mutexes → (mutex value m).held ≡ get_or hs m false
    held_is m lt = rw (← is) (part.held_at caps bs hs w.lines whole m (there_mutex m lt))

    pub with_buffered : (c k : ℕ) → state_of caps (set bs c k) hs w.lines ≡ with_channel value c (record (channel value c) { buffered = k })
    with_buffered c k = rw (← is) (part.with_buffered caps bs hs w.lines whole c k)

    pub with_held : (m : ℕ) (b : Bool) → state_of caps bs (set hs m b) w.lines ≡ with_mutex value m (record (mutex value m) { held = b })
    with_held m b = rw (← is) (part.with_held caps bs hs w.lines whole m b)

    -- a line of a number, which is that of a wait list
    pub within : (list : WaitList) (k : ℕ) → k ≡ number_of (length value.channels) list → IsThere value list → k < length w.lines.lines
    within list k e lt = rw (e, channel_each) (line_within list (rw (← is) at lt))

    pub waiters_are : (list : WaitList) (k : ℕ) → k ≡ number_of (length value.channels) list → IsThere value list →
        get_or w.lines.lines k [] ≡ waiters_in value list
    waiters_are list k e lt = rw (e, channel_each, ← is) (sym (line_is list (rw (← is) at lt)))

    pub with_waiters_are : (list : WaitList) (k : ℕ) → k ≡ number_of (length value.channels) list → IsThere value list →
        (new : List Waiter → List Waiter) →
        state_of caps bs hs (record w.lines { lines = set w.lines.lines k (new (get_or w.lines.lines k [])) }) ≡ with_waiters value list (new (waiters_in value list))
    with_waiters_are list k e lt new =
        rw (waiters_are list k e lt, e, channel_each, ← is) (with_line list (new (waiters_in state list)) (rw (← is) at lt))
