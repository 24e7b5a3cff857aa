-- How many entries can come once the journal is full: what is owed to the requests and to the active profile, and
-- what workers still hold, falls with each entry then.
use Rattle.std.proofs.Common.{◌≡◌, ℕ, ◌+◌, ◌*◌, ◌<◌, ◌≤◌, Bool, true, false, not, ◌==◌, cond, List, [], ◌∷◌, length, set, drop, replicate, sum_by, Option, Some, is_none, refl, ap, ◌∙◌, arith, add-mul, one-mul}
use Rattle.std.proofs.lemmas.List.Sums.{sum_by-cons, sum_by-set, count_by-le-length}
use Rattle.std.proofs.lemmas.Bool.{eq-eqb, ne_eqb}
use Rattle.gp_journal.specs.declared.entry.Entry.{Entry}
use Rattle.gp_journal.specs.declared.entry.Entry.TheVariants.{Start, Run, Op, Tick, Park, Open, Refuse, Record, Close}
use Rattle.gp_journal.specs.declared.goroutine.Goroutine.{Goroutine}
use Rattle.gp_journal.specs.declared.goroutine.Worker.{Worker}
use Rattle.gp_journal.specs.declared.settings.Settings.{Settings}
use Rattle.gp_journal.specs.Settings.{AreInRange}
use Rattle.gp_journal.specs.State.{Code, State, resting, goroutine, worker, births, first, is_behind, number_behind}
use Rattle.gp_journal.specs.May.{May}
use Rattle.gp_journal.specs.Effect.{recorded, left, ticked, after}
use Rattle.gp_journal.proofs.Whole.{IsWhole, live_within}
use Rattle.gp_journal.proofs.Parts.{one_if}
use Rattle.gp_journal.proofs.Acts.{acts_all}
use Rattle.gp_journal.proofs.Steps.{behind_parts, none_active}
use Rattle.gp_journal.proofs.Rows.{IsQuiet, step_settled, not_behind}
use Rattle.gp_journal.proofs.Unrecorded.{behind_same, behind_less}
use Rattle.gp_journal.proofs.Going.{op_goes, run_goes, tick_due, no_tick_due, busy_within}
use Rattle.gp_journal.proofs.Fates.{continues}
use Rattle.gp_journal.proofs.Counting.{Numbered, IsNumbered, next_request, all_there}
use Rattle.gp_journal.proofs.Law.{quiet_active}

-- what is owed to the active profile: its Records and its Close
abbrev pending : ℕ → List Goroutine → ℕ
pending active gs = cond (active == 0) 0 (1 + number_behind active gs)

-- and to the requests that are left
pub owed : ℕ → ℕ → ℕ → List Goroutine → ℕ
owed each left active gs = left * each + pending active gs

-- what a worker still holds: a goroutine to park, a tick
abbrev held_by : Worker → ℕ
held_by v = one_if (not (is_none v.runs)) + one_if v.tick

pub held : List Worker → ℕ
held ws = sum_by held_by ws

same_bit : (a b : Bool) → a ≡ b → one_if a ≡ one_if b
same_bit a b e = ap one_if e

one_bit : (b : Bool) → one_if b ≤ 1
one_bit true = omega arith
one_bit false = omega arith

busy_bit : (o : Option ℕ) (g : ℕ) → o ≡ Some g → one_if (not (is_none o)) ≡ 1
busy_bit o g e = ap (λ x. one_if (not (is_none x))) e

no_bit : (b : Bool) → one_if (not b) ≤ 1
no_bit true = omega arith
no_bit false = omega arith

pub held_most : (ws : List Worker) → held ws ≤ 2 * length ws
unfolding held
held_most [] = omega arith
held_most (v ∷ ws) = let rest = held_most ws in let a = no_bit (is_none v.runs) in let b = one_bit v.tick in omega (arith, sum_by-cons held_by v ws)

pending_none : (gs : List Goroutine) (active : ℕ) → active ≡ 0 → pending active gs ≡ 0
pending_none gs active e = rw (eq-eqb active 0 e) refl

pending_some : (gs : List Goroutine) (active : ℕ) → 0 < active → pending active gs ≡ 1 + number_behind active gs
pending_some gs active some = rw (ne_eqb active 0 (λ e. omega arith)) refl

product_next : (each a b : ℕ) → a + 1 ≡ b → b * each ≡ a * each + each
product_next each a b e = rw (← e, add-mul, one-mul) refl

product_less : (each a b : ℕ) → a ≤ b → a * each ≤ b * each
product_less each a b le = grind arith

module _ (code : Code) (settings : Settings) (s : State) (whole : IsWhole s) (numbered : IsNumbered settings s) where
  abbrev each : ℕ
  each = settings.cells + 2

  abbrev before : ℕ
  before = owed each (length s.requests) s.active s.goroutines

  abbrev then_owed : Entry → ℕ
  then_owed entry = let t = after code settings s entry in owed each (length t.requests) t.active t.goroutines

  -- the requests that are left stay over an Op
  op_requests : (w g : ℕ) → (after code settings s (Op w g)).requests ≡ s.requests
  unfolding after
  op_requests w g =
      acts_all code settings w g s (λ t. t.requests ≡ s.requests) whole (record {
        stays = refl;
        resumed = refl;
        passed = λ cs ms. refl;
        woke = λ cs ms h blocked. refl;
        blocked = λ cs ms. refl;
        faulted = λ cause cs ms some. refl;
        bore = λ function room. refl;
      })

  quiet_requests : (entry : Entry) → IsQuiet entry → length (after code settings s entry).requests ≤ length s.requests
  unfolding after
  quiet_requests (Start w g) quiet = omega arith
  quiet_requests (Run w g n) quiet = omega arith
  quiet_requests (Op w g) quiet = let e = ap length (op_requests w g) in omega arith
  quiet_requests (Tick w g) quiet = omega arith
  quiet_requests (Park w g) quiet = omega arith
  quiet_requests (Refuse room n) quiet = fewer s.requests
    where
      fewer : {X : Type 0} (xs : List X) → length (drop 1 xs) ≤ length xs
      fewer [] = omega arith
      fewer (x ∷ xs) = omega arith
  quiet_requests (Open epoch room) quiet = absurd quiet
  quiet_requests (Record actor g) quiet = absurd quiet
  quiet_requests (Close epoch) quiet = absurd quiet

  quiet_pending : (entry : Entry) → May code settings s entry → IsQuiet entry → pending (after code settings s entry).active (after code settings s entry).goroutines ≡ pending s.active s.goroutines
  quiet_pending entry may quiet =
      let t = after code settings s entry in
      ap (λ a. pending a t.goroutines) (quiet_active code settings s entry whole may quiet)
      ∙ ap (λ n. cond (s.active == 0) 0 (1 + n)) (behind_same s.active s.goroutines t.goroutines (step_settled code settings s entry whole may quiet))

  -- nothing more is owed after a quiet entry
  quiet_owed : (entry : Entry) → May code settings s entry → IsQuiet entry → then_owed entry ≤ before
  unfolding owed
  quiet_owed entry may quiet =
      let a = quiet_pending entry may quiet in
      let b = product_less each (length (after code settings s entry).requests) (length s.requests) (quiet_requests entry quiet) in omega arith

  refuse_owed : (room n : ℕ) → May code settings s (Refuse room n) → then_owed (Refuse room n) + 1 ≤ before
  unfolding owed after
  refuse_owed room n may =
      let e = product_next each (length (drop 1 s.requests)) (length s.requests) (next_request settings s may.is_asked) in omega arith

  open_owed : (epoch room : ℕ) → May code settings s (Open epoch room) → then_owed (Open epoch room) + 1 ≤ before
  unfolding owed after
  open_owed epoch room may =
      let e = product_next each (length (drop 1 s.requests)) (length s.requests) (next_request settings s may.is_asked) in
      let some : 0 < epoch = let n = may.next_epoch in omega arith in
      let a = pending_some s.goroutines epoch some in
      let b = pending_none s.goroutines s.active (none_active settings s may.is_asked) in
      let c = count_by-le-length (is_behind epoch) s.goroutines in
      let d = numbered.born_bound in omega arith

  record_owed : (actor g : ℕ) → May code settings s (Record actor g) → then_owed (Record actor g) + 1 ≤ before
  unfolding owed after
  record_owed actor g may =
      let y = recorded s.active (goroutine s g) in
      let within = live_within s.goroutines g ((behind_parts s.active (goroutine s g) may.unrecorded).0) in
      let less = behind_less s.active g s.goroutines y within may.unrecorded (not_behind s.active y (omega arith)) in
      let a = pending_some (set s.goroutines g y) s.active may.is_active in
      let b = pending_some s.goroutines s.active may.is_active in omega arith

  close_owed : (epoch : ℕ) → May code settings s (Close epoch) → then_owed (Close epoch) + 1 ≤ before
  unfolding owed after
  close_owed epoch may =
      let a = pending_some s.goroutines s.active may.is_active in let b = pending_none s.goroutines 0 refl in omega arith

  -- a worker's Tick and Park leave it less
  tick_held : (w g : ℕ) → May code settings s (Tick w g) → held (after code settings s (Tick w g)).workers + 1 ≤ held s.workers
  unfolding held after
  tick_held w g may =
      let t = same_bit _ _ (tick_due code settings s w g may.is_next) in
      omega (arith, sum_by-set held_by s.workers w (ticked (worker s w)) resting (busy_within code settings s w g may.runs))

  park_held : (w g : ℕ) → May code settings s (Park w g) → held (after code settings s (Park w g)).workers + 1 ≤ held s.workers
  unfolding held after
  park_held w g may =
      let t = same_bit _ _ (no_tick_due code settings s w g may.is_next) in
      let r = busy_bit (worker s w).runs g may.runs in
      omega (arith, sum_by-set held_by s.workers w (left (worker s w)) resting (busy_within code settings s w g may.runs))

-- What bounds the entries of a state.
pub record Bounded (settings : Settings) (s : State) : Type 0 where
  pub little : owed (settings.cells + 2) (length s.requests) s.active s.goroutines ≤ 8 * (settings.cells + 2)
  pub few : s.entries + owed (settings.cells + 2) (length s.requests) s.active s.goroutines + held s.workers ≤ settings.entries + 8 * (settings.cells + 2) + 2 * settings.workers

entries_after : (code : Code) (settings : Settings) (s : State) (entry : Entry) → (after code settings s entry).entries ≡ s.entries + 1
unfolding after
entries_after code settings s entry = refl

-- before the journal is full
room_left : (settings : Settings) (s t : State) → Bounded settings s → Numbered settings t.clock t.workers t.entries (births t) (t.last_epoch + length t.requests) → t.entries ≡ s.entries + 1 →
    s.entries < settings.entries →
    owed (settings.cells + 2) (length t.requests) t.active t.goroutines ≤ owed (settings.cells + 2) (length s.requests) s.active s.goroutines → Bounded settings t
room_left settings s t bounded n e room less = record {
  little = let a = bounded.little in omega arith;
  few = let a = bounded.little in let b = held_most t.workers in let c = n.number in omega arith;
}

-- and where an entry lowers what is owed or held
lowers : (settings : Settings) (s t : State) → Bounded settings s → t.entries ≡ s.entries + 1 →
    owed (settings.cells + 2) (length t.requests) t.active t.goroutines ≤ owed (settings.cells + 2) (length s.requests) s.active s.goroutines →
    owed (settings.cells + 2) (length t.requests) t.active t.goroutines + held t.workers + 1 ≤ owed (settings.cells + 2) (length s.requests) s.active s.goroutines + held s.workers → Bounded settings t
lowers settings s t bounded e less lower = record {
  little = let a = bounded.little in omega arith;
  few = let a = bounded.few in omega arith;
}

-- entries of the profiler leave the workers
abbrev OfProfiler : Entry → Type 0
OfProfiler (Open epoch room) = Unit {0}
OfProfiler (Refuse room n) = Unit {0}
OfProfiler (Record actor g) = Unit {0}
OfProfiler (Close epoch) = Unit {0}
OfProfiler _ = ⊥

same_held : (code : Code) (settings : Settings) (s : State) (entry : Entry) (now old : ℕ) → now + 1 ≤ old → OfProfiler entry →
    now + held (after code settings s entry).workers + 1 ≤ old + held s.workers
unfolding after
same_held code settings s (Open epoch room) now old less own = omega arith
same_held code settings s (Refuse room n) now old less own = omega arith
same_held code settings s (Record actor g) now old less own = omega arith
same_held code settings s (Close epoch) now old less own = omega arith
same_held code settings s (Start w g) now old less own = absurd own
same_held code settings s (Run w g n) now old less own = absurd own
same_held code settings s (Op w g) now old less own = absurd own
same_held code settings s (Tick w g) now old less own = absurd own
same_held code settings s (Park w g) now old less own = absurd own

pub step_bounded : (code : Code) (settings : Settings) (s : State) (entry : Entry) → IsWhole s → IsNumbered settings s → IsNumbered settings (after code settings s entry) → May code settings s entry →
    Bounded settings s → Bounded settings (after code settings s entry)
step_bounded code settings s (Start w g) whole n n' may b =
    room_left settings s (after code settings s (Start w g)) b n' (entries_after code settings s (Start w g)) ((continues settings s may.not_over).not_full)
    (quiet_owed code settings s whole n (Start w g) may tt)
step_bounded code settings s (Run w g m) whole n n' may b =
    room_left settings s (after code settings s (Run w g m)) b n' (entries_after code settings s (Run w g m)) ((continues settings s ((run_goes code settings s w g m may.is_next).not_over)).not_full)
    (quiet_owed code settings s whole n (Run w g m) may tt)
step_bounded code settings s (Op w g) whole n n' may b =
    room_left settings s (after code settings s (Op w g)) b n' (entries_after code settings s (Op w g)) ((continues settings s ((op_goes code settings s w g may.is_next).not_over)).not_full)
    (quiet_owed code settings s whole n (Op w g) may tt)
step_bounded code settings s (Tick w g) whole n n' may b =
    let less = quiet_owed code settings s whole n (Tick w g) may tt in
    let h = tick_held code settings s whole n w g may in
    lowers settings s (after code settings s (Tick w g)) b (entries_after code settings s (Tick w g)) less (omega arith)
step_bounded code settings s (Park w g) whole n n' may b =
    let less = quiet_owed code settings s whole n (Park w g) may tt in
    let h = park_held code settings s whole n w g may in
    lowers settings s (after code settings s (Park w g)) b (entries_after code settings s (Park w g)) less (omega arith)
step_bounded code settings s (Open epoch room) whole n n' may b =
    let less = open_owed code settings s whole n epoch room may in
    lowers settings s (after code settings s (Open epoch room)) b (entries_after code settings s (Open epoch room)) (omega arith) (same_held code settings s (Open epoch room) _ _ less tt)
step_bounded code settings s (Refuse room m) whole n n' may b =
    let less = refuse_owed code settings s whole n room m may in
    lowers settings s (after code settings s (Refuse room m)) b (entries_after code settings s (Refuse room m)) (omega arith) (same_held code settings s (Refuse room m) _ _ less tt)
step_bounded code settings s (Record actor g) whole n n' may b =
    let less = record_owed code settings s whole n actor g may in
    lowers settings s (after code settings s (Record actor g)) b (entries_after code settings s (Record actor g)) (omega arith) (same_held code settings s (Record actor g) _ _ less tt)
step_bounded code settings s (Close epoch) whole n n' may b =
    let less = close_owed code settings s whole n epoch may in
    lowers settings s (after code settings s (Close epoch)) b (entries_after code settings s (Close epoch)) (omega arith) (same_held code settings s (Close epoch) _ _ less tt)

pub first_bounded : (code : Code) (settings : Settings) → AreInRange settings → Bounded settings (first code settings)
unfolding owed
first_bounded code settings range = record {
  little = let a = product_less (settings.cells + 2) (length settings.at) 8 range.few_requests in omega arith;
  few =
      let a = product_less (settings.cells + 2) (length settings.at) 8 range.few_requests in
      let b = held_most (replicate settings.workers resting) in
      let c = all_there settings.workers in omega arith;
}
