-- What a look at the next points of a goroutine tells of the entry that is due.
use Rattle.std.proofs.Common.{◌≡◌, ◌<◌, ◌+◌, ◌-◌, ◌%◌, ◌||◌, ◌==◌, ℕ, min, true, false, List, [], ◌∷◌, drop, get_or, refl, sym, ap, ◌∙◌, arith}
use Rattle.std.specs.List.{prefix_len}
use Rattle.std.proofs.lemmas.Bool.{ne_eqb, or_from}
use Rattle.std.proofs.lemmas.List.{get_or-drop}
use Rattle.std.proofs.lemmas.List.Sums.{prefix_len_passes}
use Rattle.gp_isa.specs.Trace.{Instruction, Local as LocalPoint, Labels, Send, Recv, Lock, Unlock, Spawn, Point, is_local}
use Rattle.gp_stack.specs.Goroutine.{no_point, next_point, local_ahead}
use Rattle.gp_stack.specs.Peek.{operation_of, then_is, first_of, then_at}
use Rattle.gp_stack.specs.declared.peek.Then.{Then}
use Rattle.gp_stack.specs.declared.peek.Then.TheVariants.{Shared}
use Rattle.gp_stack.specs.declared.statement.Operation.{Operation}
use Rattle.gp_stack.specs.declared.peek.Peek.{Peek}
use Rattle.gp_journal.specs.declared.entry.Entry.TheVariants.{Run, Op, Tick, Park}
use Rattle.gp_journal.specs.declared.settings.Settings.{Settings}
use Rattle.gp_journal.specs.Settings.{quantum, period}
use Rattle.gp_journal.specs.State.{Code, State, goroutine, worker, trace_of}
use Rattle.gp_journal.specs.Due.{asked, over, due, extent, next_instruction}
use Rattle.gp_journal.specs.Shown.{IsPeekAt}
use Rattle.gp_journal.proofs.Lemmas.{GoesOn}

-- so many local points are ahead, up to the quantum, and then this comes
pub record IsLook (points : List Point) (count local : ℕ) (then : Then) : Type 0 where
  pub so_many : local ≡ min quantum (local_ahead points count)
  pub comes : then ≡ then_at points (count + local)

shared_instruction : (i : Instruction) (o : Operation) → then_is (operation_of i) ≡ Shared o → is_local i ≡ false
shared_instruction LocalPoint o e = absurd (cc)
shared_instruction (Labels s) o e = absurd (cc)
shared_instruction (Send c) o e = refl
shared_instruction (Recv c) o e = refl
shared_instruction (Lock m) o e = refl
shared_instruction (Unlock m) o e = refl
shared_instruction (Spawn f) o e = refl

local_instruction : (i : Instruction) → ((o : Operation) → then_is (operation_of i) ≡ Shared o → ⊥) → is_local i ≡ true
local_instruction LocalPoint other = refl
local_instruction (Labels s) other = refl
local_instruction (Send c) other = absurd (other _ refl)
local_instruction (Recv c) other = absurd (other _ refl)
local_instruction (Lock m) other = absurd (other _ refl)
local_instruction (Unlock m) other = absurd (other _ refl)
local_instruction (Spawn f) other = absurd (other _ refl)

first_shared : (points : List Point) (o : Operation) → first_of points ≡ Shared o → is_local (get_or points 0 no_point).instruction ≡ false
first_shared [] o e = absurd (cc)
first_shared (p ∷ points) o e = shared_instruction p.instruction o e

first_local : (points : List Point) → ((o : Operation) → first_of points ≡ Shared o → ⊥) → is_local (get_or points 0 no_point).instruction ≡ true
first_local [] other = refl
first_local (p ∷ points) other = local_instruction p.instruction other

-- the next point is the first of those left
next_first : (points : List Point) (count : ℕ) → next_point points count ≡ get_or (drop count points) 0 no_point
unfolding next_point
next_first points count = ap (λ n. get_or points n no_point) (omega arith) ∙ sym (get_or-drop count points 0 no_point)

is_first : (points : List Point) (count : ℕ) → is_local (next_point points count).instruction ≡ is_local (get_or (drop count points) 0 no_point).instruction
is_first points count = ap (λ (p : Point). is_local p.instruction) (next_first points count)

comes_first : (points : List Point) (count local : ℕ) (then : Then) → IsLook points count local then → local ≡ 0 → first_of (drop count points) ≡ then
unfolding then_at
comes_first points count local then look none = sym (look.comes ∙ ap (λ n. first_of (drop n points)) (omega (arith, none)))

-- the next point is shared where no local one is ahead, and a shared one comes
pub next_shared : (points : List Point) (count local : ℕ) (then : Then) (o : Operation) → IsLook points count local then → local ≡ 0 → then ≡ Shared o → is_local (next_point points count).instruction ≡ false
next_shared points count local then o look none shared = is_first points count ∙ first_shared (drop count points) o (comes_first points count local then look none ∙ shared)

-- else it is local
pub next_local : (points : List Point) (count local : ℕ) (then : Then) → IsLook points count local then → local ≡ 0 → ((o : Operation) → then ≡ Shared o → ⊥) → is_local (next_point points count).instruction ≡ true
next_local points count local then look none other = is_first points count ∙ first_local (drop count points) (λ o e. other o (sym (comes_first points count local then look none) ∙ e))

pub ahead_local : (points : List Point) (count local : ℕ) (then : Then) → IsLook points count local then → 0 < local → is_local (next_point points count).instruction ≡ true
unfolding local_ahead
ahead_local points count local then look some =
    let so_many : local ≡ min quantum (prefix_len (λ point. is_local point.instruction) (drop count points)) = look.so_many in
    is_first points count ∙ prefix_len_passes (λ (point : Point). is_local point.instruction) (drop count points) 0 no_point (omega (arith, so_many))

-- no more of them fit a slice than the quantum
pub same_extent : (points : List Point) (count local between slice : ℕ) (then : Then) → IsLook points count local then → min local (min between (quantum - slice)) ≡ min (local_ahead points count) (min between (quantum - slice))
same_extent points count local between slice then look = let so_many = look.so_many in omega arith

-- The due entry by its tests, one after another.
module _ (code : Code) (settings : Settings) (s : State) (w g : ℕ) where
  pub tick_is_due : (worker s w).tick ≡ true → Tick w g ≡ due code settings s w g
  unfolding due
  tick_is_due tick = rw tick refl

  pub park_is_due : (worker s w).tick ≡ false → (asked settings s || over settings s || ((worker s w).slice == quantum)) ≡ true → Park w g ≡ due code settings s w g
  unfolding due
  park_is_due no_tick stops = rw (no_tick, stops) refl

  goes : GoesOn settings s w → (asked settings s || over settings s || ((worker s w).slice == quantum)) ≡ false
  goes on = or_from (asked settings s || over settings s) ((worker s w).slice == quantum) (or_from (asked settings s) (over settings s) on.none_asked on.not_over) (ne_eqb (worker s w).slice quantum on.slice_left)

  pub op_is_due : (worker s w).tick ≡ false → GoesOn settings s w → is_local (next_instruction code s g) ≡ false → Op w g ≡ due code settings s w g
  unfolding due
  op_is_due no_tick on shared = rw (no_tick, goes on, shared) refl

  pub run_is_due : (n : ℕ) → (worker s w).tick ≡ false → GoesOn settings s w → is_local (next_instruction code s g) ≡ true → n ≡ extent code settings s w g → Run w g n ≡ due code settings s w g
  unfolding due
  run_is_due n no_tick on is_its_own n_is = rw (no_tick, goes on, is_its_own, n_is) refl

  -- what a look tells of the next point, and of how many a Run passes
  pub look_of : (peek : Peek) → IsPeekAt code s g peek → IsLook (trace_of code (goroutine s g)) (goroutine s g).count peek.local peek.then
  look_of peek at = record { so_many = at.local; comes = at.then }

  pub extent_of : (peek : Peek) → IsPeekAt code s g peek → min peek.local (min (period settings - (worker s w).instructions % period settings) (quantum - (worker s w).slice)) ≡ extent code settings s w g
  unfolding extent
  extent_of peek at = same_extent (trace_of code (goroutine s g)) (goroutine s g).count peek.local (period settings - (worker s w).instructions % period settings) (worker s w).slice peek.then (look_of peek at)
