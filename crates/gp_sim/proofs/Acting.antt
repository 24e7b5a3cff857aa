-- What actors do, as the code finds it.
use Rattle.std.proofs.Common.{◌≡◌, ◌⊎◌, inl, inr, ◌<◌, ◌≤◌, ◌+◌, ℕ, Bool, true, false, ◌||◌, not, ◌==◌, true≢false, List, get_or, min, Option, Some, None, is_some, refl, sym, ap, ◌∙◌, subst, arith, if◌then◌else◌, nat_lt}
use Rattle.std.proofs.lemmas.Bool.{cases_lt}
use Rattle.gp_isa.specs.declared.parts.Parts.{Parts}
use Rattle.gp_isa.specs.Trace.{Point, trace, is_local}
use Rattle.gp_stack.specs.Body.{Progress, IsAtShared}
use Rattle.gp_stack.specs.Goroutine.{local_ahead}
use Rattle.gp_stack.specs.Peek.{then_at}
use Rattle.gp_stack.specs.declared.peek.Peek.{Peek}
use Rattle.gp_stack.specs.declared.peek.Then.{Then}
use Rattle.gp_journal.specs.declared.answer.SharedPoint.{SharedPoint}
use Rattle.gp_journal.specs.declared.entry.Entry.{Entry}
use Rattle.gp_journal.specs.declared.entry.Entry.TheVariants.{Start, Run, Op, Tick, Park, Open, Refuse, Record, Close}
use Rattle.gp_journal.specs.declared.settings.Settings.{Settings}
use Rattle.gp_journal.specs.Settings.{AreInRange, quantum}
use Rattle.gp_journal.specs.State.{Code, State, code_of, goroutine, worker, is_live}
use Rattle.gp_journal.specs.Due.{asked, over, due, extent, next_instruction}
use Rattle.gp_journal.specs.May.{IsDue}
use Rattle.gp_journal.specs.Reached.{IsReached}
use Rattle.gp_journal.specs.Standing.{head_of}
use Rattle.gp_journal.specs.Shown.{IsPeekAt, IsGiven}
use Rattle.gp_journal.specs.Bodies.{nowhere, AreBodiesOf}
use Rattle.gp_journal.proofs.Lemmas.{op_at_shared, point_is}
use Rattle.gp_machine.proofs.Peeked.{ahead_local}
use Rattle.gp_sim.specs.Choice.{goes_on_with, idle_action, action_of_worker, worker_action}
use Rattle.gp_sim.specs.kept.Acting.{idle_head, can_act}
use Rattle.gp_sim.specs.kept.Bodies.{Shows}

-- An idle worker goes on with the queue's head, which is live.
pub head_is : (s : State) (w g : ℕ) (b : Bool) → is_live (goroutine s g) ≡ true → nat_lt (goroutine s g).epoch s.active ≡ b →
    Some (if b then Record w g else Start w g) ≡ goes_on_with s w (Some g)
head_is s w g b live below = rw (live, below) refl

-- It does so where it goes on with anybody.
pub idle_by : (settings : Settings) (s : State) (w : ℕ) → idle_action settings s w ≡ goes_on_with s w (idle_head settings s)
idle_by settings s w = by (asked settings s || over settings s)
  where
    by : (b : Bool) → (if b then None else goes_on_with s w (head_of s.queue)) ≡ goes_on_with s w (if b then None else head_of s.queue)
    by true = refl
    by false = refl

-- A worker does something exactly where it can act.
pub acts : (code : Code) (settings : Settings) (s : State) (w : ℕ) → is_some (worker_action code settings s w) ≡ can_act (idle_head settings s) (worker s w)
acts code settings s w = by (worker s w).runs (idle_head settings s) refl
  where
    idle : (head : Option ℕ) → is_some (goes_on_with s w head) ≡ (is_some head || false)
    idle None = refl
    idle (Some g) = refl

    by : (runs head : Option ℕ) → idle_head settings s ≡ head → is_some (action_of_worker code settings s w runs) ≡ (is_some head || is_some runs)
    by (Some g) None e = refl
    by (Some g) (Some h) e = refl
    by None head e = ap is_some (idle_by settings s w ∙ ap (goes_on_with s w) e) ∙ idle head

-- the look ahead of a body is that of its goroutine
pub peek_is : (program : Parts) (s : State) (g : ℕ) (bodies : List Progress) (peek : Peek) → AreBodiesOf s bodies → is_live (goroutine s g) ≡ true →
    peek.local ≡ min quantum (local_ahead (trace program (get_or bodies g nowhere).start) (get_or bodies g nowhere).count) →
    peek.then ≡ then_at (trace program (get_or bodies g nowhere).start) ((get_or bodies g nowhere).count + peek.local) → IsPeekAt (code_of program) s g peek
peek_is program s g bodies peek are live local follows = record {
  local = local ∙ ap (λ (p : Progress). min quantum (local_ahead (trace program p.start) p.count)) (are.live g live);
  then = follows ∙ ap (λ (p : Progress). then_at (trace program p.start) (p.count + peek.local)) (are.live g live);
}

-- at a shared point no local one is ahead
pub none_ahead : (points : List Point) (count local : ℕ) (found : Then) → local ≡ min quantum (local_ahead points count) → found ≡ then_at points (count + local) → IsAtShared points count → local ≡ 0
none_ahead points count local found so_many comes at = by (cases_lt 0 local)
  where
    by : (0 < local) ⊎ (local ≤ 0) → local ≡ 0
    by (inl some) = absurd (true≢false (sym (ahead_local points count local found (record { so_many = so_many; comes = comes }) some) ∙ at.shared))
    by (inr none) = omega arith

-- An Op that is due is the goroutine's own.
op_of : (code : Code) (settings : Settings) (s : State) (w g v h : ℕ) → due code settings s w g ≡ Op v h → (w ≡ v) × (g ≡ h)
unfolding due
op_of code settings s w g v h e = at (worker s w).tick (asked settings s || over settings s || ((worker s w).slice == quantum)) (not (is_local (next_instruction code s g))) (extent code settings s w g) e
  where
    at : (tick stop shared : Bool) (n : ℕ) → (if tick then Tick w g else if stop then Park w g else if shared then Op w g else Run w g n) ≡ Op v h → (w ≡ v) × (g ≡ h)
    at true stop shared n e = absurd (cc)
    at false true shared n e = absurd (cc)
    at false false true n e = (cc, cc)
    at false false false n e = absurd (cc)

-- With it comes the point that its body shows.
module _ (program : Parts) (settings : Settings) (s : State) (reached : IsReached (code_of program) settings s) (range : AreInRange settings)
    (bodies : List Progress) (are : AreBodiesOf s bodies) (w g : ℕ) (runs : (worker s w).runs ≡ Some g) (point : Option SharedPoint)
    (shows : IsAtShared (trace program (get_or bodies g nowhere).start) (get_or bodies g nowhere).count → Shows (trace program (get_or bodies g nowhere).start) (get_or bodies g nowhere) point) where
  is_due : due (code_of program) settings s w g ≡ Op w g → IsDue (code_of program) settings s w g (Op w g)
  is_due e = record { runs = runs; is_next = e }

  shown : IsDue (code_of program) settings s w g (Op w g) → (o : Option SharedPoint) → Shows (trace program (get_or bodies g nowhere).start) (get_or bodies g nowhere) o → IsGiven (code_of program) s (Op w g) o
  shown may None none = none
  shown may (Some it) them = point_is program settings s reached range bodies are w g it may them.0 them.1

  pub given : (entry : Entry) → entry ≡ due (code_of program) settings s w g → IsGiven (code_of program) s entry point
  given (Op v h) e =
      let same = op_of (code_of program) settings s w g v h (sym e) in
      let is : Op v h ≡ Op w g = cc in
      let may = is_due (sym e ∙ is) in
      subst (λ x. IsGiven (code_of program) s x point) (sym is) (shown may point (shows (op_at_shared program settings s reached range bodies are w g may)))
  given (Start v h) e = tt
  given (Run v h n) e = tt
  given (Tick v h) e = tt
  given (Park v h) e = tt
  given (Open epoch room) e = tt
  given (Refuse room n) e = tt
  given (Record actor h) e = tt
  given (Close epoch) e = tt
