-- The waits of journals: how they grow, that they are foreseen, and how long they are.
use Rattle.std.proofs.Common.{◌≡◌, ℕ, ◌+◌, ◌-◌, ◌*◌, ◌≤◌, max, Bool, true, false, List, [], ◌∷◌, ◌++◌, Option, Some, None, refl, sym, ap, ◌∙◌, subst, append_assoc, arith, if◌then◌else◌}
use Rattle.std.specs.List.{AllByRecursion}
use Rattle.std.proofs.lemmas.List.{append-nil}
use Rattle.gp_isa.specs.Trace.{Instruction, Unlock}
use Rattle.gp_sync.specs.declared.effect.Waiter.{Waiter}
use Rattle.gp_journal.specs.declared.entry.Entry.{Entry}
use Rattle.gp_journal.specs.declared.goroutine.Goroutine.{Goroutine}
use Rattle.gp_journal.specs.declared.settings.Settings.{Settings}
use Rattle.gp_journal.specs.State.{Code, State, goroutine, mutex, first}
use Rattle.gp_journal.specs.Due.{next_instruction}
use Rattle.gp_journal.specs.Effect.{after}
use Rattle.gp_journal.specs.Answer.{foreseen, block_delay, first_wait, contention_of, instruction_time}
use Rattle.gp_journal.specs.NumberLaws.{HasComeTo}
use Rattle.gp_journal.specs.Run.{IsLegal, after_all, last}
use Rattle.gp_journal.specs.Reached.{IsReached}
use Rattle.gp_journal.specs.Waiting.{TellsClocks, WaitListsTell}
use Rattle.gp_journal.specs.Waits.{Waited, cut_stack, wait_ended, first_waiter, hands_over_to, wait_for, contention_by, ended_at, contention_at, gathered, waits_of, contentions_of}
use Rattle.gp_journal.specs.WaitsLaw.{WaitsGrow, ContentionsGrow, first_delay, IsForeseen, WaitsAreForeseen, WaitsFit, WaitsAreShort}
use Rattle.gp_journal.proofs.Clocks.{last_tells}
use Rattle.gp_journal.proofs.Reached.{has_come}

-- What is told of one entry more stands behind the rest.
gathered-push : (tell : Code → State → Entry → List Waited) (code : Code) (settings : Settings) (s : State) (entries : List Entry) (entry : Entry) →
    gathered tell code settings s (entries ++ entry ∷ []) ≡ gathered tell code settings s entries ++ tell code (after_all code settings s entries) entry
gathered-push tell code settings s [] entry = append-nil (tell code s entry)
gathered-push tell code settings s (x ∷ xs) entry =
    ap (λ l. tell code s x ++ l) (gathered-push tell code settings (after code settings s x) xs entry)
    ∙ sym (append_assoc (tell code s x) (gathered tell code settings (after code settings s x) xs) (tell code (after_all code settings (after code settings s x) xs) entry))

pub waits_begin : (code : Code) (settings : Settings) → waits_of code settings [] ≡ []
unfolding waits_of
waits_begin code settings = refl

pub contentions_begin : (code : Code) (settings : Settings) → contentions_of code settings [] ≡ []
unfolding contentions_of
contentions_begin code settings = refl

pub waits_grow : WaitsGrow
unfolding waits_of
waits_grow code settings journal entry = gathered-push ended_at code settings (first code settings) journal entry

pub contentions_grow : ContentionsGrow
unfolding contentions_of
contentions_grow code settings journal entry = gathered-push contention_at code settings (first code settings) journal entry

-- What is foreseen of an Op tells both.
module _ (code : Code) (s : State) (g : ℕ) (tells : WaitListsTell s.goroutines s.channels s.mutexes) where
  at_waiters : (waiters : List Waiter) → TellsClocks s.goroutines waiters → first_wait s.clock waiters ≡ first_delay (wait_for code s g (first_waiter waiters))
  at_waiters [] told = refl
  at_waiters (head ∷ rest) told = ap (λ (since : ℕ). Some (instruction_time * (s.clock - since))) told.0

  at_mutex : (held : Bool) (waiters : List Waiter) → TellsClocks s.goroutines waiters →
      (if held then first_wait s.clock waiters else None) ≡ first_delay (wait_for code s g (if held then first_waiter waiters else None))
  at_mutex true waiters told = at_waiters waiters told
  at_mutex false waiters told = refl

  at_instruction : (instruction : Instruction) → contention_of s instruction ≡ first_delay (wait_for code s g (hands_over_to s instruction))
  at_instruction (Unlock m) = at_mutex (mutex s m).held (mutex s m).waiters (tells.waiters m)
  at_instruction other = refl

  by : (granted : Bool) (instruction : Instruction) →
      (if granted then None else contention_of s instruction) ≡ first_delay (wait_for code s g (if granted then None else hands_over_to s instruction))
  by true instruction = refl
  by false instruction = at_instruction instruction

  by_mark : (granted : Bool) (it : Goroutine) → (if granted then Some (block_delay it) else None)
      ≡ first_delay (if granted then record { stack = cut_stack 32 code it; delay = block_delay it } ∷ [] else [])
  by_mark true it = refl
  by_mark false it = refl

  is_foreseen : IsForeseen code s g
  is_foreseen = record {
    ended = by_mark (goroutine s g).granted (goroutine s g);
    contended = by (goroutine s g).granted (next_instruction code s g);
  }

pub foreseen_is : (code : Code) (settings : Settings) (s : State) → IsReached code settings s → (g : ℕ) → IsForeseen code s g
foreseen_is code settings s reached g =
    is_foreseen code s g
    (subst (λ (t : State). WaitListsTell t.goroutines t.channels t.mutexes) (sym reached.its_last) (last_tells code settings reached.journal reached.legal))

pub waits_are_foreseen : WaitsAreForeseen
waits_are_foreseen code settings journal g legal = foreseen_is code settings (last code settings journal) (record { journal = journal; legal = legal; its_last = refl }) g

-- No wait is longer than the clock tells.
one_at_least : (a b : ℕ) → a ≤ b → max 1 a ≤ b + 1
one_at_least a b le = omega arith

scaled : (clock since : ℕ) → instruction_time * (clock - since) ≤ instruction_time * clock
scaled clock since = omega arith

module _ (code : Code) (s : State) (g : ℕ) (come : (h : ℕ) → HasComeTo s h) where
  ended_fits : (granted : Bool) (it : Goroutine) → it.woken ≤ s.clock →
      AllByRecursion (λ (it : Waited). it.delay ≤ instruction_time * s.clock + 1) (if granted then record { stack = cut_stack 32 code it; delay = block_delay it } ∷ [] else [])
  ended_fits true it woken = (one_at_least (instruction_time * (it.woken - it.blocked)) (instruction_time * s.clock) (omega arith), tt)
  ended_fits false it woken = tt

  contended_fits : (o : Option ℕ) → AllByRecursion (λ (it : Waited). it.delay ≤ instruction_time * s.clock) (wait_for code s g o)
  contended_fits None = tt
  contended_fits (Some h) = (scaled s.clock (goroutine s h).blocked, tt)

  fit : WaitsFit code s g
  fit = record {
    ended = ended_fits (goroutine s g).granted (goroutine s g) ((come g).woken);
    contended = contended_fits (if (goroutine s g).granted then None else hands_over_to s (next_instruction code s g));
  }

pub wait_fits : (code : Code) (settings : Settings) (s : State) → IsReached code settings s → (g : ℕ) → AllByRecursion (λ (it : Waited). it.delay ≤ instruction_time * s.clock + 1) (wait_ended code (goroutine s g))
wait_fits code settings s reached g = (fit code s g (has_come code settings s reached)).ended

pub contention_fits : (code : Code) (settings : Settings) (s : State) → IsReached code settings s → (g : ℕ) → AllByRecursion (λ (it : Waited). it.delay ≤ instruction_time * s.clock) (contention_by code s g)
contention_fits code settings s reached g = (fit code s g (has_come code settings s reached)).contended

pub waits_are_short : WaitsAreShort
waits_are_short code settings journal g legal = fit code (last code settings journal) g (has_come code settings (last code settings journal) (record { journal = journal; legal = legal; its_last = refl }))
