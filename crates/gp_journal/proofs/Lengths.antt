-- A program's channels and mutexes stay as many as they are.
use Rattle.std.proofs.Common.{◌≡◌, ℕ, ◌+◌, Bool, true, false, List, [], ◌∷◌, length, refl, ap, ◌∙◌, if◌then◌else◌, nat_lt, replicate, zero, suc}
use Rattle.std.proofs.Common.{length-set}
use Rattle.gp_isa.specs.Trace.{Instruction, Local, Labels, Send, Recv, Lock, Unlock, Spawn}
use Rattle.gp_sync.specs.declared.effect.Effect.{Effect}
use Rattle.gp_sync.specs.declared.effect.Effect.TheVariants.{Done, Blocks, Wakes, Fault}
use Rattle.gp_journal.specs.declared.entry.Entry.{Entry}
use Rattle.gp_journal.specs.declared.entry.Entry.TheVariants.{Start, Run, Op, Tick, Park, Open, Refuse, Record, Close}
use Rattle.gp_journal.specs.declared.settings.Settings.{Settings}
use Rattle.gp_journal.specs.State.{Code, State, goroutine, births, first}
use Rattle.gp_journal.specs.Due.{next_instruction}
use Rattle.gp_journal.specs.Effect.{meets, operates, passes, bears, faults, resumes, acts, effect, after, with_channel, with_mutex}
use Rattle.gp_journal.specs.Run.{after_all, last}
use Rattle.gp_sync.specs.Operations.{Channel, Mutex}
use Rattle.gp_journal.proofs.Whole.{IsWhole}
use Rattle.gp_journal.proofs.Acts.{acts_all}

pub record HasPlaces (channels mutexes : ℕ) (s : State) : Type 0 where
  pub of_channels : length s.channels ≡ channels
  pub of_mutexes : length s.mutexes ≡ mutexes

module _ (code : Code) (settings : Settings) (channels mutexes : ℕ) where
  met : (w g : ℕ) (effect : Effect) (s : State) → HasPlaces channels mutexes s → HasPlaces channels mutexes (meets code settings w g effect s)
  unfolding meets
  met w g Done s has = record { of_channels = has.of_channels; of_mutexes = has.of_mutexes }
  met w g (Wakes h since) s has = record { of_channels = has.of_channels; of_mutexes = has.of_mutexes }
  met w g Blocks s has = record { of_channels = has.of_channels; of_mutexes = has.of_mutexes }
  met w g Fault s has = record { of_channels = has.of_channels; of_mutexes = has.of_mutexes }

  other_channel : (c : ℕ) (new : Channel) (s : State) → HasPlaces channels mutexes s → HasPlaces channels mutexes (with_channel c new s)
  other_channel c new s has = record { of_channels = length-set s.channels c new ∙ has.of_channels; of_mutexes = has.of_mutexes }

  other_mutex : (m : ℕ) (new : Mutex) (s : State) → HasPlaces channels mutexes s → HasPlaces channels mutexes (with_mutex m new s)
  other_mutex m new s has = record { of_channels = has.of_channels; of_mutexes = length-set s.mutexes m new ∙ has.of_mutexes }

  spawned : (w g function : ℕ) (s : State) (room : Bool) → HasPlaces channels mutexes s → HasPlaces channels mutexes (if room then passes code settings w g 1 (bears code function g s) else faults 2 w g s)
  spawned w g function s true has = record { of_channels = has.of_channels; of_mutexes = has.of_mutexes }
  spawned w g function s false has = record { of_channels = has.of_channels; of_mutexes = has.of_mutexes }

  operated : (w g : ℕ) (instruction : Instruction) (s : State) → HasPlaces channels mutexes s → HasPlaces channels mutexes (operates code settings w g instruction s)
  unfolding operates
  operated w g Local s has = has
  operated w g (Labels l) s has = has
  operated w g (Send c) s has = met w g _ _ (other_channel c _ s has)
  operated w g (Recv c) s has = met w g _ _ (other_channel c _ s has)
  operated w g (Lock m) s has = met w g _ _ (other_mutex m _ s has)
  operated w g (Unlock m) s has = met w g _ _ (other_mutex m _ s has)
  operated w g (Spawn function) s has = spawned w g function s (nat_lt (births s) settings.cells) has

  acts_at : (w g : ℕ) (s : State) (granted : Bool) → HasPlaces channels mutexes s → HasPlaces channels mutexes (if granted then resumes code settings w g s else operates code settings w g (next_instruction code s g) s)
  acts_at w g s true has = record { of_channels = has.of_channels; of_mutexes = has.of_mutexes }
  acts_at w g s false has = operated w g (next_instruction code s g) s has

  acts_has : (w g : ℕ) (s : State) → HasPlaces channels mutexes s → HasPlaces channels mutexes (acts code settings w g s)
  acts_has w g s has = acts_at w g s (goroutine s g).granted has

  step_has : (s : State) (entry : Entry) → HasPlaces channels mutexes s → HasPlaces channels mutexes (after code settings s entry)
  unfolding after
  step_has s (Start w g) has = record { of_channels = has.of_channels; of_mutexes = has.of_mutexes }
  step_has s (Run w g n) has = record { of_channels = has.of_channels; of_mutexes = has.of_mutexes }
  step_has s (Op w g) has = let a : HasPlaces channels mutexes (acts code settings w g s) = acts_has w g s has in record { of_channels = a.of_channels; of_mutexes = a.of_mutexes }
  step_has s (Tick w g) has = record { of_channels = has.of_channels; of_mutexes = has.of_mutexes }
  step_has s (Park w g) has = record { of_channels = has.of_channels; of_mutexes = has.of_mutexes }
  step_has s (Open epoch room) has = record { of_channels = has.of_channels; of_mutexes = has.of_mutexes }
  step_has s (Refuse room n) has = record { of_channels = has.of_channels; of_mutexes = has.of_mutexes }
  step_has s (Record actor g) has = record { of_channels = has.of_channels; of_mutexes = has.of_mutexes }
  step_has s (Close epoch) has = record { of_channels = has.of_channels; of_mutexes = has.of_mutexes }

  all_have : (s : State) (entries : List Entry) → HasPlaces channels mutexes s → HasPlaces channels mutexes (after_all code settings s entries)
  all_have s [] has = has
  all_have s (entry ∷ entries) has = all_have (after code settings s entry) entries (step_has s entry has)

counted : {X : Type 0} (n : ℕ) (x : X) → length (replicate n x) ≡ n
counted zero x = refl
counted (suc n) x = ap suc (counted n x)

-- at the end of any journal
pub last_has_places : (code : Code) (settings : Settings) (journal : List Entry) → HasPlaces code.channels code.mutexes (last code settings journal)
last_has_places code settings journal = all_have code settings code.channels code.mutexes (first code settings) journal (record { of_channels = counted code.channels _; of_mutexes = counted code.mutexes _ })

-- no effect counts its entry
pub effect_entries : (code : Code) (settings : Settings) (s : State) (entry : Entry) → IsWhole s → (effect code settings entry s).entries ≡ s.entries
effect_entries code settings s (Start w g) whole = refl
effect_entries code settings s (Run w g n) whole = refl
effect_entries code settings s (Op w g) whole =
    acts_all code settings w g s (λ t. t.entries ≡ s.entries) whole (record {
      stays = refl;
      resumed = refl;
      passed = λ cs ms. refl;
      woke = λ cs ms h blocked. refl;
      blocked = λ cs ms. refl;
      faulted = λ cause cs ms some. refl;
      bore = λ function room. refl;
    })
effect_entries code settings s (Tick w g) whole = refl
effect_entries code settings s (Park w g) whole = refl
effect_entries code settings s (Open epoch room) whole = refl
effect_entries code settings s (Refuse room n) whole = refl
effect_entries code settings s (Record actor g) whole = refl
effect_entries code settings s (Close epoch) whole = refl

pub counted_after : (code : Code) (settings : Settings) (s t : State) (entry : Entry) → IsWhole s → t ≡ effect code settings entry s → record t { entries = t.entries + 1 } ≡ after code settings s entry
unfolding after
counted_after code settings s t entry whole e = rw e (ap (λ n. record (effect code settings entry s) { entries = n + 1 }) (effect_entries code settings s entry whole))
