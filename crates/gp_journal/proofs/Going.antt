-- What the due entry tells of a worker that goes on.
use Rattle.std.proofs.Common.{◌≡◌, ◌⊎◌, ℕ, ◌-◌, ◌<◌, ◌≤◌, Bool, true, false, not, ◌||◌, ◌==◌, Some, None, refl, sym, ap, ◌∙◌, inl, inr, arith, if◌then◌else◌, length}
use Rattle.std.proofs.lemmas.List.{get_or_past}
use Rattle.std.proofs.lemmas.Bool.{or_parts, cases_lt, eqb-false}
use Rattle.gp_journal.specs.declared.entry.Entry.{Entry}
use Rattle.gp_journal.specs.declared.entry.Entry.TheVariants.{Run, Op, Tick, Park}
use Rattle.gp_journal.specs.declared.settings.Settings.{Settings}
use Rattle.gp_journal.specs.declared.goroutine.Worker.{Worker}
use Rattle.gp_journal.specs.Settings.{quantum}
use Rattle.gp_journal.specs.State.{Code, State, resting, worker}
use Rattle.gp_journal.specs.Due.{asked, over, due, extent, next_instruction}
use Rattle.gp_isa.specs.Trace.{is_local}

-- g goes on: a Run or an Op of it comes only where none is asked for, the run isn't over and the slice isn't spent
pub record GoesOn (settings : Settings) (s : State) (w : ℕ) : Type 0 where
  pub none_asked : asked settings s ≡ false
  pub not_over : over settings s ≡ false
  pub slice_left : (worker s w).slice ≡ quantum → ⊥

-- the due entry by its tests
abbrev chosen : Bool → Bool → Bool → ℕ → ℕ → ℕ → Entry
chosen tick stop shared w g n = if tick then Tick w g else if stop then Park w g else if shared then Op w g else Run w g n

goes_on : (settings : Settings) (s : State) (w : ℕ) → (asked settings s || over settings s || ((worker s w).slice == quantum)) ≡ false → GoesOn settings s w
goes_on settings s w e =
    let a = or_parts (asked settings s || over settings s) ((worker s w).slice == quantum) e in
    let b = or_parts (asked settings s) (over settings s) a.0 in
    record { none_asked = b.0; not_over = b.1; slice_left = eqb-false (worker s w).slice quantum a.1 }

op_chosen : (tick stop shared : Bool) (w g n : ℕ) → chosen tick stop shared w g n ≡ Op w g → stop ≡ false
op_chosen true stop shared w g n e = absurd (cc)
op_chosen false true shared w g n e = absurd (cc)
op_chosen false false shared w g n e = refl

run_chosen : (tick stop shared : Bool) (w g n m : ℕ) → chosen tick stop shared w g n ≡ Run w g m → (stop ≡ false) × (n ≡ m)
run_chosen true stop shared w g n m e = absurd (cc)
run_chosen false true shared w g n m e = absurd (cc)
run_chosen false false true w g n m e = absurd (cc)
run_chosen false false false w g n m e = (refl, cc)

tick_chosen : (tick stop shared : Bool) (w g n : ℕ) → chosen tick stop shared w g n ≡ Tick w g → tick ≡ true
tick_chosen true stop shared w g n e = refl
tick_chosen false true shared w g n e = absurd (cc)
tick_chosen false false true w g n e = absurd (cc)
tick_chosen false false false w g n e = absurd (cc)

park_chosen : (tick stop shared : Bool) (w g n : ℕ) → chosen tick stop shared w g n ≡ Park w g → tick ≡ false
park_chosen true stop shared w g n e = absurd (cc)
park_chosen false stop shared w g n e = refl

module _ (code : Code) (settings : Settings) (s : State) (w g : ℕ) where
  stop : Bool
  stop = asked settings s || over settings s || ((worker s w).slice == quantum)

  pub op_goes : due code settings s w g ≡ Op w g → GoesOn settings s w
  unfolding due stop
  op_goes e = goes_on settings s w (op_chosen (worker s w).tick stop (not (is_local (next_instruction code s g))) w g (extent code settings s w g) e)

  pub run_goes : (n : ℕ) → due code settings s w g ≡ Run w g n → GoesOn settings s w
  unfolding due stop
  run_goes n e = goes_on settings s w ((run_chosen (worker s w).tick stop (not (is_local (next_instruction code s g))) w g (extent code settings s w g) n e).0)

  pub run_extent : (n : ℕ) → due code settings s w g ≡ Run w g n → n ≤ quantum - (worker s w).slice
  unfolding due stop extent
  run_extent n e = let same = (run_chosen (worker s w).tick stop (not (is_local (next_instruction code s g))) w g (extent code settings s w g) n e).1 in omega arith

  pub tick_due : due code settings s w g ≡ Tick w g → (worker s w).tick ≡ true
  unfolding due stop
  tick_due e = tick_chosen (worker s w).tick stop (not (is_local (next_instruction code s g))) w g (extent code settings s w g) e

  pub no_tick_due : due code settings s w g ≡ Park w g → (worker s w).tick ≡ false
  unfolding due stop
  no_tick_due e = park_chosen (worker s w).tick stop (not (is_local (next_instruction code s g))) w g (extent code settings s w g) e

  -- a worker that runs is there
  pub busy_within : (worker s w).runs ≡ Some g → w < length s.workers
  busy_within runs = at (cases_lt w (length s.workers))
    where
      at : (w < length s.workers) ⊎ (length s.workers ≤ w) → w < length s.workers
      at (inl within) = within
      at (inr past) = let clash : None ≡ Some g = sym (ap (λ (v : Worker). v.runs) (get_or_past s.workers w resting past)) ∙ runs in absurd (cc)
