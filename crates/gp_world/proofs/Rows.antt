-- The actors' rows once one of them is set.
use Rattle.std.proofs.Common.{◌≡◌, ◌⊎◌, inl, inr, ◌+◌, ◌<◌, ◌≤◌, ◌==◌, ◌&&◌, ℕ, Bool, true, false, not, cond, List, [], ◌∷◌, ◌++◌, length, get_or, set, Option, Some, None, if◌then◌else◌, refl, sym, ap, ◌∙◌, subst, arith, get_or-set_same, get_or-set_other, length-set}
use Rattle.std.proofs.lemmas.Bool.{cases_eq, eqb-true, eq-eqb, ne_eqb}
use Rattle.std.proofs.lemmas.List.Sums.{sum_by-append, sum_by_push}
use Rattle.gp_isa.specs.declared.parts.Parts.{Parts}
use Rattle.gp_journal.specs.declared.entry.Entry.{Entry}
use Rattle.gp_journal.specs.declared.settings.Settings.{Settings}
use Rattle.gp_journal.specs.Actors.{actor_of, made_by}
use Rattle.gp_journal.specs.Due.{IsComplete}
use Rattle.gp_journal.specs.Effect.{after}
use Rattle.gp_journal.specs.Run.{IsLegal, state_of}
use Rattle.gp_journal.specs.Standing.{times, without}
use Rattle.gp_journal.specs.State.{State, code_of, worker, first}
use Rattle.gp_journal.specs.StepLaws.{SameEpochs}
use Rattle.gp_journal.proofs.Lemmas.{IsWhole, first_whole, all_whole, after_all-append, step_others, place, times-cons}
use Rattle.gp_tally.specs.declared.row.Row.{Row}
use Rattle.gp_world.specs.Rows.{blank, row_of, row_with, profiler_row, has_picked, runs_one, has_finished, between_profiles, within_profile, on_of}
use Rattle.gp_world.specs.kept.World.{picks, picks_by, TellsProfiles, AreRows}
use Rattle.gp_world.proofs.Picks.{picks_set, picks_past}

-- ---- what an actor leaves of all others

abbrev count : Bool → ℕ
count b = cond b 1 0

pub record LeavesOthers (program : Parts) (settings : Settings) (before later : List Entry) (actor : ℕ) : Type 0 where
  pub made : (k : ℕ) → (k ≡ actor → ⊥) → made_by settings k later ≡ made_by settings k before
  pub worker : (k : ℕ) → (k ≡ actor → ⊥) → worker (state_of program settings later) k ≡ worker (state_of program settings before) k

-- Where no entry is made they stay.
pub leaves_all : (program : Parts) (settings : Settings) (journal : List Entry) (actor : ℕ) → LeavesOthers program settings journal journal actor
leaves_all program settings journal actor = record { made = λ k other. refl; worker = λ k other. refl }

module _ (program : Parts) (settings : Settings) (journal : List Entry) (legal : IsLegal (code_of program) settings journal) where
  pub whole_now : IsWhole (state_of program settings journal)
  whole_now = all_whole (code_of program) settings (first (code_of program) settings) journal (first_whole (code_of program) settings) legal

  -- the state after one entry more
  pub then_is : (made : Entry) → state_of program settings (journal ++ made ∷ []) ≡ after (code_of program) settings (state_of program settings journal) made
  then_is made = after_all-append (code_of program) settings (first (code_of program) settings) journal (made ∷ [])

  pub leaves_others : (made : Entry) → LeavesOthers program settings journal (journal ++ made ∷ []) (actor_of settings.workers made)
  leaves_others made = record {
    made = λ k other.
        let isnt : (actor_of settings.workers made == k) ≡ false = ne_eqb (actor_of settings.workers made) k (λ same. other (sym same)) in
        let more = sum_by_push (λ (entry : Entry). cond (actor_of settings.workers entry == k) 1 0) journal made in
        let none = ap (λ (b : Bool). count b) isnt in
        omega (arith, more, none);
    worker = λ k other. ap (λ (t : State). worker t k) (then_is made) ∙ step_others (code_of program) settings (state_of program settings journal) made whole_now k other;
  }

-- ---- how often somebody stands somewhere

pub times_append : (g : ℕ) (xs ys : List ℕ) → times g (xs ++ ys) ≡ times g xs + times g ys
times_append g xs ys = sum_by-append (λ (other : ℕ). cond (other == g) 1 0) xs ys

-- one who is taken away doesn't stand there any more, and all others do as often
pub times_gone : (g : ℕ) (items : List ℕ) → times g (without g items) ≡ 0
times_gone g [] = refl
times_gone g (x ∷ rest) = by (x == g) refl (times_gone g rest)
  where
    by : (b : Bool) → (x == g) ≡ b → times g (without g rest) ≡ 0 → times g (cond (not b) (x ∷ without g rest) (without g rest)) ≡ 0
    by true e gone = gone
    by false e gone = let none : place x g ≡ 0 = ap (λ (b : Bool). cond b 1 0) e in omega (arith, times-cons g x (without g rest), none, gone)

pub times_left : (h g : ℕ) (items : List ℕ) → (g ≡ h → ⊥) → times h (without g items) ≡ times h items
times_left h g [] other = refl
times_left h g (x ∷ rest) other = by (x == g) refl (times_left h g rest other)
  where
    by : (b : Bool) → (x == g) ≡ b → times h (without g rest) ≡ times h rest → times h (cond (not b) (x ∷ without g rest) (without g rest)) ≡ times h (x ∷ rest)
    by true e left =
        let none : place x h ≡ 0 = ap (λ (b : Bool). cond b 1 0) (ne_eqb x h (λ same. other (sym (eqb-true x g e) ∙ same))) in
        omega (arith, times-cons h x rest, none, left)
    by false e left = omega (arith, times-cons h x (without g rest), times-cons h x rest, left)

-- ---- the rows

-- One row is set.
pub rows_set : (program : Parts) (settings : Settings) (before later : List Entry) (waiting waits : List ℕ) (rows : List Row) (actor : ℕ) (row : Row) →
    AreRows program settings before waiting rows → LeavesOthers program settings before later actor → actor ≤ settings.workers → row ≡ row_of program settings later actor row.a row.b →
    (actor < settings.workers → (worker (state_of program settings later) actor).runs ≡ on_of row) →
    ((g : ℕ) → times g waits + picks (set rows actor row) settings.workers g ≡ times g (state_of program settings later).queue) →
    TellsProfiles settings (state_of program settings later) (get_or (set rows actor row) settings.workers blank) → AreRows program settings later waits (set rows actor row)
rows_set program settings before later waiting waits rows actor row it leaves is_actor its works queue profiles = record {
  actors = length-set rows actor row ∙ it.actors;
  counted = λ k few. counted k few (cases_eq k actor);
  works = λ w few. works_at w few (cases_eq w actor);
  waits = queue;
  profiles = profiles;
}
  where
    within : actor < length rows
    within = let all = it.actors in omega arith

    mine : (k : ℕ) → k ≡ actor → get_or (set rows actor row) k blank ≡ row
    mine k same = ap (λ n. get_or (set rows actor row) n blank) same ∙ get_or-set_same rows actor row blank within

    counted : (k : ℕ) → k ≤ settings.workers → (k ≡ actor) ⊎ (k ≡ actor → ⊥) →
        get_or (set rows actor row) k blank ≡ row_of program settings later k (get_or (set rows actor row) k blank).a (get_or (set rows actor row) k blank).b
    counted k few (inl same) = subst (λ (r : Row). r ≡ row_of program settings later k r.a r.b) (sym (mine k same)) (its ∙ ap (λ n. row_of program settings later n row.a row.b) (sym same))
    counted k few (inr other) =
        let old = get_or rows k blank in
        subst (λ (r : Row). r ≡ row_of program settings later k r.a r.b) (sym (get_or-set_other rows actor k row blank other))
        (it.counted k few ∙ (λ i. record { a = old.a; b = old.b; c = sym (leaves.made k other) i; d = (sym (leaves.worker k other) i).instructions }))

    works_at : (w : ℕ) → w < settings.workers → (w ≡ actor) ⊎ (w ≡ actor → ⊥) → (worker (state_of program settings later) w).runs ≡ on_of (get_or (set rows actor row) w blank)
    works_at w few (inl same) =
        ap (λ n. (worker (state_of program settings later) n).runs) same ∙ works (subst (λ n. n < settings.workers) same few) ∙ ap on_of (sym (mine w same))
    works_at w few (inr other) =
        ap (λ v. v.runs) (leaves.worker w other) ∙ it.works w few ∙ ap on_of (sym (get_or-set_other rows actor w row blank other))

-- Who waits and who is picked are together the queue, once a worker's row is set,
pub waits_worker : (program : Parts) (settings : Settings) (before later : List Entry) (waiting waits : List ℕ) (rows : List Row) (w : ℕ) (row : Row) → AreRows program settings before waiting rows → w < settings.workers → (g : ℕ) →
    times g waits + picks_by row g + times g (state_of program settings before).queue ≡ times g waiting + picks_by (get_or rows w blank) g + times g (state_of program settings later).queue →
    times g waits + picks (set rows w row) settings.workers g ≡ times g (state_of program settings later).queue
waits_worker program settings before later waiting waits rows w row it few g e =
    let within : w < length rows = let all = it.actors in omega arith in
    omega (arith, picks_set rows w settings.workers g row few within, it.waits g, e)

-- and once the profiler's is.
pub waits_profiler : (program : Parts) (settings : Settings) (before later : List Entry) (waiting : List ℕ) (rows : List Row) (row : Row) → AreRows program settings before waiting rows →
    (state_of program settings later).queue ≡ (state_of program settings before).queue → (g : ℕ) →
    times g waiting + picks (set rows settings.workers row) settings.workers g ≡ times g (state_of program settings later).queue
waits_profiler program settings before later waiting rows row it same g =
    omega (arith, picks_past rows settings.workers settings.workers g row (omega arith), it.waits g, ap (times g) same)

-- What the profiler's row says goes on while the epochs stay, before the run is complete;
pub tells_on : (settings : Settings) (s t : State) (row : Row) → TellsProfiles settings s row → SameEpochs s t → (IsComplete settings s → ⊥) → TellsProfiles settings t row
tells_on settings s t row tells same going = record { epoch = tells.epoch ∙ sym same.last_epoch; is_one = by tells.is_one }
  where
    by : ((row.a ≡ between_profiles) × (s.active ≡ 0)) ⊎ (((row.a ≡ within_profile) × (0 < s.active)) ⊎ ((has_finished ≤ row.a) × IsComplete settings s)) →
        ((row.a ≡ between_profiles) × (t.active ≡ 0)) ⊎ (((row.a ≡ within_profile) × (0 < t.active)) ⊎ ((has_finished ≤ row.a) × IsComplete settings t))
    by (inl none) = inl (none.0, same.active ∙ none.1)
    by (inr (inl one)) = inr (inl (one.0, subst (λ n. 0 < n) (sym same.active) one.1))
    by (inr (inr done)) = absurd (going done.1)

-- and then it hasn't finished.
pub not_finished : (settings : Settings) (s : State) (row : Row) → TellsProfiles settings s row → (IsComplete settings s → ⊥) → row.a < has_finished
not_finished settings s row tells going = by tells.is_one
  where
    by : ((row.a ≡ between_profiles) × (s.active ≡ 0)) ⊎ (((row.a ≡ within_profile) × (0 < s.active)) ⊎ ((has_finished ≤ row.a) × IsComplete settings s)) → row.a < has_finished
    by (inl none) = let is = none.0 in omega arith
    by (inr (inl one)) = let is = one.0 in omega arith
    by (inr (inr done)) = absurd (going done.1)

-- The row of the profiler that hasn't finished tells of profiles.
pub tells_now : (program : Parts) (settings : Settings) (journal : List Entry) → TellsProfiles settings (state_of program settings journal) (profiler_row program settings journal)
tells_now program settings journal = let now = state_of program settings journal in record { epoch = refl; is_one = by now (cases_eq now.active 0) }
  where
    by : (now : State) → (now.active ≡ 0) ⊎ (now.active ≡ 0 → ⊥) → let a = if now.active == 0 then between_profiles else within_profile in
        ((a ≡ between_profiles) × (now.active ≡ 0)) ⊎ (((a ≡ within_profile) × (0 < now.active)) ⊎ ((has_finished ≤ a) × IsComplete settings now))
    by now (inl none) = inl (ap (λ (b : Bool). if b then between_profiles else within_profile) (eq-eqb now.active 0 none), none)
    by now (inr some) = inr (inl (ap (λ (b : Bool). if b then between_profiles else within_profile) (ne_eqb now.active 0 some), omega arith))

-- ---- a worker's row by what the state says

-- it picks nobody,
pub picks_none : (program : Parts) (settings : Settings) (journal : List Entry) (w g : ℕ) (runs : Option ℕ) → picks_by (row_with program settings journal w runs) g ≡ 0
picks_none program settings journal w g None = refl
picks_none program settings journal w g (Some h) = refl

-- says whom it runs,
pub on_worker : (program : Parts) (settings : Settings) (journal : List Entry) (w : ℕ) (runs : Option ℕ) → runs ≡ on_of (row_with program settings journal w runs)
on_worker program settings journal w None = refl
on_worker program settings journal w (Some h) = refl

-- and is the worker's.
pub with_is : (program : Parts) (settings : Settings) (journal : List Entry) (w : ℕ) (runs : Option ℕ) →
    row_with program settings journal w runs ≡ row_of program settings journal w (row_with program settings journal w runs).a (row_with program settings journal w runs).b
with_is program settings journal w None = refl
with_is program settings journal w (Some h) = refl

-- One who runs somebody has picked nobody.
pub busy_picks_none : (row : Row) (g : ℕ) → row.a ≡ runs_one → picks_by row g ≡ 0
busy_picks_none row g runs = ap (λ n. if (n == has_picked) && (row.b == g) then 1 else 0) runs

pub runs_by : (row : Row) (g : ℕ) → on_of row ≡ Some g → row.a ≡ runs_one
runs_by row g e = by (row.a == runs_one) refl e
  where
    by : (b : Bool) → (row.a == runs_one) ≡ b → (if b then Some row.b else None) ≡ Some g → row.a ≡ runs_one
    by true is e = eqb-true row.a runs_one is
    by false isnt e = absurd (cc)

-- One who has picked g has picked nobody else.
pub picks_one : (row : Row) (g : ℕ) → row.a ≡ has_picked → row.b ≡ g → picks_by row g ≡ 1
picks_one row g picked is =
    ap (λ n. if (n == has_picked) && (row.b == g) then 1 else 0) picked ∙ ap (λ (b : Bool). if b then 1 else 0) (eq-eqb row.b g is)

pub picks_no_other : (row : Row) (g h : ℕ) → row.a ≡ has_picked → row.b ≡ g → (g ≡ h → ⊥) → picks_by row h ≡ 0
picks_no_other row g h picked is other =
    ap (λ n. if (n == has_picked) && (row.b == h) then 1 else 0) picked ∙ ap (λ (b : Bool). if b then 1 else 0) (ne_eqb row.b h (λ same. other (sym is ∙ same)))
