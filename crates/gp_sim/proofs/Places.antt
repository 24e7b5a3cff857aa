-- At which place the action of an actor stands among those of all that can act.
use Rattle.std.proofs.Common.{◌≡◌, ◌<◌, ◌≤◌, ◌+◌, ℕ, zero, suc, Bool, true, false, true≢false, cond, List, [], ◌∷◌, length, get_or, take, drop, count_by, Option, Some, None, is_some, refl, sym, ap, ◌∙◌, arith}
use Rattle.std.proofs.lemmas.List.{get_or-drop, length-take-le}
use Rattle.std.proofs.lemmas.List.Sums.{sum_by-cons, count_by-le-length}
use mir.Val.{bool_byte}
use Rattle.gp_journal.specs.declared.entry.Entry.{Entry}
use Rattle.gp_journal.specs.declared.goroutine.Worker.{Worker}
use Rattle.gp_journal.specs.declared.settings.Settings.{Settings}
use Rattle.gp_journal.specs.Settings.{AreInRange}
use Rattle.gp_journal.specs.State.{Code, State, resting, worker}
use Rattle.gp_journal.specs.Reached.{IsReached}
use Rattle.gp_journal.proofs.Lemmas.{is_kept}
use Rattle.gp_machine.specs.OnWorker.{busy, IsBusyAt}
use Rattle.gp_machine.proofs.Ending.{one_less}
use Rattle.gp_sim.specs.Choice.{worker_action, profiler_action, with_action, actions_from, actions}
use Rattle.gp_sim.specs.kept.Acting.{idle_head, can_act, able, IsAbleAt}
use Rattle.gp_sim.proofs.Acting.{acts}

with_length : (o : Option Entry) (rest : List Entry) → length (with_action o rest) ≡ cond (is_some o) 1 0 + length rest
with_length None rest = omega arith
with_length (Some entry) rest = omega arith

-- the first of some, where there is one
first_is : (o : Option Entry) (rest : List Entry) (d : Entry) → is_some o ≡ true → o ≡ Some (get_or (with_action o rest) 0 d)
first_is None rest d e = absurd (true≢false (sym e))
first_is (Some entry) rest d e = refl

-- and those behind it
behind_it : (o : Option Entry) (rest : List Entry) (n k : ℕ) (d : Entry) → n ≡ cond (is_some o) 1 0 + k → get_or (with_action o rest) n d ≡ get_or rest k d
behind_it None rest n k d e = ap (λ m. get_or rest m d) (omega arith)
behind_it (Some entry) rest n k d e = let more : n ≡ suc k = omega arith in ap (λ m. get_or (entry ∷ rest) m d) more

all_able : (g : ℕ) (vs : List Worker) → count_by (can_act (Some g)) vs ≡ length vs
all_able g [] = refl
all_able g (v ∷ vs) = let rest = all_able g vs in omega (arith, sum_by-cons (λ (x : Worker). cond (can_act (Some g) x) 1 0) v vs)

module _ (code : Code) (settings : Settings) (s : State) where
  -- the worker that comes next, and those behind it
  next_is : (w : ℕ) (v : Worker) (vs : List Worker) → drop w s.workers ≡ v ∷ vs → worker s w ≡ v
  next_is w v vs e =
      let same : w ≡ w + 0 = omega arith in
      ap (λ n. get_or s.workers n resting) same ∙ sym (get_or-drop w s.workers 0 resting) ∙ ap (λ l. get_or l 0 resting) e

  rest_is : (w : ℕ) (v : Worker) (vs : List Worker) → drop w s.workers ≡ v ∷ vs → drop (suc w) s.workers ≡ vs
  rest_is w v vs e = let more : suc w ≡ w + 1 = omega arith in ap (λ n. drop n s.workers) more ∙ one_less w s.workers ∙ ap (drop 1) e

  does : (w : ℕ) (v : Worker) (vs : List Worker) → drop w s.workers ≡ v ∷ vs → is_some (worker_action code settings s w) ≡ can_act (idle_head settings s) v
  does w v vs e = acts code settings s w ∙ ap (can_act (idle_head settings s)) (next_is w v vs e)

  counted : (vs : List Worker) (w : ℕ) → drop w s.workers ≡ vs →
      length (actions_from code settings s w (length vs)) ≡ count_by (can_act (idle_head settings s)) vs + length (with_action (profiler_action settings s) [])
  counted [] w e = omega arith
  counted (v ∷ vs) w e =
      let rest = counted vs (suc w) (rest_is w v vs e) in
      let one : cond {A = ℕ} (is_some (worker_action code settings s w)) 1 0 ≡ cond {A = ℕ} (can_act (idle_head settings s) v) 1 0 = ap (λ b. cond {A = ℕ} b 1 0) (does w v vs e) in
      omega (arith, with_length (worker_action code settings s w) (actions_from code settings s (suc w) (length vs)), sum_by-cons (λ (x : Worker). cond (can_act (idle_head settings s) x) 1 0) v vs)

  found : (vs : List Worker) (w : ℕ) → drop w s.workers ≡ vs → (j : ℕ) → j < length vs → can_act (idle_head settings s) (get_or vs j resting) ≡ true → (d : Entry) →
      worker_action code settings s (w + j) ≡ Some (get_or (actions_from code settings s w (length vs)) (count_by (can_act (idle_head settings s)) (take j vs)) d)
  found [] w e j within can_j d = absurd (omega arith)
  found (v ∷ vs) w e zero within can_j d =
      let same : w + 0 ≡ w = omega arith in
      ap (worker_action code settings s) same ∙ first_is (worker_action code settings s w) (actions_from code settings s (suc w) (length vs)) d (does w v vs e ∙ can_j)
  found (v ∷ vs) w e (suc j) within can_j d =
      let same : w + suc j ≡ suc w + j = omega arith in
      let one : cond {A = ℕ} (is_some (worker_action code settings s w)) 1 0 ≡ cond {A = ℕ} (can_act (idle_head settings s) v) 1 0 = ap (λ b. cond {A = ℕ} b 1 0) (does w v vs e) in
      ap (worker_action code settings s) same
      ∙ found vs (suc w) (rest_is w v vs e) j (omega arith) can_j d
      ∙ ap Some (sym (behind_it (worker_action code settings s w) (actions_from code settings s (suc w) (length vs)) _ (count_by (can_act (idle_head settings s)) (take j vs)) d
      (omega (arith, sum_by-cons (λ (x : Worker). cond (can_act (idle_head settings s) x) 1 0) v (take j vs)))))

  last_is : (vs : List Worker) (w : ℕ) → drop w s.workers ≡ vs → (d entry : Entry) → profiler_action settings s ≡ Some entry →
      entry ≡ get_or (actions_from code settings s w (length vs)) (count_by (can_act (idle_head settings s)) vs) d
  last_is [] w e d entry is = ap (λ o. get_or (with_action o []) 0 d) (sym is)
  last_is (v ∷ vs) w e d entry is =
      let one : cond {A = ℕ} (is_some (worker_action code settings s w)) 1 0 ≡ cond {A = ℕ} (can_act (idle_head settings s) v) 1 0 = ap (λ b. cond {A = ℕ} b 1 0) (does w v vs e) in
      last_is vs (suc w) (rest_is w v vs e) d entry is
      ∙ sym (behind_it (worker_action code settings s w) (actions_from code settings s (suc w) (length vs)) _ (count_by (can_act (idle_head settings s)) vs) d
      (omega (arith, sum_by-cons (λ (x : Worker). cond (can_act (idle_head settings s) x) 1 0) v vs)))

  module _ (reached : IsReached code settings s) (range : AreInRange settings) where
    as_many : length s.workers ≡ settings.workers
    as_many = (is_kept code settings s reached range).numbered.number

    -- the actions of all workers and the profiler's, one behind the other
    all_actions : actions_from code settings s 0 (length s.workers) ≡ actions code settings s
    unfolding actions
    all_actions = ap (actions_from code settings s 0) as_many

    -- how many actors can act
    actions_counted : length (actions code settings s) ≡ able settings s + cond (is_some (profiler_action settings s)) 1 0
    actions_counted =
        let e = counted s.workers 0 refl in
        let p = with_length (profiler_action settings s) [] in
        omega (arith, ap length all_actions)

    pub total_is : (workers : ℕ) (b : Bool) → workers ≡ able settings s → b ≡ is_some (profiler_action settings s) → workers + bool_byte b ≡ length (actions code settings s)
    total_is workers b workers_are b_is =
        let one : bool_byte b ≡ cond (is_some (profiler_action settings s)) 1 0 = byte_is b ∙ ap (λ x. cond x 1 0) b_is in
        omega (arith, actions_counted)
      where
        byte_is : (x : Bool) → bool_byte x ≡ cond x 1 0
        byte_is true = refl
        byte_is false = refl

    -- there are few of them
    pub few_able : able settings s ≤ settings.workers
    few_able = omega (arith, as_many, count_by-le-length (can_act (idle_head settings s)) s.workers)

    -- the action of a worker at its place
    pub worker_there : (place w : ℕ) (entry : Entry) → IsAbleAt settings s place w → worker_action code settings s w ≡ Some entry → entry ≡ get_or (actions code settings s) place entry
    worker_there place w entry at is =
        let same : w ≡ 0 + w = omega arith in
        some_is (sym is ∙ ap (worker_action code settings s) same ∙ found s.workers 0 refl w at.is_able.within at.is_able.can entry)
        ∙ ap (λ n. get_or (actions_from code settings s 0 (length s.workers)) n entry) at.before
        ∙ ap (λ l. get_or l place entry) all_actions
      where
        some_is : {a b : Entry} → Some a ≡ Some b → a ≡ b
        some_is e = cc

    -- and the profiler's behind those of the workers
    pub profiler_there : (place : ℕ) (entry : Entry) → place ≡ able settings s → profiler_action settings s ≡ Some entry → entry ≡ get_or (actions code settings s) place entry
    profiler_there place entry last is =
        last_is s.workers 0 refl entry entry is
        ∙ ap (λ n. get_or (actions_from code settings s 0 (length s.workers)) n entry) (sym last)
        ∙ ap (λ l. get_or l place entry) all_actions

    -- where idle workers go on with somebody all can act
    pub able_all : (g : ℕ) → idle_head settings s ≡ Some g → settings.workers ≡ able settings s
    able_all g head = sym as_many ∙ sym (all_able g s.workers) ∙ ap (λ h. count_by (can_act h) s.workers) (sym head)

    pub at_all : (g place : ℕ) → idle_head settings s ≡ Some g → place < able settings s → IsAbleAt settings s place place
    at_all g place head there =
        let within : place < length s.workers = let all = able_all g head in omega (arith, as_many) in
        record {
          is_able = record { within = within; can = ap (λ h. can_act h (worker s place)) head };
          before = ap (λ h. count_by (can_act h) (take place s.workers)) head ∙ all_able g (take place s.workers) ∙ length-take-le place s.workers (omega arith);
        }

  -- and else those that run a goroutine
  pub able_busy : idle_head settings s ≡ None → busy s ≡ able settings s
  able_busy head = ap (λ h. count_by (can_act h) s.workers) (sym head)

  pub at_busy : (place w : ℕ) → idle_head settings s ≡ None → IsBusyAt s place w → IsAbleAt settings s place w
  at_busy place w head at = record {
    is_able = record { within = at.within; can = ap (λ h. can_act h (worker s w)) head ∙ at.runs };
    before = ap (λ h. count_by (can_act h) (take w s.workers)) head ∙ at.before;
  }
