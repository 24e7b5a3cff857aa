-- Each kind of event keeps what the core keeps.
use Rattle.std.proofs.Common.{◌≡◌, ◌⊎◌, ℕ, ◌+◌, ◌-◌, ◌<◌, ◌≤◌, true, false, not, List, [], ◌∷◌, ◌++◌, get_or, set, Option, Some, None, refl, sym, ap, ◌∙◌, subst, inl, inr, arith, true≢false, length-set}
use Rattle.std.proofs.lemmas.Bool.{cases_eq}
use Rattle.gp_journal.specs.declared.goroutine.Goroutine.{Goroutine}
use Rattle.gp_journal.specs.declared.goroutine.Status.{Status}
use Rattle.gp_journal.specs.declared.goroutine.Status.TheVariants as status
use Rattle.gp_journal.specs.declared.settings.Settings.{Settings}
use Rattle.gp_journal.specs.Settings.{AreInRange}
use Rattle.gp_journal.specs.State.{Code, State, goroutine, is_live, is_running, is_dead, births, live}
use Rattle.gp_journal.specs.Frozen.{row}
use Rattle.gp_journal.proofs.Lemmas.{IsWhole, Behind, active_last}
use Rattle.gp_core.specs.declared.word.Word.{Word}
use Rattle.gp_core.specs.declared.word.Word.TheVariants.{Dead, Home, Claimed, Running}
use Rattle.gp_core.specs.declared.hold.Hold.{Hold}
use Rattle.gp_core.specs.declared.hold.How.{How}
use Rattle.gp_core.specs.declared.hold.How.TheVariants as how
use Rattle.gp_core.specs.declared.event.CoreEvent.{CoreEvent}
use Rattle.gp_core.specs.declared.event.CoreEvent.TheVariants as event
use Rattle.gp_core.specs.CoreState.{CoreState, word, count, hand, Holds, HoldsBy, with_copy, with_word, with_count, with_hand}
use Rattle.gp_core.specs.Enabled.{IsPair, IsWorkersPair, IsHome, MayClaim, MayCopy, MaySatisfy, MayTake, MayGive, MayBear, MayBury}
use Rattle.gp_core.specs.Stepped.{held, home_epoch, copy_of}
use Rattle.gp_core.specs.Invariant.{Names, IsRunning}
use Rattle.gp_core.proofs.Lists.{ChangesAt, set_changes}
use Rattle.gp_core.proofs.Cells.{FitsWord, FitsCopy, pair_agrees, bear_agrees, holds_by, names_held, one_named, dead_names_none, same_row}
use Rattle.gp_core.proofs.Pasts.{PastsFit, plain_past, pasts_word, bear_past, bury_past, not_borne}
use Rattle.gp_core.proofs.Keeps.{Kept, its_whole, has_cell, has_body, has_hand, more_events, with_copy_kept}

some_inner : {X : Type 0} {x y : X} → Some x ≡ Some y → x ≡ y
some_inner e = cc

-- what is so of what is taken in hand
of_held : (P : Hold → Type 0) (it hold : Hold) → P it → Some it ≡ Some hold → P hold
of_held P it hold p e = subst P (some_inner e) p

home_names_none : (way : How) (b epoch : ℕ) (word : Word) → word ≡ Home epoch → Names way b word → ⊥
home_names_none how.Claim b epoch word e names = subst (Names how.Claim b) e names
home_names_none how.Take b epoch word e names = subst (Names how.Take b) e names

claim_names : (way : How) (b epoch a g : ℕ) → Names way b (Claimed epoch a) → (b ≡ a) × HoldsBy way g (held g how.Claim)
claim_names how.Claim b epoch a g names = (sym names, (refl, refl))
claim_names how.Take b epoch a g names = absurd names

take_names : (way : How) (b epoch a g : ℕ) → Names way b (Running epoch a) → (b ≡ a) × HoldsBy way g (held g how.Take)
take_names how.Take b epoch a g names = (sym names, (refl, refl))
take_names how.Claim b epoch a g names = absurd names

pub takes_run : (b : ℕ) (word : Word) → Names how.Take b word → IsRunning word
takes_run b (Running epoch actor) names = tt
takes_run b (Claimed epoch actor) names = names
takes_run b (Home epoch) names = names
takes_run b Dead names = names

one_held : (k g : ℕ) (it : Option Hold) → Holds k it → Holds g it → k ≡ g
one_held k g None x y = absurd x
one_held k g (Some hold) x y = sym x ∙ y

none_held : (k : ℕ) (it : Option Hold) → it ≡ None → Holds k it → ⊥
none_held k it e holds = subst (Holds k) e holds

home_is : (word : Word) → IsHome word → word ≡ Home (home_epoch word)
home_is (Home epoch) home = refl
home_is Dead home = absurd home
home_is (Claimed epoch actor) home = absurd home
home_is (Running epoch actor) home = absurd home

dead_stands : (x : Goroutine) → is_live x ≡ false → is_running x.status ≡ false
dead_stands x gone = by x.status gone
  where
    by : (st : Status) → not (is_dead st) ≡ false → is_running st ≡ false
    by status.Dead e = refl
    by status.Runnable e = refl
    by status.Blocked e = refl
    by status.Faulted e = refl
    by (status.Running w) e = absurd (true≢false e)

still_on : (x : Goroutine) (v : ℕ) → is_running x.status ≡ false → x.status ≡ status.Running v → ⊥
still_on x v still e = true≢false (sym (ap is_running e) ∙ still)

near_last : (s : State) → IsWhole s → (g : ℕ) → is_live (goroutine s g) ≡ true → (goroutine s g).epoch + 1 ≡ s.last_epoch → s.active ≡ s.last_epoch
near_last s whole g live before = at (whole.epochs g live)
  where
    at : ((goroutine s g).epoch ≡ s.last_epoch) ⊎ Behind s.active s.last_epoch (goroutine s g) → s.active ≡ s.last_epoch
    at (inl same) = absurd (omega arith)
    at (inr behind) = active_last s whole behind.0

-- An event that changes the word of g and the hand of a together.
module _ (code : Code) (settings : Settings) (range : AreInRange settings) (events : List CoreEvent) (core : CoreState) (s : State) (kept : Kept code settings events core s) where
  pair_kept : (more : List CoreEvent) (a g : ℕ) (v : Word) (h : Option Hold) → a ≤ settings.workers → g < births s →
      ((way : How) (b : ℕ) → Names way b (word core g) → b ≡ a) → ((k : ℕ) → Holds k (hand core a) → k ≡ g) →
      FitsWord s.active (goroutine s g) v → ((way : How) (b : ℕ) → Names way b v → (b ≡ a) × HoldsBy way g h) →
      ((hold : Hold) → h ≡ Some hold → (hold.g ≡ g) × Names hold.how a v × FitsCopy code (goroutine s g) g hold.copy) →
      PastsFit more s (word (with_word g v (with_hand a h core))) →
      Kept code settings more (with_word g v (with_hand a h core)) s
  pair_kept more a g v h actor born own_word own_hand fits names holds pasts = record {
    is_now = kept.is_now;
    legal = kept.legal;
    cells = length-set core.words g v ∙ kept.cells;
    bodies = kept.bodies;
    actors = length-set core.hands a h ∙ kept.actors;
    agree = pair_agrees code s (word core) (hand core) kept.agree (λ k. get_or (set core.words g v) k Dead) (λ b. get_or (set core.hands a h) b None) a g v h
        (set_changes Dead core.words g v (has_cell code settings events core s kept range g born))
        (set_changes None core.hands a h (has_hand code settings events core s kept a actor)) own_word own_hand fits names holds;
    pasts = pasts;
    counts = kept.counts;
    copies = kept.copies;
    opened = kept.opened;
  }

  changes : (g : ℕ) (v : Word) → g < births s → ChangesAt (word core) (λ k. get_or (set core.words g v) k Dead) g v
  changes g v born = set_changes Dead core.words g v (has_cell code settings events core s kept range g born)

  pub claims : (a g : ℕ) → IsPair settings s a g (MayClaim s core a g) →
      Kept code settings (events ++ event.Claim a g ∷ []) (with_word g (Claimed s.last_epoch a) (with_hand a (held g how.Claim) core)) s
  claims a g may =
      let m = may.holds_too in
      let whole = its_whole code settings events core s kept in
      let old : FitsWord s.active (goroutine s g) (Home (s.last_epoch - 1)) = subst (FitsWord s.active (goroutine s g)) m.is_absent (kept.agree.words_fit g) in
      let some = m.some_epoch in
      let same = old.2 in
      let before : (goroutine s g).epoch + 1 ≡ s.last_epoch = omega arith in
      pair_kept (events ++ event.Claim a g ∷ []) a g (Claimed s.last_epoch a) (held g how.Claim) may.is_actor may.is_born
      (λ way b names. absurd (home_names_none way b (s.last_epoch - 1) (word core g) m.is_absent names))
      (λ k holds. absurd (none_held k (hand core a) m.is_free holds))
      (old.0, old.1, inr (before, near_last s whole g old.0 before))
      (λ way b names. claim_names way b s.last_epoch a g names)
      (λ hold e. of_held (λ (it : Hold). (it.g ≡ g) × Names it.how a (Claimed s.last_epoch a) × FitsCopy code (goroutine s g) g it.copy) (record { g = g; how = how.Claim; copy = None }) hold (refl, refl, tt) e)
      (plain_past events (event.Claim a g) s _ (λ k. (refl, refl))
      (pasts_word events s (word core) _ g (Claimed s.last_epoch a) kept.pasts (changes g (Claimed s.last_epoch a) may.is_born)
      (λ e. let clash : Home (s.last_epoch - 1) ≡ Dead = sym m.is_absent ∙ e in absurd (cc)) (λ e. absurd (cc)) (λ gone. absurd (true≢false (sym old.0 ∙ gone)))))

  pub satisfies : (a g : ℕ) → IsPair settings s a g (MaySatisfy s core a g) →
      Kept code settings (events ++ event.Satisfy a g ∷ []) (with_word g (Home (goroutine s g).epoch) (with_hand a None core)) s
  satisfies a g may =
      let e = may.holds_too.is_claimed in
      let old : FitsWord s.active (goroutine s g) (Claimed (goroutine s g).epoch a) = subst (FitsWord s.active (goroutine s g)) e (kept.agree.words_fit g) in
      let mine : Names how.Claim a (word core g) = subst (Names how.Claim a) (sym e) refl in
      let its_hold = kept.agree.named how.Claim a g mine in
      pair_kept (events ++ event.Satisfy a g ∷ []) a g (Home (goroutine s g).epoch) None may.is_actor may.is_born
      (λ way b names. one_named way how.Claim b a (word core g) names mine)
      (λ k holds. one_held k g (hand core a) holds (holds_by how.Claim g (hand core a) its_hold))
      (old.0, old.1, refl)
      (λ way b names. absurd (home_names_none way b (goroutine s g).epoch (Home (goroutine s g).epoch) refl names))
      (λ hold none. absurd (cc))
      (plain_past events (event.Satisfy a g) s _ (λ k. (refl, refl))
      (pasts_word events s (word core) _ g (Home (goroutine s g).epoch) kept.pasts (changes g (Home (goroutine s g).epoch) may.is_born)
      (λ dead. let clash : Claimed (goroutine s g).epoch a ≡ Dead = sym e ∙ dead in absurd (cc)) (λ dead. absurd (cc)) (λ gone. absurd (true≢false (sym old.0 ∙ gone)))))

  pub takes : (w g : ℕ) → IsWorkersPair settings s w g (MayTake core w g) →
      Kept code settings (events ++ event.Take w g ∷ []) (with_word g (Running (home_epoch (word core g)) w) (with_hand w (held g how.Take) core)) s
  takes w g may =
      let m = may.holds_too in
      let e = home_is (word core g) m.is_home in
      let old : FitsWord s.active (goroutine s g) (Home (home_epoch (word core g))) = subst (FitsWord s.active (goroutine s g)) e (kept.agree.words_fit g) in
      let new = Running (home_epoch (word core g)) w in
      pair_kept (events ++ event.Take w g ∷ []) w g (Running (home_epoch (word core g)) w) (held g how.Take) (let i = may.is_worker in omega arith) may.is_born
      (λ way b names. absurd (home_names_none way b (home_epoch (word core g)) (word core g) e names))
      (λ k holds. absurd (none_held k (hand core w) m.is_free holds))
      (λ v runs. absurd (still_on (goroutine s g) v old.1 runs))
      (λ way b names. take_names way b (home_epoch (word core g)) w g names)
      (λ hold is. of_held (λ (it : Hold). (it.g ≡ g) × Names it.how w new × FitsCopy code (goroutine s g) g it.copy) (record { g = g; how = how.Take; copy = None }) hold (refl, refl, tt) is)
      (plain_past events (event.Take w g) s _ (λ k. (refl, refl))
      (pasts_word events s (word core) _ g new kept.pasts (changes g new may.is_born)
      (λ dead. let clash : Home (home_epoch (word core g)) ≡ Dead = sym e ∙ dead in absurd (cc)) (λ dead. absurd (cc)) (λ gone. tt)))

  -- what a worker has taken
  taken_word : (w g : ℕ) → HoldsBy how.Take g (hand core w) → Names how.Take w (word core g)
  taken_word w g has = names_held code s (word core) w g how.Take (hand core w) (kept.agree.hands_fit w) has

  pub gives : (w g : ℕ) → IsWorkersPair settings s w g (MayGive s core w g) →
      Kept code settings (events ++ event.Give w g ∷ []) (with_word g (Home (goroutine s g).epoch) (with_hand w None core)) s
  gives w g may =
      let m = may.holds_too in
      let mine = taken_word w g m.has_taken in
      pair_kept (events ++ event.Give w g ∷ []) w g (Home (goroutine s g).epoch) None (let i = may.is_worker in omega arith) may.is_born
      (λ way b names. one_named way how.Take b w (word core g) names mine)
      (λ k holds. one_held k g (hand core w) holds (holds_by how.Take g (hand core w) m.has_taken))
      (m.lives, m.stands, refl)
      (λ way b names. absurd (home_names_none way b (goroutine s g).epoch (Home (goroutine s g).epoch) refl names))
      (λ hold none. absurd (cc))
      (plain_past events (event.Give w g) s _ (λ k. (refl, refl))
      (pasts_word events s (word core) _ g (Home (goroutine s g).epoch) kept.pasts (changes g (Home (goroutine s g).epoch) may.is_born)
      (λ dead. dead_names_none how.Take w (word core g) dead mine) (λ dead. absurd (cc)) (λ gone. absurd (true≢false (sym m.lives ∙ gone)))))

  pub buries : (w g : ℕ) → IsWorkersPair settings s w g (MayBury s core w g) →
      Kept code settings (events ++ event.Bury w g ∷ []) (with_word g Dead (with_hand w None core)) s
  buries w g may =
      let m = may.holds_too in
      let mine = taken_word w g m.has_taken in
      pair_kept (events ++ event.Bury w g ∷ []) w g Dead None (let i = may.is_worker in omega arith) may.is_born
      (λ way b names. one_named way how.Take b w (word core g) names mine)
      (λ k holds. one_held k g (hand core w) holds (holds_by how.Take g (hand core w) m.has_taken))
      (dead_stands (goroutine s g) m.has_died)
      (λ way b names. absurd (dead_names_none way b Dead refl names))
      (λ hold none. absurd (cc))
      (bury_past events w g s (word core) (λ k. get_or (set core.words g Dead) k Dead) kept.pasts (changes g Dead may.is_born) m.has_died (λ dead. dead_names_none how.Take w (word core g) dead mine))

  pub bears : (w g : ℕ) → IsWorkersPair settings s w g (MayBear s core g) →
      Kept code settings (events ++ event.Bear w g ∷ []) (with_word g (Home (goroutine s g).epoch) (with_count g 0 core)) s
  bears w g may =
      let m = may.holds_too in
      let none = not_borne _ _ (births s) g (goroutine s g) (word core g) (kept.pasts g) m.lives m.is_empty in
      let zero_passed = ((kept.pasts g).before_bear none).3 in
      let new = Home (goroutine s g).epoch in
      let body = set_changes 0 core.counts g 0 (has_body code settings events core s kept range g may.is_born) in
      record {
        is_now = kept.is_now;
        legal = kept.legal;
        cells = length-set core.words g (Home (goroutine s g).epoch) ∙ kept.cells;
        bodies = length-set core.counts g 0 ∙ kept.bodies;
        actors = kept.actors;
        agree = bear_agrees code s (word core) (hand core) kept.agree (λ k. get_or (set core.words g (Home (goroutine s g).epoch)) k Dead) g (Home (goroutine s g).epoch)
            (changes g (Home (goroutine s g).epoch) may.is_born) m.is_empty (m.lives, stands (kept.agree.words_fit g), refl)
            (λ way b names. home_names_none way b (goroutine s g).epoch (Home (goroutine s g).epoch) refl names);
        pasts = bear_past events w g s (word core) (λ k. get_or (set core.words g (Home (goroutine s g).epoch)) k Dead) (Home (goroutine s g).epoch) kept.pasts (changes g (Home (goroutine s g).epoch) may.is_born)
            may.is_born m.lives m.is_empty (λ dead. absurd (cc));
        counts = λ k. at k (cases_eq k g) body zero_passed;
        copies = kept.copies;
        opened = kept.opened;
      }
    where
      stands : FitsWord s.active (goroutine s g) (word core g) → is_running (goroutine s g).status ≡ false
      stands fits = subst (FitsWord s.active (goroutine s g)) may.holds_too.is_empty fits

      at : (k : ℕ) → (k ≡ g) ⊎ (k ≡ g → ⊥) → ChangesAt (λ n. get_or core.counts n 0) (λ n. get_or (set core.counts g 0) n 0) g 0 → (goroutine s g).count ≡ 0 → get_or (set core.counts g 0) k 0 ≡ (goroutine s k).count
      at k (inl same) body zero_passed = subst (λ n. get_or (set core.counts g 0) n 0 ≡ (goroutine s n).count) (sym same) (body.here ∙ sym zero_passed)
      at k (inr other) body zero_passed = body.others k other ∙ kept.counts k

  -- a copy by the body's count is the row
  pub copy_is : (g : ℕ) → copy_of code s core g ≡ row code g (goroutine s g)
  copy_is g = same_row code g (goroutine s g) (record (goroutine s g) { count = count core g }) refl refl (kept.counts g)

  pub copies : (a g : ℕ) → IsPair settings s a g (MayCopy s core a g) →
      Kept code settings (events ++ event.Copy a g ∷ []) (with_hand a (with_copy (Some (copy_of code s core g)) (hand core a)) core) s
  copies a g may =
      let m = may.holds_too in
      more_events code settings events _ s
      (with_copy_kept code settings events core s kept a (Some (copy_of code s core g)) may.is_actor
      (λ hold e. let same : hold.g ≡ g = subst (Holds g) e m.holds_it in
      subst (λ n. FitsCopy code (goroutine s n) n (Some (copy_of code s core g))) (sym same) (copy_is g, m.stands)))
      (event.Copy a g) (λ k. (refl, refl))
