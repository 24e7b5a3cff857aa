-- What the words tell of what has happened to bodies: not yet borne, borne, or buried.
use Rattle.std.proofs.Common.{◌≡◌, ◌⊎◌, ℕ, ◌<◌, ◌≤◌, Bool, true, false, List, [], ◌∷◌, ◌++◌, refl, sym, ◌∙◌, subst, inl, inr, arith, true≢false}
use Rattle.std.proofs.lemmas.Bool.{cases_eq, eq-eqb, ne_eqb}
use Rattle.gp_journal.specs.declared.goroutine.Goroutine.{Goroutine}
use Rattle.gp_journal.specs.State.{State, goroutine, is_live, births}
use Rattle.gp_journal.proofs.Lemmas.{live_status}
use Rattle.gp_core.specs.declared.word.Word.{Word}
use Rattle.gp_core.specs.declared.word.Word.TheVariants.{Dead}
use Rattle.gp_core.specs.declared.event.CoreEvent.{CoreEvent}
use Rattle.gp_core.specs.declared.event.CoreEvent.TheVariants.{Bear, Bury}
use Rattle.gp_core.specs.Events.{is_bear_of, is_bury_of, is_borne, is_buried}
use Rattle.gp_core.specs.Invariant.{IsRunning}
use Rattle.gp_core.proofs.Lists.{ChangesAt, any_more, any_now}
use Rattle.gp_core.proofs.Turns.{Stays, IsNewborn, TurnsAll}

-- Of one goroutine, by number and the number of births: its word tells whether its body was borne and buried.
pub record FitsPast (borne buried : Bool) (born g : ℕ) (x : Goroutine) (word : Word) : Type 0 where
  pub before_bear : borne ≡ false → (word ≡ Dead) × (buried ≡ false) × (g < born → is_live x ≡ true) × (x.count ≡ 0)
  pub between : borne ≡ true → buried ≡ false → word ≡ Dead → ⊥
  pub after_bury : buried ≡ true → (word ≡ Dead) × (is_live x ≡ false) × (borne ≡ true)
  pub dying : borne ≡ true → buried ≡ false → is_live x ≡ false → IsRunning word
  pub is_born : borne ≡ true → g < born

-- Of all.
abbrev pub PastsFit : List CoreEvent → State → (ℕ → Word) → Type 0
PastsFit events s words = (g : ℕ) → FitsPast (is_borne events g) (is_buried events g) (births s) g (goroutine s g) (words g)

-- An event that bears and buries nobody.
abbrev pub IsPlain : CoreEvent → Type 0
IsPlain event = (g : ℕ) → (is_bear_of g event ≡ false) × (is_bury_of g event ≡ false)

pub plain_past : (events : List CoreEvent) (event : CoreEvent) (s : State) (words : ℕ → Word) → IsPlain event → PastsFit events s words → PastsFit (events ++ event ∷ []) s words
plain_past events event s words plain fits g =
    subst (λ b. FitsPast b (is_buried (events ++ event ∷ []) g) (births s) g (goroutine s g) (words g)) (sym (any_more (is_bear_of g) events event ((plain g).0)))
    (subst (λ b. FitsPast (is_borne events g) b (births s) g (goroutine s g) (words g)) (sym (any_more (is_bury_of g) events event ((plain g).1))) (fits g))

-- another word of a body that was borne and not buried
pub past_word : (borne buried : Bool) (born g : ℕ) (x : Goroutine) (old new : Word) → FitsPast borne buried born g x old → (old ≡ Dead → ⊥) → (new ≡ Dead → ⊥) → (is_live x ≡ false → IsRunning new) →
    FitsPast borne buried born g x new
past_word borne buried born g x old new fits was isnt dying = record {
  before_bear = λ none. absurd (was ((fits.before_bear none).0));
  between = λ b c e. isnt e;
  after_bury = λ c. absurd (was ((fits.after_bury c).0));
  dying = λ b c dead. dying dead;
  is_born = fits.is_born;
}

-- the same of all, with the word of g changed
pub pasts_word : (events : List CoreEvent) (s : State) (words words' : ℕ → Word) (g : ℕ) (new : Word) → PastsFit events s words → ChangesAt words words' g new →
    (words g ≡ Dead → ⊥) → (new ≡ Dead → ⊥) → (is_live (goroutine s g) ≡ false → IsRunning new) → PastsFit events s words'
pasts_word events s words words' g new fits change was isnt dying k = at (cases_eq k g)
  where
    at : (k ≡ g) ⊎ (k ≡ g → ⊥) → FitsPast (is_borne events k) (is_buried events k) (births s) k (goroutine s k) (words' k)
    at (inl same) = subst (λ n. FitsPast (is_borne events n) (is_buried events n) (births s) n (goroutine s n) (words' n)) (sym same)
        (subst (λ w. FitsPast (is_borne events g) (is_buried events g) (births s) g (goroutine s g) w) (sym change.here)
        (past_word (is_borne events g) (is_buried events g) (births s) g (goroutine s g) (words g) new (fits g) was isnt dying))
    at (inr other) = subst (λ w. FitsPast (is_borne events k) (is_buried events k) (births s) k (goroutine s k) w) (sym (change.others k other)) (fits k)

-- a live goroutine with word Dead wasn't borne
pub not_borne : (borne buried : Bool) (born g : ℕ) (x : Goroutine) (word : Word) → FitsPast borne buried born g x word → is_live x ≡ true → word ≡ Dead → borne ≡ false
not_borne false buried born g x word fits live dead = refl
not_borne true false born g x word fits live dead = absurd (fits.between refl refl dead)
not_borne true true born g x word fits live dead = absurd (true≢false (sym live ∙ (fits.after_bury refl).1))

-- one whose word isn't Dead was borne and not buried
pub was_borne : (borne buried : Bool) (born g : ℕ) (x : Goroutine) (word : Word) → FitsPast borne buried born g x word → (word ≡ Dead → ⊥) → borne ≡ true
was_borne true buried born g x word fits isnt = refl
was_borne false buried born g x word fits isnt = absurd (isnt ((fits.before_bear refl).0))

-- unborn numbers have word Dead
pub unborn_dead : (borne buried : Bool) (born g : ℕ) (x : Goroutine) (word : Word) → FitsPast borne buried born g x word → born ≤ g → word ≡ Dead
unborn_dead false buried born g x word fits past = (fits.before_bear refl).0
unborn_dead true buried born g x word fits past = let within = fits.is_born refl in absurd (omega arith)

-- who isn't Running, and not Dead, is live
pub lives_at : (borne buried : Bool) (born g : ℕ) (x : Goroutine) (word : Word) → FitsPast borne buried born g x word → (word ≡ Dead → ⊥) → (IsRunning word → ⊥) → is_live x ≡ true
lives_at borne buried born g x word fits isnt still = by (is_live x) refl borne refl buried refl
  where
    by : (lives : Bool) → is_live x ≡ lives → (b : Bool) → borne ≡ b → (c : Bool) → buried ≡ c → is_live x ≡ true
    by true live b e c f = live
    by false dead false e c f = absurd (isnt ((fits.before_bear e).0))
    by false dead true e true f = absurd (isnt ((fits.after_bury f).0))
    by false dead true e false f = absurd (still (fits.dying e f dead))

-- The body of g is put into its cell.
module _ (events : List CoreEvent) (w g : ℕ) (s : State) (words words' : ℕ → Word) (new : Word) (fits : PastsFit events s words) (change : ChangesAt words words' g new) where
  other_bear : (k : ℕ) → (k ≡ g → ⊥) → FitsPast (is_borne (events ++ Bear w g ∷ []) k) (is_buried (events ++ Bear w g ∷ []) k) (births s) k (goroutine s k) (words' k)
  other_bear k other =
      let b = any_more (is_bear_of k) events (Bear w g) (ne_eqb g k (λ e. other (sym e))) in
      let c = any_more (is_bury_of k) events (Bear w g) refl in
      subst (λ n. FitsPast n (is_buried (events ++ Bear w g ∷ []) k) (births s) k (goroutine s k) (words' k)) (sym b)
      (subst (λ n. FitsPast (is_borne events k) n (births s) k (goroutine s k) (words' k)) (sym c)
      (subst (FitsPast (is_borne events k) (is_buried events k) (births s) k (goroutine s k)) (sym (change.others k other)) (fits k)))

  own_bear : g < births s → is_live (goroutine s g) ≡ true → words g ≡ Dead → (new ≡ Dead → ⊥) →
      FitsPast (is_borne (events ++ Bear w g ∷ []) g) (is_buried (events ++ Bear w g ∷ []) g) (births s) g (goroutine s g) (words' g)
  own_bear born live dead isnt =
      let none = not_borne (is_borne events g) (is_buried events g) (births s) g (goroutine s g) (words g) (fits g) live dead in
      let unburied = ((fits g).before_bear none).1 in
      let b = any_now (is_bear_of g) events (Bear w g) (eq-eqb g g refl) in
      let c = any_more (is_bury_of g) events (Bear w g) refl ∙ unburied in
      record {
        before_bear = λ e. absurd (true≢false (sym b ∙ e));
        between = λ e f there. isnt (sym change.here ∙ there);
        after_bury = λ e. absurd (true≢false (sym e ∙ c));
        dying = λ e f gone. absurd (true≢false (sym live ∙ gone));
        is_born = λ e. born;
      }

  pub bear_past : g < births s → is_live (goroutine s g) ≡ true → words g ≡ Dead → (new ≡ Dead → ⊥) → PastsFit (events ++ Bear w g ∷ []) s words'
  bear_past born live dead isnt k = at (cases_eq k g)
    where
      at : (k ≡ g) ⊎ (k ≡ g → ⊥) → FitsPast (is_borne (events ++ Bear w g ∷ []) k) (is_buried (events ++ Bear w g ∷ []) k) (births s) k (goroutine s k) (words' k)
      at (inl same) = subst (λ n. FitsPast (is_borne (events ++ Bear w g ∷ []) n) (is_buried (events ++ Bear w g ∷ []) n) (births s) n (goroutine s n) (words' n)) (sym same) (own_bear born live dead isnt)
      at (inr other) = other_bear k other

-- The body of g is put away.
module _ (events : List CoreEvent) (w g : ℕ) (s : State) (words words' : ℕ → Word) (fits : PastsFit events s words) (change : ChangesAt words words' g Dead) where
  other_bury : (k : ℕ) → (k ≡ g → ⊥) → FitsPast (is_borne (events ++ Bury w g ∷ []) k) (is_buried (events ++ Bury w g ∷ []) k) (births s) k (goroutine s k) (words' k)
  other_bury k other =
      let b = any_more (is_bear_of k) events (Bury w g) refl in
      let c = any_more (is_bury_of k) events (Bury w g) (ne_eqb g k (λ e. other (sym e))) in
      subst (λ n. FitsPast n (is_buried (events ++ Bury w g ∷ []) k) (births s) k (goroutine s k) (words' k)) (sym b)
      (subst (λ n. FitsPast (is_borne events k) n (births s) k (goroutine s k) (words' k)) (sym c)
      (subst (FitsPast (is_borne events k) (is_buried events k) (births s) k (goroutine s k)) (sym (change.others k other)) (fits k)))

  own_bury : is_live (goroutine s g) ≡ false → (words g ≡ Dead → ⊥) →
      FitsPast (is_borne (events ++ Bury w g ∷ []) g) (is_buried (events ++ Bury w g ∷ []) g) (births s) g (goroutine s g) (words' g)
  own_bury gone isnt =
      let was = was_borne (is_borne events g) (is_buried events g) (births s) g (goroutine s g) (words g) (fits g) isnt in
      let b = any_more (is_bear_of g) events (Bury w g) refl ∙ was in
      let c = any_now (is_bury_of g) events (Bury w g) (eq-eqb g g refl) in
      record {
        before_bear = λ e. absurd (true≢false (sym b ∙ e));
        between = λ e f. absurd (true≢false (sym c ∙ f));
        after_bury = λ e. (change.here, gone, b);
        dying = λ e f. absurd (true≢false (sym c ∙ f));
        is_born = λ e. (fits g).is_born was;
      }

  pub bury_past : is_live (goroutine s g) ≡ false → (words g ≡ Dead → ⊥) → PastsFit (events ++ Bury w g ∷ []) s words'
  bury_past gone isnt k = at (cases_eq k g)
    where
      at : (k ≡ g) ⊎ (k ≡ g → ⊥) → FitsPast (is_borne (events ++ Bury w g ∷ []) k) (is_buried (events ++ Bury w g ∷ []) k) (births s) k (goroutine s k) (words' k)
      at (inl same) = subst (λ n. FitsPast (is_borne (events ++ Bury w g ∷ []) n) (is_buried (events ++ Bury w g ∷ []) n) (births s) n (goroutine s n) (words' n)) (sym same) (own_bury gone isnt)
      at (inr other) = other_bury k other

-- An entry of g, whose word isn't Dead, and which dies only under a Running word.
module _ (events : List CoreEvent) (s t : State) (words : ℕ → Word) (g : ℕ) (fits : PastsFit events s words) (turn : TurnsAll s t g) where
  other_past : (k : ℕ) → (k ≡ g → ⊥) → FitsPast (is_borne events k) (is_buried events k) (births t) k (goroutine t k) (words k)
  other_past k other = at (turn.others.each k other)
    where
      grows : births s ≤ births t
      grows = turn.others.grows

      at : (Stays (goroutine s k) (goroutine t k) × (k < births t → k < births s)) ⊎ ((births s ≤ k) × IsNewborn s.last_epoch (goroutine t k)) →
          FitsPast (is_borne events k) (is_buried events k) (births t) k (goroutine t k) (words k)
      at (inl stays) = record {
        before_bear = λ e. let old = (fits k).before_bear e in (old.0, old.1, λ within. stays.0.lives ∙ old.2 (stays.1 within), stays.0.count ∙ old.3);
        between = (fits k).between;
        after_bury = λ e. let old = (fits k).after_bury e in (old.0, stays.0.lives ∙ old.1, old.2);
        dying = λ e f gone. (fits k).dying e f (sym stays.0.lives ∙ gone);
        is_born = λ e. let old = (fits k).is_born e in let more = grows in omega arith;
      }
      at (inr born) = record {
        before_bear = λ e. let old = (fits k).before_bear e in (old.0, old.1, λ within. lives, born.1.none_passed);
        between = (fits k).between;
        after_bury = λ e. let old = (fits k).is_born ((fits k).after_bury e).2 in let past = born.0 in absurd (omega arith);
        dying = λ e f gone. absurd (true≢false (sym lives ∙ gone));
        is_born = λ e. let old = (fits k).is_born e in let past = born.0 in absurd (omega arith);
      }
        where
          lives : is_live (goroutine t k) ≡ true
          lives = live_status (goroutine t k) born.1.is_runnable refl

  own_past : (words g ≡ Dead → ⊥) → (is_live (goroutine t g) ≡ false → IsRunning (words g)) → FitsPast (is_borne events g) (is_buried events g) (births t) g (goroutine t g) (words g)
  own_past isnt dies = record {
    before_bear = λ e. absurd (isnt (((fits g).before_bear e).0));
    between = (fits g).between;
    after_bury = λ e. absurd (isnt (((fits g).after_bury e).0));
    dying = λ e f gone. dies gone;
    is_born = λ e. let old = (fits g).is_born e in let more = turn.others.grows in omega arith;
  }

  pub entry_past : (words g ≡ Dead → ⊥) → (is_live (goroutine t g) ≡ false → IsRunning (words g)) → PastsFit events t words
  entry_past isnt dies k = at (cases_eq k g)
    where
      at : (k ≡ g) ⊎ (k ≡ g → ⊥) → FitsPast (is_borne events k) (is_buried events k) (births t) k (goroutine t k) (words k)
      at (inl same) = subst (λ n. FitsPast (is_borne events n) (is_buried events n) (births t) n (goroutine t n) (words n)) (sym same) (own_past isnt dies)
      at (inr other) = other_past k other
