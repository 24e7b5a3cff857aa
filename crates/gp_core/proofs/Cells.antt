-- Words, hands and goroutines agree, and each kind of change keeps that.
use Rattle.std.proofs.Common.{◌≡◌, ◌⊎◌, ℕ, ◌+◌, ◌<◌, ◌≤◌, true, false, Option, Some, None, refl, sym, ap, ◌∙◌, subst, inl, inr}
use Rattle.std.proofs.lemmas.Bool.{cases_eq}
use Rattle.gp_stack.specs.declared.record.Record.{Record as Row}
use Rattle.gp_journal.specs.declared.goroutine.Goroutine.{Goroutine}
use Rattle.gp_journal.specs.declared.goroutine.Status.TheVariants as status
use Rattle.gp_journal.specs.State.{Code, State, goroutine, is_live, is_running, births}
use Rattle.gp_journal.specs.Frozen.{row}
use Rattle.gp_core.specs.declared.word.Word.{Word}
use Rattle.gp_core.specs.declared.word.Word.TheVariants.{Dead, Home, Claimed, Running}
use Rattle.gp_core.specs.declared.hold.Hold.{Hold}
use Rattle.gp_core.specs.declared.hold.How.{How}
use Rattle.gp_core.specs.declared.hold.How.TheVariants.{Claim, Take}
use Rattle.gp_core.specs.CoreState.{Holds, HoldsBy, with_copy}
use Rattle.gp_core.specs.Invariant.{Names}
use Rattle.gp_core.proofs.Lists.{ChangesAt}
use Rattle.gp_core.proofs.Turns.{Stays, IsNewborn, TurnsAll}

-- A word fits its goroutine.
abbrev pub FitsWord : ℕ → Goroutine → Word → Type 0
FitsWord active x Dead = is_running x.status ≡ false
FitsWord active x (Home epoch) = (is_live x ≡ true) × (is_running x.status ≡ false) × (epoch ≡ x.epoch)
FitsWord active x (Claimed epoch actor) = (is_live x ≡ true) × (is_running x.status ≡ false) × ((x.epoch ≡ epoch) ⊎ ((x.epoch + 1 ≡ epoch) × (active ≡ epoch)))
FitsWord active x (Running epoch actor) = (v : ℕ) → x.status ≡ status.Running v → v ≡ actor

-- A copy in a hand is the row of its goroutine, which doesn't run.
abbrev pub FitsCopy : Code → Goroutine → ℕ → Option Row → Type 0
FitsCopy code x g None = Unit {0}
FitsCopy code x g (Some copy) = (copy ≡ row code g x) × (is_running x.status ≡ false)

-- What an actor holds is named by its word, and its copy fits.
abbrev pub FitsHand : Code → State → (ℕ → Word) → ℕ → Option Hold → Type 0
FitsHand code s words a None = Unit {0}
FitsHand code s words a (Some hold) = Names hold.how a (words hold.g) × FitsCopy code (goroutine s hold.g) hold.g hold.copy

pub record Agree (code : Code) (s : State) (words : ℕ → Word) (hands : ℕ → Option Hold) : Type 0 where
  pub words_fit : (g : ℕ) → FitsWord s.active (goroutine s g) (words g)
  pub hands_fit : (a : ℕ) → FitsHand code s words a (hands a)
  pub named : (how : How) (a g : ℕ) → Names how a (words g) → HoldsBy how g (hands a)

-- who holds is holding by something
pub holds_by : (how : How) (g : ℕ) (hand : Option Hold) → HoldsBy how g hand → Holds g hand
holds_by how g None holds = holds
holds_by how g (Some hold) holds = holds.0

-- whom a hand holds its word names
pub names_held : (code : Code) (s : State) (words : ℕ → Word) (a g : ℕ) (how : How) (hand : Option Hold) → FitsHand code s words a hand → HoldsBy how g hand → Names how a (words g)
names_held code s words a g how None fits holds = absurd holds
names_held code s words a g how (Some hold) fits holds =
    subst (λ n. Names how a (words n)) holds.0 (subst (λ h. Names h a (words hold.g)) holds.1 fits.0)

-- a word names one actor, and none where it is dead or at home
pub one_named : (how other : How) (a b : ℕ) (word : Word) → Names how a word → Names other b word → a ≡ b
one_named Claim Claim a b (Claimed epoch actor) x y = sym x ∙ y
one_named Take Take a b (Running epoch actor) x y = sym x ∙ y
one_named Claim Take a b (Claimed epoch actor) x y = absurd y
one_named Take Claim a b (Running epoch actor) x y = absurd y
one_named Claim other a b Dead x y = absurd x
one_named Take other a b Dead x y = absurd x
one_named Claim other a b (Home epoch) x y = absurd x
one_named Take other a b (Home epoch) x y = absurd x
one_named Claim other a b (Running epoch actor) x y = absurd x
one_named Take other a b (Claimed epoch actor) x y = absurd x

pub dead_names_none : (how : How) (a : ℕ) (word : Word) → word ≡ Dead → Names how a word → ⊥
dead_names_none Claim a word e names = subst (Names Claim a) e names
dead_names_none Take a word e names = subst (Names Take a) e names

-- The word of g and the hand of a change together.
module _ (code : Code) (s : State) (words : ℕ → Word) (hands : ℕ → Option Hold) (agree : Agree code s words hands)
    (words' : ℕ → Word) (hands' : ℕ → Option Hold) (a g : ℕ) (v : Word) (h : Option Hold)
    (word_at : ChangesAt words words' g v) (hand_at : ChangesAt hands hands' a h)
    (own_word : (how : How) (b : ℕ) → Names how b (words g) → b ≡ a) (own_hand : (k : ℕ) → Holds k (hands a) → k ≡ g)
    (fits : FitsWord s.active (goroutine s g) v) (names : (how : How) (b : ℕ) → Names how b v → (b ≡ a) × HoldsBy how g h)
    (held : (hold : Hold) → h ≡ Some hold → (hold.g ≡ g) × Names hold.how a v × FitsCopy code (goroutine s g) g hold.copy) where
  words_changed : (k : ℕ) → FitsWord s.active (goroutine s k) (words' k)
  words_changed k = at (cases_eq k g)
    where
      at : (k ≡ g) ⊎ (k ≡ g → ⊥) → FitsWord s.active (goroutine s k) (words' k)
      at (inl same) = subst (λ n. FitsWord s.active (goroutine s n) (words' n)) (sym same) (subst (FitsWord s.active (goroutine s g)) (sym word_at.here) fits)
      at (inr other) = subst (FitsWord s.active (goroutine s k)) (sym (word_at.others k other)) (agree.words_fit k)

  kept_hand : (b : ℕ) → (b ≡ a → ⊥) → (hand : Option Hold) → FitsHand code s words b hand → FitsHand code s words' b hand
  kept_hand b other None kept = tt
  kept_hand b other (Some hold) kept = (at (cases_eq hold.g g), kept.1)
    where
      at : (hold.g ≡ g) ⊎ (hold.g ≡ g → ⊥) → Names hold.how b (words' hold.g)
      at (inl same) = absurd (other (own_word hold.how b (subst (λ n. Names hold.how b (words n)) same kept.0)))
      at (inr away) = subst (Names hold.how b) (sym (word_at.others hold.g away)) kept.0

  new_hand : (hand : Option Hold) → h ≡ hand → FitsHand code s words' a hand
  new_hand None e = tt
  new_hand (Some hold) e =
      let it = held hold e in (
        subst (λ n. Names hold.how a (words' n)) (sym it.0) (subst (Names hold.how a) (sym word_at.here) it.1),
        subst (λ n. FitsCopy code (goroutine s n) n hold.copy) (sym it.0) it.2,
      )

  hands_changed : (b : ℕ) → FitsHand code s words' b (hands' b)
  hands_changed b = at (cases_eq b a)
    where
      at : (b ≡ a) ⊎ (b ≡ a → ⊥) → FitsHand code s words' b (hands' b)
      at (inl same) = subst (λ n. FitsHand code s words' n (hands' n)) (sym same) (subst (FitsHand code s words' a) (sym hand_at.here) (new_hand h refl))
      at (inr other) = subst (FitsHand code s words' b) (sym (hand_at.others b other)) (kept_hand b other (hands b) (agree.hands_fit b))

  named_changed : (how : How) (b k : ℕ) → Names how b (words' k) → HoldsBy how k (hands' b)
  named_changed how b k named = at (cases_eq k g) (cases_eq b a)
    where
      at : (k ≡ g) ⊎ (k ≡ g → ⊥) → (b ≡ a) ⊎ (b ≡ a → ⊥) → HoldsBy how k (hands' b)
      at (inl same) which =
          let it = names how b (subst (Names how b) (ap words' same ∙ word_at.here) named) in
          subst (λ n. HoldsBy how n (hands' b)) (sym same) (subst (HoldsBy how g) (sym (ap hands' it.0 ∙ hand_at.here)) it.1)
      at (inr away) (inl mine) =
          let old = agree.named how b k (subst (Names how b) (word_at.others k away) named) in
          absurd (away (own_hand k (subst (λ n. Holds k (hands n)) mine (holds_by how k (hands b) old))))
      at (inr away) (inr other) =
          subst (HoldsBy how k) (sym (hand_at.others b other)) (agree.named how b k (subst (Names how b) (word_at.others k away) named))

  pub pair_agrees : Agree code s words' hands'
  pair_agrees = record { words_fit = words_changed; hands_fit = hands_changed; named = named_changed }

-- The copy in the hand of a changes.
module _ (code : Code) (s : State) (words : ℕ → Word) (hands : ℕ → Option Hold) (agree : Agree code s words hands)
    (hands' : ℕ → Option Hold) (a : ℕ) (copy : Option Row) (hand_at : ChangesAt hands hands' a (with_copy copy (hands a)))
    (fits : (hold : Hold) → hands a ≡ Some hold → FitsCopy code (goroutine s hold.g) hold.g copy) where
  copied_hand : (hand : Option Hold) → hands a ≡ hand → FitsHand code s words a hand → FitsHand code s words a (with_copy copy hand)
  copied_hand None e old = tt
  copied_hand (Some hold) e old = (old.0, fits hold e)

  copied_holds : (how : How) (k : ℕ) (hand : Option Hold) → HoldsBy how k hand → HoldsBy how k (with_copy copy hand)
  copied_holds how k None holds = holds
  copied_holds how k (Some hold) holds = holds

  pub copy_agrees : Agree code s words hands'
  copy_agrees = record {
    words_fit = agree.words_fit;
    hands_fit = λ b. hand b (cases_eq b a);
    named = λ how b k named. holds how b k (cases_eq b a) (agree.named how b k named);
  }
    where
      hand : (b : ℕ) → (b ≡ a) ⊎ (b ≡ a → ⊥) → FitsHand code s words b (hands' b)
      hand b (inl same) = subst (λ n. FitsHand code s words n (hands' n)) (sym same) (subst (FitsHand code s words a) (sym hand_at.here) (copied_hand (hands a) refl (agree.hands_fit a)))
      hand b (inr other) = subst (FitsHand code s words b) (sym (hand_at.others b other)) (agree.hands_fit b)

      holds : (how : How) (b k : ℕ) → (b ≡ a) ⊎ (b ≡ a → ⊥) → HoldsBy how k (hands b) → HoldsBy how k (hands' b)
      holds how b k (inl same) old = subst (λ n. HoldsBy how k (hands' n)) (sym same) (subst (HoldsBy how k) (sym hand_at.here) (copied_holds how k (hands a) (subst (λ n. HoldsBy how k (hands n)) same old)))
      holds how b k (inr other) old = subst (HoldsBy how k) (sym (hand_at.others b other)) old

-- The body of g, which no actor holds, is put into its cell.
module _ (code : Code) (s : State) (words : ℕ → Word) (hands : ℕ → Option Hold) (agree : Agree code s words hands)
    (words' : ℕ → Word) (g : ℕ) (v : Word) (word_at : ChangesAt words words' g v) (was_dead : words g ≡ Dead)
    (fits : FitsWord s.active (goroutine s g) v) (names : (how : How) (b : ℕ) → Names how b v → ⊥) where
  pub bear_agrees : Agree code s words' hands
  bear_agrees = record {
    words_fit = λ k. word k (cases_eq k g);
    hands_fit = λ b. hand b (hands b) (agree.hands_fit b);
    named = λ how b k named. holds how b k (cases_eq k g) named;
  }
    where
      word : (k : ℕ) → (k ≡ g) ⊎ (k ≡ g → ⊥) → FitsWord s.active (goroutine s k) (words' k)
      word k (inl same) = subst (λ n. FitsWord s.active (goroutine s n) (words' n)) (sym same) (subst (FitsWord s.active (goroutine s g)) (sym word_at.here) fits)
      word k (inr other) = subst (FitsWord s.active (goroutine s k)) (sym (word_at.others k other)) (agree.words_fit k)

      named_at : (how : How) (b k : ℕ) → (k ≡ g) ⊎ (k ≡ g → ⊥) → Names how b (words k) → Names how b (words' k)
      named_at how b k (inl same) old = absurd (dead_names_none how b (words k) (ap words same ∙ was_dead) old)
      named_at how b k (inr away) old = subst (Names how b) (sym (word_at.others k away)) old

      hand : (b : ℕ) (held : Option Hold) → FitsHand code s words b held → FitsHand code s words' b held
      hand b None old = tt
      hand b (Some hold) old = (named_at hold.how b hold.g (cases_eq hold.g g) old.0, old.1)

      holds : (how : How) (b k : ℕ) → (k ≡ g) ⊎ (k ≡ g → ⊥) → Names how b (words' k) → HoldsBy how k (hands b)
      holds how b k (inl same) named = absurd (names how b (subst (Names how b) (ap words' same ∙ word_at.here) named))
      holds how b k (inr away) named = agree.named how b k (subst (Names how b) (word_at.others k away) named)

-- what stays of a goroutine that stays
pub stays_fits : (active : ℕ) (x y : Goroutine) (word : Word) → Stays x y → FitsWord active x word → FitsWord active y word
stays_fits active x y Dead stays fits = stays.runs ∙ fits
stays_fits active x y (Home epoch) stays fits = (stays.lives ∙ fits.0, stays.runs ∙ fits.1, fits.2 ∙ sym stays.epoch)
stays_fits active x y (Claimed epoch actor) stays fits = (stays.lives ∙ fits.0, stays.runs ∙ fits.1, near fits.2)
  where
    near : (x.epoch ≡ epoch) ⊎ ((x.epoch + 1 ≡ epoch) × (active ≡ epoch)) → (y.epoch ≡ epoch) ⊎ ((y.epoch + 1 ≡ epoch) × (active ≡ epoch))
    near (inl same) = inl (stays.epoch ∙ same)
    near (inr before) = inr (ap (λ n. n + 1) stays.epoch ∙ before.0, before.1)
stays_fits active x y (Running epoch actor) stays fits = λ v e. fits v (stays.on v e)

pub same_row : (code : Code) (g : ℕ) (x y : Goroutine) → y.start ≡ x.start → y.set ≡ x.set → y.count ≡ x.count → row code g y ≡ row code g x
same_row code g x y start inherited count = cc

pub stays_copy : (code : Code) (g : ℕ) (x y : Goroutine) (copy : Option Row) → Stays x y → FitsCopy code x g copy → FitsCopy code y g copy
stays_copy code g x y None stays fits = tt
stays_copy code g x y (Some copy) stays fits = (fits.0 ∙ sym (same_row code g x y stays.start stays.inherited stays.count), stays.runs ∙ fits.1)

-- An entry of goroutine g changes goroutines, and no words and hands.
module _ (code : Code) (s t : State) (words : ℕ → Word) (hands : ℕ → Option Hold) (agree : Agree code s words hands) (g : ℕ) (turn : TurnsAll s t g)
    (unborn : (k : ℕ) → births s ≤ k → words k ≡ Dead)
    (own_word : FitsWord s.active (goroutine t g) (words g))
    (own_copy : (a : ℕ) (hold : Hold) → hands a ≡ Some hold → hold.g ≡ g → FitsCopy code (goroutine t g) g hold.copy) where
  other_word : (k : ℕ) → (k ≡ g → ⊥) → FitsWord s.active (goroutine t k) (words k)
  other_word k other = at (turn.others.each k other)
    where
      at : (Stays (goroutine s k) (goroutine t k) × (k < births t → k < births s)) ⊎ ((births s ≤ k) × IsNewborn s.last_epoch (goroutine t k)) → FitsWord s.active (goroutine t k) (words k)
      at (inl stays) = stays_fits s.active (goroutine s k) (goroutine t k) (words k) stays.0 (agree.words_fit k)
      at (inr born) = subst (FitsWord s.active (goroutine t k)) (sym (unborn k born.0)) (ap is_running born.1.is_runnable)

  other_hand : (a : ℕ) (hand : Option Hold) → hands a ≡ hand → FitsHand code s words a hand → FitsHand code t words a hand
  other_hand a None e fits = tt
  other_hand a (Some hold) e fits = (fits.0, at (cases_eq hold.g g))
    where
      by : (Stays (goroutine s hold.g) (goroutine t hold.g) × (hold.g < births t → hold.g < births s)) ⊎ ((births s ≤ hold.g) × IsNewborn s.last_epoch (goroutine t hold.g)) →
          FitsCopy code (goroutine t hold.g) hold.g hold.copy
      by (inl stays) = stays_copy code hold.g (goroutine s hold.g) (goroutine t hold.g) hold.copy stays.0 fits.1
      by (inr born) = absurd (dead_names_none hold.how a (words hold.g) (unborn hold.g born.0) fits.0)

      at : (hold.g ≡ g) ⊎ (hold.g ≡ g → ⊥) → FitsCopy code (goroutine t hold.g) hold.g hold.copy
      at (inl same) = subst (λ n. FitsCopy code (goroutine t n) n hold.copy) (sym same) (own_copy a hold e same)
      at (inr other) = by (turn.others.each hold.g other)

  pub entry_agrees : Agree code t words hands
  entry_agrees = record {
    words_fit = λ k. subst (λ n. FitsWord n (goroutine t k) (words k)) (sym turn.active) (at k (cases_eq k g));
    hands_fit = λ a. other_hand a (hands a) refl (agree.hands_fit a);
    named = agree.named;
  }
    where
      at : (k : ℕ) → (k ≡ g) ⊎ (k ≡ g → ⊥) → FitsWord s.active (goroutine t k) (words k)
      at k (inl same) = subst (λ n. FitsWord s.active (goroutine t n) (words n)) (sym same) own_word
      at k (inr other) = other_word k other
