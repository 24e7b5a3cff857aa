-- Why a call of the profiler finds nothing to do.
use Rattle.std.proofs.Common.{◌≡◌, ◌+◌, ◌<◌, ◌==◌, ◌||◌, ℕ, Bool, true, false, cond, List, [], ◌∷◌, length, get_or, count_by, position, suc, Some, None, if◌then◌else◌, nat_lt, refl, ap, ◌∙◌, arith}
use Rattle.std.specs.List.{position_or_len}
use Rattle.std.proofs.lemmas.Bool.{ltb-true, ltb-false}
use Rattle.std.proofs.lemmas.List.Sums.{sum_by-cons, fails_before_first}
use Rattle.std.proofs.lemmas.List.Quantifiers.{position-Some}
use Rattle.gp_journal.specs.declared.entry.Entry.{Entry}
use Rattle.gp_journal.specs.declared.settings.Settings.{Settings}
use Rattle.gp_journal.specs.Run.{IsLegal, last}
use Rattle.gp_journal.specs.Standing.{first_behind}
use Rattle.gp_journal.specs.State.{Code, State, goroutine, nobody, is_behind, live, running}
use Rattle.gp_journal.proofs.Lemmas.{behind_parts}
use Rattle.gp_world.specs.Calls.{live_at_open}
use Rattle.gp_profiler.specs.declared.answers.Opening.TheVariants.{Opened, TooSmall, NotStopped}
use Rattle.gp_profiler.specs.declared.answers.Recording.TheVariants.{Recorded, Already}
use Rattle.gp_profiler.specs.declared.answers.Closing.TheVariants.{Closed, Missing}
use Rattle.gp_profiler.specs.Calls.{opening_of, recording_of, number_recorded, closing_of}
use Rattle.gp_profiler.proofs.AddUp.{records_add_up}

pub not_stopped : (settings : Settings) (s : State) (n : ℕ) → NotStopped n ≡ opening_of settings s → 0 < running s
not_stopped settings s n is = by (nat_lt 0 (running s)) (nat_lt settings.room (live s)) refl is
  where
    by : (runs full : Bool) → nat_lt 0 (running s) ≡ runs →
        NotStopped n ≡ (if runs then NotStopped (running s) else if full then TooSmall (live s) settings.room else Opened (s.last_epoch + 1) (live s)) → 0 < running s
    by true full e is = ltb-true 0 (running s) e
    by false true e is = absurd (cc)
    by false false e is = absurd (cc)

unequal : (a b : ℕ) → b < a → ((a == 0) || (b == a)) ≡ false
unequal a b below = grind arith

-- who is behind isn't recorded yet
pub none_already : (s : State) (g epoch : ℕ) → first_behind s.active s.goroutines ≡ Some g → Already epoch ≡ recording_of s g → ⊥
none_already s g epoch found is =
    let behind = (behind_parts s.active (goroutine s g) ((position-Some (is_behind s.active) s.goroutines g nobody found).1)).1 in
    let answer = is ∙ ap (λ b. if b then Already (goroutine s g).epoch else Recorded) (unequal s.active (goroutine s g).epoch behind) in
    cc

-- where no place passes a test, none is counted
count_none : {X : Type 0} (p : X → Bool) (d : X) (xs : List X) → ((k : ℕ) → k < length xs → p (get_or xs k d) ≡ false) → count_by p xs ≡ 0
count_none p d [] fails = refl
count_none p d (x ∷ xs) fails =
    counted (p x) (fails 0 (omega arith)) (sum_by-cons (λ y. cond (p y) 1 0) x xs) (count_none p d xs (λ k within. fails (suc k) (omega arith)))
  where
    counted : (b : Bool) → b ≡ false → count_by p (x ∷ xs) ≡ cond b 1 0 + count_by p xs → count_by p xs ≡ 0 → count_by p (x ∷ xs) ≡ 0
    counted true e split rest = absurd (cc)
    counted false e split rest = omega arith

no_first : {X : Type 0} (p : X → Bool) (xs : List X) (b : Bool) → (if b then Some (position_or_len p xs) else None) ≡ None → b ≡ false
no_first p xs true e = absurd (cc)
no_first p xs false e = refl

none_first : {X : Type 0} (p : X → Bool) (d : X) (xs : List X) → position p xs ≡ None → count_by p xs ≡ 0
none_first p d xs e =
    let past = ltb-false (position_or_len p xs) (length xs) (no_first p xs (nat_lt (position_or_len p xs) (length xs)) e) in
    count_none p d xs (λ k within. fails_before_first p xs k d (omega arith))

enough : (code : Code) (settings : Settings) (journal : List Entry) (have n : ℕ) (b : Bool) → nat_lt (number_recorded code settings journal (last code settings journal).active) (live_at_open code settings journal) ≡ b →
    live_at_open code settings journal < number_recorded code settings journal (last code settings journal).active + 1 →
    Missing have n ≡ (if b then Missing (number_recorded code settings journal (last code settings journal).active) (live_at_open code settings journal) else Closed (last code settings journal).active) → ⊥
enough code settings journal have n true e all is =
    let few = ltb-true (number_recorded code settings journal (last code settings journal).active) (live_at_open code settings journal) e in
    let absurdity : ⊥ = omega arith in absurdity
enough code settings journal have n false e all is = cc

-- with nobody behind none is missing
pub none_missing : (code : Code) (settings : Settings) (journal : List Entry) → IsLegal code settings journal → 0 < (last code settings journal).active →
    first_behind (last code settings journal).active (last code settings journal).goroutines ≡ None → (have n : ℕ) → Missing have n ≡ closing_of code settings journal → ⊥
none_missing code settings journal legal active nobody_behind have n is =
    let all = records_add_up code settings journal legal active in
    let none = none_first (is_behind (last code settings journal).active) nobody (last code settings journal).goroutines nobody_behind in
    enough code settings journal have n (nat_lt (number_recorded code settings journal (last code settings journal).active) (live_at_open code settings journal)) refl (omega arith) is
