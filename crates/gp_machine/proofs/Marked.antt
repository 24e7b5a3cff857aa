-- Counts and marks of a list after one of its places is changed, or one is added.
use Rattle.std.proofs.Common.{◌≡◌, ◌⊎◌, ℕ, ◌+◌, ◌<◌, ◌≤◌, Bool, false, not, ◌&&◌, nat_lt, cond, List, [], ◌∷◌, ◌++◌, length, get_or, set, count_by, Some, None, position, refl, sym, ap, ◌∙◌, subst, inl, inr, arith, true≢false, length-set}
use Rattle.std.proofs.Common.{get_or-set_same, get_or-set_other}
use Rattle.std.specs.List.{position_or_len}
use Rattle.std.proofs.lemmas.Bool.{cases_eq, cases_lt, lt-ltb, le-ltb}
use Rattle.std.proofs.lemmas.List.{get_or_past, get_or_push, get_or_append_left, length_push}
use Rattle.std.proofs.lemmas.List.Sums.{sum_by-set, sum_by_push, position_or_len_is, fails_before_first, passes_at_first}
use Rattle.gp_journal.specs.declared.goroutine.Goroutine.{Goroutine}
use Rattle.gp_journal.specs.State.{nobody, is_runnable, is_running, is_dead, is_live, is_behind}
use Rattle.gp_machine.specs.kept.Crowd.{one_if, is_settled, AreCounted}
use Rattle.gp_journal.proofs.Lemmas.{replaced_within, changed}

pub count_set : {X : Type 0} (p : X → Bool) (d : X) (xs : List X) (i : ℕ) (y : X) → i < length xs → count_by p (set xs i y) + one_if (p (get_or xs i d)) ≡ count_by p xs + one_if (p y)
count_set p d xs i y within = sum_by-set (λ x. one_if (p x)) xs i y d within

pub count_push : {X : Type 0} (p : X → Bool) (xs : List X) (y : X) → count_by p (xs ++ y ∷ []) ≡ count_by p xs + one_if (p y)
count_push p xs y = sum_by_push (λ x. one_if (p x)) xs y

-- A list of marks says of each place whether it passes a test.
pub marks_set : {X : Type 0} (p : X → Bool) (d : X) (marks : List Bool) (xs : List X) (i : ℕ) (y : X) → i < length xs → i < length marks → ((k : ℕ) → get_or marks k false ≡ p (get_or xs k d)) →
    (k : ℕ) → get_or (set marks i (p y)) k false ≡ p (get_or (set xs i y) k d)
marks_set p d marks xs i y within room old =
    replaced_within (λ n x. get_or (set marks i (p y)) n false ≡ p x) d xs i y within (get_or-set_same marks i (p y) false room)
    (λ n other. get_or-set_other marks i n (p y) false other ∙ old n)

push_other : {X : Type 0} (d : X) (xs : List X) (y : X) (k : ℕ) → (k ≡ length xs → ⊥) → get_or (xs ++ y ∷ []) k d ≡ get_or xs k d
push_other d xs y k other = at (cases_lt k (length xs))
  where
    at : (k < length xs) ⊎ (length xs ≤ k) → get_or (xs ++ y ∷ []) k d ≡ get_or xs k d
    at (inl within) = get_or_append_left xs (y ∷ []) d k within
    at (inr past) = get_or_past (xs ++ y ∷ []) k d (omega (arith, length_push xs y)) ∙ sym (get_or_past xs k d past)

pub marks_push : {X : Type 0} (p : X → Bool) (d : X) (marks : List Bool) (xs : List X) (y : X) → length xs < length marks → ((k : ℕ) → get_or marks k false ≡ p (get_or xs k d)) → (k : ℕ) →
    get_or (set marks (length xs) (p y)) k false ≡ p (get_or (xs ++ y ∷ []) k d)
marks_push p d marks xs y room old k = at (cases_eq k (length xs))
  where
    at : (k ≡ length xs) ⊎ (k ≡ length xs → ⊥) → get_or (set marks (length xs) (p y)) k false ≡ p (get_or (xs ++ y ∷ []) k d)
    at (inl same) = subst (λ n. get_or (set marks (length xs) (p y)) n false ≡ p (get_or (xs ++ y ∷ []) n d)) (sym same)
        (get_or-set_same marks (length xs) (p y) false room ∙ ap p (sym (get_or_push xs y d (length xs) refl)))
    at (inr other) = get_or-set_other marks (length xs) k (p y) false other ∙ old k ∙ ap p (sym (push_other d xs y k other))

found : {X : Type 0} (p : X → Bool) (xs : List X) (i : ℕ) → position_or_len p xs ≡ i → i < length xs → position p xs ≡ Some i
found p xs i e within = ap (λ b. cond b (Some (position_or_len p xs)) None) (lt-ltb (position_or_len p xs) (length xs) (omega arith)) ∙ ap Some e

missing : {X : Type 0} (p : X → Bool) (xs : List X) → length xs ≤ position_or_len p xs → position p xs ≡ None
missing p xs past = ap (λ b. cond b (Some (position_or_len p xs)) None) (le-ltb (position_or_len p xs) (length xs) past)

-- The first mark stands at the first place that passes.
pub same_position : {X : Type 0} (p : X → Bool) (d : X) (marks : List Bool) (xs : List X) → p d ≡ false → ((k : ℕ) → get_or marks k false ≡ p (get_or xs k d)) → position (λ b. b) marks ≡ position p xs
same_position p d marks xs none same = at (cases_lt (position_or_len p xs) (length xs))
  where
    first : ℕ
    first = position_or_len p xs

    marked : first < length xs → first < length marks
    marked within = there (cases_lt first (length marks))
      where
        there : (first < length marks) ⊎ (length marks ≤ first) → first < length marks
        there (inl room) = room
        there (inr past) = absurd (true≢false (sym (passes_at_first p xs d within) ∙ sym (same first) ∙ get_or_past marks first false past))

    at : (first < length xs) ⊎ (length xs ≤ first) → position (λ b. b) marks ≡ position p xs
    at (inl within) =
        found (λ b. b) marks first
        (position_or_len_is (λ b. b) marks first false (let room = marked within in omega arith) (λ k before. same k ∙ fails_before_first p xs k d before)
        (λ room. same first ∙ passes_at_first p xs d within))
        (marked within)
        ∙ sym (found p xs first refl within)
    at (inr past) =
        let whole : position_or_len (λ b. b) marks ≡ length marks = position_or_len_is (λ b. b) marks (length marks) false (omega arith) (λ k before. same k ∙ fails k (cases_lt k (length xs)))
        (λ room. absurd (omega arith)) in
        missing (λ b. b) marks (omega arith) ∙ sym (missing p xs past)
      where
        fails : (k : ℕ) → (k < length xs) ⊎ (length xs ≤ k) → p (get_or xs k d) ≡ false
        fails k (inl within) = fails_before_first p xs k d (omega arith)
        fails k (inr beyond) = ap p (get_or_past xs k d beyond) ∙ none

-- where a number was moved by the answers of a test
same_move : (p : Goroutine → Bool) (old new : Goroutine) (was is : Bool) (count now : ℕ) → was ≡ p old → is ≡ p new → now + one_if was ≡ count + one_if is →
    now + one_if (p old) ≡ count + one_if (p new)
same_move p old new was is count now was_is is_is moved = let a = ap one_if was_is in let b = ap one_if is_is in omega arith

-- A number of some kind, once one of them is changed, or one is added.
pub number_set : (p : Goroutine → Bool) (all : List Goroutine) (count now g : ℕ) (old new : Goroutine) (was is : Bool) → g < length all → count ≡ count_by p all → old ≡ get_or all g nobody →
    was ≡ p old → is ≡ p new → now + one_if was ≡ count + one_if is → now ≡ count_by p (set all g new)
number_set p all count now g old new was is within count_is old_is was_is is_is moved =
    let a = same_move p old new was is count now was_is is_is moved in
    let b = count_set p nobody all g new within in
    let c = ap (λ x. one_if (p x)) old_is in omega arith

pub number_push : (p : Goroutine → Bool) (all : List Goroutine) (count now : ℕ) (new : Goroutine) (is : Bool) → count ≡ count_by p all → is ≡ p new → now + one_if false ≡ count + one_if is →
    now ≡ count_by p (all ++ new ∷ [])
number_push p all count now new is count_is is_is moved = let a = ap one_if is_is in let b = count_push p all new in omega arith

-- Which of them are marked, of so many as there are cells.
pub record AreMarked (p : Goroutine → Bool) (cells : ℕ) (all : List Goroutine) (marks : List Bool) : Type 0 where
  pub long : length marks ≡ cells
  pub same : (g : ℕ) → get_or marks g false ≡ p (get_or all g nobody)

pub marked_set : (p : Goroutine → Bool) (cells : ℕ) (all : List Goroutine) (marks marks' : List Bool) (g : ℕ) (new : Goroutine) (is : Bool) → AreMarked p cells all marks → g < length all →
    length all ≤ cells → is ≡ p new → marks' ≡ set marks g is → AreMarked p cells (set all g new) marks'
marked_set p cells all marks marks' g new is marked within born is_is marks_are =
    let e : marks' ≡ set marks g (p new) = marks_are ∙ ap (set marks g) is_is in
    let long = marked.long in
    record {
      long = ap length e ∙ length-set marks g (p new) ∙ long;
      same = λ k. ap (λ l. get_or l k false) e ∙ marks_set p nobody marks all g new within (omega arith) marked.same k;
    }

pub marked_push : (p : Goroutine → Bool) (cells : ℕ) (all : List Goroutine) (marks marks' : List Bool) (g : ℕ) (new : Goroutine) (is : Bool) → AreMarked p cells all marks → g ≡ length all →
    length all < cells → is ≡ p new → marks' ≡ set marks g is → AreMarked p cells (all ++ new ∷ []) marks'
marked_push p cells all marks marks' g new is marked last room is_is marks_are =
    let e : marks' ≡ set marks (length all) (p new) = marks_are ∙ ap (λ n. set marks n is) last ∙ ap (set marks (length all)) is_is in
    let long = marked.long in
    record {
      long = ap length e ∙ length-set marks (length all) (p new) ∙ long;
      same = λ k. ap (λ l. get_or l k false) e ∙ marks_push p nobody marks all new (omega arith) marked.same k;
    }

-- a number stays where one is changed that passes the test as before
count_same : (p : Goroutine → Bool) (all : List Goroutine) (count g : ℕ) (new : Goroutine) → g < length all → count ≡ count_by p all → p new ≡ p (get_or all g nobody) → count ≡ count_by p (set all g new)
count_same p all count g new within counted same = let a = count_set p nobody all g new within in let b = ap one_if same in omega arith

-- Numbers and marks stay where one keeps its status and its epoch.
pub counted_same : (cells room : ℕ) (all : List Goroutine) (active live running runnable : ℕ) (recorded unrecorded : List Bool) (g : ℕ) (new : Goroutine) →
    AreCounted cells room all active live running runnable recorded unrecorded → g < length all → new.status ≡ (get_or all g nobody).status → new.epoch ≡ (get_or all g nobody).epoch →
    AreCounted cells room (set all g new) active live running runnable recorded unrecorded
counted_same cells room all active live running runnable recorded unrecorded g new it within status epoch =
    let lives : is_live new ≡ is_live (get_or all g nobody) = ap (λ t. not (is_dead t)) status in
    let is_behind_too : is_behind active new ≡ is_behind active (get_or all g nobody) = ap (λ b. b && nat_lt new.epoch active) lives ∙ ap (λ n. is_live (get_or all g nobody) && nat_lt n active) epoch in
    record {
      reserved = it.reserved;
      few = it.few;
      born = let bound = it.born in omega (arith, length-set all g new);
      recorded_marks = it.recorded_marks;
      unrecorded_marks = it.unrecorded_marks;
      live_count = count_same is_live all live g new within it.live_count lives;
      running_count = count_same (λ y. is_running y.status) all running g new within it.running_count (ap is_running status);
      runnable_count = count_same (λ y. is_runnable y.status) all runnable g new within it.runnable_count (ap is_runnable status);
      behind = changed (λ k y. get_or unrecorded k false ≡ is_behind active y) nobody all g new (it.behind g ∙ sym is_behind_too) it.behind;
      settled = changed (λ k y. get_or recorded k false ≡ is_settled active y) nobody all g new
          (it.settled g ∙ sym (ap (λ b. b && not (is_behind active new)) lives ∙ ap (λ b. is_live (get_or all g nobody) && not b) is_behind_too)) it.settled;
    }
