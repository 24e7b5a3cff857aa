-- Actors taken one after another, in the order of their numbers.
use Rattle.std.proofs.Common.{◌≡◌, ◌+◌, ◌-◌, ◌<◌, ◌++◌, ◌∷◌, [], ℕ, List, length, get_or, map, refl, sym, ap, ◌∙◌, subst, arith, append_assoc, append-nil}
use Rattle.std.specs.List.{range_with_len}
use Rattle.std.proofs.lemmas.List.{length-append, length-map, get_or-append_right, map-append, map-id}
use Rattle.gp_journal.specs.declared.settings.Settings.{Settings}
use Rattle.gp_workers.specs.Actors.{Actor, AreActors}
use Rattle.std.proofs.lemmas.List.FromFn.{length-range_with_len, get_or-range_with_len, map-range_with_len_more}

-- Those that were taken, and the rest, are all up to a number.
abbrev pub Splits : ℕ → List ℕ → List ℕ → Type 0
Splits total taken rest = taken ++ rest ≡ range_with_len 0 total

module _ (total x : ℕ) (taken rest : List ℕ) (splits : Splits total taken (x ∷ rest)) where
  pub one_more : Splits total (taken ++ x ∷ []) rest
  one_more = append_assoc taken (x ∷ []) rest ∙ splits

  pub some_left : length taken < total
  some_left =
      let all = ap length splits in
      omega (arith, length-append taken (x ∷ rest), length-range_with_len 0 total)

  -- who is next has the number of those taken
  pub next_number : x ≡ length taken
  next_number =
      sym (get_or-append_right taken (x ∷ rest) (length taken) (length taken) 0 refl (omega arith) ∙ ap (λ n. get_or (x ∷ rest) n 0) (let e : length taken - length taken ≡ 0 = omega arith in e))
      ∙ ap (λ ns. get_or ns (length taken) 0) splits ∙ get_or-range_with_len 0 total (length taken) 0 some_left ∙ (let e : 0 + length taken ≡ length taken = omega arith in e)

  pub below : x < total
  below = let low = some_left in let same = next_number in omega arith

pub all_taken : (total : ℕ) (taken : List ℕ) → Splits total taken [] → taken ≡ range_with_len 0 total
all_taken total taken splits = sym (append-nil taken) ∙ splits

-- the numbers up to one more
pub range_more : (n a : ℕ) → range_with_len a (n + 1) ≡ range_with_len a n ++ (a + n) ∷ []
range_more n a =
    sym (map-id (range_with_len a (n + 1))) ∙ map-range_with_len_more (λ k. k) a n (a + n) refl ∙ ap (λ ns. ns ++ (a + n) ∷ []) (map-id (range_with_len a n))

-- One goes from the rest to those that were taken.
module _ {X Y : Type 0} (number : X → ℕ) (next : Y → ℕ) (total : ℕ) (taken : List X) (rest rest' : List Y) (y : Y) (steps : rest ≡ y ∷ rest') (splits : Splits total (map number taken) (map next rest)) where
  before : Splits total (map number taken) (next y ∷ map next rest')
  before = subst (λ ys. Splits total (map number taken) (map next ys)) steps splits

  pub taken_on : (taken' : List X) (x : X) → taken' ≡ taken ++ x ∷ [] → number x ≡ next y → Splits total (map number taken') (map next rest')
  taken_on taken' x pushed same =
      subst (λ xs. Splits total (map number xs) (map next rest')) (sym pushed)
      (subst (λ ns. Splits total ns (map next rest')) (sym (map-append number taken (x ∷ []) ∙ ap (λ n. map number taken ++ n ∷ []) same)) (one_more total (next y) (map number taken) (map next rest') before))

  pub has_left : length taken < total
  has_left = let some = some_left total (next y) (map number taken) (map next rest') before in let same = length-map taken number in omega arith

  pub its_number : next y < total
  its_number = below total (next y) (map number taken) (map next rest') before

-- there are so many of them
pub all_number : (settings : Settings) (actors : List Actor) → AreActors settings actors → length actors ≡ settings.workers + 2
all_number settings actors all = sym (length-map actors (λ (it : Actor). it.number)) ∙ ap length all ∙ length-range_with_len 0 (settings.workers + 2)
