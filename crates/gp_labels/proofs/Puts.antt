-- Pairs that are put in their places one after another: their keys rise, and what holds of each pair stays so.
use Rattle.std.proofs.Common.{◌≡◌, ℕ, zero, suc, ◌+◌, ◌<◌, ◌≤◌, List, [], ◌∷◌, ◌++◌, length, get_or, refl, sym, ap, ◌∙◌, arith, add-one, append_assoc, Ordering}
use Rattle.std.specs.Prelude.{fold}
use Rattle.std.specs.declared.cmp.Ordering.TheVariants.{Less, Equal, Greater}
use Rattle.std.specs.Ordering.{nat_cmp, ordering_reverse}
use Rattle.std.specs.Cmp.Lexicographic.{slice_cmp}
use Rattle.std.specs.List.{AllByRecursion}
use Rattle.std.proofs.lemmas.Cmp.{nat_list_cmp_total}
use Rattle.std.proofs.lemmas.List.{append-nil}
use Rattle.gp_isa.specs.declared.parts.Pair.{Pair}
use Rattle.gp_isa.specs.InLimits.{KeysRise}
use Rattle.gp_labels.specs.LabelSet.{with_pair, canonical_of}

abbrev pub key_cmp : List ℕ → List ℕ → Ordering
key_cmp a b = slice_cmp nat_cmp a b

-- an ordering is one of three
pub data Ordered (o : Ordering) : Type 0 where
  IsLess : o ≡ Less → Ordered o
  IsEqual : o ≡ Equal → Ordered o
  IsGreater : o ≡ Greater → Ordered o

pub ordered : (o : Ordering) → Ordered o
ordered Less = IsLess refl
ordered Equal = IsEqual refl
ordered Greater = IsGreater refl

-- A key is lower than the first of pairs; the keys of pairs rise.
abbrev pub Below : List ℕ → List Pair → Type 0
Below key [] = Unit {0}
Below key (q ∷ qs) = key_cmp key q.key ≡ Less

abbrev pub Rise : List Pair → Type 0
Rise [] = Unit {0}
Rise (q ∷ qs) = Below q.key qs × Rise qs

below_put : (key : List ℕ) (qs : List Pair) (p : Pair) → Below key qs → key_cmp key p.key ≡ Less → Below key (with_pair qs p)
below_put key [] p below less = less
below_put key (q ∷ qs) p below less = elim (ordered (key_cmp p.key q.key)) [
  | IsLess e ↦ rw e less
  | IsEqual e ↦ rw e below
  | IsGreater e ↦ rw e below
]

pub turned : (a b : List ℕ) → key_cmp a b ≡ Greater → key_cmp b a ≡ Less
turned a b e = nat_list_cmp_total.antisymm b a ∙ ap ordering_reverse e

pub rise_put : (qs : List Pair) (p : Pair) → Rise qs → Rise (with_pair qs p)
rise_put [] p rise = (tt, tt)
rise_put (q ∷ qs) p rise = elim (ordered (key_cmp p.key q.key)) [
  | IsLess e ↦ rw e (e, rise)
  | IsEqual e ↦ rw e rise
  | IsGreater e ↦ rw e (below_put q.key qs p rise.0 (turned p.key q.key e), rise_put qs p rise.1)
]

rise_fold : (set pairs : List Pair) → Rise set → Rise (fold with_pair set pairs)
rise_fold set [] rise = rise
rise_fold set (p ∷ pairs) rise = rise_fold (with_pair set p) pairs (rise_put set p rise)

pub canonical-rise : (pairs : List Pair) → Rise (canonical_of pairs)
unfolding canonical_of
canonical-rise pairs = rise_fold [] pairs tt

rise_at : (qs : List Pair) → Rise qs → (k : ℕ) (d : Pair) → suc k < length qs → key_cmp (get_or qs k d).key (get_or qs (suc k) d).key ≡ Less
rise_at [] rise k d within = absurd (omega arith)
rise_at (q ∷ []) rise k d within = absurd (omega arith)
rise_at (q ∷ r ∷ qs) rise zero d within = rise.0
rise_at (q ∷ r ∷ qs) rise (suc k) d within = rise_at (r ∷ qs) rise.1 k d (omega arith)

pub keys_rise : (qs : List Pair) → Rise qs → KeysRise qs
keys_rise qs rise = λ k d within. rw add-one (rise_at qs rise k d (omega arith))

pub canonical-keys_rise : (pairs : List Pair) → KeysRise (canonical_of pairs)
canonical-keys_rise pairs = keys_rise (canonical_of pairs) (canonical-rise pairs)

-- there are no more pairs than were put
few_put : (qs : List Pair) (p : Pair) → length (with_pair qs p) ≤ length qs + 1
few_put [] p = omega arith
few_put (q ∷ qs) p = elim (ordered (key_cmp p.key q.key)) [
  | IsLess e ↦ rw e (omega arith)
  | IsEqual e ↦ rw e (omega arith)
  | IsGreater e ↦ rw e (let more = few_put qs p in omega arith)
]

few_fold : (set pairs : List Pair) → length (fold with_pair set pairs) ≤ length set + length pairs
few_fold set [] = omega arith
few_fold set (p ∷ pairs) = let one = few_put set p in let rest = few_fold (with_pair set p) pairs in omega arith

pub canonical-few : (pairs : List Pair) → length (canonical_of pairs) ≤ length pairs
unfolding canonical_of
canonical-few pairs = let few = few_fold [] pairs in omega arith

-- What holds of a key and a value of two pairs holds of the pair that has the one's key and the other's value.
each_put : (K V : List ℕ → Type 0) (qs : List Pair) (p : Pair) → AllByRecursion (λ (q : Pair). K q.key × V q.value) qs → K p.key × V p.value → AllByRecursion (λ (q : Pair). K q.key × V q.value) (with_pair qs p)
each_put K V [] p all one = (one, tt)
each_put K V (q ∷ qs) p all one = elim (ordered (key_cmp p.key q.key)) [
  | IsLess e ↦ rw e (one, all)
  | IsEqual e ↦ rw e ((all.0.0, one.1), all.1)
  | IsGreater e ↦ rw e (all.0, each_put K V qs p all.1 one)
]

each_fold : (K V : List ℕ → Type 0) (set pairs : List Pair) → AllByRecursion (λ (q : Pair). K q.key × V q.value) set → AllByRecursion (λ (q : Pair). K q.key × V q.value) pairs →
    AllByRecursion (λ (q : Pair). K q.key × V q.value) (fold with_pair set pairs)
each_fold K V set [] all more = all
each_fold K V set (p ∷ pairs) all more = each_fold K V (with_pair set p) pairs (each_put K V set p all more.0) more.1

pub canonical-each : (K V : List ℕ → Type 0) (pairs : List Pair) → AllByRecursion (λ (q : Pair). K q.key × V q.value) pairs → AllByRecursion (λ (q : Pair). K q.key × V q.value) (canonical_of pairs)
unfolding canonical_of
canonical-each K V pairs all = each_fold K V [] pairs tt all

-- Pairs whose keys rise are a set already.
-- (each further one comes behind the ones before it)
abbrev Above : List Pair → List ℕ → Type 0
Above [] key = Unit {0}
Above (q ∷ qs) key = (key_cmp q.key key ≡ Less) × Above qs key

greater : (a b : List ℕ) → key_cmp a b ≡ Less → key_cmp b a ≡ Greater
greater a b e = nat_list_cmp_total.antisymm b a ∙ ap ordering_reverse e

put_behind : (qs : List Pair) (p : Pair) → Above qs p.key → with_pair qs p ≡ qs ++ p ∷ []
put_behind [] p above = refl
put_behind (q ∷ qs) p above = rw (greater q.key p.key above.0) (ap (λ l. q ∷ l) (put_behind qs p above.1))

above_further : (qs : List Pair) (p r : Pair) → Above qs p.key → key_cmp p.key r.key ≡ Less → Above (qs ++ p ∷ []) r.key
above_further [] p r above less = (less, tt)
above_further (q ∷ qs) p r above less = (nat_list_cmp_total.trans q.key p.key r.key above.0 less, above_further qs p r above.1 less)

-- what is above the ones before the first of rising pairs
abbrev FirstAbove : List Pair → List Pair → Type 0
FirstAbove set [] = Unit {0}
FirstAbove set (p ∷ pairs) = Above set p.key

first_above : (set : List Pair) (p : Pair) (pairs : List Pair) → Above set p.key → Below p.key pairs → FirstAbove (set ++ p ∷ []) pairs
first_above set p [] above below = tt
first_above set p (r ∷ pairs) above below = above_further set p r above below

fold_behind : (set pairs : List Pair) → Rise pairs → FirstAbove set pairs → fold with_pair set pairs ≡ set ++ pairs
fold_behind set [] rise first = sym (append-nil set)
fold_behind set (p ∷ pairs) rise first =
    ap (λ s. fold with_pair s pairs) (put_behind set p first) ∙ fold_behind (set ++ p ∷ []) pairs rise.1 (first_above set p pairs first rise.0) ∙ append_assoc set (p ∷ []) pairs

first_none : (pairs : List Pair) → FirstAbove [] pairs
first_none [] = tt
first_none (p ∷ pairs) = tt

pub canonical-rising : (pairs : List Pair) → Rise pairs → canonical_of pairs ≡ pairs
unfolding canonical_of
canonical-rising pairs rise = fold_behind [] pairs rise (first_none pairs)

pub canonical-twice : (pairs : List Pair) → canonical_of (canonical_of pairs) ≡ canonical_of pairs
canonical-twice pairs = canonical-rising (canonical_of pairs) (canonical-rise pairs)
