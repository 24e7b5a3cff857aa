-- Points that are passed one after another: what is left, and the labels.
use Rattle.std.proofs.Common.{◌≡◌, ◌≤◌, ◌+◌, ◌-◌, ℕ, zero, suc, Bool, true, false, cond, List, [], ◌∷◌, ◌++◌, length, drop, take, replicate, get_or, refl, ap, sym, ◌∙◌, arith}
use Rattle.std.proofs.lemmas.List.{drop-drop, drop_at, take-append-le, take-replicate, drop-append-le, drop-replicate, get_or-drop, length-replicate}
use Rattle.std.specs.List.{prefix_len}
use Rattle.gp_isa.specs.Trace.{Local, Point, is_local}
use Rattle.gp_stack.specs.Goroutine.{no_point, next_point, set_after, set_after_all, labels_of, local_ahead}

after_append : (set : ℕ) (xs ys : List Point) → set_after_all set (xs ++ ys) ≡ set_after_all (set_after_all set xs) ys
after_append set [] ys = refl
after_append set (x ∷ xs) ys = after_append (set_after set x.instruction) xs ys

take_none : {X : Type 0} (n k : ℕ) → take {A = X} (suc (n + k)) [] ≡ take (suc n) [] ++ take k (drop (suc n) [])
take_none n zero = refl
take_none n (suc k) = refl

pub take_add : {X : Type 0} (n k : ℕ) (xs : List X) → take (n + k) xs ≡ take n xs ++ take k (drop n xs)
take_add zero k xs = let e : 0 + k ≡ k = omega arith in rw e refl
take_add (suc n) k [] = let e : suc n + k ≡ suc (n + k) = omega arith in rw e (take_none n k)
take_add (suc n) k (x ∷ xs) = let e : suc n + k ≡ suc (n + k) = omega arith in rw (e, take_add n k xs) refl

-- the labels after more points
pub labels_more : (points : List Point) (set count k : ℕ) → labels_of points set (count + k) ≡ set_after_all (labels_of points set count) (take k (drop count points))
unfolding labels_of
labels_more points set count k =
    ap (set_after_all set) (take_add count k points) ∙ after_append set (take count points) (take k (drop count points))

plain : (set k : ℕ) (p : Point) → p.instruction ≡ Local → set_after_all set (replicate k p) ≡ set
plain set zero p local = refl
plain set (suc k) p local = ap (λ i. set_after_all (set_after set i) (replicate k p)) local ∙ plain set k p local

-- the points of work still to come are local ones
pub work_left : (n passed : ℕ) (p : Point) (rest : List Point) → passed ≤ n → drop passed (replicate n p ++ rest) ≡ replicate (n - passed) p ++ rest
work_left n passed p rest few =
    drop-append-le passed (replicate n p) rest (omega (arith, length-replicate n p)) ∙ ap (λ xs. xs ++ rest) (drop-replicate passed n p)

-- and change no labels
pub work_labels : (set n passed k : ℕ) (p : Point) (rest : List Point) → p.instruction ≡ Local → passed + k ≤ n → set_after_all set (take k (drop passed (replicate n p ++ rest))) ≡ set
work_labels set n passed k p rest local few =
    ap (λ xs. set_after_all set (take k xs)) (work_left n passed p rest (omega arith)) ∙
    (ap (set_after_all set) (take-append-le k (replicate (n - passed) p) rest (omega (arith, length-replicate (n - passed) p)) ∙ take-replicate k (n - passed) p (omega arith)) ∙
    plain set k p local)

-- what is left once a statement was passed whole
pub passed_whole : (xs rest points : List Point) (passed count k : ℕ) → length xs ≡ passed + k → drop passed (xs ++ rest) ≡ drop count points → drop (count + k) points ≡ rest
passed_whole xs rest points passed count k whole same =
    sym (drop-drop k count points) ∙ (ap (drop k) (sym same) ∙ (drop-drop k passed (xs ++ rest) ∙ drop_at xs rest (passed + k) whole))

prefix_le : (test : Point → Bool) (xs : List Point) → prefix_len test xs ≤ length xs
prefix_le test [] = omega arith
prefix_le test (x ∷ xs) = prefix_cons (test x) (prefix_le test xs)
  where
    prefix_cons : (b : Bool) → prefix_len test xs ≤ length xs → cond b (1 + prefix_len test xs) 0 ≤ suc (length xs)
    prefix_cons true h = omega arith
    prefix_cons false h = omega arith

pub local_ahead_le : (points : List Point) (count : ℕ) → local_ahead points count ≤ length (drop count points)
unfolding local_ahead
local_ahead_le points count = prefix_le (λ point. is_local point.instruction) (drop count points)

prefix_drop : (test : Point → Bool) (xs : List Point) (k : ℕ) → k ≤ prefix_len test xs → prefix_len test (drop k xs) + k ≡ prefix_len test xs
prefix_drop test xs zero few = omega arith
prefix_drop test [] (suc k) few = absurd (omega arith)
prefix_drop test (x ∷ xs) (suc k) few = prefix_more (test x) few (λ h. prefix_drop test xs k h)
  where
    prefix_more : (b : Bool) → suc k ≤ cond b (1 + prefix_len test xs) 0 → (k ≤ prefix_len test xs → prefix_len test (drop k xs) + k ≡ prefix_len test xs) → prefix_len test (drop k xs) + suc k ≡ cond b (1 + prefix_len test xs) 0
    prefix_more true h r = let e : prefix_len test (drop k xs) + k ≡ prefix_len test xs = r (omega arith) in omega arith
    prefix_more false h r = absurd (omega arith)

-- fewer local points are ahead once some were passed
pub local_ahead_more : (points : List Point) (count k : ℕ) → k ≤ local_ahead points count → local_ahead points (count + k) + k ≡ local_ahead points count
unfolding local_ahead
local_ahead_more points count k few =
    ap (λ xs. prefix_len (λ point. is_local point.instruction) xs + k) (sym (drop-drop k count points)) ∙
    prefix_drop (λ point. is_local point.instruction) (drop count points) k few

pub next_is : (points : List Point) (count : ℕ) → next_point points count ≡ get_or (drop count points) 0 no_point
unfolding next_point
next_is points count = sym (get_or-drop count points 0 no_point ∙ ap (λ i. get_or points i no_point) (omega arith))

pub no_local : (points rest : List Point) (count : ℕ) (p : Point) → drop count points ≡ p ∷ rest → is_local p.instruction ≡ false → local_ahead points count ≡ 0
unfolding local_ahead
no_local points rest count p next shared = rw (next, prefix_len, shared) refl

pub none_ahead : (points : List Point) (count : ℕ) → drop count points ≡ [] → local_ahead points count ≡ 0
unfolding local_ahead
none_ahead points count over = rw over refl
