-- Links stand for lines again once a goroutine stands at a tail, or a head is gone.
use Rattle.std.proofs.Common.{◌≡◌, ◌≢◌, ◌⊎◌, ℕ, zero, suc, ◌+◌, ◌-◌, ◌<◌, ◌≤◌, ◌^◌, false, ◌==◌, List, [], ◌∷◌, ◌++◌, length, get_or, set, drop, map, replicate, sum_by, slice_get, Some, None, refl, sym, ap, ◌∙◌, subst, inl, inr, arith, add-one}
use Rattle.std.proofs.lemmas.List.{get_or-set_same, get_or-set_other, length-set, length-map, map-set, length_push, get_or_past, set-get_or}
use Rattle.std.proofs.lemmas.Option.{none-some, get_or_from_slice_get, slice_get_within}
use Rattle.std.proofs.lemmas.List.Sums.{sum_by-cons, sum_by-set, get_or-le-sum_by}
use Rattle.std.proofs.lemmas.Bool.{cases_eq, cases_lt}
use Rattle.gp_sync.specs.declared.effect.Waiter.{Waiter}
use Rattle.gp_sync.specs.declared.lines.Line.{Line}
use Rattle.gp_sync.specs.Places.{in_line}
use Rattle.gp_sync.specs.kept.Links.{no_line, line_from, behind, line_of, lines_of, with_last, without_head, BeginsWith, AreLinked, linked, lengthened, shortened}
use Rattle.gp_sync.proofs.Counts.{place, one_at, none_at, in_line-cons, in_line_push, two_places, length-of_different}
use Rattle.gp_sync.proofs.Chains.{length-line_from, head_in, last_in, same_line, same_last, longer_line}

abbrev line_with : ℕ → ℕ → ℕ → Line
line_with h t n = record { head = h; tail = t; length = n }

not_zero : (m : ℕ) → (suc m == 0) ≡ false
not_zero m = grind arith

-- a link is written at the tail alone
link_other : (next : List ℕ) (h t n g k : ℕ) → (0 < n → k ≢ t) → get_or (linked next (line_with h t n) g) k 0 ≡ get_or next k 0
link_other next h t zero g k other = refl
link_other next h t (suc m) g k other = rw not_zero (get_or-set_other next t k g 0 (other (omega arith)))

length_linked : (next : List ℕ) (h t n g : ℕ) → length (linked next (line_with h t n) g) ≡ length next
length_linked next h t zero g = refl
length_linked next h t (suc m) g = rw not_zero (length-set next t g)

-- the line at whose tail a goroutine now stands, and that goroutine is its tail
one_longer : (next since : List ℕ) (h t n g clock : ℕ) → (0 < n → t ≡ behind next h (n - 1)) → (0 < n → t < length next) → ((k : ℕ) → in_line k (line_from next since h n) ≤ 1) → in_line g (line_from next since h n) ≡ 0 → g < length since →
    (line_of (linked next (line_with h t n) g) (set since g clock) (lengthened (line_with h t n) g) ≡ line_from next since h n ++ record { g = g; since = clock } ∷ []) ×
    (behind (linked next (line_with h t n) g) (lengthened (line_with h t n) g).head n ≡ g)
one_longer next since h t zero g clock tail bound once free born =
    let at = get_or-set_same since g clock 0 born in
    (rw at refl, refl)
one_longer next since h t (suc m) g clock tail bound once free born =
    let e : suc m - 1 ≡ m = omega arith in
    let last : t ≡ behind next h m = rw e at (tail (omega arith)) in
    let some : t < length next = bound (omega arith) in
    let row : List Waiter = line_from next since h (suc m) in
    let links : (k : ℕ) → 1 ≤ in_line k (line_from next since h (suc m)) → k ≢ behind next h m → get_or (set next t g) k 0 ≡ get_or next k 0 = λ k is_in other. get_or-set_other next t k g 0 (λ same. other (same ∙ last)) in
    let clocks : (k : ℕ) → 1 ≤ in_line k (line_from next since h (suc m)) → get_or (set since g clock) k 0 ≡ get_or since k 0 = λ k is_in.
    get_or-set_other since g k clock 0 (λ same. let free' : in_line k (line_from next since h (suc m)) ≡ 0 = rw same free in omega arith) in
    let to : get_or (set next t g) (behind next h m) 0 ≡ g = rw (← last) (get_or-set_same next t g 0 some) in
    let done = longer_line next since (set next t g) (set since g clock) h m g clock links clocks once to (get_or-set_same since g clock 0 born) in
    let links_are : linked next (line_with h t (suc m)) g ≡ set next t g = rw not_zero refl in
    let head_is : (lengthened (line_with h t (suc m)) g).head ≡ h = rw not_zero refl in
    (rw (not_zero, add-one) done.0, subst (λ (x : ℕ). behind (linked next (line_with h t (suc m)) g) x (suc m) ≡ g) (sym head_is) (subst (λ (ns : List ℕ). behind ns h (suc m) ≡ g) (sym links_are) done.1))

-- the tail of another line stays
tail_kept : (next since next' : List ℕ) (h t n : ℕ) → (0 < n → t ≡ behind next h (n - 1)) → ((k : ℕ) → 1 ≤ in_line k (line_from next since h n) → get_or next' k 0 ≡ get_or next k 0) → 0 < n → t ≡ behind next' h (n - 1)
tail_kept next since next' h t zero tail links some = absurd (omega arith)
tail_kept next since next' h t (suc m) tail links some =
    let e : suc m - 1 ≡ m = omega arith in
    let last : t ≡ behind next h m = rw e at (tail some) in
    rw e (last ∙ sym (same_last next since next' since h m links))

pub line_at : (next since : List ℕ) (lines : List Line) (i : ℕ) → get_or (lines_of next since lines) i [] ≡ line_of next since (get_or lines i no_line)
line_at next since [] i = refl
line_at next since (l ∷ ls) zero = refl
line_at next since (l ∷ ls) (suc i) = line_at next since ls i

all_same : (f f' : Line → List Waiter) (lines : List Line) → ((j : ℕ) → j < length lines → f' (get_or lines j no_line) ≡ f (get_or lines j no_line)) → map f' lines ≡ map f lines
all_same f f' [] same = refl
all_same f f' (l ∷ ls) same =
    let here : f' l ≡ f l = same 0 (omega arith) in
    let rest = all_same f f' ls (λ j lt. same (suc j) (omega arith)) in
    rw (here, rest) refl

others_same : (f f' : Line → List Waiter) (lines : List Line) (i : ℕ) (row : List Waiter) → ((j : ℕ) → j < length lines → j ≢ i → f' (get_or lines j no_line) ≡ f (get_or lines j no_line)) → set (map f' lines) i row ≡ set (map f lines) i row
others_same f f' [] i row same = refl
others_same f f' (l ∷ ls) zero row same =
    let rest = all_same f f' ls (λ j lt. same (suc j) (omega arith) (omega arith)) in
    rw rest refl
others_same f f' (l ∷ ls) (suc i) row same =
    let here : f' l ≡ f l = same 0 (omega arith) (omega arith) in
    let rest = others_same f f' ls i row (λ j lt other. same (suc j) (omega arith) (omega arith)) in
    rw (here, rest) refl

module _ (next since : List ℕ) (lines : List Line) (i : ℕ) (all : AreLinked next since lines) (within : i < length lines) where
  -- a line has no more places than all lines
  line_le : (k j : ℕ) → j < length lines → in_line k (line_of next since (get_or lines j no_line)) ≤ sum_by (in_line k) (lines_of next since lines)
  line_le k j lt =
      let lt' : j < length (lines_of next since lines) = omega (arith, length-map lines (line_of next since)) in
      rw (line_at next since lines j) at (get_or-le-sum_by (in_line k) (lines_of next since lines) j [] lt')

  line_once : (k j : ℕ) → j < length lines → in_line k (line_of next since (get_or lines j no_line)) ≤ 1
  line_once k j lt = omega (arith, line_le k j lt, all.once k)

  line_within : (k j : ℕ) → j < length lines → length next ≤ k → in_line k (line_of next since (get_or lines j no_line)) ≡ 0
  line_within k j lt past = omega (arith, line_le k j lt, all.within k past)

  -- whoever stands in a line has a cell
  pub stands_within : (k j : ℕ) → j < length lines → 1 ≤ in_line k (line_of next since (get_or lines j no_line)) → k < length next
  stands_within k j lt is_in = at (cases_lt k (length next))
    where
      at : (k < length next) ⊎ (length next ≤ k) → k < length next
      at (inl below) = below
      at (inr past) = absurd (omega (arith, line_within k j lt past))

  tail_in : (j n : ℕ) → j < length lines → (get_or lines j no_line).length ≡ n → 0 < n → 1 ≤ in_line (get_or lines j no_line).tail (line_of next since (get_or lines j no_line))
  tail_in j zero lt e some = absurd (omega arith)
  tail_in j (suc m) lt e some =
      let some' : 0 < (get_or lines j no_line).length = omega arith in
      let m_is : (get_or lines j no_line).length - 1 ≡ m = omega arith in
      let last : (get_or lines j no_line).tail ≡ behind next (get_or lines j no_line).head m = rw m_is at (all.tails j some') in
      rw (last, e) (last_in next since (get_or lines j no_line).head m)

  pub tail_within : (j : ℕ) → j < length lines → 0 < (get_or lines j no_line).length → (get_or lines j no_line).tail < length next
  tail_within j lt some = stands_within (get_or lines j no_line).tail j lt (tail_in j (get_or lines j no_line).length lt refl some)

  apart : (k j : ℕ) → j < length lines → j ≢ i → in_line k (line_of next since (get_or lines i no_line)) + in_line k (line_of next since (get_or lines j no_line)) ≤ 1
  apart k j lt other =
      let n = length-map lines (line_of next since) in
      let i' : i < length (lines_of next since lines) = omega arith in
      let j' : j < length (lines_of next since lines) = omega arith in
      let two = rw (line_at next since lines i, line_at next since lines j) at (two_places k (lines_of next since lines) i j i' j' other) in
      omega (arith, two, all.once k)

  head_in_line : (n : ℕ) → (get_or lines i no_line).length ≡ n → 0 < n → 1 ≤ in_line (get_or lines i no_line).head (line_of next since (get_or lines i no_line))
  head_in_line zero e some = absurd (omega arith)
  head_in_line (suc m) e some = rw e (head_in next since (get_or lines i no_line).head m)

  pub head_within : 0 < (get_or lines i no_line).length → (get_or lines i no_line).head < length next
  head_within some = stands_within (get_or lines i no_line).head i within (head_in_line (get_or lines i no_line).length refl some)

-- who stands first in a list, and that nobody does
starts : (w : Waiter) (row : List Waiter) → Some w ≡ slice_get row 0 → BeginsWith w row
starts w [] e = absurd (none-some w (sym e))
starts w (v ∷ rest) e = ap (λ (x : Waiter). x ∷ rest) (get_or_from_slice_get (v ∷ rest) 0 w v (sym e))

nobody : (row : List Waiter) → None ≡ slice_get row 0 → row ≡ []
nobody [] e = refl
nobody (v ∷ rest) e = absurd (none-some v e)

module _ (next since : List ℕ) (lines : List Line) (i : ℕ) where
  -- the head of a line
  pub first_at : (w : Waiter) → Some w ≡ slice_get (line_of next since (get_or lines i no_line)) 0 → BeginsWith w (get_or (lines_of next since lines) i [])
  first_at w e =
      rw (line_at next since lines i) (starts w (line_of next since (get_or lines i no_line)) e)

  -- a line with a head isn't empty
  pub some_at : (w : Waiter) → Some w ≡ slice_get (line_of next since (get_or lines i no_line)) 0 → 0 < (get_or lines i no_line).length
  some_at w e =
      omega (arith, slice_get_within (line_of next since (get_or lines i no_line)) 0 w (sym e), length-line_from next since (get_or lines i no_line).head (get_or lines i no_line).length)

  -- nobody stands in a line without a head
  pub empty_line : None ≡ slice_get (line_of next since (get_or lines i no_line)) 0 → get_or (lines_of next since lines) i [] ≡ []
  empty_line e = line_at next since lines i ∙ nobody (line_of next since (get_or lines i no_line)) e

-- a line on which nobody stands stays without a head
pub no_head : (lines : List (List Waiter)) (i : ℕ) → get_or lines i [] ≡ [] → without_head lines i ≡ lines
no_head lines i none =
    ap (λ (row : List Waiter). set lines i (drop 1 row)) none
    ∙ ap (set lines i) (sym none)
    ∙ set-get_or lines i []

-- A goroutine that stands nowhere comes to the tail of a line.
module _ (next since : List ℕ) (lines : List Line) (i g clock : ℕ) (all : AreLinked next since lines) (within : i < length lines) (born : g < length next) (free : sum_by (in_line g) (lines_of next since lines) ≡ 0) where
  abbrev line : Line
  line = get_or lines i no_line

  abbrev row : List Waiter
  row = line_of next since line

  abbrev newcomer : Waiter
  newcomer = record { g = g; since = clock }

  abbrev next' : List ℕ
  next' = linked next line g

  abbrev since' : List ℕ
  since' = set since g clock

  abbrev lines' : List Line
  lines' = set lines i (lengthened line g)

  nowhere : (j : ℕ) → j < length lines → in_line g (line_of next since (get_or lines j no_line)) ≡ 0
  nowhere j lt = omega (arith, line_le next since lines i all within g j lt)

  longer : (line_of next' since' (lengthened line g) ≡ row ++ newcomer ∷ []) × (behind next' (lengthened line g).head line.length ≡ g)
  longer =
      let born' : g < length since = omega (arith, all.clocks) in
      one_longer next since line.head line.tail line.length g clock (all.tails i) (tail_within next since lines i all within i within) (λ k. line_once next since lines i all within k i within) (nowhere i within) born'

  -- the links of who stands in another line
  kept_link : (j : ℕ) → j < length lines → j ≢ i → (k : ℕ) → 1 ≤ in_line k (line_of next since (get_or lines j no_line)) → get_or next' k 0 ≡ get_or next k 0
  kept_link j lt other k is_in =
      link_other next line.head line.tail line.length g k (λ some same.
      let there = tail_in next since lines i all within i line.length within refl some in
      let there' : 1 ≤ in_line k row = rw same there in
      omega (arith, there', apart next since lines i all within k j lt other))

  kept_clock : (j : ℕ) → j < length lines → (k : ℕ) → 1 ≤ in_line k (line_of next since (get_or lines j no_line)) → get_or since' k 0 ≡ get_or since k 0
  kept_clock j lt k is_in =
      get_or-set_other since g k clock 0 (λ same.
      let none : in_line k (line_of next since (get_or lines j no_line)) ≡ 0 = rw same (nowhere j lt) in
      omega (arith, none))

  kept : (j : ℕ) → j < length lines → j ≢ i → line_of next' since' (get_or lines j no_line) ≡ line_of next since (get_or lines j no_line)
  kept j lt other =
      same_line next since next' since' (get_or lines j no_line).head (get_or lines j no_line).length (kept_link j lt other) (kept_clock j lt)

  pub lines_pushed : lines_of next' since' lines' ≡ set (lines_of next since lines) i (row ++ newcomer ∷ [])
  lines_pushed =
      let one = map-set (line_of next' since') lines i (lengthened line g) in
      let two = others_same (line_of next since) (line_of next' since') lines i (row ++ newcomer ∷ []) kept in
      rw (one, longer.0) two

  -- the lines, named by what they were
  pub with_pushed : lines_of next' since' lines' ≡ with_last (lines_of next since lines) i newcomer
  with_pushed = rw (line_at next since lines i) lines_pushed

  places_pushed : (k : ℕ) → sum_by (in_line k) (lines_of next' since' lines') ≡ sum_by (in_line k) (lines_of next since lines) + place g k
  places_pushed k =
      let n = length-map lines (line_of next since) in
      let lt : i < length (lines_of next since lines) = omega arith in
      let moved = rw (line_at next since lines i) at (sum_by-set (in_line k) (lines_of next since lines) i (row ++ newcomer ∷ []) [] lt) in
      rw lines_pushed (omega (arith, moved, in_line_push k row newcomer))

  once_pushed : (k : ℕ) → (g ≡ k) ⊎ (g ≢ k) → sum_by (in_line k) (lines_of next' since' lines') ≤ 1
  once_pushed k (inl same) =
      let none : sum_by (in_line k) (lines_of next since lines) ≡ 0 = rw (← same) free in
      omega (arith, places_pushed k, one_at g k same, none)
  once_pushed k (inr other) = omega (arith, places_pushed k, none_at g k other, all.once k)

  within_pushed : (k : ℕ) → length next ≤ k → sum_by (in_line k) (lines_of next' since' lines') ≡ 0
  within_pushed k past = omega (arith, places_pushed k, none_at g k (omega arith), all.within k past)

  abbrev TailIsLast : List ℕ → Line → Type 0
  TailIsLast links l = 0 < l.length → l.tail ≡ behind links l.head (l.length - 1)

  tail_pushed : (j : ℕ) → (j ≡ i) ⊎ (j ≢ i) → (j < length lines) ⊎ (length lines ≤ j) → TailIsLast next' (get_or lines' j no_line)
  tail_pushed j (inl same) lt =
      subst (λ n. TailIsLast next' (get_or lines' n no_line)) (sym same)
      (rw (get_or-set_same lines i (lengthened line g) no_line within)
      (λ some.
      let e : line.length + 1 - 1 ≡ line.length = omega arith in
      rw e (sym longer.1)))
  tail_pushed j (inr other) (inl lt) =
      rw (get_or-set_other lines i j (lengthened line g) no_line other)
      (tail_kept next since next' (get_or lines j no_line).head (get_or lines j no_line).tail (get_or lines j no_line).length (all.tails j) (kept_link j lt other))
  tail_pushed j (inr other) (inr past) =
      rw (get_or-set_other lines i j (lengthened line g) no_line other, get_or_past lines j no_line past)
      (λ some. absurd (omega arith))

  pub linked_pushed : AreLinked next' since' lines'
  linked_pushed =
      let n = length_linked next line.head line.tail line.length g in
      record {
        few = omega (arith, n, all.few);
        clocks = length-set since g clock ∙ all.clocks ∙ sym n;
        once = λ k. once_pushed k (cases_eq g k);
        within = λ k past. within_pushed k (omega arith);
        tails = λ j. tail_pushed j (cases_eq j i) (cases_lt j (length lines));
      }

  -- there is a number for one more in the line
  pub room : line.length + 1 < 2 ^ 32
  room =
      let once : (k : ℕ) → in_line k (row ++ newcomer ∷ []) ≤ 1 = λ k. once_at k (cases_eq g k) in
      let none : (k : ℕ) → length next ≤ k → in_line k (row ++ newcomer ∷ []) ≡ 0 = λ k past. omega (arith, in_line_push k row newcomer, none_at g k (omega arith), line_within next since lines i all within k i within past) in
      omega (arith, length-of_different (length next) (row ++ newcomer ∷ []) once none, length_push row newcomer, length-line_from next since line.head line.length, all.few)
    where
      once_at : (k : ℕ) → (g ≡ k) ⊎ (g ≢ k) → in_line k (row ++ newcomer ∷ []) ≤ 1
      once_at k (inl same) =
          let none : in_line k row ≡ 0 = rw (← same) (nowhere i within) in
          omega (arith, in_line_push k row newcomer, one_at g k same, none)
      once_at k (inr other) = omega (arith, in_line_push k row newcomer, none_at g k other, line_once next since lines i all within k i within)

-- The head of a line goes.
drop_le : (k : ℕ) (row : List Waiter) → in_line k (drop 1 row) ≤ in_line k row
drop_le k [] = omega arith
drop_le k (w ∷ rest) = omega (arith, in_line-cons k w rest)

shorter_row : (next since : List ℕ) (h t n : ℕ) → line_of next since (shortened next (line_with h t n)) ≡ drop 1 (line_from next since h n)
shorter_row next since h t zero = refl
shorter_row next since h t (suc m) = let e : suc m - 1 ≡ m = omega arith in rw e refl

shorter_tail : (next : List ℕ) (h t n : ℕ) → (0 < n → t ≡ behind next h (n - 1)) → 0 < n - 1 → t ≡ behind next (get_or next h 0) (n - 1 - 1)
shorter_tail next h t zero tail some = absurd (omega arith)
shorter_tail next h t (suc zero) tail some = absurd (omega arith)
shorter_tail next h t (suc (suc m)) tail some =
    let e : suc (suc m) - 1 ≡ suc m = omega arith in
    let f : suc m - 1 ≡ m = omega arith in
    let last : t ≡ behind next h (suc m) = rw e at (tail (omega arith)) in
    rw (e, f) last

module _ (next since : List ℕ) (lines : List Line) (i : ℕ) (all : AreLinked next since lines) (within : i < length lines) where
  abbrev shorter : List Line
  shorter = set lines i (shortened next (get_or lines i no_line))

  pub lines_popped : lines_of next since shorter ≡ set (lines_of next since lines) i (drop 1 (line_of next since (get_or lines i no_line)))
  lines_popped =
      map-set (line_of next since) lines i (shortened next (get_or lines i no_line))
      ∙ ap (set (lines_of next since lines) i) (shorter_row next since (get_or lines i no_line).head (get_or lines i no_line).tail (get_or lines i no_line).length)

  places_popped : (k : ℕ) → sum_by (in_line k) (lines_of next since shorter) ≤ sum_by (in_line k) (lines_of next since lines)
  places_popped k =
      let n = length-map lines (line_of next since) in
      let lt : i < length (lines_of next since lines) = omega arith in
      let rest = drop 1 (line_of next since (get_or lines i no_line)) in
      let moved = rw (line_at next since lines i) at (sum_by-set (in_line k) (lines_of next since lines) i rest [] lt) in
      rw lines_popped (omega (arith, moved, drop_le k (line_of next since (get_or lines i no_line))))

  tail_popped : (j : ℕ) → (j ≡ i) ⊎ (j ≢ i) → 0 < (get_or shorter j no_line).length → (get_or shorter j no_line).tail ≡ behind next (get_or shorter j no_line).head ((get_or shorter j no_line).length - 1)
  tail_popped j (inl same) =
      subst (λ n. 0 < (get_or shorter n no_line).length → (get_or shorter n no_line).tail ≡ behind next (get_or shorter n no_line).head ((get_or shorter n no_line).length - 1)) (sym same)
      (rw (get_or-set_same lines i (shortened next (get_or lines i no_line)) no_line within)
      (shorter_tail next (get_or lines i no_line).head (get_or lines i no_line).tail (get_or lines i no_line).length (all.tails i)))
  tail_popped j (inr other) = rw (get_or-set_other lines i j (shortened next (get_or lines i no_line)) no_line other) (all.tails j)

  pub linked_popped : AreLinked next since shorter
  linked_popped = record {
    few = all.few;
    clocks = all.clocks;
    once = λ k. omega (arith, places_popped k, all.once k);
    within = λ k past. omega (arith, places_popped k, all.within k past);
    tails = λ j. tail_popped j (cases_eq j i);
  }

  -- the lines, named by what they were
  pub without_popped : lines_of next since shorter ≡ without_head (lines_of next since lines) i
  without_popped = rw (line_at next since lines i) lines_popped

-- Nobody stands in lines that are all empty.
empty_lines : (next since : List ℕ) (n : ℕ) → lines_of next since (replicate n no_line) ≡ replicate n []
empty_lines next since zero = refl
empty_lines next since (suc n) = ap (λ (rest : List (List Waiter)). [] ∷ rest) (empty_lines next since n)

nobody_in : (k n : ℕ) → sum_by (in_line k) (replicate n []) ≡ 0
nobody_in k zero = refl
nobody_in k (suc n) = omega (arith, sum_by-cons (in_line k) [] (replicate n []), nobody_in k n)

empty_at : (i n : ℕ) → get_or (replicate n no_line) i no_line ≡ no_line
empty_at i zero = refl
empty_at zero (suc n) = refl
empty_at (suc i) (suc n) = empty_at i n

pub lines_new : (next since : List ℕ) (lines : List Line) (n : ℕ) → lines ≡ replicate n no_line → lines_of next since lines ≡ replicate n []
lines_new next since lines n e = rw e (empty_lines next since n)

pub linked_new : (next since : List ℕ) (lines : List Line) (n : ℕ) → length next < 2 ^ 32 → length since ≡ length next → lines ≡ replicate n no_line → AreLinked next since lines
linked_new next since lines n few clocks e = record {
  few = few;
  clocks = clocks;
  once = λ k. let none = none_of k in omega arith;
  within = λ k past. none_of k;
  tails = λ i some. let empty : get_or lines i no_line ≡ no_line = rw e (empty_at i n) in let some' : 0 < 0 = rw empty at some in absurd (omega arith);
}
  where
    none_of : (k : ℕ) → sum_by (in_line k) (lines_of next since lines) ≡ 0
    none_of k = rw (lines_new next since lines n e) (nobody_in k n)
