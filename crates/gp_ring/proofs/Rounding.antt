-- The records of a batch, which may go over the end of the ring once.
use Rattle.std.proofs.Common.{◌≡◌, ℕ, zero, suc, ◌+◌, ◌-◌, ◌%◌, ◌<◌, ◌≤◌, List, [], ◌∷◌, ◌++◌, length, take, drop, get_or, refl, ap, sym, subst, ◌∙◌, append-nil, arith, ◌⊎◌, inl, inr}
use Rattle.std.specs.Prelude.{◌==◌, if◌then◌else◌}
use Rattle.std.specs.List.{flat_map}
use Rattle.std.proofs.Math.Nat.{mod-lt}
use Rattle.std.proofs.Math.Seq.{drop-cons}
use Rattle.std.proofs.lemmas.List.{take-append-drop, drop-take}
use Rattle.std.proofs.lemmas.Bool.Decides.{nat_tests}
use Rattle.gp_layout.specs.Spelling.{size_of}
use Rattle.gp_ring.specs.kept.Slots.{word_at, span, starts_at, size_at, ends_at, records_at, tags_at, Lie}
use Rattle.gp_ring.proofs.Rounds.{mod-add, mod-up}
use Rattle.std.proofs.lemmas.List.Concat.{flat_map-append}
use Rattle.gp_ring.proofs.Lying.{starts_from, lie-order, lie-append, records-append, tags-append}

zero_plus : (n : ℕ) → n ≡ 0 + n
zero_plus n = omega arith

suc_plus : (a n : ℕ) → suc (a + n) ≡ suc a + n
suc_plus a n = omega arith

suc_plus' : (a n : ℕ) → suc a + n ≡ suc (a + n)
suc_plus' a n = omega arith

-- a part of the ring's words
abbrev pub part : List ℕ → ℕ → ℕ → List ℕ
part xs at n = take n (drop at xs)

shift : (c i : ℕ) → c + 1 + i ≡ c + suc i
shift c i = omega arith

shift2 : (at i : ℕ) → at + suc i ≡ suc at + i
shift2 at i = omega arith

drop-nil : (n : ℕ) → drop {A = ℕ} n [] ≡ []
drop-nil zero = refl
drop-nil (suc n) = refl

drop-drop : (at n : ℕ) (xs : List ℕ) → drop n (drop at xs) ≡ drop (at + n) xs
drop-drop zero n xs = ap (λ (k : ℕ). drop k xs) (zero_plus n)
drop-drop (suc at) n [] = drop-nil n ∙ sym (drop-nil (suc at + n))
drop-drop (suc at) n (x ∷ xs) = drop-drop at n xs ∙ ap (λ (k : ℕ). drop k (x ∷ xs)) (suc_plus at n)

take-nil : (n : ℕ) → take {A = ℕ} n [] ≡ []
take-nil zero = refl
take-nil (suc n) = refl

take-take : (n m : ℕ) (xs : List ℕ) → take n (take (n + m) xs) ≡ take n xs
take-take zero m xs = refl
take-take (suc n) m [] = ap (take (suc n)) (take-nil (suc n + m))
take-take (suc n) m (x ∷ xs) = ap (λ (k : ℕ). take (suc n) (take k (x ∷ xs))) (suc_plus' n m) ∙ ap (λ (ys : List ℕ). x ∷ ys) (take-take n m xs)

none-left : (xs : List ℕ) (len h n c e : ℕ) → Lie xs len h n c e → e - c ≡ 0 → flat_map (λ ws. ws) (records_at xs len n c) ≡ []
none-left xs len h zero c e l z = refl
none-left xs len h (suc n) c e l z =
    let s = starts_from xs len c in
    let o = lie-order xs len h n (ends_at xs len c) e l.2 in
    let big : size_of h 0 ≤ size_at xs len c = l.0 in
    absurd (omega arith)

plus_zero : (c : ℕ) → c + 0 ≡ c
plus_zero c = omega arith

-- a part, and what stands behind it
pub part-more : (xs : List ℕ) (at n m : ℕ) → part xs at n ++ part xs (at + n) m ≡ part xs at (n + m)
part-more xs at n m =
    let whole = take (n + m) (drop at xs) in
    ap (λ (ys : List ℕ). take n (drop at xs) ++ take m ys) (sym (drop-drop at n xs))
    ∙ ap (λ (ys : List ℕ). take n (drop at xs) ++ ys) (sym (drop-take n m (drop at xs)))
    ∙ ap (λ (ys : List ℕ). ys ++ drop n (take (n + m) (drop at xs))) (sym (take-take n m (drop at xs)))
    ∙ take-append-drop n (take (n + m) (drop at xs))

-- words in one round lie in one part
span-at : (xs : List ℕ) (len n c at : ℕ) → length xs ≡ len → at + n ≤ len → ((i : ℕ) → i < n → (c + i) % len ≡ at + i) → span xs len n c ≡ part xs at n
span-at xs len zero c at e h f = refl
span-at xs len (suc n) c at e h f =
    let inside : at < length xs = omega arith in
    let here : c % len ≡ at = ap (λ (k : ℕ). k % len) (sym (plus_zero c)) ∙ f 0 (omega arith) ∙ plus_zero at in
    ap (λ (k : ℕ). get_or xs k 0 ∷ span xs len n (c + 1)) here
    ∙ ap (λ (ws : List ℕ). get_or xs at 0 ∷ ws) (span-at xs len n (c + 1) (suc at) e (omega arith) (λ i k. ap (λ (j : ℕ). j % len) (shift c i) ∙ f (suc i) (omega arith) ∙ shift2 at i))
    ∙ sym (ap (take (suc n)) (drop-cons xs at 0 inside))

pub span-part : (xs : List ℕ) (len n c : ℕ) → length xs ≡ len → c % len + n ≤ len → span xs len n c ≡ part xs (c % len) n
span-part xs len n c e h = span-at xs len n c (c % len) e h (λ i k. mod-add c i len (omega arith))

if_zero : (n x y : ℕ) → n ≡ 0 → (if n == 0 then x else y) ≡ x
if_zero n x y h = ap (λ (k : ℕ). if k == 0 then x else y) h

if_some : (n x y : ℕ) → 0 < n → (if n == 0 then x else y) ≡ y
if_some n x y h = grind (arith, nat_tests)

-- where a mark stands the next record starts in the next round
zero_or_some : (n : ℕ) → (n ≡ 0) ⊎ (0 < n)
zero_or_some zero = inl refl
zero_or_some (suc n) = inr (omega arith)

-- records in one round stand without marks
starts_here : (xs : List ℕ) (len h n c e : ℕ) → 0 < len → Lie xs len h (suc n) c e → c % len + (e - c) ≤ len → starts_at xs len c ≡ c
starts_here xs len h n c e pos l b =
    let o = lie-order xs len h n (ends_at xs len c) e l.2 in
    let big : size_of h 0 ≤ size_at xs len c = l.0 in
    let r : c % len < len = mod-lt c pos in
    elim (zero_or_some (word_at xs len c)) as (λ _. starts_at xs len c ≡ c) [
      | inl z ↦ (let s : starts_at xs len c ≡ c + (len - c % len) = if_zero (word_at xs len c) (c + (len - c % len)) c z in absurd (omega arith))
      | inr z ↦ if_some (word_at xs len c) (c + (len - c % len)) c z
    ]

pub in-one-round : (xs : List ℕ) (len h n c e : ℕ) → 0 < len → length xs ≡ len → Lie xs len h n c e → c % len + (e - c) ≤ len
    → flat_map (λ ws. ws) (records_at xs len n c) ≡ part xs (c % len) (e - c)
in-one-round xs len h zero c e pos w l b = ap (λ (k : ℕ). take k (drop (c % len) xs)) (let a : c ≡ e = l in let z : 0 ≡ e - c = omega arith in z)
in-one-round xs len h (suc n) c e pos w l b =
    let s = starts_here xs len h n c e pos l b in
    let size = size_at xs len c in
    let o = lie-order xs len h n (ends_at xs len c) e l.2 in
    let ends : ends_at xs len c ≡ c + size_at xs len c = omega arith in
    let m : span xs len (size_at xs len c) (starts_at xs len c) ≡ part xs (c % len) (size_at xs len c) = ap (span xs len (size_at xs len c)) s ∙ span-part xs len (size_at xs len c) c w (omega arith) in
    let total : size_at xs len c + (e - ends_at xs len c) ≡ e - c = omega arith in
    elim (zero_or_some (e - ends_at xs len c)) as (λ _. flat_map (λ ws. ws) (records_at xs len (suc n) c) ≡ part xs (c % len) (e - c)) [
      | inl z ↦
          ap (λ (ws : List ℕ). ws ++ flat_map (λ us. us) (records_at xs len n (ends_at xs len c))) m
          ∙ ap (λ (ws : List ℕ). part xs (c % len) (size_at xs len c) ++ ws) (none-left xs len h n (ends_at xs len c) e l.2 z)
          ∙ append-nil (part xs (c % len) (size_at xs len c))
          ∙ ap (part xs (c % len)) (let t : size_at xs len c ≡ e - c = omega arith in t)
      | inr z ↦
          let there : ends_at xs len c % len ≡ c % len + size_at xs len c = ap (λ (k : ℕ). k % len) ends ∙ mod-add c (size_at xs len c) len (omega arith) in
          ap (λ (ws : List ℕ). ws ++ flat_map (λ us. us) (records_at xs len n (ends_at xs len c))) m
          ∙ ap (λ (ws : List ℕ). part xs (c % len) (size_at xs len c) ++ ws) (in-one-round xs len h n (ends_at xs len c) e pos w l.2 (omega arith))
          ∙ ap (λ (k : ℕ). part xs (c % len) (size_at xs len c) ++ part xs k (e - ends_at xs len c)) there
          ∙ part-more xs (c % len) (size_at xs len c) (e - ends_at xs len c)
          ∙ ap (part xs (c % len)) total
    ]

-- the records that start in the next round
next-round : (xs : List ℕ) (len h m c e next : ℕ) → 0 < len → length xs ≡ len → Lie xs len h (suc m) c e → starts_at xs len c ≡ next → next % len ≡ 0 → e ≤ next + len
    → flat_map (λ ws. ws) (records_at xs len (suc m) c) ≡ take (e - next) xs
next-round xs len h m c e next pos w l s z b =
    let big : size_of h 0 ≤ size_at xs len c = l.0 in
    let word : word_at xs len next ≡ size_at xs len c = ap (word_at xs len) (sym s) in
    let same : starts_at xs len next ≡ next = if_some (word_at xs len next) (next + (len - next % len)) next (omega arith) in
    let f = λ (k : ℕ). span xs len (word_at xs len k) k ∷ records_at xs len m (k + word_at xs len k) in
    let g = λ (k : ℕ). (size_of h 0 ≤ word_at xs len k) × (k % len + word_at xs len k ≤ len) × Lie xs len h m (k + word_at xs len k) e in
    let there : Lie xs len h (suc m) next e = subst g (s ∙ sym same) l in
    ap (λ (wss : List (List ℕ)). flat_map (λ ws. ws) wss) (ap f (s ∙ sym same))
    ∙ in-one-round xs len h (suc m) next e pos w there (omega arith)
    ∙ ap (λ (k : ℕ). take (e - next) (drop k xs)) z

pub record IsWalked (xs : List ℕ) (h records from to at place i : ℕ) : Type 0 where
  pub low : at ≤ place
  pub high : place ≤ length xs
  pub count : i ≤ records
  pub front : flat_map (λ ws. ws) (records_at xs (length xs) i from) ≡ part xs at (place - at)
  pub lie : Lie xs (length xs) h i from (from + (place - at))
  pub behind : Lie xs (length xs) h (records - i) (from + (place - at)) to

module _ (xs : List ℕ) (h records from to at place i : ℕ) (pos : 0 < length xs) (at_is : at ≡ from % length xs) (k : IsWalked xs h records from to at place i) where
  count_is : place < length xs → (from + (place - at)) % length xs ≡ place
  count_is p = (let a : at ≤ place = k.low in let m = mod-add from (place - at) (length xs) (omega (arith, at_is, p)) in omega (arith, at_is, m))

  more : i < records → Lie xs (length xs) h (suc (records - suc i)) (from + (place - at)) to
  more q = subst (λ (n : ℕ). Lie xs (length xs) h n (from + (place - at)) to) (let e : records - i ≡ suc (records - suc i) = omega arith in e) k.behind

  pub walk-step : place < length xs → 0 < get_or xs place 0 → i < records → IsWalked xs h records from to at (place + get_or xs place 0) (i + 1)
  walk-step p q r =
      let len = length xs in
      let c = from + (place - at) in
      let l = more r in
      let a : at ≤ place = k.low in
      let ci = count_is p in
      let word : word_at xs len c ≡ get_or xs place 0 = ap (λ (n : ℕ). get_or xs n 0) ci in
      let s : starts_at xs len c ≡ c = if_some (word_at xs len c) (c + (len - c % len)) c (omega arith) in
      let size : size_at xs len c ≡ get_or xs place 0 = ap (word_at xs len) s ∙ word in
      let fits : c % len + size_at xs len c ≤ len = subst (λ (n : ℕ). n % len + size_at xs len c ≤ len) s l.1 in
      let one : Lie xs len h 1 c (c + get_or xs place 0) = (l.0, l.1, (let e : ends_at xs len c ≡ c + get_or xs place 0 = omega arith in e)) in
      let step : c + get_or xs place 0 ≡ from + (place + get_or xs place 0 - at) = omega arith in
      let words : flat_map (λ ws. ws) (records_at xs len 1 c) ≡ part xs place (get_or xs place 0) =
      append-nil (span xs len (size_at xs len c) (starts_at xs len c)) ∙ ap (λ (n : ℕ). span xs len n (starts_at xs len c)) size ∙ ap (span xs len (get_or xs place 0)) s
      ∙ span-part xs len (get_or xs place 0) c refl (omega arith) ∙ ap (λ (n : ℕ). part xs n (get_or xs place 0)) ci in
      let here : at + (place - at) ≡ place = omega arith in
      let total : (place - at) + get_or xs place 0 ≡ place + get_or xs place 0 - at = omega arith in
      record {
        low = omega arith;
        high = omega arith;
        count = omega arith;
        front =
            ap (λ (wss : List (List ℕ)). flat_map (λ ws. ws) wss) (records-append xs len h i 1 from c k.lie)
            ∙ flat_map-append (λ (ws : List ℕ). ws) (records_at xs len i from) (records_at xs len 1 c)
            ∙ ap (λ (ws : List ℕ). ws ++ flat_map (λ us. us) (records_at xs len 1 c)) k.front
            ∙ ap (λ (ws : List ℕ). part xs at (place - at) ++ ws) words
            ∙ ap (λ (n : ℕ). part xs at (place - at) ++ part xs n (get_or xs place 0)) (sym here)
            ∙ part-more xs at (place - at) (get_or xs place 0)
            ∙ ap (part xs at) total;
        lie = subst (Lie xs len h (i + 1) from) step (lie-append xs len h i 1 from c (c + get_or xs place 0) k.lie one);
        behind = subst (λ (n : ℕ). Lie xs len h n (from + (place + get_or xs place 0 - at)) to) (let e : records - suc i ≡ records - (i + 1) = omega arith in e)
            (subst (λ (n : ℕ). Lie xs len h (records - suc i) n to) (let e : ends_at xs len c ≡ from + (place + get_or xs place 0 - at) = omega arith in e) l.2);
      }

  pub walk-stop : i < records → from ≤ to → to ≤ from + length xs → length xs < at + (to - from) → (place ≡ length xs) ⊎ ((place < length xs) × (get_or xs place 0 ≡ 0))
      → flat_map (λ ws. ws) (records_at xs (length xs) records from) ≡ part xs at (place - at) ++ take ((at + (to - from)) - length xs) xs
  walk-stop r order within over how =
      let len = length xs in
      let c = from + (place - at) in
      let next = from + (len - at) in
      let l = more r in
      let a : at ≤ place = k.low in
      let small : from % len < len = mod-lt from pos in
      let o = lie-order xs len h (records - suc i) (ends_at xs len c) to l.2 in
      let big : size_of h 0 ≤ size_at xs len c = l.0 in
      let up : next % len ≡ 0 = ap (λ (n : ℕ). (from + (len - n)) % len) at_is ∙ mod-up from len pos in
      let start : starts_at xs len c ≡ next = elim how as (λ _. starts_at xs len c ≡ next) [
        | inl full ↦
            let cn : c ≡ next = omega arith in
            let z : c % len ≡ 0 = ap (λ (n : ℕ). n % len) cn ∙ up in
            elim (zero_or_some (word_at xs len c)) as (λ _. starts_at xs len c ≡ next) [
              | inl w ↦ (let s : starts_at xs len c ≡ c + (len - c % len) = if_zero (word_at xs len c) (c + (len - c % len)) c w in absurd (omega arith))
              | inr w ↦ if_some (word_at xs len c) (c + (len - c % len)) c w ∙ cn
            ]
        | inr mark ↦
            let p : place < len = mark.0 in
            let ci = count_is p in
            let w : word_at xs len c ≡ 0 = ap (λ (n : ℕ). get_or xs n 0) ci ∙ mark.1 in
            let s : starts_at xs len c ≡ c + (len - c % len) = if_zero (word_at xs len c) (c + (len - c % len)) c w in
            omega arith
      ] in
      let parts : records ≡ i + suc (records - suc i) = omega arith in
      let rest : to - next ≡ (at + (to - from)) - len = omega arith in
      ap (λ (n : ℕ). flat_map (λ ws. ws) (records_at xs len n from)) parts
      ∙ ap (λ (wss : List (List ℕ)). flat_map (λ ws. ws) wss) (records-append xs len h i (suc (records - suc i)) from c k.lie)
      ∙ flat_map-append (λ (ws : List ℕ). ws) (records_at xs len i from) (records_at xs len (suc (records - suc i)) c)
      ∙ ap (λ (ws : List ℕ). ws ++ flat_map (λ us. us) (records_at xs len (suc (records - suc i)) c)) k.front
      ∙ ap (λ (ws : List ℕ). part xs at (place - at) ++ ws) (next-round xs len h (records - suc i) c to next pos refl l start up (omega arith))
      ∙ ap (λ (n : ℕ). part xs at (place - at) ++ take n xs) rest

  pub walk-all : records ≤ i → from ≤ to → length xs < at + (to - from) → ⊥
  walk-all r order over =
      let z : records - i ≡ 0 = omega arith in
      let e : from + (place - at) ≡ to = subst (λ (n : ℕ). Lie xs (length xs) h n (from + (place - at)) to) z k.behind in
      let b : place ≤ length xs = k.high in
      let a : at ≤ place = k.low in
      omega arith

pub walk-first : (xs : List ℕ) (h records from to at : ℕ) → at ≡ from % length xs → 0 < length xs → Lie xs (length xs) h records from to → IsWalked xs h records from to at at 0
walk-first xs h records from to at e pos l =
    let z : at - at ≡ 0 = omega arith in
    let y : from ≡ from + (at - at) = omega arith in
    let r : from % length xs < length xs = mod-lt from pos in
    record {
      low = omega arith;
      high = omega arith;
      count = omega arith;
      front = ap (part xs at) (sym z);
      lie = y;
      behind = subst (λ (n : ℕ). Lie xs (length xs) h n (from + (at - at)) to) (let w : records ≡ records - 0 = omega arith in w) (subst (λ (n : ℕ). Lie xs (length xs) h records n to) y l);
    }

-- one part alone
pub join-whole : (xs : List ℕ) (at n : ℕ) → take (at + n - at) (drop at xs) ++ take 0 xs ≡ part xs at n
join-whole xs at n = append-nil (take (at + n - at) (drop at xs)) ∙ ap (λ (k : ℕ). take k (drop at xs)) (let e : at + n - at ≡ n = omega arith in e)

tags-span : (xs : List ℕ) (len n t : ℕ) → tags_at xs len n t ≡ span xs len n t
tags-span xs len zero t = refl
tags-span xs len (suc n) t = ap (λ (ws : List ℕ). word_at xs len t ∷ ws) (tags-span xs len n (t + 1))

pub tags-one : (xs : List ℕ) (n t : ℕ) → t % length xs + n ≤ length xs → tags_at xs (length xs) n t ≡ part xs (t % length xs) n
tags-one xs n t h = tags-span xs (length xs) n t ∙ span-part xs (length xs) n t refl h

pub tags-two : (xs : List ℕ) (n t : ℕ) → 0 < length xs → n ≤ length xs → length xs < t % length xs + n
    → tags_at xs (length xs) n t ≡ take (length xs - t % length xs) (drop (t % length xs) xs) ++ take (t % length xs + n - length xs) xs
tags-two xs n t pos b h =
    let len = length xs in
    let r : t % len < len = mod-lt t pos in
    let a = len - t % len in
    let e : n ≡ (len - t % len) + (t % len + n - len) = omega arith in
    let z : (t + (len - t % len)) % len ≡ 0 = mod-up t len pos in
    ap (λ (k : ℕ). tags_at xs len k t) e
    ∙ tags-append xs len (len - t % len) (t % len + n - len) t
    ∙ ap (λ (ts : List ℕ). ts ++ tags_at xs len (t % len + n - len) (t + (len - t % len))) (tags-one xs (len - t % len) t (omega arith))
    ∙ ap (λ (ts : List ℕ). part xs (t % len) (len - t % len) ++ ts) (tags-one xs (t % len + n - len) (t + (len - t % len)) (omega arith))
    ∙ ap (λ (k : ℕ). part xs (t % len) (len - t % len) ++ take (t % len + n - len) (drop k xs)) z
