-- What loads one behind the other give: the words of records, and tags.
use Rattle.std.proofs.Common.{◌≡◌, ◌⊎◌, ℕ, zero, suc, ◌+◌, ◌-◌, ◌%◌, ◌<◌, ◌≤◌, List, [], ◌∷◌, ◌++◌, length, take, drop, get_or, refl, ap, sym, subst, ◌∙◌, inl, inr, ⊎_elim, length-append, arith}
use Rattle.std.specs.Prelude.{nat_lt, if◌then◌else◌}
use Rattle.std.specs.List.{flat_map}
use Rattle.std.proofs.Math.Nat.{mod-lt, mod-add-mod}
use Rattle.std.proofs.lemmas.List.{append_assoc, take-append-drop}
use Rattle.atomic_table.specs.Table.{Me}
use Rattle.std.proofs.lemmas.Bool.{cases_lt}
use Rattle.std.proofs.lemmas.Bool.Decides.{nat_tests}
use Rattle.gp_layout.specs.Place.{skip_of, start_of}
use Rattle.gp_ring.specs.Records.{Offer}
use Rattle.gp_ring.specs.PlainRing.{piece_for}
use Rattle.gp_ring.specs.Counts.{behind, behind_all}
use Rattle.gp_ring.specs.kept.Traces.{from_count, mark_of, skip_before, laid_at, all_laid, first_word, IsDueAt, AreDueAt, words_in, IsRecordAt}
use Rattle.gp_ring.specs.kept.Views.{IsAhead, with_ahead, with_due}
use Rattle.gp_ring.specs.declared.between.view.View.{View}
use Rattle.gp_ring.proofs.Rounds.{mod-add, mod-up}
use Rattle.gp_ring.proofs.Tracing.{behind-append, behind-more}

plus_zero : (c : ℕ) → c ≡ c + 0
plus_zero c = omega arith

plus_none : (c : ℕ) → c + 0 ≡ c
plus_none c = omega arith

plus_one : (c n : ℕ) → c + 1 + n ≡ c + suc n
plus_one c n = omega arith

-- ---- words one behind the other

pub due-at : (start width n i : ℕ) (due : List (ℕ × ℕ)) → AreDueAt start width n due → i < n → IsDueAt (start + i) width (drop i due)
due-at start width zero i due p h = absurd (omega arith)
due-at start width (suc n) i [] p h = absurd p
due-at start width (suc n) zero (x ∷ due) p h = plus_none start ∙ p.0
due-at start width (suc n) (suc i) (x ∷ due) p h = subst (λ (k : ℕ). IsDueAt k width (drop i due)) (plus_one start i) (due-at (start + 1) width n i due p.1 (omega arith))

suc_is : (i : ℕ) → suc i ≡ i + 1
suc_is i = omega arith

words-suc : (start width n i : ℕ) (due : List (ℕ × ℕ)) → AreDueAt start width n due → i < n → words_in (take (suc i) due) ≡ words_in (take i due) ++ first_word (drop i due) ∷ []
words-suc start width zero i due p h = absurd (omega arith)
words-suc start width (suc n) i [] p h = absurd p
words-suc start width (suc n) zero (x ∷ due) p h = refl
words-suc start width (suc n) (suc i) (x ∷ due) p h = ap (λ (ws : List ℕ). x.1 ∷ ws) (words-suc (start + 1) width n i due p.1 (omega arith))

pub words-due : (start width n i : ℕ) (due : List (ℕ × ℕ)) → AreDueAt start width n due → i < n → words_in (take (i + 1) due) ≡ words_in (take i due) ++ first_word (drop i due) ∷ []
words-due start width n i due p h =
    subst (λ (k : ℕ). words_in (take k due) ≡ words_in (take i due) ++ first_word (drop i due) ∷ []) (suc_is i) (words-suc start width n i due p h)

-- words that lie one behind the other are due so, up to the end of the ring
pub run-due : (start width c : ℕ) (ws : List ℕ) (rest : List (ℕ × ℕ)) → (0 < length ws → start ≡ c % width) → start + length ws ≤ width → AreDueAt start width (length ws) (from_count c ws ++ rest)
run-due start width c [] rest at fits = tt
run-due start width c (w ∷ ws) rest at fits =
    let e : start ≡ c % width = at (omega arith) in (
      e,
      run-due (start + 1) width (c + 1) ws rest (λ (h : 0 < length ws). sym (mod-add c 1 width (omega arith) ∙ ap (λ (k : ℕ). k + 1) (sym e))) (omega arith),
    )

pub words-run : (c : ℕ) (ws : List ℕ) (rest : List (ℕ × ℕ)) → words_in (take (length ws) (from_count c ws ++ rest)) ≡ ws
words-run c [] rest = refl
words-run c (w ∷ ws) rest = ap (λ (xs : List ℕ). w ∷ xs) (words-run (c + 1) ws rest)

pub rest-run : (c : ℕ) (ws : List ℕ) (rest : List (ℕ × ℕ)) → drop (length ws) (from_count c ws ++ rest) ≡ rest
rest-run c [] rest = refl
rest-run c (w ∷ ws) rest = rest-run (c + 1) ws rest

-- ---- tags, round and round

pub tag-due : (c width i : ℕ) (ws : List ℕ) → i < length ws → IsDueAt ((c + i) % width) width (drop i (from_count c ws))
tag-due c width i [] h = absurd (omega arith)
tag-due c width zero (w ∷ ws) h = ap (λ (k : ℕ). k % width) (plus_none c)
tag-due c width (suc i) (w ∷ ws) h = subst (λ (k : ℕ). IsDueAt (k % width) width (drop i (from_count (c + 1) ws))) (plus_one c i) (tag-due (c + 1) width i ws (omega arith))

pub tag-is : (c i : ℕ) (ws : List ℕ) → i < length ws → first_word (drop i (from_count c ws)) ≡ get_or ws i 0
tag-is c i [] h = absurd (omega arith)
tag-is c zero (w ∷ ws) h = refl
tag-is c (suc i) (w ∷ ws) h = tag-is (c + 1) i ws (omega arith)

pub tags-end : (c n : ℕ) (ws : List ℕ) → n ≡ length ws → drop n (from_count c ws) ≡ []
tags-end c zero [] e = refl
tags-end c (suc n) [] e = refl
tags-end c zero (w ∷ ws) e = absurd (omega arith)
tags-end c (suc n) (w ∷ ws) e = tags-end (c + 1) n ws (omega arith)

-- ---- a record

if_lt : (a b x y : ℕ) → a < b → (if nat_lt a b then x else y) ≡ x
if_lt a b x y h = grind (arith, nat_tests)

if_ge : (a b x y : ℕ) → b ≤ a → (if nat_lt a b then x else y) ≡ y
if_ge a b x y h = grind (arith, nat_tests)

-- where the record of an offer comes: here, or behind the mark at the beginning of the ring
pub data Coming (len c need skip : ℕ) : Type 0 where
  Here : skip ≡ 0 → c % len + need ≤ len → Coming len c need skip
  Over : skip ≡ len - c % len → 0 < skip → Coming len c need skip

pub coming : (len c need : ℕ) → 0 < len → Coming len c need (skip_of (c % len) len need)
coming len c need some =
    let m = mod-lt c some in
    elim (cases_lt len (c % len + need)) as (λ _. Coming len c need (skip_of (c % len) len need)) [
      | inl h ↦ (let e = if_lt len (c % len + need) (len - c % len) 0 h in Over e (omega (arith, e, m)))
      | inr h ↦ Here (if_ge len (c % len + need) (len - c % len) 0 h) h
    ]

abbrev pub words_at : {len at : ℕ} {due : List (ℕ × ℕ)} → IsRecordAt len at due → List ℕ
words_at r = (piece_for r.offer).words

abbrev pub start_at : {len at : ℕ} {due : List (ℕ × ℕ)} → IsRecordAt len at due → ℕ
start_at {len} r = r.count + skip_before len r.count r.offer

abbrev pub body_at : {len at : ℕ} {due : List (ℕ × ℕ)} → IsRecordAt len at due → List (ℕ × ℕ)
body_at r = from_count (start_at r) (words_at r) ++ r.rest

-- what is due as a record begins: its first word, or the mark and then its first word at the beginning of the ring
pub data Begins {len at : ℕ} {due : List (ℕ × ℕ)} (r : IsRecordAt len at due) : Type 0 where
  First : due ≡ body_at r → at ≡ start_at r % len → at + length (words_at r) ≤ len → Begins r
  Mark : first_word due ≡ 0 → drop 1 due ≡ body_at r → 0 ≡ start_at r % len → Begins r

marked : (skip c : ℕ) (t : List (ℕ × ℕ)) → 0 < skip → mark_of skip c ++ t ≡ (c, 0) ∷ t
marked zero c t h = absurd (omega arith)
marked (suc n) c t h = refl

unmarked : (skip c : ℕ) (t : List (ℕ × ℕ)) → skip ≡ 0 → mark_of skip c ++ t ≡ t
unmarked zero c t h = refl
unmarked (suc n) c t h = absurd (omega arith)

pub begins : (len at : ℕ) (due : List (ℕ × ℕ)) (r : IsRecordAt len at due) → 0 < len → Begins r
begins len at due r some =
    let need = length (piece_for r.offer).words in
    let skip = skip_before len r.count r.offer in
    let whole : due ≡ mark_of (skip_before len r.count r.offer) r.count ++ body_at r = r.begins ∙ append_assoc (mark_of (skip_before len r.count r.offer) r.count) (from_count (start_at r) (words_at r)) r.rest in
    elim (coming len r.count (length (piece_for r.offer).words) some) as (λ _. Begins r) [
      | Here z fits ↦
          let place : at ≡ start_at r % len = r.place ∙ ap (λ (k : ℕ). k % len) (plus_zero r.count ∙ ap (λ (k : ℕ). r.count + k) (sym z)) in
          First (whole ∙ unmarked (skip_before len r.count r.offer) r.count (body_at r) z) place (let p = r.place in omega arith)
      | Over s pos ↦
          let e : due ≡ (r.count, 0) ∷ body_at r = whole ∙ marked (skip_before len r.count r.offer) r.count (body_at r) pos in
          Mark (ap first_word e) (ap (drop 1) e) (sym (ap (λ (k : ℕ). (r.count + k) % len) s ∙ mod-up r.count len some))
    ]

-- the first word of a record is its size, which isn't 0
pub body-first : {len at : ℕ} {due : List (ℕ × ℕ)} (r : IsRecordAt len at due) → first_word (body_at r) ≡ length (words_at r)
body-first r = (let l = length-append r.offer.header r.offer.stack in omega arith)

pub body-due : {len at : ℕ} {due : List (ℕ × ℕ)} (r : IsRecordAt len at due) (place : ℕ) → place ≡ start_at r % len → IsDueAt place len (body_at r)
body-due r place e = e

pub mark-due : (len at : ℕ) (due : List (ℕ × ℕ)) (r : IsRecordAt len at due) → IsDueAt at len due
mark-due len at due r = subst (IsDueAt at len) (sym r.begins) (first (skip_before len r.count r.offer))
  where
    first : (skip : ℕ) → IsDueAt at len ((mark_of skip r.count ++ from_count (r.count + skip) (words_at r)) ++ r.rest)
    first zero = r.place ∙ ap (λ (k : ℕ). k % len) (plus_zero r.count)
    first (suc n) = r.place

-- ---- records one behind the other

pick-suc : (offers : List Offer) (i : ℕ) → i < length offers → (offer : Offer) × (drop i offers ≡ offer ∷ drop (suc i) offers) × (take (suc i) offers ≡ take i offers ++ offer ∷ [])
pick-suc [] i h = absurd (omega arith)
pick-suc (o ∷ offers) zero h = (o, refl, refl)
pick-suc (o ∷ offers) (suc i) h = let p = pick-suc offers i (omega arith) in (p.0, p.1, ap (λ (os : List Offer). o ∷ os) p.2)

-- so many words are no more than the counts go up
pub words-within : (len c : ℕ) (offers : List Offer) → c + length (flat_map (λ (o : Offer). (piece_for o).words) offers) ≤ behind_all len c offers
words-within len c [] = omega arith
words-within len c (o ∷ offers) =
    let l = length-append (piece_for o).words (flat_map (λ (p : Offer). (piece_for p).words) offers) in
    let r = words-within len (behind len c o) offers in
    let b : c + length (piece_for o).words ≤ behind len c o = omega arith in
    omega arith

-- ---- a record that was begun

some-words : {len at : ℕ} {due : List (ℕ × ℕ)} (r : IsRecordAt len at due) → 0 < length (words_at r)
some-words r = omega arith

-- where the first word is 0 it is the mark, and the record starts at the beginning of the ring
pub mark-then : (len at : ℕ) (due : List (ℕ × ℕ)) (r : IsRecordAt len at due) → 0 < len → first_word due ≡ 0 → (drop 1 due ≡ body_at r) × (0 ≡ start_at r % len)
mark-then len at due r some z = elim (begins len at due r some) as (λ _. (drop 1 due ≡ body_at r) × (0 ≡ start_at r % len)) [
  | First e p f ↦ (let s = some-words r in let g : first_word due ≡ length (words_at r) = ap first_word e ∙ body-first r in absurd (omega arith))
  | Mark y d p ↦ (d, p)
]

sized : (len at : ℕ) (due : List (ℕ × ℕ)) (r : IsRecordAt len at due) → 0 < len
    → (first_word due ≡ length (words_at r)) ⊎ ((first_word due ≡ 0) × (first_word (drop 1 due) ≡ length (words_at r)))
sized len at due r some = elim (begins len at due r some) as (λ _. (first_word due ≡ length (words_at r)) ⊎ ((first_word due ≡ 0) × (first_word (drop 1 due) ≡ length (words_at r)))) [
  | First e p f ↦ inl (ap first_word e ∙ body-first r)
  | Mark y d p ↦ inr (y, ap first_word d ∙ body-first r)
]

-- what lies at a place tells how long the record is
pub same-size : (len at : ℕ) (due : List (ℕ × ℕ)) (r s : IsRecordAt len at due) → 0 < len → length (words_at r) ≡ length (words_at s)
same-size len at due r s some =
    let p = some-words r in
    let q = some-words s in
    ⊎_elim
    (λ (x : first_word due ≡ length (words_at r)). ⊎_elim
    (λ (y : first_word due ≡ length (words_at s)). sym x ∙ y)
    (λ (y : (first_word due ≡ 0) × (first_word (drop 1 due) ≡ length (words_at s))). absurd (omega (arith, y.0)))
    (sized len at due s some))
    (λ (x : (first_word due ≡ 0) × (first_word (drop 1 due) ≡ length (words_at r))). ⊎_elim
    (λ (y : first_word due ≡ length (words_at s)). absurd (omega (arith, x.0)))
    (λ (y : (first_word due ≡ 0) × (first_word (drop 1 due) ≡ length (words_at s))). sym x.1 ∙ y.1)
    (sized len at due s some))
    (sized len at due r some)

abbrev tail_at : {len at : ℕ} {due : List (ℕ × ℕ)} → IsRecordAt len at due → List ℕ
tail_at r = r.offer.time ∷ r.offer.header ++ r.offer.stack

tail-size : {len at : ℕ} {due : List (ℕ × ℕ)} (r : IsRecordAt len at due) (size : ℕ) → size ≡ length (words_at r) → length (tail_at r) ≡ size - 1
tail-size r size e = omega arith

pub record-due : (len at : ℕ) (due : List (ℕ × ℕ)) (r : IsRecordAt len at due) (start size : ℕ) → start ≡ start_at r % len → size ≡ length (words_at r) → start + size ≤ len
    → AreDueAt (start + 1) len (size - 1) (drop 1 (body_at r))
record-due len at due r start size s e fits =
    let t = tail-size r size e in
    let p = some-words r in
    subst (λ (n : ℕ). AreDueAt (start + 1) len n (from_count (start_at r + 1) (tail_at r) ++ r.rest)) t
    (run-due (start + 1) len (start_at r + 1) (tail_at r) r.rest
    (λ (h : 0 < length (tail_at r)). ap (λ (k : ℕ). k + 1) s ∙ sym (mod-add (start_at r) 1 len (omega arith)))
    (omega arith))

pub record-rest : (len at : ℕ) (due : List (ℕ × ℕ)) (r : IsRecordAt len at due) (size : ℕ) → size ≡ length (words_at r) → drop (size - 1) (drop 1 (body_at r)) ≡ r.rest
record-rest len at due r size e =
    ap (λ (n : ℕ). drop n (from_count (start_at r + 1) (tail_at r) ++ r.rest)) (sym (tail-size r size e)) ∙ rest-run (start_at r + 1) (tail_at r) r.rest

pub record-words : (len at : ℕ) (due : List (ℕ × ℕ)) (r : IsRecordAt len at due) (to : List ℕ) (size : ℕ) → size ≡ length (words_at r)
    → (to ++ size ∷ []) ++ words_in (take (size - 1) (drop 1 (body_at r))) ≡ to ++ words_at r
record-words len at due r to size e =
    let first : size ≡ first_word (body_at r) = e ∙ sym (body-first r) in
    let tail : words_in (take (size - 1) (drop 1 (body_at r))) ≡ tail_at r =
    ap (λ (n : ℕ). words_in (take n (from_count (start_at r + 1) (tail_at r) ++ r.rest))) (sym (tail-size r size e)) ∙ words-run (start_at r + 1) (tail_at r) r.rest in
    (λ i. (to ++ first i ∷ []) ++ tail i) ∙ append_assoc to (first_word (body_at r) ∷ []) (tail_at r)

assoc : (a b c : ℕ) → (a + b) + c ≡ a + (b + c)
assoc a b c = omega arith

pub record-behind : (len at : ℕ) (due : List (ℕ × ℕ)) (r : IsRecordAt len at due) (start size : ℕ) → start ≡ start_at r % len → size ≡ length (words_at r)
    → (start + size) % len ≡ behind len r.count r.offer % len
record-behind len at due r start size s e =
    (λ i. (s i + e i) % len) ∙ mod-add-mod (start_at r) len (length (words_at r))
    ∙ ap (λ (k : ℕ). k % len) (assoc r.count (skip_before len r.count r.offer) (length (words_at r)))

-- where a record starts
pub placed-start : (len c need : ℕ) → 0 < len → start_of (c % len) len need ≡ (c + skip_of (c % len) len need) % len
placed-start len c need some = elim (cases_lt len (c % len + need)) as (λ _. start_of (c % len) len need ≡ (c + skip_of (c % len) len need) % len) [
  | inl h ↦ if_lt len (c % len + need) 0 (c % len) h ∙ sym (ap (λ (k : ℕ). (c + k) % len) (if_lt len (c % len + need) (len - c % len) 0 h) ∙ mod-up c len some)
  | inr h ↦ if_ge len (c % len + need) 0 (c % len) h ∙ ap (λ (k : ℕ). k % len) (plus_zero c ∙ ap (λ (k : ℕ). c + k) (sym (if_ge len (c % len + need) (len - c % len) 0 h)))
]

-- ---- the records that are ahead

-- the data count of the record of number i
abbrev pub count_at : (len from : ℕ) → List Offer → ℕ → ℕ
count_at len from ahead i = behind_all len from (take i ahead)

pub pick : (offers : List Offer) (i : ℕ) → i < length offers → (offer : Offer) × (drop i offers ≡ offer ∷ drop (i + 1) offers) × (take (i + 1) offers ≡ take i offers ++ offer ∷ [])
pick offers i h = subst (λ (k : ℕ). (offer : Offer) × (drop i offers ≡ offer ∷ drop k offers) × (take k offers ≡ take i offers ++ offer ∷ [])) (suc_is i) (pick-suc offers i h)

pub count-next : (len from : ℕ) (ahead : List Offer) (i : ℕ) (o : Offer) → take (i + 1) ahead ≡ take i ahead ++ o ∷ [] → count_at len from ahead (i + 1) ≡ behind len (count_at len from ahead i) o
count-next len from ahead i o e = ap (behind_all len from) e ∙ behind-append len from (take i ahead) (o ∷ [])

-- its words fit behind those before it
pub fits-next : (len from : ℕ) (ahead : List Offer) (i : ℕ) (o : Offer) → drop i ahead ≡ o ∷ drop (i + 1) ahead → behind_all len from ahead ≤ from + len
    → count_at len from ahead i + length (piece_for o).words ≤ from + len
fits-next len from ahead i o e within =
    let whole : behind_all len from ahead ≡ behind_all len (behind len (count_at len from ahead i) o) (drop (i + 1) ahead) =
    ap (behind_all len from) (sym (take-append-drop i ahead)) ∙ behind-append len from (take i ahead) (drop i ahead) ∙ ap (behind_all len (count_at len from ahead i)) e in
    let more = behind-more len (behind len (count_at len from ahead i) o) (drop (i + 1) ahead) in
    let b : count_at len from ahead i + length (piece_for o).words ≤ behind len (count_at len from ahead i) o = omega arith in
    omega arith

module _ {S : Type 0} (v : View) (rest : List (ℕ × S)) (me : Me S View) (from i at : ℕ) (is : me ≡ (with_due v (all_laid v.len (count_at v.len from v.reader.ahead i) (drop i v.reader.ahead)), rest))
    (place : at ≡ count_at v.len from v.reader.ahead i % v.len) (within : behind_all v.len from v.reader.ahead ≤ from + v.len)
    (o : Offer) (begins_so : drop i v.reader.ahead ≡ o ∷ drop (i + 1) v.reader.ahead) where
  abbrev pub next-record : IsRecordAt me.0.len at me.0.reader.due
  next-record =
      record {
        count = count_at v.len from v.reader.ahead i;
        offer = o;
        rest = all_laid v.len (behind v.len (count_at v.len from v.reader.ahead i) o) (drop (i + 1) v.reader.ahead);
        begins = ap (λ (m : Me S View). m.0.reader.due) is ∙ ap (all_laid v.len (count_at v.len from v.reader.ahead i)) begins_so
            ∙ ap (λ (n : ℕ). laid_at n (count_at v.len from v.reader.ahead i) o ++ all_laid v.len (behind v.len (count_at v.len from v.reader.ahead i) o) (drop (i + 1) v.reader.ahead)) (sym (ap (λ (m : Me S View). m.0.len) is));
        place = place ∙ ap (λ (n : ℕ). count_at v.len from v.reader.ahead i % n) (sym (ap (λ (m : Me S View). m.0.len) is));
        fits = (let f = fits-next v.len from v.reader.ahead i o begins_so within in let m = behind-more v.len from (take i v.reader.ahead) in let l = ap (λ (x : Me S View). x.0.len) is in omega arith);
      }

-- what is ahead lies within a round
pub ahead-within : {S : Type 0} (v : View) (w : ℕ) (ahead : List Offer) (me : Me S View) (rest : List (ℕ × S)) → IsAhead v w ahead → me ≡ (with_ahead v w ahead, rest)
    → behind_all me.0.len (behind_all me.0.len 0 me.0.reader.pulled) me.0.reader.ahead ≤ behind_all me.0.len 0 me.0.reader.pulled + me.0.len
ahead-within {S} v w ahead me rest a is =
    let e = behind-append v.len 0 v.reader.pulled ahead in
    let b = a.words in
    let c = a.words_within in
    let d : behind_all v.len (behind_all v.len 0 v.reader.pulled) ahead ≤ behind_all v.len 0 v.reader.pulled + v.len = omega arith in
    subst (λ (m : Me S View). behind_all m.0.len (behind_all m.0.len 0 m.0.reader.pulled) m.0.reader.ahead ≤ behind_all m.0.len 0 m.0.reader.pulled + m.0.len) (sym is) d
