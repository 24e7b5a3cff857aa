-- Traces: how they are put together, and what a store does to what stands in the ring.
use Rattle.std.proofs.Common.{◌≡◌, ℕ, zero, suc, ◌+◌, ◌%◌, ◌<◌, ◌≤◌, List, [], ◌∷◌, ◌++◌, map, length, drop, get_or, refl, ap, sym, subst, ◌∙◌, arith}
use Rattle.std.specs.Prelude.{slice_set, slice_index}
use Rattle.std.proofs.lemmas.List.{get_or-set_other, get_or-set_same, append_assoc, map-append, length-map}
use Rattle.gp_ring.specs.Records.{Offer}
use Rattle.gp_ring.specs.PlainRing.{piece_for}
use Rattle.gp_ring.specs.Counts.{behind, behind_all}
use Rattle.gp_ring.specs.kept.Traces.{from_count, mark_of, skip_before, laid_at, all_laid, tags_from, Stands, first_word, IsDueAt}
use Rattle.gp_ring.proofs.Rounds.{mod-differ}

plus_zero : (c : ℕ) → c ≡ c + 0
plus_zero c = omega arith

plus_one : (c n : ℕ) → c + 1 + n ≡ c + suc n
plus_one c n = omega arith

-- ---- how traces are put together

pub from-append : (c : ℕ) (xs ys : List ℕ) → from_count c (xs ++ ys) ≡ from_count c xs ++ from_count (c + length xs) ys
from-append c [] ys = ap (λ (k : ℕ). from_count k ys) (plus_zero c)
from-append c (x ∷ xs) ys =
    ap (λ (t : List (ℕ × ℕ)). (c, x) ∷ t) (from-append (c + 1) xs ys ∙ ap (λ (k : ℕ). from_count (c + 1) xs ++ from_count k ys) (plus_one c (length xs)))

pub behind-append : (len c : ℕ) (xs ys : List Offer) → behind_all len c (xs ++ ys) ≡ behind_all len (behind_all len c xs) ys
behind-append len c [] ys = refl
behind-append len c (x ∷ xs) ys = behind-append len (behind len c x) xs ys

pub laid-append : (len c : ℕ) (xs ys : List Offer) → all_laid len c (xs ++ ys) ≡ all_laid len c xs ++ all_laid len (behind_all len c xs) ys
laid-append len c [] ys = refl
laid-append len c (x ∷ xs) ys =
    ap (λ (t : List (ℕ × ℕ)). laid_at len c x ++ t) (laid-append len (behind len c x) xs ys)
    ∙ sym (append_assoc (laid_at len c x) (all_laid len (behind len c x) xs) (all_laid len (behind_all len (behind len c x) xs) ys))

pub tags_from-append : (t : ℕ) (xs ys : List Offer) → tags_from t (xs ++ ys) ≡ tags_from t xs ++ tags_from (t + length xs) ys
tags_from-append t xs ys =
    ap (from_count t) (map-append (λ (o : Offer). o.tag) xs ys)
    ∙ from-append t (map (λ (o : Offer). o.tag) xs) (map (λ (o : Offer). o.tag) ys)
    ∙ ap (λ (k : ℕ). tags_from t xs ++ from_count (t + k) (map (λ (o : Offer). o.tag) ys)) (length-map xs (λ (o : Offer). o.tag))

-- counts only rise
pub behind-more : (len c : ℕ) (xs : List Offer) → c ≤ behind_all len c xs
behind-more len c [] = omega arith
behind-more len c (x ∷ xs) = let h = behind-more len (behind len c x) xs in let r : c ≤ behind len c x = omega arith in omega arith

pub behind-front : (len c : ℕ) (xs ys : List Offer) → behind_all len c xs ≤ behind_all len c (xs ++ ys)
behind-front len c xs ys = let e = behind-append len c xs ys in let h = behind-more len (behind_all len c xs) ys in omega arith

-- ---- from which count on a trace goes

abbrev pub AreFrom : ℕ → List (ℕ × ℕ) → Type 0
AreFrom f [] = Unit {0}
AreFrom f (x ∷ trace) = (f ≤ x.0) × AreFrom f trace

from-join : (f : ℕ) (xs ys : List (ℕ × ℕ)) → AreFrom f xs → AreFrom f ys → AreFrom f (xs ++ ys)
from-join f [] ys p q = q
from-join f (x ∷ xs) ys p q = (p.0, from-join f xs ys p.1 q)

pub from-right : (f : ℕ) (xs ys : List (ℕ × ℕ)) → AreFrom f (xs ++ ys) → AreFrom f ys
from-right f [] ys p = p
from-right f (x ∷ xs) ys p = from-right f xs ys p.1

from-words : (f c : ℕ) (ws : List ℕ) → f ≤ c → AreFrom f (from_count c ws)
from-words f c [] h = tt
from-words f c (w ∷ ws) h = (h, from-words f (c + 1) ws (omega arith))

from-mark : (f skip c : ℕ) → f ≤ c → AreFrom f (mark_of skip c)
from-mark f zero c h = tt
from-mark f (suc n) c h = (h, tt)

pub from-laid : (f len c : ℕ) (xs : List Offer) → f ≤ c → AreFrom f (all_laid len c xs)
from-laid f len c [] h = tt
from-laid f len c (x ∷ xs) h =
    from-join f (laid_at len c x) (all_laid len (behind len c x) xs)
    (from-join f (mark_of (skip_before len c x) c) (from_count (c + skip_before len c x) (piece_for x).words)
    (from-mark f (skip_before len c x) c h) (from-words f (c + skip_before len c x) (piece_for x).words (omega arith)))
    (from-laid f len (behind len c x) xs (omega arith))

pub from-tags : (t : ℕ) (xs : List Offer) → AreFrom t (tags_from t xs)
from-tags t xs = from-words t t (map (λ (o : Offer). o.tag) xs) (omega arith)

-- ---- what stands

pub stands-join : (ws : List ℕ) (b n f k : ℕ) (xs ys : List (ℕ × ℕ)) → Stands ws b n f k xs → Stands ws b n f k ys → Stands ws b n f k (xs ++ ys)
stands-join ws b n f k [] ys p q = q
stands-join ws b n f k (x ∷ xs) ys p q = (p.0, p.1, stands-join ws b n f k xs ys p.2 q)

pub stands-left : (ws : List ℕ) (b n f k : ℕ) (xs ys : List (ℕ × ℕ)) → Stands ws b n f k (xs ++ ys) → Stands ws b n f k xs
stands-left ws b n f k [] ys p = tt
stands-left ws b n f k (x ∷ xs) ys p = (p.0, p.1, stands-left ws b n f k xs ys p.2)

pub stands-right : (ws : List ℕ) (b n f k : ℕ) (xs ys : List (ℕ × ℕ)) → Stands ws b n f k (xs ++ ys) → Stands ws b n f k ys
stands-right ws b n f k [] ys p = p
stands-right ws b n f k (x ∷ xs) ys p = stands-right ws b n f k xs ys p.2

-- less has to stand where more was read
pub stands-from : (ws : List ℕ) (b n f g k : ℕ) (xs : List (ℕ × ℕ)) → f ≤ g → Stands ws b n f k xs → Stands ws b n g k xs
stands-from ws b n f g k [] h p = tt
stands-from ws b n f g k (x ∷ xs) h p = (p.0, (λ (l : g ≤ x.0). p.1 (omega arith)), stands-from ws b n f g k xs h p.2)

pub stands-next : (ws : List ℕ) (b n f k l : ℕ) (xs : List (ℕ × ℕ)) → k ≤ l → Stands ws b n f k xs → Stands ws b n f l xs
stands-next ws b n f k l [] h p = tt
stands-next ws b n f k l (x ∷ xs) h p = ((let q = p.0 in omega arith), p.1, stands-next ws b n f k l xs h p.2)

cancel : (b x y : ℕ) → b + x ≡ b + y → x ≡ y
cancel b x y e = omega arith

-- a store less than a round behind what has to stand
stands-besides : (ws : List ℕ) (b n f k c v : ℕ) (xs : List (ℕ × ℕ)) → k ≤ c → c < f + n → Stands ws b n f k xs → Stands (slice_set ws (b + c % n) v) b n f k xs
stands-besides ws b n f k c v [] h l p = tt
stands-besides ws b n f k c v (x ∷ xs) h l p = (
  p.0,
  (λ (m : f ≤ x.0). get_or-set_other ws (b + c % n) (b + x.0 % n) v 0 (λ e. mod-differ x.0 c n (let q = p.0 in omega arith) (omega arith) (cancel b (x.0 % n) (c % n) e)) ∙ p.1 m),
  stands-besides ws b n f k c v xs h l p.2,
)

-- a store elsewhere
pub stands-else : (ws : List ℕ) (b n f k i v : ℕ) (xs : List (ℕ × ℕ)) → ((c : ℕ) → b + c % n ≡ i → ⊥) → Stands ws b n f k xs → Stands (slice_set ws i v) b n f k xs
stands-else ws b n f k i v [] h p = tt
stands-else ws b n f k i v (x ∷ xs) h p = (
  p.0,
  (λ (m : f ≤ x.0). get_or-set_other ws i (b + x.0 % n) v 0 (h x.0) ∙ p.1 m),
  stands-else ws b n f k i v xs h p.2,
)

-- a word more stands
pub stands-more : (ws : List ℕ) (b n f k v : ℕ) (xs ys : List (ℕ × ℕ)) (l : ℕ) → k < f + n → b + k % n < length ws → k < l
    → Stands ws b n f k (xs ++ ys) → Stands (slice_set ws (b + k % n) v) b n f l (xs ++ (ys ++ (k, v) ∷ []))
stands-more ws b n f k v xs ys l room there more p =
    let ws' = slice_set ws (b + k % n) v in
    let old = stands-next (slice_set ws (b + k % n) v) b n f k l (xs ++ ys) (omega arith) (stands-besides ws b n f k k v (xs ++ ys) (omega arith) room p) in
    subst (Stands (slice_set ws (b + k % n) v) b n f l) (append_assoc xs ys ((k, v) ∷ []))
    (stands-join (slice_set ws (b + k % n) v) b n f l (xs ++ ys) ((k, v) ∷ []) old (more, (λ (m : f ≤ k). get_or-set_same ws (b + k % n) v 0 there), tt))

-- ---- what is due

-- the first word that is due stands at its place
pub due-word : (ws : List ℕ) (b n f k place : ℕ) (due : List (ℕ × ℕ)) → Stands ws b n f k due → AreFrom f due → IsDueAt place n due → slice_index ws (b + place) ≡ first_word due
due-word ws b n f k place [] p q d = absurd d
due-word ws b n f k place (x ∷ due) p q d = ap (λ (i : ℕ). get_or ws (b + i) 0) d ∙ p.1 q.0

-- an end of a trace without its first word is an end of it
pub shorter : (front due whole : List (ℕ × ℕ)) → front ++ due ≡ whole → (rest : List (ℕ × ℕ)) × (rest ++ drop 1 due ≡ whole)
shorter front [] whole e = (front, e)
shorter front (x ∷ due) whole e = (front ++ x ∷ [], append_assoc front (x ∷ []) due ∙ e)
