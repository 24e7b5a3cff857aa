-- Covers over lists that are joined, and the three ways in which one more offer is covered.
use Rattle.std.proofs.Common.{◌≡◌, ℕ, ◌+◌, ◌-◌, ◌≤◌, List, [], ◌∷◌, ◌++◌, length, take, drop, refl, ap, sym, subst, ◌∙◌, append_assoc, arith, length-append, length-drop, length-take, lit≤, zero, suc, min}
use Rattle.std.proofs.lemmas.List.{take-append-drop, drop-append-le}
use Rattle.gp_ring.specs.Records.{Offer, RingRecord, Sample, Loss, Covers, BeginsAt}

min_le : (a b : ℕ) → a ≤ b → min a b ≡ a
min_le a b h = omega arith

length-take-le : (n : ℕ) (os : List Offer) → n ≤ length os → length (take n os) ≡ n
length-take-le n os h = length-take n os ∙ min_le n (length os) h

drop-all : (n : ℕ) (os : List Offer) → length os ≤ n → drop n os ≡ []
drop-all zero [] h = refl
drop-all zero (o ∷ os) h = absurd (omega arith)
drop-all (suc n) [] h = refl
drop-all (suc n) (o ∷ os) h = drop-all n os (omega arith)

begins-append : (t : ℕ) (os ps : List Offer) → BeginsAt t os → BeginsAt t (os ++ ps)
begins-append t [] ps b = absurd b
begins-append t (o ∷ os) ps b = b

pub covers-append : (rs ss : List RingRecord) (os ps : List Offer) → Covers rs os → Covers ss ps → Covers (rs ++ ss) (os ++ ps)
covers-append [] ss os ps c d = subst (λ (xs : List Offer). Covers ss (xs ++ ps)) (sym c) d
covers-append (Sample s ∷ rs) ss [] ps c d = absurd c
covers-append (Sample s ∷ rs) ss (o ∷ os) ps c d = (c.0, covers-append rs ss os ps c.1 d)
covers-append (Loss n t ∷ rs) ss os ps c d = (
  c.0,
  (let h = c.1 in omega (arith, length-append os ps)),
  begins-append t os ps c.2,
  subst (λ (xs : List Offer). Covers (rs ++ ss) xs) (sym (drop-append-le n os ps c.1)) (covers-append rs ss (drop n os) ps c.3 d),
)

drop-front : (n : ℕ) (os xs : List Offer) → n ≤ length os → drop n (take n os ++ xs) ≡ xs
drop-front zero os xs h = refl
drop-front (suc n) [] xs h = absurd (omega arith)
drop-front (suc n) (o ∷ os) xs h = drop-front n os xs (omega arith)

begins-front : (t n : ℕ) (os xs : List Offer) → 1 ≤ n → BeginsAt t os → BeginsAt t (take n os ++ xs)
begins-front t zero os xs h b = absurd (omega arith)
begins-front t (suc n) [] xs h b = absurd b
begins-front t (suc n) (o ∷ os) xs h b = b

pub covers-split : (rs ss : List RingRecord) (os : List Offer) → Covers (rs ++ ss) os
    → (front : List Offer) × (back : List Offer) × (os ≡ front ++ back) × Covers rs front × Covers ss back
covers-split [] ss os c = ([], os, refl, refl, c)
covers-split (Sample s ∷ rs) ss [] c = absurd c
covers-split (Sample s ∷ rs) ss (o ∷ os) c =
    let h = covers-split rs ss os c.1 in
    (o ∷ h.0, h.1, ap (λ (xs : List Offer). o ∷ xs) h.2, (c.0, h.3), h.4)
covers-split (Loss n t ∷ rs) ss os c =
    let h = covers-split rs ss (drop n os) c.3 in
    let le : n ≤ length os = c.1 in
    let front = take n os ++ h.0 in
    let e : os ≡ front ++ h.1 = sym (take-append-drop n os) ∙ ap (λ (xs : List Offer). take n os ++ xs) h.2 ∙ sym (append_assoc (take n os) h.0 h.1) in
    let d : drop n front ≡ h.0 = drop-front n os h.0 le in (
      front,
      h.1,
      e,
      (
        c.0,
        (let a : length (take n os) ≡ n = length-take-le n os le in omega (arith, length-append (take n os) h.0)),
        begins-front t n os h.0 c.0 c.2,
        subst (λ (xs : List Offer). Covers rs xs) (sym d) h.3,
      ),
      h.4,
    )

-- one more offer is delivered
pub covers-delivered : (rs : List RingRecord) (os : List Offer) (o : Offer) → Covers rs os → Covers (rs ++ Sample o ∷ []) (os ++ o ∷ [])
covers-delivered rs os o c = covers-append rs (Sample o ∷ []) os (o ∷ []) c (refl, refl)

-- begins a loss
pub covers-begun : (rs : List RingRecord) (os : List Offer) (o : Offer) → Covers rs os → Covers (rs ++ Loss 1 o.time ∷ []) (os ++ o ∷ [])
covers-begun rs os o c = covers-append rs (Loss 1 o.time ∷ []) os (o ∷ []) c (lit≤ tt, lit≤ tt, refl, refl)

one_more : (n t : ℕ) (os : List Offer) (o : Offer) → Covers (Loss n t ∷ []) os → Covers (Loss (n + 1) t ∷ []) (os ++ o ∷ [])
one_more n t os o c =
    let a : length os - n ≡ 0 = sym (length-drop n os) ∙ ap length c.3 in
    let le : n ≤ length os = c.1 in
    let k : length (os ++ o ∷ []) ≡ length os + 1 = length-append os (o ∷ []) in (
      (let z : 1 ≤ n = c.0 in omega arith),
      omega arith,
      begins-append t os (o ∷ []) c.2,
      drop-all (n + 1) (os ++ o ∷ []) (omega arith),
    )

-- or is counted in the last one
pub covers-counted : (rs : List RingRecord) (n t : ℕ) (os : List Offer) (o : Offer) → Covers (rs ++ Loss n t ∷ []) os
    → Covers (rs ++ Loss (n + 1) t ∷ []) (os ++ o ∷ [])
covers-counted rs n t os o c =
    let h = covers-split rs (Loss n t ∷ []) os c in
    let k = covers-append rs (Loss (n + 1) t ∷ []) h.0 (h.1 ++ o ∷ []) h.3 (one_more n t h.1 o h.4) in
    subst (λ (xs : List Offer). Covers (rs ++ Loss (n + 1) t ∷ []) xs) (sym (append_assoc h.0 h.1 (o ∷ [])) ∙ ap (λ (xs : List Offer). xs ++ o ∷ []) (sym h.2)) k
