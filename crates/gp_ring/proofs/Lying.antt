-- Records that lie between two counts: what they need of the words, and one more.
use Rattle.std.proofs.Common.{◌≡◌, ℕ, zero, suc, ◌+◌, ◌-◌, ◌%◌, ◌<◌, ◌≤◌, Bool, true, false, List, [], ◌∷◌, ◌++◌, length, refl, ap, sym, subst, ◌∙◌, arith}
use Rattle.std.specs.Prelude.{◌==◌, if◌then◌else◌}
use Rattle.gp_layout.specs.Spelling.{size_of}
use Rattle.gp_ring.specs.PlainRing.{Piece}
use Rattle.gp_ring.specs.kept.Slots.{word_at, span, starts_at, size_at, ends_at, records_at, tags_at, pieces_of, Lie}

zero_plus : (m : ℕ) → zero + m ≡ m
zero_plus m = omega arith

plus_zero : (m : ℕ) → m + zero ≡ m
plus_zero m = omega arith

suc_plus : (n m : ℕ) → suc n + m ≡ suc (n + m)
suc_plus n m = omega arith

shifted : (t n : ℕ) → (t + 1) + n ≡ t + suc n
shifted t n = omega arith

pub starts_from : (xs : List ℕ) (len c : ℕ) → c ≤ starts_at xs len c
starts_from xs len c = elim (word_at xs len c == 0) as (λ (b : Bool). c ≤ (if b then c + (len - c % len) else c)) [ true ↦ omega arith | false ↦ omega arith ]

pub lie-order : (xs : List ℕ) (len h n c e : ℕ) → Lie xs len h n c e → c ≤ e
lie-order xs len h zero c e l = (let a : c ≡ e = l in omega arith)
lie-order xs len h (suc n) c e l =
    let a = starts_from xs len c in
    let b = lie-order xs len h n (ends_at xs len c) e l.2 in
    omega arith

-- two lists of words that agree on the counts from lo up to hi
abbrev pub Agree : List ℕ → List ℕ → ℕ → ℕ → ℕ → Type 0
Agree xs ys len lo hi = (k : ℕ) → lo ≤ k → k < hi → word_at ys len k ≡ word_at xs len k

pub span-same : (xs ys : List ℕ) (len lo hi n c : ℕ) → Agree xs ys len lo hi → lo ≤ c → c + n ≤ hi → span ys len n c ≡ span xs len n c
span-same xs ys len lo hi zero c a p q = refl
span-same xs ys len lo hi (suc n) c a p q =
    ap (λ (w : ℕ). w ∷ span ys len n (c + 1)) (a c p (omega arith))
    ∙ ap (λ (ws : List ℕ). word_at xs len c ∷ ws) (span-same xs ys len lo hi n (c + 1) a (omega arith) (omega arith))

module _ (xs ys : List ℕ) (len lo hi h : ℕ) (agree : Agree xs ys len lo hi) where
  starts-same : (c : ℕ) → lo ≤ c → c < hi → starts_at ys len c ≡ starts_at xs len c
  starts-same c p q = ap (λ (w : ℕ). if w == 0 then c + (len - c % len) else c) (agree c p q)

  size-same : (c : ℕ) → lo ≤ c → starts_at xs len c < hi → size_at ys len c ≡ size_at xs len c
  size-same c p q =
      let s = starts_from xs len c in
      ap (λ (b : ℕ). word_at ys len b) (starts-same c p (omega arith)) ∙ agree (starts_at xs len c) (omega arith) q

  pub lie-same : (n c e : ℕ) → lo ≤ c → e ≤ hi → Lie xs len h n c e → Lie ys len h n c e
  lie-same zero c e p q l = l
  lie-same (suc n) c e p q l =
      let s = starts_from xs len c in
      let o = lie-order xs len h n (ends_at xs len c) e l.2 in
      let big : size_of h 0 ≤ size_at xs len c = l.0 in
      let a = starts-same c p (omega arith) in
      let b = size-same c p (omega arith) in
      let ends : ends_at ys len c ≡ ends_at xs len c = omega arith in (
        omega arith,
        subst (λ (x : ℕ). x % len + size_at ys len c ≤ len) (sym a) (let one_piece : starts_at xs len c % len + size_at xs len c ≤ len = l.1 in omega arith),
        subst (λ (x : ℕ). Lie ys len h n x e) (sym ends) (lie-same n (ends_at xs len c) e (omega arith) q l.2),
      )

  pub records-same : (n c e : ℕ) → lo ≤ c → e ≤ hi → Lie xs len h n c e → records_at ys len n c ≡ records_at xs len n c
  records-same zero c e p q l = refl
  records-same (suc n) c e p q l =
      let s = starts_from xs len c in
      let o = lie-order xs len h n (ends_at xs len c) e l.2 in
      let big : size_of h 0 ≤ size_at xs len c = l.0 in
      let a = starts-same c p (omega arith) in
      let b = size-same c p (omega arith) in
      let ends : ends_at ys len c ≡ ends_at xs len c = omega arith in
      ap (λ (k : ℕ). span ys len k (starts_at ys len c) ∷ records_at ys len n (ends_at ys len c)) b
      ∙ ap (λ (k : ℕ). span ys len (size_at xs len c) k ∷ records_at ys len n (ends_at ys len c)) a
      ∙ ap (λ (ws : List ℕ). ws ∷ records_at ys len n (ends_at ys len c)) (span-same xs ys len lo hi (size_at xs len c) (starts_at xs len c) agree (omega arith) (omega arith))
      ∙ ap (λ (k : ℕ). span xs len (size_at xs len c) (starts_at xs len c) ∷ records_at ys len n k) ends
      ∙ ap (λ (wss : List (List ℕ)). span xs len (size_at xs len c) (starts_at xs len c) ∷ wss) (records-same n (ends_at xs len c) e (omega arith) q l.2)

-- records, and more behind them
pub lie-append : (xs : List ℕ) (len h n m c d e : ℕ) → Lie xs len h n c d → Lie xs len h m d e → Lie xs len h (n + m) c e
lie-append xs len h zero m c d e l k = subst (λ (x : ℕ). Lie xs len h x c e) (sym (zero_plus m)) (subst (λ (x : ℕ). Lie xs len h m x e) (sym l) k)
lie-append xs len h (suc n) m c d e l k = subst (λ (x : ℕ). Lie xs len h x c e) (sym (suc_plus n m)) (l.0, l.1, lie-append xs len h n m (ends_at xs len c) d e l.2 k)

pub records-append : (xs : List ℕ) (len h n m c d : ℕ) → Lie xs len h n c d → records_at xs len (n + m) c ≡ records_at xs len n c ++ records_at xs len m d
records-append xs len h zero m c d l = ap (λ (x : ℕ). records_at xs len x c) (zero_plus m) ∙ ap (records_at xs len m) l
records-append xs len h (suc n) m c d l = ap (λ (x : ℕ). records_at xs len x c) (suc_plus n m) ∙ ap (λ (wss : List (List ℕ)). span xs len (size_at xs len c) (starts_at xs len c) ∷ wss) (records-append xs len h n m (ends_at xs len c) d l.2)

-- what lies behind a front of the records
pub lie-rest : (xs : List ℕ) (len h n m c d e : ℕ) → Lie xs len h n c d → Lie xs len h (n + m) c e → Lie xs len h m d e
lie-rest xs len h zero m c d e l k = subst (λ (x : ℕ). Lie xs len h m x e) l (subst (λ (x : ℕ). Lie xs len h x c e) (zero_plus m) k)
lie-rest xs len h (suc n) m c d e l k =
    let j = subst (λ (x : ℕ). Lie xs len h x c e) (suc_plus n m) k in
    lie-rest xs len h n m (ends_at xs len c) d e l.2 j.2

pub tags-same : (xs ys : List ℕ) (len lo hi n t : ℕ) → Agree xs ys len lo hi → lo ≤ t → t + n ≤ hi → tags_at ys len n t ≡ tags_at xs len n t
tags-same xs ys len lo hi zero t a p q = refl
tags-same xs ys len lo hi (suc n) t a p q =
    ap (λ (w : ℕ). w ∷ tags_at ys len n (t + 1)) (a t p (omega arith))
    ∙ ap (λ (ws : List ℕ). word_at xs len t ∷ ws) (tags-same xs ys len lo hi n (t + 1) a (omega arith) (omega arith))

pub tags-append : (xs : List ℕ) (len n m t : ℕ) → tags_at xs len (n + m) t ≡ tags_at xs len n t ++ tags_at xs len m (t + n)
tags-append xs len zero m t = ap (λ (x : ℕ). tags_at xs len x t) (zero_plus m) ∙ ap (tags_at xs len m) (sym (plus_zero t))
tags-append xs len (suc n) m t =
    ap (λ (x : ℕ). tags_at xs len x t) (suc_plus n m)
    ∙ ap (λ (ws : List ℕ). word_at xs len t ∷ ws) (tags-append xs len n m (t + 1) ∙ ap (λ (x : ℕ). tags_at xs len n (t + 1) ++ tags_at xs len m x) (shifted t n))

pub length-records : (xs : List ℕ) (len n c : ℕ) → length (records_at xs len n c) ≡ n
length-records xs len zero c = refl
length-records xs len (suc n) c = ap suc (length-records xs len n (ends_at xs len c))

pub length-tags : (xs : List ℕ) (len n t : ℕ) → length (tags_at xs len n t) ≡ n
length-tags xs len zero t = refl
length-tags xs len (suc n) t = ap suc (length-tags xs len n (t + 1))

pub pieces-append : (us vs : List (List ℕ)) (ss ts : List ℕ) → length us ≡ length ss → pieces_of (us ++ vs) (ss ++ ts) ≡ pieces_of us ss ++ pieces_of vs ts
pieces-append [] vs [] ts e = refl
pieces-append [] vs (s ∷ ss) ts e = absurd (omega arith)
pieces-append (u ∷ us) vs [] ts e = absurd (omega arith)
pieces-append (u ∷ us) vs (s ∷ ss) ts e = ap (λ (ps : List Piece). record { tag = s; words = u } ∷ ps) (pieces-append us vs ss ts (omega arith))

pub length-pieces : (us : List (List ℕ)) (ss : List ℕ) → length us ≡ length ss → length (pieces_of us ss) ≡ length us
length-pieces [] ss e = refl
length-pieces (u ∷ us) [] e = absurd (omega arith)
length-pieces (u ∷ us) (s ∷ ss) e = ap suc (length-pieces us ss (omega arith))
