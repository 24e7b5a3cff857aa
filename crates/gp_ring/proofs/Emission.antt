-- After an emission the record lies behind those that lay there, which stay.
use Rattle.std.proofs.Common.{◌≡◌, ℕ, suc, ◌+◌, ◌-◌, ◌%◌, ◌<◌, ◌≤◌, List, [], ◌∷◌, length, get_or, refl, ap, sym, subst, ◌∙◌, arith, ◌⊎◌, inl, inr}
use Rattle.std.specs.Prelude.{nat_lt, ◌==◌, if◌then◌else◌, slice_set, ◌≢◌}
use Rattle.std.proofs.Math.Nat.{mod-lt}
use Rattle.std.proofs.lemmas.List.{get_or-set_other}
use Rattle.std.proofs.lemmas.Bool.{cases_lt}
use Rattle.std.proofs.lemmas.Bool.Decides.{nat_tests}
use Rattle.gp_layout.specs.Place.{skip_of, start_of}
use Rattle.gp_layout.specs.Spelling.{size_of}
use Rattle.gp_ring.specs.kept.Slots.{marked, put_at, word_at, span, starts_at, size_at, records_at, Lie}
use Rattle.gp_ring.proofs.Rounds.{mod-add, mod-up, mod-differ}
use Rattle.gp_ring.proofs.Splicing.{length-spliced, spliced-inside, spliced-before, spliced-after, length-marked, marked-other, marked-at}
use Rattle.gp_ring.proofs.Lying.{Agree}

if_lt : (a b x y : ℕ) → a < b → (if nat_lt a b then x else y) ≡ x
if_lt a b x y h = grind (arith, nat_tests)

if_ge : (a b x y : ℕ) → b ≤ a → (if nat_lt a b then x else y) ≡ y
if_ge a b x y h = grind (arith, nat_tests)

if_zero : (n x y : ℕ) → n ≡ 0 → (if n == 0 then x else y) ≡ x
if_zero n x y h = ap (λ (k : ℕ). if k == 0 then x else y) h

if_some : (n x y : ℕ) → 0 < n → (if n == 0 then x else y) ≡ y
if_some n x y h = grind (arith, nat_tests)

plus0 : (c : ℕ) → c ≡ c + 0
plus0 c = omega arith

plus0' : (c : ℕ) → c + 0 ≡ c
plus0' c = omega arith

plus1 : (c i : ℕ) → c + 1 + i ≡ c + suc i
plus1 c i = omega arith

span-is : (xs : List ℕ) (len : ℕ) (ws : List ℕ) (c : ℕ) → ((i : ℕ) → i < length ws → word_at xs len (c + i) ≡ get_or ws i 0) → span xs len (length ws) c ≡ ws
span-is xs len [] c f = refl
span-is xs len (w ∷ ws) c f =
    ap (λ (x : ℕ). x ∷ span xs len (length ws) (c + 1)) (ap (word_at xs len) (plus0 c) ∙ f 0 (omega arith))
    ∙ ap (λ (vs : List ℕ). w ∷ vs) (span-is xs len ws (c + 1) (λ i h. ap (word_at xs len) (plus1 c i) ∙ f (suc i) (omega arith)))

data Placing (at len size skip start : ℕ) : Type 0 where
  Over : len < at + size → skip ≡ len - at → start ≡ 0 → Placing at len size skip start
  Here : at + size ≤ len → skip ≡ 0 → start ≡ at → Placing at len size skip start

placing : (at len size : ℕ) → Placing at len size (skip_of at len size) (start_of at len size)
placing at len size = elim (cases_lt len (at + size)) as (λ _. Placing at len size (skip_of at len size) (start_of at len size)) [
  | inl h ↦ Over h (if_lt len (at + size) (len - at) 0 h) (if_lt len (at + size) 0 at h)
  | inr h ↦ Here h (if_ge len (at + size) (len - at) 0 h) (if_ge len (at + size) 0 at h)
]

module _ (xs : List ℕ) (len e : ℕ) (ws : List ℕ) (some : 0 < len) (whole : length xs ≡ len) (first : get_or ws 0 0 ≡ length ws) (words : 0 < length ws)
    (room : skip_of (e % len) len (length ws) + length ws ≤ len) where
  skip : ℕ
  skip = skip_of (e % len) len (length ws)

  start : ℕ
  start = start_of (e % len) len (length ws)

  after : List ℕ
  after = put_at len (e % len) ws xs

  at_start : (e + skip_of (e % len) len (length ws)) % len ≡ start_of (e % len) len (length ws)
  at_start = elim (placing (e % len) len (length ws)) as (λ _. (e + skip_of (e % len) len (length ws)) % len ≡ start_of (e % len) len (length ws)) [
    | Over h s t ↦ ap (λ (k : ℕ). (e + k) % len) s ∙ mod-up e len some ∙ sym t
    | Here h s t ↦ ap (λ (k : ℕ). (e + k) % len) s ∙ ap (λ (k : ℕ). k % len) (plus0' e) ∙ sym t
  ]

  fits : start_of (e % len) len (length ws) + length ws ≤ len
  fits = elim (placing (e % len) len (length ws)) as (λ _. start_of (e % len) len (length ws) + length ws ≤ len) [
    | Over h s t ↦ omega (arith, room)
    | Here h s t ↦ omega arith
  ]

  fits-marked : start_of (e % len) len (length ws) + length ws ≤ length (marked (skip_of (e % len) len (length ws)) (e % len) xs)
  fits-marked = (let l = length-marked (skip_of (e % len) len (length ws)) (e % len) xs in omega (arith, fits))

  pub length-after : length (put_at len (e % len) ws xs) ≡ len
  length-after =
      length-spliced (start_of (e % len) len (length ws)) ws (marked (skip_of (e % len) len (length ws)) (e % len) xs) fits-marked
      ∙ length-marked (skip_of (e % len) len (length ws)) (e % len) xs ∙ whole

  place_of : (i : ℕ) → i < length ws → (e + skip_of (e % len) len (length ws) + i) % len ≡ start_of (e % len) len (length ws) + i
  place_of i h =
      mod-add (e + skip_of (e % len) len (length ws)) i len (let a = at_start in let b = fits in omega arith) ∙ ap (λ (k : ℕ). k + i) at_start

  new_word : (i : ℕ) → i < length ws → word_at (put_at len (e % len) ws xs) len (e + skip_of (e % len) len (length ws) + i) ≡ get_or ws i 0
  new_word i h =
      ap (λ (k : ℕ). get_or (put_at len (e % len) ws xs) k 0) (place_of i h)
      ∙ spliced-inside (start_of (e % len) len (length ws)) ws (marked (skip_of (e % len) len (length ws)) (e % len) xs) fits-marked i h

  outside : (k : ℕ) → k < e → e + skip_of (e % len) len (length ws) + length ws ≤ k + len
      → (k % len < start_of (e % len) len (length ws)) ⊎ (start_of (e % len) len (length ws) + length ws ≤ k % len)
  outside k p q =
      elim (cases_lt (k % len) (start_of (e % len) len (length ws))) as (λ _. (k % len < start_of (e % len) len (length ws)) ⊎ (start_of (e % len) len (length ws) + length ws ≤ k % len)) [
        | inl a ↦ inl a
        | inr a ↦ elim (cases_lt (k % len) (start_of (e % len) len (length ws) + length ws)) as (λ _. (k % len < start_of (e % len) len (length ws)) ⊎ (start_of (e % len) len (length ws) + length ws ≤ k % len)) [
          | inr b ↦ inr b
          | inl b ↦
              let i = k % len - start_of (e % len) len (length ws) in
              let small : k % len - start_of (e % len) len (length ws) < length ws = omega arith in
              let back : start_of (e % len) len (length ws) + (k % len - start_of (e % len) len (length ws)) ≡ k % len = omega arith in
              let same : k % len ≡ (e + skip_of (e % len) len (length ws) + (k % len - start_of (e % len) len (length ws))) % len = sym (place_of i small ∙ back) in
              absurd (mod-differ k (e + skip_of (e % len) len (length ws) + (k % len - start_of (e % len) len (length ws))) len (omega arith) (omega arith) same)
        ]
      ]

  pub agrees : (lo : ℕ) → e + skip_of (e % len) len (length ws) + length ws ≤ lo + len → Agree xs (put_at len (e % len) ws xs) len lo e
  agrees lo q k a b =
      let other : k % len ≢ e % len = λ same. mod-differ k e len b (omega (arith, words)) same in
      let old = marked-other (skip_of (e % len) len (length ws)) (e % len) xs (k % len) other in
      elim (outside k b (omega arith)) as (λ _. word_at (put_at len (e % len) ws xs) len k ≡ word_at xs len k) [
        | inl h ↦ spliced-before (start_of (e % len) len (length ws)) ws (marked (skip_of (e % len) len (length ws)) (e % len) xs) fits-marked (k % len) h ∙ old
        | inr h ↦ spliced-after (start_of (e % len) len (length ws)) ws (marked (skip_of (e % len) len (length ws)) (e % len) xs) fits-marked (k % len) h ∙ old
      ]

  starts : starts_at (put_at len (e % len) ws xs) len e ≡ e + skip_of (e % len) len (length ws)
  starts = elim (placing (e % len) len (length ws)) as (λ _. starts_at (put_at len (e % len) ws xs) len e ≡ e + skip_of (e % len) len (length ws)) [
    | Over h s t ↦
        let r : e % len < len = mod-lt e some in
        let clear : word_at (put_at len (e % len) ws xs) len e ≡ 0 =
        spliced-after (start_of (e % len) len (length ws)) ws (marked (skip_of (e % len) len (length ws)) (e % len) xs) fits-marked (e % len) (omega (arith, room))
        ∙ marked-at (skip_of (e % len) len (length ws)) (e % len) xs (omega arith) (omega (arith, whole)) in
        if_zero (word_at (put_at len (e % len) ws xs) len e) (e + (len - e % len)) e clear ∙ ap (λ (k : ℕ). e + k) (sym s)
    | Here h s t ↦
        let z : e + skip_of (e % len) len (length ws) + 0 ≡ e = omega arith in
        let w : word_at (put_at len (e % len) ws xs) len e ≡ length ws = sym (ap (word_at (put_at len (e % len) ws xs) len) z) ∙ new_word 0 words ∙ first in
        if_some (word_at (put_at len (e % len) ws xs) len e) (e + (len - e % len)) e (omega (arith, words, w)) ∙ omega arith
  ]

  size : size_at (put_at len (e % len) ws xs) len e ≡ length ws
  size =
      ap (word_at (put_at len (e % len) ws xs) len) (starts ∙ sym (plus0' (e + skip_of (e % len) len (length ws)))) ∙ new_word 0 words ∙ first

  pub lies : (h : ℕ) → size_of h 0 ≤ length ws → Lie (put_at len (e % len) ws xs) len h 1 e (e + skip_of (e % len) len (length ws) + length ws)
  lies h big = (
    let s = size in omega arith,
    subst (λ (k : ℕ). k % len + size_at (put_at len (e % len) ws xs) len e ≤ len) (sym starts) (let s = size in let a = at_start in let f = fits in omega arith),
    (let s = size in let b = starts in omega arith),
  )

  pub record_there : records_at (put_at len (e % len) ws xs) len 1 e ≡ ws ∷ []
  record_there =
      ap (λ (vs : List ℕ). vs ∷ []) (
      ap (λ (k : ℕ). span (put_at len (e % len) ws xs) len k (starts_at (put_at len (e % len) ws xs) len e)) size
      ∙ ap (span (put_at len (e % len) ws xs) len (length ws)) starts
      ∙ span-is (put_at len (e % len) ws xs) len ws (e + skip_of (e % len) len (length ws)) new_word)

-- a tag is written at the place of tag count t
pub tag-agrees : (ts : List ℕ) (tags t tag lo : ℕ) → t < lo + tags → Agree ts (slice_set ts (t % tags) tag) tags lo t
tag-agrees ts tags t tag lo q k a b = get_or-set_other ts (t % tags) (k % tags) tag 0 (λ same. mod-differ k t tags b (omega arith) same)
