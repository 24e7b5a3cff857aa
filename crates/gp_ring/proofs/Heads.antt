-- The head of the offers, as one more is made.
use Rattle.std.proofs.Common.{◌≡◌, ℕ, ◌+◌, ◌-◌, ◌*◌, ◌<◌, ◌≤◌, Bool, true, false, ◌&&◌, List, [], ◌∷◌, ◌++◌, length, refl, ap, ◌∙◌, arith, length-append, max, inl, inr}
use Rattle.std.specs.Prelude.{nat_le, if◌then◌else◌}
use Rattle.std.proofs.lemmas.Bool.{and_parts, and_from, and_cases}
use Rattle.std.proofs.lemmas.Bool.Decides.{nat_tests}
use Rattle.gp_layout.specs.Spelling.{loss_size}
use Rattle.gp_ring.specs.Records.{Offer, head, fit_twice, words_for, words_for_all, words_for_most}

le_true : (a b : ℕ) → nat_le a b ≡ true → a ≤ b
le_true a b h = grind (arith, nat_tests)

true_le : (a b : ℕ) → a ≤ b → nat_le a b ≡ true
true_le a b h = grind (arith, nat_tests)

le_false : (a b : ℕ) → nat_le a b ≡ false → b < a
le_false a b h = grind (arith, nat_tests)

pub fit-parts : (h len tags : ℕ) (os : List Offer) → fit_twice h len tags os ≡ true → (length os ≤ tags) × (2 * words_for_all h os ≤ len)
fit-parts h len tags os f =
    let p = and_parts (nat_le (length os) tags) (nat_le (2 * words_for_all h os) len) f in
    (le_true (length os) tags p.0, le_true (2 * words_for_all h os) len p.1)

pub fit-from : (h len tags : ℕ) (os : List Offer) → length os ≤ tags → 2 * words_for_all h os ≤ len → fit_twice h len tags os ≡ true
fit-from h len tags os a b = and_from (nat_le (length os) tags) (nat_le (2 * words_for_all h os) len) (true_le (length os) tags a) (true_le (2 * words_for_all h os) len b)

pub words-append : (h : ℕ) (os : List Offer) (o : Offer) → words_for_all h (os ++ o ∷ []) ≡ words_for_all h os + words_for h o
words-append h [] o = omega arith
words-append h (p ∷ os) o = let e = words-append h os o in omega arith

pub most-append : (h : ℕ) (os : List Offer) (o : Offer) → words_for_most h (os ++ o ∷ []) ≡ words_for_most h os + max (words_for h o) (loss_size h)
most-append h [] o = omega arith
most-append h (p ∷ os) o = let e = most-append h os o in omega arith

first_fits : (h len tags : ℕ) (o : Offer) → 1 ≤ tags → 2 * words_for h o ≤ len → (nat_le 1 tags && nat_le (2 * words_for h o) len) ≡ true
first_fits h len tags o a b = and_from (nat_le 1 tags) (nat_le (2 * words_for h o) len) (true_le 1 tags a) (true_le (2 * words_for h o) len b)

if_true : {A : Type 0} (b : Bool) (x y : A) → b ≡ true → (if b then x else y) ≡ x
if_true b x y h = ap (λ (c : Bool). if c then x else y) h

if_false : {A : Type 0} (b : Bool) (x y : A) → b ≡ false → (if b then x else y) ≡ y
if_false b x y h = ap (λ (c : Bool). if c then x else y) h

head-all-at : (h len tags : ℕ) (os : List Offer) → length os ≤ tags → 2 * words_for_all h os ≤ len → head h len tags os ≡ os
head-all-at h len tags [] a b = refl
head-all-at h len tags (o ∷ os) a b =
    if_true (nat_le 1 tags && nat_le (2 * words_for h o) len) (o ∷ head h (len - 2 * words_for h o) (tags - 1) os) [] (first_fits h len tags o (omega arith) (omega arith))
    ∙ ap (λ (xs : List Offer). o ∷ xs) (head-all-at h (len - 2 * words_for h o) (tags - 1) os (omega arith) (omega arith))

-- offers that fit twice over are their own head
pub head-all : (h len tags : ℕ) (os : List Offer) → fit_twice h len tags os ≡ true → head h len tags os ≡ os
head-all h len tags os f = let p = fit-parts h len tags os f in head-all-at h len tags os p.0 p.1

-- one that doesn't fit changes no head
head-same-at : (h len tags : ℕ) (os : List Offer) (o : Offer) → (length os + 1 ≤ tags → len < 2 * words_for_all h os + 2 * words_for h o) → head h len tags (os ++ o ∷ []) ≡ head h len tags os
head-same-at h len tags [] o f = elim (nat_le 1 tags && nat_le (2 * words_for h o) len) as (λ (b : Bool). (nat_le 1 tags && nat_le (2 * words_for h o) len) ≡ b → (if b then o ∷ head h (len - 2 * words_for h o) (tags - 1) [] else []) ≡ []) [
  | true ↦ λ e. let p = and_parts (nat_le 1 tags) (nat_le (2 * words_for h o) len) e in
      let a : 1 ≤ tags = le_true 1 tags p.0 in let b : 2 * words_for h o ≤ len = le_true (2 * words_for h o) len p.1 in absurd (omega arith)
  | false ↦ λ e. refl
] refl
head-same-at h len tags (p ∷ os) o f = elim (nat_le 1 tags && nat_le (2 * words_for h p) len) as
    (λ (b : Bool). (nat_le 1 tags && nat_le (2 * words_for h p) len) ≡ b
    → (if b then p ∷ head h (len - 2 * words_for h p) (tags - 1) (os ++ o ∷ []) else []) ≡ (if b then p ∷ head h (len - 2 * words_for h p) (tags - 1) os else [])) [
      | true ↦ λ e. let q = and_parts (nat_le 1 tags) (nat_le (2 * words_for h p) len) e in
          let a : 1 ≤ tags = le_true 1 tags q.0 in let b : 2 * words_for h p ≤ len = le_true (2 * words_for h p) len q.1 in
          ap (λ (xs : List Offer). p ∷ xs) (head-same-at h (len - 2 * words_for h p) (tags - 1) os o (λ (k : length os + 1 ≤ tags - 1). omega (arith, f (omega arith))))
      | false ↦ λ e. refl
    ] refl

pub head-same : (h len tags : ℕ) (os : List Offer) (o : Offer) → fit_twice h len tags (os ++ o ∷ []) ≡ false → head h len tags (os ++ o ∷ []) ≡ head h len tags os
head-same h len tags os o f =
    let n : length (os ++ o ∷ []) ≡ length os + 1 = length-append os (o ∷ []) in
    let w = words-append h os o in
    let cases = and_cases (nat_le (length (os ++ o ∷ [])) tags) (nat_le (2 * words_for_all h (os ++ o ∷ [])) len) f in
    head-same-at h len tags os o (λ (k : length os + 1 ≤ tags). elim cases as (λ _. len < 2 * words_for_all h os + 2 * words_for h o) [
      | inl a ↦ (let x = le_false (length (os ++ o ∷ [])) tags a in absurd (omega arith))
      | inr b ↦ (let x = le_false (2 * words_for_all h (os ++ o ∷ [])) len b in omega arith)
    ])
