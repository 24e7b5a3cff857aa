-- Two lists, compared element by element.
use Rattle.std.proofs.Common.{◌≡◌, ◌⊎◌, ℕ, suc, ◌+◌, Bool, true, false, List, [], ◌∷◌, length, refl, sym, ap, ◌∙◌, ⊎_elim, true≢false, arith}
use Rattle.std.specs.Ordering.{nat_cmp, ordering_then}
use Rattle.std.specs.Cmp.{nat_cmp_is}
use Rattle.std.specs.Cmp.Lexicographic.{slice_cmp}
use Rattle.std.specs.declared.cmp.Ordering.{Ordering}
use Rattle.std.specs.declared.cmp.Ordering.TheVariants.{Less, Equal, Greater}

-- What is left of two lists once as many elements of each were equal.
pub record IsLeft {X : Type 0} (R : X → X → Ordering) (a b rest_a rest_b : List X) : Type 0 where
  pub decides : slice_cmp R a b ≡ slice_cmp R rest_a rest_b
  pub passed : ℕ
  pub first : length a ≡ passed + length rest_a
  pub second : length b ≡ passed + length rest_b

module _ {X : Type 0} (R : X → X → Ordering) where
  pub left_all : (a b rest_a rest_b : List X) → rest_a ≡ a → rest_b ≡ b → IsLeft R a b rest_a rest_b
  left_all a b rest_a rest_b e f = record {
    decides = λ i. slice_cmp R (sym e i) (sym f i);
    passed = 0;
    first = ap length (sym e) ∙ omega arith;
    second = ap length (sym f) ∙ omega arith;
  }

  -- two elements more are equal
  pub left_more : (a b rest_a rest_b xs ys : List X) (x y : X) → rest_a ≡ x ∷ xs → rest_b ≡ y ∷ ys → IsLeft R a b rest_a rest_b → R x y ≡ Equal → IsLeft R a b xs ys
  left_more a b rest_a rest_b xs ys x y e f left equal = record {
    decides = left.decides ∙ (λ i. slice_cmp R (e i) (f i)) ∙ ap (λ (o : Ordering). ordering_then o (slice_cmp R xs ys)) equal;
    passed = left.passed + 1;
    first = let long : length rest_a ≡ suc (length xs) = ap length e in omega (arith, left.first);
    second = let long : length rest_b ≡ suc (length ys) = ap length f in omega (arith, left.second);
  }

  decided : (o rest : Ordering) → (o ≡ Equal → ⊥) → ordering_then o rest ≡ o
  decided Less rest not_equal = refl
  decided Equal rest not_equal = absurd (not_equal refl)
  decided Greater rest not_equal = refl

  -- two elements differ
  pub left_told : (a b rest_a rest_b xs ys : List X) (x y : X) (o : Ordering) → rest_a ≡ x ∷ xs → rest_b ≡ y ∷ ys → IsLeft R a b rest_a rest_b → o ≡ R x y → (o ≡ Equal → ⊥) → o ≡ slice_cmp R a b
  left_told a b rest_a rest_b xs ys x y o e f left is not_equal =
      sym (decided o (slice_cmp R xs ys) not_equal)
      ∙ ap (λ (o : Ordering). ordering_then o (slice_cmp R xs ys)) is
      ∙ sym (left.decides ∙ (λ i. slice_cmp R (e i) (f i)))

  ended : (n : ℕ) (xs ys : List X) → (xs ≡ []) ⊎ (ys ≡ []) → nat_cmp (n + length xs) (n + length ys) ≡ slice_cmp R xs ys
  ended n [] [] one = sym (nat_cmp_is (n + 0) (n + 0) Equal refl)
  ended n [] (y ∷ ys) one = sym (nat_cmp_is (n + 0) (n + suc (length ys)) Less (omega arith))
  ended n (x ∷ xs) [] one = sym (nat_cmp_is (n + suc (length xs)) (n + 0) Greater (omega arith))
  ended n (x ∷ xs) (y ∷ ys) one = absurd (⊎_elim (λ (e : x ∷ xs ≡ []). nonempty x xs e) (λ (e : y ∷ ys ≡ []). nonempty y ys e) one)
    where
      is_some : List X → Bool
      is_some [] = false
      is_some (z ∷ zs) = true

      nonempty : (z : X) (zs : List X) → z ∷ zs ≡ [] → ⊥
      nonempty z zs e = true≢false (ap is_some e)

  -- one of the lists ends
  pub left_end : (a b rest_a rest_b : List X) → (rest_a ≡ []) ⊎ (rest_b ≡ []) → IsLeft R a b rest_a rest_b → nat_cmp (length a) (length b) ≡ slice_cmp R a b
  left_end a b rest_a rest_b one left =
      (λ i. nat_cmp (left.first i) (left.second i)) ∙ ended left.passed rest_a rest_b one ∙ sym left.decides
