-- To fewer functions calls lead from a function called than from the one that calls it.
use Rattle.std.proofs.Common.{◌≡◌, ℕ, zero, suc, ◌+◌, ◌<◌, ◌≤◌, ◌⊎◌, Bool, true, false, cond, List, [], ◌∷◌, ◌++◌, length, get_or, None, ap, ap₂, refl, sym, ◌∙◌, subst, inl, inr, arith, true≢false}
use Rattle.std.proofs.lemmas.Bool.{cases_lt}
use Rattle.std.proofs.lemmas.List.{get_or_past, get_or_append_left, get_or_push}
use Rattle.gp_isa.specs.declared.parts.Parts.{Parts}
use Rattle.gp_isa.specs.Calls.{callees, is_recursive, first_recursive}
use Rattle.gp_isa.specs.InLimits.{AreInLimits}
use Rattle.gp_isa.specs.kept.Ways.{is_among, marked, marks_below, AreLeads}
use Rattle.gp_isa.specs.kept.Sizes.{AreRanks}
use Rattle.gp_isa.proofs.First.{each_fails}
use Rattle.gp_isa.proofs.Leads.{leads_on, leads_at_once, recursive_is}
use Rattle.gp_isa.proofs.Named.{among_there}

bit_le : (p q : Bool) → (p ≡ true → q ≡ true) → cond p 1 0 ≤ cond q 1 0
bit_le true true more = omega arith
bit_le true false more = absurd (true≢false (sym (more refl)))
bit_le false true more = omega arith
bit_le false false more = omega arith

bit_most : (p : Bool) → cond p 1 0 ≤ 1
bit_most true = omega arith
bit_most false = omega arith

pub marks_few : (row : List Bool) (n : ℕ) → marks_below row n ≤ n
unfolding marks_below
marks_few row zero = omega arith
marks_few row (suc n) = omega (arith, marks_few row n, bit_most (marked row n))

pub marks_none : (row : List Bool) → 0 ≡ marks_below row 0
unfolding marks_below
marks_none row = refl

pub marks_more : (row : List Bool) (n count : ℕ) (b : Bool) → marked row n ≡ b → count ≡ marks_below row n → count + cond b 1 0 ≡ marks_below row (n + 1)
unfolding marks_below
marks_more row n count b is counted =
    let next : n + 1 ≡ suc n = omega arith in
    ap₂ (λ c b. c + cond b 1 0) counted (sym is) ∙ sym (ap (marks_below row) next)

bit_less : (p q : Bool) → p ≡ false → q ≡ true → cond p 1 0 < cond q 1 0
bit_less p q off on = subst (λ b. cond b 1 0 < cond q 1 0) (sym off) (subst (λ b. 0 < cond b 1 0) (sym on) (omega arith))

module _ (fewer more : List Bool) (within : (h : ℕ) → marked fewer h ≡ true → marked more h ≡ true) where
  marks_le : (n : ℕ) → marks_below fewer n ≤ marks_below more n
  unfolding marks_below
  marks_le zero = omega arith
  marks_le (suc n) = omega (arith, marks_le n, bit_le (marked fewer n) (marked more n) (within n))

  pub marks_less : (x : ℕ) → marked fewer x ≡ false → marked more x ≡ true → (n : ℕ) → x < n → marks_below fewer n < marks_below more n
  unfolding marks_below
  marks_less x off on zero below = absurd (omega arith)
  marks_less x off on (suc n) below = at (cases_lt x n) (marks_less x off on n)
    where
      at : (x < n) ⊎ (n ≤ x) → (x < n → marks_below fewer n < marks_below more n) → marks_below fewer (suc n) < marks_below more (suc n)
      at (inl early) rest = omega (arith, rest early, bit_le (marked fewer n) (marked more n) (within n))
      at (inr last) rest =
          let same : x ≡ n = omega arith in
          omega (arith, marks_le n, bit_less (marked fewer n) (marked more n) (subst (λ k. marked fewer k ≡ false) same off) (subst (λ k. marked more k ≡ true) same on))

module _ (parts : Parts) (limits : AreInLimits parts) (acyclic : first_recursive parts ≡ None) (rows : List (List Bool)) (leads : AreLeads parts (length parts.functions) rows) where
  abbrev row : ℕ → List Bool
  row f = get_or rows f []

  called_less : (most f h : ℕ) → length parts.functions ≤ most → is_among h (callees parts f) ≡ true → marks_below (row h) most < marks_below (row f) most
  called_less most f h few calls =
      let there : h < length parts.functions = among_there parts limits f h calls in
      marks_less (row h) (row f)
      (λ g leads_there. (leads.each f g).1 (leads_on parts (length parts.functions) f h g calls there ((leads.each h g).0 leads_there)))
      h
      (recursive_is parts limits rows leads h ∙ each_fails (is_recursive parts) 0 (length parts.functions) acyclic h (omega arith) (omega arith))
      ((leads.each f h).1 (leads_at_once parts (length parts.functions) f h calls))
      most (omega arith)

  pub are_ranks : (most : ℕ) (ranks : List ℕ) → length parts.functions ≤ most → length rows ≡ length parts.functions → length ranks ≡ length rows →
      ((k : ℕ) → k < length rows → get_or ranks k 0 ≡ marks_below (row k) most) → AreRanks parts most ranks
  are_ranks most ranks enough len count each = record {
    count = count ∙ len;
    few = λ f. at f (cases_lt f (length rows));
    rising = λ f h within calls.
        let there : h < length parts.functions = among_there parts limits f h calls in
        omega (arith, each h (omega arith), each f (omega arith), called_less most f h enough calls);
  }
    where
      at : (f : ℕ) → (f < length rows) ⊎ (length rows ≤ f) → get_or ranks f 0 ≤ most
      at f (inl within) = omega (arith, each f within, marks_few (row f) most)
      at f (inr past) = omega (arith, get_or_past ranks f 0 (omega arith))

-- one rank more
pub ranks_more : (most : ℕ) (rows : List (List Bool)) (ranks pushed : List ℕ) (i new : ℕ) → length ranks ≡ i → pushed ≡ ranks ++ new ∷ [] → new ≡ marks_below (get_or rows i []) most →
    ((k : ℕ) → k < i → get_or ranks k 0 ≡ marks_below (get_or rows k []) most) → (k : ℕ) → k < i + 1 → get_or pushed k 0 ≡ marks_below (get_or rows k []) most
ranks_more most rows ranks pushed i new len push is before k below = ap (λ rs. get_or rs k 0) push ∙ at (cases_lt k i)
  where
    at : (k < i) ⊎ (i ≤ k) → get_or (ranks ++ new ∷ []) k 0 ≡ marks_below (get_or rows k []) most
    at (inl early) = get_or_append_left ranks (new ∷ []) 0 k (omega arith) ∙ before k early
    at (inr last) = let here : k ≡ i = omega arith in get_or_push ranks new 0 k (omega arith) ∙ is ∙ ap (λ j. marks_below (get_or rows j []) most) (sym here)
