-- The set bits of a word, one after another.
use Rattle.std.proofs.Common.{◌≡◌, ℕ, zero, suc, ◌+◌, ◌-◌, ◌*◌, ◌%◌, ◌^◌, ◌<◌, ◌≤◌, bit_and, refl, sym, ap, ◌∙◌, inl, inr, arith}
use Rattle.std.specs.Int.{bit_at, bit_not, trailing_zeros, w32}
use Rattle.std.proofs.lemmas.Bool.{cases_eq, cases_lt}
use Rattle.std.proofs.lemmas.Nat.Bits.{bit_at-zero, bit_at-trailing_zeros, bit_at_clear_same, bit_at_clear_other}
use Rattle.gp_machine.specs.kept.Workers.{bits_below}

pub below_none : (word : ℕ) → bits_below word 0 ≡ 0
unfolding bits_below
below_none word = refl

pub below_more : (word k : ℕ) → bits_below word (suc k) ≡ bits_below word k + bit_at word k
unfolding bits_below
below_more word k = refl

-- no bit is set among so many from one on
none_between : (word a k : ℕ) → ((i : ℕ) → a ≤ i → i < a + k → bit_at word i ≡ 0) → bits_below word (a + k) ≡ bits_below word a
none_between word a zero none = let on : a + 0 ≡ a = omega arith in ap (bits_below word) on
none_between word a (suc k) none =
    let on : a + suc k ≡ suc (a + k) = omega arith in
    let here : bit_at word (a + k) ≡ 0 = none (a + k) (omega arith) (omega arith) in
    let rest : bits_below word (a + k) ≡ bits_below word a = none_between word a k (λ i low high. none i low (omega arith)) in
    ap (bits_below word) on ∙ below_more word (a + k) ∙ omega (arith, here, rest)

-- a word whose lowest set bit is cleared
abbrev pub without_lowest : ℕ → ℕ
without_lowest rest = bit_and rest (bit_not w32 (1 * 2 ^ trailing_zeros w32 rest % 2 ^ 32))

-- What is left of a word once its lowest set bits are cleared, so many as were passed; `from` is behind the last of them.
pub record IsLeft (word rest passed : ℕ) : Type 0 where
  pub from : ℕ
  pub within : from ≤ 32
  pub low : (i : ℕ) → i < from → bit_at rest i ≡ 0
  pub high : (i : ℕ) → from ≤ i → i < 32 → bit_at rest i ≡ bit_at word i
  pub before : bits_below word from ≡ passed

pub left_all : (word : ℕ) → IsLeft word word 0
left_all word = record {
  from = 0;
  within = omega arith;
  low = λ i h. absurd (omega arith);
  high = λ i a b. refl;
  before = below_none word;
}

module _ {word rest passed : ℕ} (left : IsLeft word rest passed) (more : passed < bits_below word 32) (fits : rest < 2 ^ 32) where
  -- a bit is left
  pub some_left : 0 < rest
  some_left =
      elim (cases_eq rest 0) [
        | inl none ↦
            let all : left.from + (32 - left.from) ≡ 32 = let w = left.within in omega arith in
            let zeros : bits_below word (left.from + (32 - left.from)) ≡ bits_below word left.from =
            none_between word left.from (32 - left.from)
            (λ i low high. sym (left.high i low (omega (arith, all))) ∙ ap (λ n. bit_at n i) none ∙ bit_at-zero i) in
            absurd (omega (arith, more, ap (bits_below word) all, zeros, left.before))
        | inr any ↦ omega arith
      ]

  abbrev at : ℕ
  at = trailing_zeros w32 rest

  lowest : (at < 32) × (bit_at rest at ≡ 1) × ((i : ℕ) → i < at → bit_at rest i ≡ 0)
  lowest = bit_at-trailing_zeros w32 rest some_left fits

  behind : left.from ≤ at
  behind =
      elim (cases_lt at left.from) [
        | inl before ↦ absurd (omega (arith, left.low at before, lowest.1))
        | inr after ↦ after
      ]

  pub lowest_within : at < 32
  lowest_within = lowest.0

  -- the lowest one left is set in the word, and as many as were passed are below it
  pub lowest_set : bit_at word at ≡ 1
  lowest_set = sym (left.high at behind lowest.0) ∙ lowest.1

  pub lowest_before : bits_below word at ≡ passed
  lowest_before =
      let all : left.from + (at - left.from) ≡ at = let b = behind in omega arith in
      sym (ap (bits_below word) all)
      ∙ none_between word left.from (at - left.from)
      (λ i low high. let h : i < at = omega (arith, all) in let w = lowest.0 in sym (left.high i low (omega arith)) ∙ lowest.2 i h)
      ∙ left.before

  -- it is cleared
  pub left_less : IsLeft word (without_lowest rest) (passed + 1)
  left_less = record {
    from = suc at;
    within = let w = lowest.0 in omega arith;
    low = λ i h.
        elim (cases_eq i at) [
          | inl same ↦ ap (bit_at (without_lowest rest)) same ∙ bit_at_clear_same w32 rest at lowest.0
          | inr other ↦ let w = lowest.0 in bit_at_clear_other w32 rest at lowest.0 i (omega arith) other ∙ lowest.2 i (omega arith)
        ];
    high = λ i low high.
        let b = behind in
        bit_at_clear_other w32 rest at lowest.0 i high (λ e. absurd (omega arith)) ∙ left.high i (omega arith) high;
    before = below_more word at ∙ omega (arith, lowest_set, lowest_before);
  }
