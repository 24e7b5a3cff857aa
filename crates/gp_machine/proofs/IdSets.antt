-- The words of a set of numbers: what a written word changes, and where the least number stands.
use Rattle.std.proofs.Common.{◌≡◌, ◌≢◌, ℕ, ◌+◌, ◌*◌, ◌/◌, ◌%◌, ◌^◌, ◌<◌, ◌≤◌, Bool, true, false, ◌==◌, List, length, get_or, set, replicate, Some, None, bit_and, bit_or, refl, sym, ap, ◌∙◌, inl, inr, arith, eq-eqb}
use Rattle.std.proofs.Common.{ext_get_or, length-set, get_or-set_same, get_or-set_other}
use Rattle.std.specs.Int.{bit_at, bit_not, trailing_zeros, w128}
use Rattle.std.specs.Int.Bits.{and_zero_l}
use Rattle.std.proofs.lemmas.Bool.{cases_eq, cases_lt, ne_eqb, lt-ltb, le-ltb, true≢false}
use Rattle.std.proofs.lemmas.List.{length-replicate, get_or-replicate, get_or_past, get_or_read}
use Rattle.std.proofs.lemmas.List.FromFn.{length-map-range_with_len, get_or-map-range_with_len}
use Rattle.std.proofs.lemmas.List.Sums.{position_or_len_is}
use Rattle.std.proofs.lemmas.Nat.Bits.{bit_at-zero, bit_at-trailing_zeros, bit_at_set_same, bit_at_set_other, bit_at_clear_same, bit_at_clear_other}
use Rattle.gp_machine.specs.kept.IdSet.{first_place, has_bit, ids_of, IsKept}

-- a word once a bit is set, and once it is cleared
abbrev with_bit : ℕ → ℕ → ℕ
with_bit word k = bit_or word (1 * 2 ^ k % 2 ^ 128)

abbrev without_bit : ℕ → ℕ → ℕ
without_bit word k = bit_and word (bit_not w128 (1 * 2 ^ k % 2 ^ 128))

length-ids_of : (room : ℕ) (words : List ℕ) → length (ids_of room words) ≡ room
length-ids_of room words = length-map-range_with_len (has_bit words) 0 room

get_or-ids_of : (room : ℕ) (words : List ℕ) (id : ℕ) → id < room → get_or (ids_of room words) id false ≡ has_bit words id
get_or-ids_of room words id below = get_or-map-range_with_len (has_bit words) 0 room id id false below (omega arith)

-- a number whose word is 0 has no bit
has_none : (words : List ℕ) (id : ℕ) → get_or words (id / 128) 0 ≡ 0 → has_bit words id ≡ false
has_none words id zero = rw (zero, bit_at-zero) (ne_eqb 0 1 (λ e. omega arith))

-- words of zeros keep the empty set
pub ids_of_zeros : (room n : ℕ) → room ≤ 128 * n → ids_of room (replicate n 0) ≡ replicate room false
ids_of_zeros room n enough =
    ext_get_or false _ _ (length-ids_of room _ ∙ sym (length-replicate room false))
    (λ id h.
    let below : id < room = rw length-ids_of at h in
    let word : id / 128 < n = omega arith in
    get_or-ids_of room (replicate n 0) id below ∙ has_none (replicate n 0) id (get_or-replicate n (id / 128) 0 0 word) ∙ sym (get_or-replicate room id false false below))

-- A word is written in which only the bit of one number may be another.
module _ (words : List ℕ) (id word : ℕ) (there : id / 128 < length words) (others : (i : ℕ) → i < 128 → i ≢ id % 128 → bit_at word i ≡ bit_at (get_or words (id / 128) 0) i) where
  written_other : (k : ℕ) → k ≢ id → has_bit (set words (id / 128) word) k ≡ has_bit words k
  written_other k other =
      elim (cases_eq (k / 128) (id / 128)) [
        | inl same ↦
            rw (same, get_or-set_same words (id / 128) word 0 there)
            (ap (λ n. n == 1) (others (k % 128) (omega arith) (λ e. other (omega arith))))
        | inr apart ↦ ap (λ n. bit_at n (k % 128) == 1) (get_or-set_other words (id / 128) (k / 128) word 0 apart)
      ]

  written_here : has_bit (set words (id / 128) word) id ≡ (bit_at word (id % 128) == 1)
  written_here = ap (λ n. bit_at n (id % 128) == 1) (get_or-set_same words (id / 128) word 0 there)

  ids_written : (room : ℕ) → id < room → ids_of room (set words (id / 128) word) ≡ set (ids_of room words) id (bit_at word (id % 128) == 1)
  ids_written room below =
      ext_get_or false _ _ (length-ids_of room _ ∙ sym (length-set (ids_of room words) id _ ∙ length-ids_of room words))
      (λ k h.
      let k_below : k < room = rw length-ids_of at h in
      let within : id < length (ids_of room words) = rw length-ids_of below in
      get_or-ids_of room _ k k_below
      ∙ elim (cases_eq k id) [
        | inl same ↦ rw same (written_here ∙ sym (get_or-set_same (ids_of room words) id _ false within))
        | inr other ↦ written_other k other ∙ sym (get_or-ids_of room words k k_below) ∙ sym (get_or-set_other (ids_of room words) id k _ false other)
      ])

  -- and the bits of `some` follow the word
  kept_written : (room some some' : ℕ) → IsKept room words some → id < room
      → (word ≡ 0 → bit_at some' (id / 128) ≡ 0) → (word ≢ 0 → bit_at some' (id / 128) ≡ 1)
      → ((i : ℕ) → i < 128 → i ≢ id / 128 → bit_at some' i ≡ bit_at some i)
      → IsKept room (set words (id / 128) word) some'
  kept_written room some some' kept below zero full rest = record {
    few = rw length-set kept.few;
    enough = rw length-set kept.enough;
    within = λ k past. written_other k (λ e. omega arith) ∙ kept.within k past;
    empty = λ i bit none.
        elim (cases_eq i (id / 128)) [
          | inl same ↦ rw same (zero (sym (get_or-set_same words (id / 128) word 0 there) ∙ ap (λ n. get_or (set words (id / 128) word) n 0) (sym same) ∙ none))
          | inr apart ↦ rest i bit apart ∙ kept.empty i bit (sym (get_or-set_other words (id / 128) i word 0 apart) ∙ none)
        ];
    full = λ i bit any.
        elim (cases_eq i (id / 128)) [
          | inl same ↦ rw same (full (λ e. any (ap (λ n. get_or (set words (id / 128) word) n 0) same ∙ get_or-set_same words (id / 128) word 0 there ∙ e)))
          | inr apart ↦ rest i bit apart ∙ kept.full i bit (λ e. any (get_or-set_other words (id / 128) i word 0 apart ∙ e))
        ];
  }

few_words : (room : ℕ) (words : List ℕ) (some id : ℕ) → IsKept room words some → id < room → id / 128 < 128
few_words room words some id kept below = omega (arith, kept.enough, kept.few)

-- A number of a set that words keep.
module _ {room : ℕ} {words : List ℕ} {some : ℕ} {ids : List Bool} (id : ℕ) (kept : IsKept room words some) (is : ids_of room words ≡ ids) (is_below : id < length ids) where
  below : id < room
  below = omega (arith, ap length is, length-ids_of room words)

  pub word_there : id / 128 < length words
  word_there = omega (arith, below, kept.enough)

  pub word_few : id / 128 < 128
  word_few = few_words room words some id kept below

  low : id % 128 < 128
  low = omega arith

  -- its word, as it is read
  module _ {word : ℕ} (read : word ≡ get_or words (id / 128) word) where
    word_is : word ≡ get_or words (id / 128) 0
    word_is = get_or_read words (id / 128) word word_there read 0

    set_others : (i : ℕ) → i < 128 → i ≢ id % 128 → bit_at (with_bit word (id % 128)) i ≡ bit_at (get_or words (id / 128) 0) i
    set_others i h apart = bit_at_set_other w128 word (id % 128) low i apart ∙ ap (λ n. bit_at n i) word_is

    set_here : bit_at (with_bit word (id % 128)) (id % 128) ≡ 1
    set_here = bit_at_set_same w128 word (id % 128) low

    clear_others : (i : ℕ) → i < 128 → i ≢ id % 128 → bit_at (without_bit word (id % 128)) i ≡ bit_at (get_or words (id / 128) 0) i
    clear_others i h apart = bit_at_clear_other w128 word (id % 128) low i h apart ∙ ap (λ n. bit_at n i) word_is

    clear_here : bit_at (without_bit word (id % 128)) (id % 128) ≡ 0
    clear_here = bit_at_clear_same w128 word (id % 128) low

    pub ids_inserted : ids_of room (set words (id / 128) (with_bit word (id % 128))) ≡ set ids id true
    ids_inserted =
        ids_written words id (with_bit word (id % 128)) word_there set_others room below
        ∙ ap (set (ids_of room words) id) (eq-eqb _ 1 set_here) ∙ ap (λ xs. set xs id true) is

    pub ids_removed : ids_of room (set words (id / 128) (without_bit word (id % 128))) ≡ set ids id false
    ids_removed =
        ids_written words id (without_bit word (id % 128)) word_there clear_others room below
        ∙ ap (set (ids_of room words) id) (ne_eqb _ 1 (λ e. omega (arith, clear_here))) ∙ ap (λ xs. set xs id false) is

    pub kept_inserted : IsKept room (set words (id / 128) (with_bit word (id % 128))) (with_bit some (id / 128))
    kept_inserted =
        kept_written words id (with_bit word (id % 128)) word_there set_others room some (with_bit some (id / 128)) kept below
        (λ zero. absurd (omega (arith, sym (ap (λ n. bit_at n (id % 128)) zero) ∙ set_here, bit_at-zero (id % 128))))
        (λ any. bit_at_set_same w128 some (id / 128) word_few)
        (λ i h apart. bit_at_set_other w128 some (id / 128) word_few i apart)

    -- the last number of a word is removed
    pub kept_emptied : without_bit word (id % 128) ≡ 0 → IsKept room (set words (id / 128) (without_bit word (id % 128))) (without_bit some (id / 128))
    kept_emptied zero =
        kept_written words id (without_bit word (id % 128)) word_there clear_others room some (without_bit some (id / 128)) kept below
        (λ e. bit_at_clear_same w128 some (id / 128) word_few)
        (λ any. absurd (any zero))
        (λ i h apart. bit_at_clear_other w128 some (id / 128) word_few i h apart)

    -- others stay in the word
    pub kept_removed : without_bit word (id % 128) ≢ 0 → IsKept room (set words (id / 128) (without_bit word (id % 128))) some
    kept_removed any =
        kept_written words id (without_bit word (id % 128)) word_there clear_others room some some kept below
        (λ zero. absurd (any zero))
        (λ e. kept.full (id / 128) word_few (λ zero. any (ap (λ n. without_bit n (id % 128)) (word_is ∙ zero) ∙ and_zero_l (bit_not w128 (1 * 2 ^ (id % 128) % 2 ^ 128)))))
        (λ i h apart. refl)

-- where a number stands: in which word, and at which place there
word_of : (at low : ℕ) → low < 128 → (at * 128 + low) / 128 ≡ at
word_of at low h = omega arith

place_of : (at low : ℕ) → low < 128 → (at * 128 + low) % 128 ≡ low
place_of at low h = omega arith

before : (at low k : ℕ) → k / 128 ≡ at → k < at * 128 + low → k % 128 < low
before at low k same h = omega arith

earlier : (at low k : ℕ) → low < 128 → k / 128 ≢ at → k < at * 128 + low → k / 128 < at
earlier at low k within apart h = omega arith

-- the first place of a list that has none
first_none : (ids : List Bool) → ((k : ℕ) → k < length ids → get_or ids k false ≡ false) → first_place ids ≡ None
first_none ids none =
    let at = position_or_len_is (λ b. b) ids (length ids) false (omega arith) none (λ h. absurd (omega arith)) in
    rw (at, le-ltb (length ids) (length ids) (omega arith)) refl

first_some : (ids : List Bool) (i : ℕ) → i < length ids → get_or ids i false ≡ true → ((k : ℕ) → k < i → get_or ids k false ≡ false) → first_place ids ≡ Some i
first_some ids i within here before =
    let at = position_or_len_is (λ b. b) ids i false (omega arith) before (λ h. here) in
    rw (at, lt-ltb i (length ids) within) refl

module _ {room : ℕ} {words : List ℕ} {some : ℕ} {ids : List Bool} (kept : IsKept room words some) (is : ids_of room words ≡ ids) where
  -- a word whose bit isn't set is 0
  unset : (i : ℕ) → i < 128 → bit_at some i ≡ 0 → get_or words i 0 ≡ 0
  unset i h zero =
      elim (cases_eq (get_or words i 0) 0) [
        | inl e ↦ e
        | inr any ↦ absurd (omega (arith, kept.full i h any))
      ]

  in_room : (id : ℕ) → has_bit words id ≡ true → id < room
  in_room id here =
      elim (cases_lt id room) [
        | inl h ↦ h
        | inr past ↦ absurd (true≢false (sym here ∙ kept.within id past))
      ]

  pub least_none : some ≡ 0 → None ≡ first_place ids
  least_none zero =
      sym (first_none (ids_of room words)
      (λ k h.
      let below : k < room = rw length-ids_of at h in
      get_or-ids_of room words k below
      ∙ has_none words k (unset (k / 128) (few_words room words some k kept below) (rw zero (bit_at-zero (k / 128)))))) ∙ ap first_place is

  module _ (any : some ≢ 0) (fits : some < 2 ^ 128) where
    abbrev at : ℕ
    at = trailing_zeros w128 some

    first_word : (at < 128) × (bit_at some at ≡ 1) × ((i : ℕ) → i < at → bit_at some i ≡ 0)
    first_word = bit_at-trailing_zeros w128 some (omega arith) fits

    pub word_any : 0 < get_or words at 0
    word_any =
        elim (cases_eq (get_or words at 0) 0) [
          | inl e ↦ absurd (omega (arith, first_word.1, kept.empty at first_word.0 e))
          | inr other ↦ omega arith
        ]

    pub word_within : at < length words
    word_within =
        elim (cases_lt at (length words)) [
          | inl h ↦ h
          | inr past ↦ absurd (omega (arith, word_any, get_or_past words at 0 past))
        ]

    pub least_some : {word : ℕ} → word ≡ get_or words at word → word < 2 ^ 128 → Some (at * 128 + trailing_zeros w128 word) ≡ first_place ids
    least_some {word = word} is_read word_fits =
        let read : word ≡ get_or words at 0 = get_or_read words at word word_within is_read 0 in
        let lowest = bit_at-trailing_zeros w128 word (rw read word_any) word_fits in
        let id : ℕ = at * 128 + trailing_zeros w128 word in
        let row : id / 128 ≡ at = word_of at (trailing_zeros w128 word) lowest.0 in
        let place : id % 128 ≡ trailing_zeros w128 word = place_of at (trailing_zeros w128 word) lowest.0 in
        let here : has_bit words id ≡ true = rw (row, place) (ap (λ n. bit_at n (trailing_zeros w128 word) == 1) (sym read) ∙ eq-eqb _ 1 lowest.1) in
        let below : id < room = in_room id here in
        sym (first_some (ids_of room words) id (rw length-ids_of below) (get_or-ids_of room words id below ∙ here)
        (λ k h.
        let k_below : k < room = omega arith in
        get_or-ids_of room words k k_below
        ∙ elim (cases_eq (k / 128) at) [
          | inl same ↦
              rw same
              (ap (λ n. bit_at n (k % 128) == 1) (sym read)
              ∙ ne_eqb _ 1 (λ e. let zero = lowest.2 (k % 128) (before at (trailing_zeros w128 word) k same h) in omega arith))
          | inr apart ↦
              has_none words k
              (unset (k / 128) (few_words room words some k kept k_below) (first_word.2 (k / 128) (earlier at (trailing_zeros w128 word) k lowest.0 apart h)))
        ])) ∙ ap first_place is
