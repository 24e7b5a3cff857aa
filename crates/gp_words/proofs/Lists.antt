-- Lists of numbers, read piece by piece.
use Rattle.std.proofs.Common.{◌≡◌, ℕ, ◌<◌, ◌≤◌, ◌+◌, ◌-◌, ◌%◌, ◌^◌, List, [], ◌∷◌, ◌++◌, length, get_or, drop, Bool, true, false, Option, Some, None, option_map, cond, sym, ap, ◌∙◌, refl, arith, append_assoc, append-nil, leb, ◌&&◌, suc, All, subst}
use Rattle.std.proofs.Common.{codes, Result, IfOk}
use Rattle.std.specs.Option.{ok_or}
use Rattle.std.specs.Str.Parse.{digits_value}
use Rattle.std.proofs.lemmas.Bool.{leb-true, le-leb, lt-leb}
use Rattle.std.proofs.lemmas.List.{at_drop_more, at_drop_all}
use Rattle.std.proofs.lemmas.List.Elements.{All-nil, All-cons}
use Rattle.std.specs.Str.{bytes_eq}
use Rattle.gp_journal.specs.declared.settings.Request.TheVariants.{Clock, End}
use Rattle.gp_words.specs.declared.setting.Values.{Values}
use Rattle.gp_words.specs.declared.setting.Values.TheVariants.{Numbers, Divisors, Instants, Lists}
use Rattle.gp_words.specs.declared.choice.Value.{Value}
use Rattle.gp_words.specs.declared.choice.Value.TheVariants.{Number, Instant, List as Listed}
use Rattle.gp_words.specs.kept.Sound.{IsOneOf}
use Rattle.gp_words.specs.Options.{value_of}
use Rattle.gp_words.specs.Numbers.{is_number, number_in, if_divides, divisor_in, in_front, numbers_of, pieces_of, picks_of}
use Rattle.gp_words.proofs.Digits.{divides_is}

-- numbers that were read, in front of the rest
abbrev pub after : List ℕ → Option (List ℕ) → Option (List ℕ)
after numbers rest = option_map (λ ns. numbers ++ ns) rest

nothing_after : (rest : Option (List ℕ)) → rest ≡ after [] rest
nothing_after None = refl
nothing_after (Some ns) = refl

pub none_read : (pieces : List (List ℕ)) → numbers_of pieces ≡ after [] (numbers_of pieces)
none_read pieces = nothing_after (numbers_of pieces)

moved : (numbers : List ℕ) (n : ℕ) (rest : Option (List ℕ)) → after numbers (in_front (Some n) rest) ≡ after (numbers ++ n ∷ []) rest
moved numbers n None = refl
moved numbers n (Some ns) = ap Some (sym (append_assoc numbers (n ∷ []) ns))

-- the next piece is a number
pub one_more : (pieces : List (List ℕ)) (k : ℕ) (piece numbers : List ℕ) (n : ℕ) → (k < length pieces) × (piece ≡ get_or pieces k piece)
    → numbers_of pieces ≡ after numbers (numbers_of (drop k pieces)) → number_in 0 (2 ^ 32 - 1) piece ≡ Some n
    → numbers_of pieces ≡ after (numbers ++ n ∷ []) (numbers_of (drop (k + 1) pieces))
one_more pieces k piece numbers n at so_far is =
    let rest = numbers_of (drop (k + 1) pieces) in
    let step = at_drop_more numbers_of pieces k piece at.0 in
    let e : number_in 0 (2 ^ 32 - 1) (get_or pieces k piece) ≡ Some n = ap (number_in 0 (2 ^ 32 - 1)) (sym at.1) ∙ is in
    so_far ∙ (ap (after numbers) (step ∙ ap (λ o. in_front o rest) e) ∙ moved numbers n rest)

-- the next piece is none
pub one_bad : (pieces : List (List ℕ)) (k : ℕ) (piece numbers : List ℕ) → (k < length pieces) × (piece ≡ get_or pieces k piece)
    → numbers_of pieces ≡ after numbers (numbers_of (drop k pieces)) → number_in 0 (2 ^ 32 - 1) piece ≡ None
    → numbers_of pieces ≡ None
one_bad pieces k piece numbers at so_far is =
    let rest = numbers_of (drop (k + 1) pieces) in
    let step = at_drop_more numbers_of pieces k piece at.0 in
    let e : number_in 0 (2 ^ 32 - 1) (get_or pieces k piece) ≡ None = ap (number_in 0 (2 ^ 32 - 1)) (sym at.1) ∙ is in
    so_far ∙ ap (after numbers) (step ∙ ap (λ o. in_front o rest) e)

-- all pieces are
pub all_read : (pieces : List (List ℕ)) (k : ℕ) (numbers : List ℕ) → length pieces ≤ k → numbers_of pieces ≡ after numbers (numbers_of (drop k pieces)) → numbers_of pieces ≡ Some numbers
all_read pieces k numbers end so_far = so_far ∙ (ap (after numbers) (at_drop_all numbers_of pieces k end) ∙ ap Some (append-nil numbers))

pub picks_bad : (word : List ℕ) → numbers_of (pieces_of word) ≡ None → picks_of word ≡ None
unfolding picks_of
picks_bad word bad = go (leb (length (pieces_of word)) 100000) (numbers_of (pieces_of word)) bad where
  go : (b : Bool) (o : Option (List ℕ)) → o ≡ None → cond b o None ≡ None
  go true o e = e
  go false o e = refl

pub picks_many : (word : List ℕ) → 100000 < length (pieces_of word) → picks_of word ≡ None
unfolding picks_of
picks_many word many = simp (lt-leb (length (pieces_of word)) 100000 many)

pub picks_read : (word numbers : List ℕ) → length (pieces_of word) ≤ 100000 → numbers_of (pieces_of word) ≡ Some numbers → picks_of word ≡ Some numbers
unfolding picks_of
picks_read word numbers few all = simp (le-leb (length (pieces_of word)) 100000 few) all

-- a number that was read lies in its range
pub in_range : (least most : ℕ) (word : List ℕ) (n : ℕ) → number_in least most word ≡ Some n → (least ≤ n) × (n ≤ most)
unfolding number_in
in_range least most word n e =
    go (is_number word) (leb least (digits_value 10 word)) (leb (digits_value 10 word) most) refl refl e where
      go : (a b c : Bool) → leb least (digits_value 10 word) ≡ b → leb (digits_value 10 word) most ≡ c → cond (a && (b && c)) (Some (digits_value 10 word)) None ≡ Some n → (least ≤ n) × (n ≤ most)
      go true true true p q e =
          let v : digits_value 10 word ≡ n = cc in
          let low = leb-true least (digits_value 10 word) p in
          let high = leb-true (digits_value 10 word) most q in
          (omega arith, omega arith)
      go true true false p q e = absurd cc
      go true false true p q e = absurd cc
      go true false false p q e = absurd cc
      go false true true p q e = absurd cc
      go false true false p q e = absurd cc
      go false false true p q e = absurd cc
      go false false false p q e = absurd cc

-- so does one that is given where there is one
pub number_given : {E : Type 0} (least most : ℕ) (word : List ℕ) (o : Option ℕ) (e : E) (r : Result ℕ E) → o ≡ number_in least most word → r ≡ ok_or o e → IfOk r (λ n. (least ≤ n) × (n ≤ most))
number_given least most word None e r is same = subst (λ (x : Result ℕ _). IfOk x (λ n. (least ≤ n) × (n ≤ most))) (sym same) tt
number_given least most word (Some n) e r is same =
    subst (λ (x : Result ℕ _). IfOk x (λ n. (least ≤ n) × (n ≤ most))) (sym same) (in_range least most word n (sym is))

-- the numbers of a list are there, and each below 2^32
numbers_fit : (pieces : List (List ℕ)) (numbers : List ℕ) → numbers_of pieces ≡ Some numbers → (length numbers ≡ length pieces) × All (λ n. n < 2 ^ 32) numbers
numbers_fit [] numbers e =
    let none : numbers ≡ [] = cc in
    (ap length none, subst (λ (ns : List ℕ). All (λ n. n < 2 ^ 32) ns) (sym none) (All-nil (λ n. n < 2 ^ 32)))
numbers_fit (piece ∷ pieces) numbers e = go (number_in 0 (2 ^ 32 - 1) piece) (numbers_of pieces) refl refl (λ ns q. numbers_fit pieces ns q) e where
  go : (o : Option ℕ) (rest : Option (List ℕ)) → number_in 0 (2 ^ 32 - 1) piece ≡ o → numbers_of pieces ≡ rest → ((ns : List ℕ) → numbers_of pieces ≡ Some ns → (length ns ≡ length pieces) × All (λ n. n < 2 ^ 32) ns) → in_front o rest ≡ Some numbers
      → (length numbers ≡ length (piece ∷ pieces)) × All (λ n. n < 2 ^ 32) numbers
  go None rest p q all e = absurd cc
  go (Some n) None p q all e = absurd cc
  go (Some n) (Some ns) p q fit e =
      let all : n ∷ ns ≡ numbers = cc in
      let others = fit ns q in
      let small : n < 2 ^ 32 = omega (arith, in_range 0 (2 ^ 32 - 1) piece n p) in
      (sym (ap length all) ∙ ap suc others.0, subst (λ (xs : List ℕ). All (λ n. n < 2 ^ 32) xs) all (All-cons (λ n. n < 2 ^ 32) n ns small others.1))

-- so they are in the table
pub picks_fit : (word numbers : List ℕ) → picks_of word ≡ Some numbers → (length numbers ≤ 100000) × All (λ n. n < 2 ^ 32) numbers
unfolding picks_of
picks_fit word numbers e = go (leb (length (pieces_of word)) 100000) refl e where
  go : (b : Bool) → leb (length (pieces_of word)) 100000 ≡ b → cond b (numbers_of (pieces_of word)) None ≡ Some numbers → (length numbers ≤ 100000) × All (λ n. n < 2 ^ 32) numbers
  go true few e =
      let fit = numbers_fit (pieces_of word) numbers e in
      let low = leb-true (length (pieces_of word)) 100000 few in
      (omega (arith, fit.0), fit.1)
  go false many e = absurd cc

-- a divisor that was read lies in its range
divisor_range : (whole : ℕ) (word : List ℕ) (n : ℕ) → divisor_in whole word ≡ Some n → (1 ≤ n) × ((n ≤ whole) × (whole % n ≡ 0))
unfolding divisor_in
divisor_range whole word n e = go (number_in 1 whole word) refl e where
  go : (o : Option ℕ) → number_in 1 whole word ≡ o → if_divides whole o ≡ Some n → (1 ≤ n) × ((n ≤ whole) × (whole % n ≡ 0))
  go None p e = absurd cc
  go (Some m) p e =
      let is = divides_is whole m n e in
      let range = in_range 1 whole word m p in
      subst (λ (k : ℕ). (1 ≤ k) × ((k ≤ whole) × (whole % k ≡ 0))) is.0 (range.0, (range.1, is.1))

-- a value that a word writes is one of the values asked for
pub value_in_table : (values : Values) (word : List ℕ) (value : Value) → value_of values word ≡ Some value → IsOneOf values value
unfolding value_of
value_in_table (Numbers least most) word value e = go (number_in least most word) refl e where
  go : (o : Option ℕ) → number_in least most word ≡ o → option_map Number o ≡ Some value → IsOneOf (Numbers least most) value
  go None p e = absurd cc
  go (Some n) p e =
      let is : Number n ≡ value = cc in
      subst (λ (v : Value). IsOneOf (Numbers least most) v) is (in_range least most word n p)
value_in_table (Divisors whole) word value e = go (divisor_in whole word) refl e where
  go : (o : Option ℕ) → divisor_in whole word ≡ o → option_map Number o ≡ Some value → IsOneOf (Divisors whole) value
  go None p e = absurd cc
  go (Some n) p e =
      let is : Number n ≡ value = cc in
      subst (λ (v : Value). IsOneOf (Divisors whole) v) is (divisor_range whole word n p)
value_in_table Instants word value e = go (bytes_eq word (codes "end")) (number_in 0 (2 ^ 40) word) refl e where
  go : (b : Bool) (o : Option ℕ) → number_in 0 (2 ^ 40) word ≡ o → cond b (Some (Instant End)) (option_map (λ n. Instant (Clock n)) o) ≡ Some value → IsOneOf Instants value
  go true o p e =
      let is : Instant End ≡ value = cc in
      subst (λ (v : Value). IsOneOf Instants v) is tt
  go false None p e = absurd cc
  go false (Some n) p e =
      let is : Instant (Clock n) ≡ value = cc in
      subst (λ (v : Value). IsOneOf Instants v) is (in_range 0 (2 ^ 40) word n p).1
value_in_table Lists word value e = go (picks_of word) refl e where
  go : (o : Option (List ℕ)) → picks_of word ≡ o → option_map Listed o ≡ Some value → IsOneOf Lists value
  go None p e = absurd cc
  go (Some ns) p e =
      let is : Listed ns ≡ value = cc in
      subst (λ (v : Value). IsOneOf Lists v) is (picks_fit word ns p)
