-- The last of some actors, which are in the order of their numbers, and those before.
use Rattle.std.proofs.Common.{◌≡◌, ◌+◌, ◌<◌, ◌++◌, ◌∷◌, [], ℕ, List, length, sym, ap, ◌∙◌, subst, arith}
use Rattle.std.specs.List.{range_with_len}
use Rattle.std.proofs.lemmas.List.{length-append, map-append, append_cancel_right}
use Rattle.std.proofs.lemmas.List.FromFn.{length-range_with_len}
use Rattle.gp_journal.specs.declared.settings.Settings.{Settings}
use Rattle.gp_workers.specs.Actors.{Actor, numbers_of, HasEnded, HaveEnded}
use Rattle.gp_workers.proofs.InOrder.{Splits, next_number, range_more}

ended_parts : (settings : Settings) (front : List Actor) (it : Actor) → HaveEnded settings (front ++ it ∷ []) → HaveEnded settings front × HasEnded settings it
ended_parts settings [] it all = (tt, all.0)
ended_parts settings (x ∷ front) it all = let rest = ended_parts settings front it all.1 in ((all.0, rest.0), rest.1)

module _ (settings : Settings) (count : ℕ) (all front : List Actor) (it : Actor) (parts : all ≡ front ++ it ∷ []) where
  module _ (numbers : numbers_of all ≡ range_with_len 0 (count + 1)) where
    splits : Splits (count + 1) (numbers_of front) (it.number ∷ [])
    splits = sym (map-append (λ (a : Actor). a.number) front (it ∷ [])) ∙ ap numbers_of (sym parts) ∙ numbers

    pub last_number : it.number ≡ count
    last_number =
        let behind = next_number (count + 1) it.number (numbers_of front) [] splits in
        let many = ap length splits in
        omega (arith, length-append (numbers_of front) (it.number ∷ []), length-range_with_len 0 (count + 1))

    pub front_numbers : numbers_of front ≡ range_with_len 0 count
    front_numbers =
        append_cancel_right (numbers_of front) (range_with_len 0 count) (it.number ∷ [])
        (splits ∙ range_more count 0 ∙ ap (λ n. range_with_len 0 count ++ n ∷ []) (let zero_first : 0 + count ≡ count = omega arith in zero_first ∙ sym last_number))

  pub front_ended : HaveEnded settings all → HaveEnded settings front
  front_ended ended = (ended_parts settings front it (subst (HaveEnded settings) parts ended)).0

  pub last_ended : HaveEnded settings all → HasEnded settings it
  last_ended ended = (ended_parts settings front it (subst (HaveEnded settings) parts ended)).1

-- there is one
pub is_some : (count : ℕ) (all : List Actor) → numbers_of all ≡ range_with_len 0 (count + 1) → all ≡ [] → ⊥
is_some count all numbers none =
    let many = ap length (sym (ap numbers_of none) ∙ numbers) in
    absurd (omega (arith, length-range_with_len 0 (count + 1)))
