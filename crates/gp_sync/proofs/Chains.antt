-- What a line of links is once links are written.
use Rattle.std.proofs.Common.{◌≡◌, ◌≢◌, ℕ, zero, suc, ◌≤◌, List, [], ◌∷◌, ◌++◌, length, get_or, refl, ap, arith}
use Rattle.gp_sync.specs.declared.effect.Waiter.{Waiter}
use Rattle.gp_sync.specs.Places.{in_line}
use Rattle.gp_sync.specs.kept.Links.{line_from, behind}
use Rattle.gp_sync.proofs.Counts.{in_line-cons, one_at}

abbrev waiter : List ℕ → ℕ → Waiter
waiter since g = record { g = g; since = get_or since g 0 }

pub length-line_from : (next since : List ℕ) (h n : ℕ) → length (line_from next since h n) ≡ n
length-line_from next since h zero = refl
length-line_from next since h (suc n) = ap suc (length-line_from next since (get_or next h 0) n)

pub head_in : (next since : List ℕ) (h n : ℕ) → 1 ≤ in_line h (line_from next since h (suc n))
head_in next since h n =
    omega (arith, in_line-cons h (waiter since h) (line_from next since (get_or next h 0) n), one_at h h refl)

rest_in : (next since : List ℕ) (h n k : ℕ) → 1 ≤ in_line k (line_from next since (get_or next h 0) n) → 1 ≤ in_line k (line_from next since h (suc n))
rest_in next since h n k is_in =
    omega (arith, in_line-cons k (waiter since h) (line_from next since (get_or next h 0) n))

pub last_in : (next since : List ℕ) (h n : ℕ) → 1 ≤ in_line (behind next h n) (line_from next since h (suc n))
last_in next since h zero = head_in next since h 0
last_in next since h (suc n) =
    rest_in next since h (suc n) (behind next (get_or next h 0) n) (last_in next since (get_or next h 0) n)

module _ (next since next' since' : List ℕ) where
  -- a line whose goroutines keep their links is the same line
  pub same_line : (h n : ℕ) → ((k : ℕ) → 1 ≤ in_line k (line_from next since h n) → get_or next' k 0 ≡ get_or next k 0) → ((k : ℕ) → 1 ≤ in_line k (line_from next since h n) → get_or since' k 0 ≡ get_or since k 0) →
      line_from next' since' h n ≡ line_from next since h n
  same_line h zero links clocks = refl
  same_line h (suc n) links clocks =
      let link = links h (head_in next since h n) in
      let clock = clocks h (head_in next since h n) in
      let rest = same_line (get_or next h 0) n (λ k is_in. links k (rest_in next since h n k is_in)) (λ k is_in. clocks k (rest_in next since h n k is_in)) in
      rw (link, clock, rest) refl

  pub same_last : (h n : ℕ) → ((k : ℕ) → 1 ≤ in_line k (line_from next since h (suc n)) → get_or next' k 0 ≡ get_or next k 0) → behind next' h n ≡ behind next h n
  same_last h zero links = refl
  same_last h (suc n) links =
      let link = links h (head_in next since h (suc n)) in
      let rest = same_last (get_or next h 0) n (λ k is_in. links k (rest_in next since h (suc n) k is_in)) in
      rw (link, rest) refl

  -- the head isn't the last of a longer line
  head_not_last : (h n : ℕ) → in_line h (line_from next since h (suc (suc n))) ≤ 1 → h ≢ behind next (get_or next h 0) n
  head_not_last h n once same =
      let last = last_in next since (get_or next h 0) n in
      let last' : 1 ≤ in_line h (line_from next since (get_or next h 0) (suc n)) = rw (← same) at last in
      omega (arith, in_line-cons h (waiter since h) (line_from next since (get_or next h 0) (suc n)), one_at h h refl, last')

  -- a line at whose last goroutine another was linked is one longer
  pub longer_line : (h n g clock : ℕ) → ((k : ℕ) → 1 ≤ in_line k (line_from next since h (suc n)) → k ≢ behind next h n → get_or next' k 0 ≡ get_or next k 0) →
      ((k : ℕ) → 1 ≤ in_line k (line_from next since h (suc n)) → get_or since' k 0 ≡ get_or since k 0) → ((k : ℕ) → in_line k (line_from next since h (suc n)) ≤ 1) → get_or next' (behind next h n) 0 ≡ g → get_or since' g 0 ≡ clock →
      (line_from next' since' h (suc (suc n)) ≡ line_from next since h (suc n) ++ record { g = g; since = clock } ∷ []) × (behind next' h (suc n) ≡ g)
  longer_line h zero g clock links clocks once to at =
      let here = clocks h (head_in next since h 0) in
      (rw (here, to, at) refl, to)
  longer_line h (suc n) g clock links clocks once to at =
      let link = links h (head_in next since h (suc n)) (head_not_last h n (once h)) in
      let here = clocks h (head_in next since h (suc n)) in
      let rest = longer_line (get_or next h 0) n g clock (λ k is_in. links k (rest_in next since h (suc n) k is_in)) (λ k is_in. clocks k (rest_in next since h (suc n) k is_in))
      (λ k. omega (arith, once k, in_line-cons k (waiter since h) (line_from next since (get_or next h 0) (suc n)))) to at in
      (rw (link, here, rest.0) refl, rw link rest.1)
