-- What sums of all stacks come to, as they are told.
use Rattle.std.proofs.Common.{◌≡◌, ◌+◌, ℕ, List, [], ◌∷◌, Bool, true, false, cond, sum_by, refl, sym, ap, ◌∙◌, arith}
use Rattle.std.proofs.lemmas.List.Sums.{sum_by-cons}
use Rattle.gp_isa.specs.declared.parts.Parts.{Parts}
use Rattle.gp_events.specs.declared.sum.Sum.{Sum}
use Rattle.gp_events.specs.Sums.{total_count, total_delay}
use Rattle.gp_events.specs.Order.{put, in_order, is_before, sums_in_order}
use Rattle.gp_report.specs.declared.totals.Totals.{Totals}
use Rattle.gp_top.specs.Files.{capped, totals_of}

-- The order of sums doesn't matter to what they come to.
module _ (of : Sum → ℕ) (before : Sum → Sum → Bool) where
  sum_put : (x : Sum) (ys : List Sum) → sum_by of (put before x ys) ≡ of x + sum_by of ys
  unfolding put
  sum_put x [] = sum_by-cons of x []
  sum_put x (y ∷ ys) = go (before y x) (sum_put x ys) where
    go : (b : Bool) → sum_by of (put before x ys) ≡ of x + sum_by of ys → sum_by of (cond b (y ∷ put before x ys) (x ∷ y ∷ ys)) ≡ of x + sum_by of (y ∷ ys)
    go true rest =
        let first = sum_by-cons of y (put before x ys) in
        let second = sum_by-cons of y ys in
        omega (arith, rest)
    go false rest = sum_by-cons of x (y ∷ ys)

  sum_in_order : (xs : List Sum) → sum_by of (in_order before xs) ≡ sum_by of xs
  unfolding in_order
  sum_in_order [] = refl
  sum_in_order (x ∷ xs) = sum_put x (in_order before xs) ∙ (ap (λ n. of x + n) (sum_in_order xs) ∙ sym (sum_by-cons of x xs))

pub same_count : (program : Parts) (all : List Sum) → total_count (sums_in_order program all) ≡ total_count all
unfolding sums_in_order
same_count program all = sum_in_order (λ (s : Sum). s.count) (is_before program) all

pub same_delay : (program : Parts) (all : List Sum) → total_delay (sums_in_order program all) ≡ total_delay all
unfolding sums_in_order
same_delay program all = sum_in_order (λ (s : Sum). s.delay) (is_before program) all

-- So the sums in a profile's order are told as the sums are.
pub same_totals : (program : Parts) (block mutex : List Sum) → totals_of (sums_in_order program block) (sums_in_order program mutex) ≡ totals_of block mutex
same_totals program block mutex =
    let a = same_count program block in
    let b = same_delay program block in
    let c = same_count program mutex in
    let d = same_delay program mutex in
    let made : ℕ → ℕ → ℕ → ℕ → Totals = λ i j k l. record { block_count = capped i; block_delay = capped j; mutex_count = capped k; mutex_delay = capped l } in
    cc

pub told_totals : (program : Parts) (block mutex all_block all_mutex : List Sum) → block ≡ sums_in_order program all_block → mutex ≡ sums_in_order program all_mutex
    → totals_of block mutex ≡ totals_of all_block all_mutex
told_totals program block mutex all_block all_mutex one two =
    ap (λ b. totals_of b mutex) one ∙ ap (λ m. totals_of (sums_in_order program all_block) m) two ∙ same_totals program all_block all_mutex
