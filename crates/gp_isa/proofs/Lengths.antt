-- What the sizes of traces tell of their lengths.
use Rattle.std.proofs.Common.{◌≡◌, ℕ, ◌+◌, ◌<◌, ◌≤◌, List, length, get_or, min, ap, ◌∙◌, arith, nat_lt}
use Rattle.std.proofs.lemmas.Bool.{ltb-false}
use Rattle.std.proofs.lemmas.Bool.Decides.{nat_tests}
use Rattle.gp_isa.specs.Limits.{most_points}
use Rattle.gp_isa.specs.declared.parts.Parts.{Parts}
use Rattle.gp_isa.specs.declared.size.Size.{Size}
use Rattle.gp_isa.specs.Calls.{first_from, first_too_long, IsProgram}
use Rattle.gp_isa.specs.Size.{local_before}
use Rattle.gp_isa.specs.Trace.{trace}
use Rattle.gp_isa.specs.kept.Sizes.{no_size, AreSizes}
use Rattle.gp_isa.proofs.First.{first_from-same, each_fails}
use Rattle.gp_isa.proofs.Sizes.{before_le}

abbrev none : Size
none = no_size

same_test : (n m : ℕ) → n ≡ min m (most_points + 1) → nat_lt most_points n ≡ nat_lt most_points m
same_test n m is = grind (arith, nat_tests)

module _ (parts : Parts) (sizes : List Size) (are : AreSizes sizes (trace parts)) where
  pub first_too_long_is : length sizes ≡ length parts.functions →
      first_from (λ f. nat_lt most_points (get_or sizes f none).points) 0 (length sizes) ≡ first_too_long parts
  first_too_long_is len =
      ap (first_from (λ f. nat_lt most_points (get_or sizes f none).points) 0) len ∙
      first_from-same (λ f. nat_lt most_points (get_or sizes f none).points) (λ f. nat_lt most_points (length (trace parts f))) 0 (length parts.functions)
      (λ f. same_test (get_or sizes f none).points (length (trace parts f)) (ap (λ (s : Size). s.points) (are.each f)))

  -- in a program the sizes tell the lengths
  pub points_are : IsProgram parts → (f : ℕ) → f < length parts.functions → (get_or sizes f none).points ≡ length (trace parts f)
  points_are program f there =
      let whole : length (trace parts f) ≤ most_points =
      ltb-false most_points (length (trace parts f))
      (each_fails (λ f. nat_lt most_points (length (trace parts f))) 0 (length parts.functions) program.none_too_long f (omega arith) (omega arith)) in
      omega (arith, ap (λ (s : Size). s.points) (are.each f))

  pub before_are : IsProgram parts → (f : ℕ) → f < length parts.functions → (get_or sizes f none).before ≡ local_before (trace parts f)
  before_are program f there =
      let few : (get_or sizes f none).points ≡ length (trace parts f) = points_are program f there in
      omega (arith, few, before_le (trace parts f), ap (λ (s : Size). s.points) (are.each f), ap (λ (s : Size). s.before) (are.each f))
