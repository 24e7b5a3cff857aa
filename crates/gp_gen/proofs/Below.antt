-- What is told of all numbers below one, with one number more.
use Rattle.std.proofs.Common.{◌≡◌, ◌+◌, ℕ, List, [], ◌∷◌, ◌++◌, sym, ap, ◌∙◌, append_assoc}
use Rattle.std.proofs.Math.Numerals.{add-one}
use Rattle.gp_gen.specs.Generated.{each_below}

pub more_below : {X : Type 0} (of : ℕ → X) (n : ℕ) → each_below of (n + 1) ≡ each_below of n ++ of n ∷ []
more_below of n = ap (each_below of) (add-one n)

-- behind a list
pub more_behind : {X : Type 0} (before : List X) (of : ℕ → X) (n : ℕ) → before ++ each_below of (n + 1) ≡ before ++ each_below of n ++ of n ∷ []
more_behind before of n = ap (λ l. before ++ l) (more_below of n) ∙ sym (append_assoc before (each_below of n) (of n ∷ []))
