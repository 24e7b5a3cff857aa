-- Texts that are compared.
use Rattle.std.proofs.Common.{◌≡◌, ℕ, List, false}
use Rattle.std.specs.Str.{bytes_eq}
use Rattle.std.specs.Cmp.Lexicographic.{bytes_decides}
use Rattle.std.proofs.lemmas.Bool.{false_from_ne_true}

-- texts that aren't equal don't compare as equal
pub differ : (a b : List ℕ) → (a ≡ b → ⊥) → bytes_eq a b ≡ false
differ a b ne = false_from_ne_true (bytes_eq a b) (λ e. ne ((bytes_decides a b).0 e))
