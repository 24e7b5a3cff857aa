-- Packed numbers, one behind the other.
use Rattle.std.specs.Prelude.{ℕ, zero, suc, List, [], ◌∷◌, length, Option, Result, Ok}
use Rattle.std.specs.Result.{result_err, result_unwrap_or}
use Rattle.gp_wire.specs.declared.cause.Cause.{Cause}
use Rattle.gp_wire.specs.Front.{◌>>=◌, number_at}

-- at most so many
unfoldable pub packed_within : ℕ → List ℕ → Result (List ℕ) Cause
packed_within zero bytes = Ok []
packed_within (suc most) [] = Ok []
packed_within (suc most) (b ∷ bytes) =
    number_at (b ∷ bytes) >>= λ n. packed_within most n.1 >>= λ others. Ok (n.0 ∷ others)

-- all of the bytes as numbers, each of which takes a byte at least
unfoldable pub packed_at : List ℕ → Result (List ℕ) Cause
packed_at bytes = packed_within (length bytes) bytes

abbrev pub packed_numbers : List ℕ → List ℕ
packed_numbers bytes = result_unwrap_or (packed_at bytes) []

-- why they are no packed numbers: the last one is cut by their end, or one is too long
abbrev pub packed_cause : List ℕ → Option Cause
packed_cause bytes = result_err (packed_at bytes)
