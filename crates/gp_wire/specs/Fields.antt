-- The fields of a message, and its first fault.
use Rattle.std.specs.Prelude.{ℕ, zero, suc, List, [], ◌∷◌, length, Option, Some, Result, Ok, Err, slice_get}
use Rattle.std.specs.List.{filter_map}
use Rattle.std.specs.Option.{option_map}
use Rattle.std.specs.Result.{result_ok}
use Rattle.gp_wire.specs.declared.cause.Cause.{Cause}
use Rattle.gp_wire.specs.declared.field.Field.{Field}
use Rattle.gp_wire.specs.Front.{field_at}

-- Where a key is sought: how many bytes are left from there on, and the field, or why it can't be read.
pub record Piece : Type 0 where
  pub left : ℕ
  pub read : Result Field Cause

-- what is read of bytes, and, where that is a field, what is read behind it
abbrev pub piece_then : ℕ → Result (Field × List ℕ) Cause → (List ℕ → List Piece) → List Piece
piece_then left (Ok x) more = record { left = left; read = Ok x.0 } ∷ more x.1
piece_then left (Err why) more = record { left = left; read = Err why } ∷ []

-- at most so many pieces
unfoldable pub pieces_within : ℕ → List ℕ → List Piece
pieces_within zero bytes = []
pieces_within (suc most) [] = []
pieces_within (suc most) (b ∷ bytes) = piece_then (length (b ∷ bytes)) (field_at (b ∷ bytes)) (pieces_within most)

-- The pieces of a message, one behind the other up to its end, or up to the first that can't be read. Each takes a byte
-- at least.
unfoldable pub pieces_of : List ℕ → List Piece
pieces_of bytes = pieces_within (length bytes) bytes

-- the fields of a message
unfoldable pub fields_of : List ℕ → List Field
fields_of bytes = filter_map (λ (piece : Piece). result_ok piece.read) (pieces_of bytes)

-- a fault, and how many bytes are left from the key on of the field in which it stands
pub record Fault : Type 0 where
  pub left : ℕ
  pub cause : Cause

-- A piece has a fault where it can't be read, or where a check of the field finds one in it.
abbrev pub cause_in : (Field → Option Cause) → Result Field Cause → Option Cause
cause_in check (Ok field) = check field
cause_in check (Err why) = Some why

abbrev pub fault_in : (Field → Option Cause) → Piece → Option Fault
fault_in check piece = option_map (λ why. record { left = piece.left; cause = why }) (cause_in check piece.read)

-- the first fault of a message, whose fields have a check
unfoldable pub first_fault : (Field → Option Cause) → List ℕ → Option Fault
first_fault check bytes = slice_get (filter_map (fault_in check) (pieces_of bytes)) 0

abbrev pub first_cause : (Field → Option Cause) → List ℕ → Option Cause
first_cause check bytes = option_map (λ (fault : Fault). fault.cause) (first_fault check bytes)
