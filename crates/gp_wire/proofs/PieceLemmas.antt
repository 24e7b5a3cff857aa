-- The fields and the first fault of bytes, from those behind the field at their front. These equations are all that is
-- used of them afterwards.
use Rattle.std.proofs.Common.{◌≡◌, ℕ, zero, suc, ◌<◌, ◌≤◌, List, [], ◌∷◌, ◌++◌, length, Option, Some, None, Result, Ok, Err, refl, sym, ap, ◌∙◌, arith}
use Rattle.std.specs.List.{filter_map, slice_get}
use Rattle.gp_wire.specs.declared.cause.Cause.{Cause}
use Rattle.gp_wire.specs.declared.field.Field.{Field}
use Rattle.gp_wire.specs.Front.{field_at}
use Rattle.gp_wire.specs.Fields.{Piece, piece_then, pieces_within, pieces_of, fields_of, Fault, fault_in, first_fault}
use Rattle.gp_wire.specs.declared.error.Stop.{Stop}
use Rattle.gp_wire.specs.declared.error.Stop.TheVariants as stop
use Rattle.gp_wire.specs.Reading.{StopsBy, HaltsAt}
use Rattle.gp_wire.specs.kept.Taking.{cause_read, cause_at}
use Rattle.std.proofs.lemmas.List.{append-nil}
use Rattle.gp_wire.proofs.FrontLemmas.{field_at-shorter, field_at-nil}

piece_then-same : (left : ℕ) (r : Result (Field × List ℕ) Cause) (f g : List ℕ → List Piece)
    → ((x : Field × List ℕ) → r ≡ Ok x → f x.1 ≡ g x.1) → piece_then left r f ≡ piece_then left r g
piece_then-same left (Ok x) f g h = ap (λ (pieces : List Piece). record { left = left; read = Ok x.0 } ∷ pieces) (h x refl)
piece_then-same left (Err why) f g h = refl

-- More than enough changes nothing.
pieces_within-enough : (m n : ℕ) (bytes : List ℕ) → length bytes ≤ m → length bytes ≤ n → pieces_within m bytes ≡ pieces_within n bytes
unfolding pieces_within
pieces_within-enough zero zero bytes l k = refl
pieces_within-enough zero (suc n) [] l k = refl
pieces_within-enough zero (suc n) (b ∷ bytes) l k = absurd (omega arith)
pieces_within-enough (suc m) zero [] l k = refl
pieces_within-enough (suc m) zero (b ∷ bytes) l k = absurd (omega arith)
pieces_within-enough (suc m) (suc n) [] l k = refl
pieces_within-enough (suc m) (suc n) (b ∷ bytes) l k =
    piece_then-same (length (b ∷ bytes)) (field_at (b ∷ bytes)) (pieces_within m) (pieces_within n) (λ x e.
    let shorter = field_at-shorter (b ∷ bytes) x e in
    pieces_within-enough m n x.1 (omega arith) (omega arith))

pub pieces_of-nil : pieces_of [] ≡ []
unfolding pieces_of pieces_within
pieces_of-nil = refl

pub pieces_of-step : (bytes : List ℕ) → 0 < length bytes → pieces_of bytes ≡ piece_then (length bytes) (field_at bytes) pieces_of
unfolding pieces_of pieces_within
pieces_of-step [] some = absurd (omega arith)
pieces_of-step (b ∷ bytes) some =
    piece_then-same (length (b ∷ bytes)) (field_at (b ∷ bytes)) (pieces_within (length bytes)) (λ rest. pieces_within (length rest) rest) (λ x e.
    let shorter = field_at-shorter (b ∷ bytes) x e in
    pieces_within-enough (length bytes) (length x.1) x.1 (omega arith) (omega arith))

-- Where a field stands, bytes stand.
pub some_bytes : (bytes : List ℕ) (x : Field × List ℕ) → field_at bytes ≡ Ok x → 0 < length bytes
some_bytes [] x e = absurd (field_at-nil x e)
some_bytes (b ∷ bytes) x e = omega arith

pub fields_of-nil : fields_of [] ≡ []
unfolding fields_of
fields_of-nil = rw pieces_of-nil refl

pub fields_of-step : (bytes : List ℕ) (field : Field) (rest : List ℕ) → field_at bytes ≡ Ok (field, rest) → fields_of bytes ≡ field ∷ fields_of rest
unfolding fields_of
fields_of-step bytes field rest e = rw (pieces_of-step bytes (some_bytes bytes (field, rest) e), e) refl

pub first_fault-nil : (check : Field → Option Cause) → first_fault check [] ≡ None
unfolding first_fault
first_fault-nil check = rw pieces_of-nil refl

fault_first : (check : Field → Option Cause) (left : ℕ) (r : Result (Field × List ℕ) Cause) (more : List ℕ → List Piece) (why : Cause)
    → cause_read check r ≡ Some why → slice_get (filter_map (fault_in check) (piece_then left r more)) 0 ≡ Some (record { left = left; cause = why })
fault_first check left (Ok x) more why e = rw e refl
fault_first check left (Err what) more why e =
    let same : what ≡ why = cc in
    ap (λ (cause : Cause). Some (record { left = left; cause = cause })) same

-- A fault at the front is the first one.
pub first_fault-at : (check : Field → Option Cause) (bytes : List ℕ) (why : Cause) → 0 < length bytes → cause_at check bytes ≡ Some why
    → first_fault check bytes ≡ Some (record { left = length bytes; cause = why })
unfolding first_fault
first_fault-at check bytes why some e =
    rw (pieces_of-step bytes some) (fault_first check (length bytes) (field_at bytes) pieces_of why e)

-- Without one the first fault is that of the rest.
pub first_fault-past : (check : Field → Option Cause) (bytes : List ℕ) (field : Field) (rest : List ℕ) → field_at bytes ≡ Ok (field, rest) → check field ≡ None
    → first_fault check bytes ≡ first_fault check rest
unfolding first_fault
first_fault-past check bytes field rest e fine = rw (pieces_of-step bytes (some_bytes bytes (field, rest) e), e, fine) refl

-- ---- at the end of bytes

pub all_seen : (seen : List Field) (rest : List ℕ) (whole : List Field) → length rest ≡ 0 → seen ++ fields_of rest ≡ whole → seen ≡ whole
all_seen seen [] whole none e = sym (ap (λ (fs : List Field). seen ++ fs) fields_of-nil ∙ append-nil seen) ∙ e
all_seen seen (b ∷ rest) whole none e = absurd (omega arith)

pub first_fault-end : (check : Field → Option Cause) (rest : List ℕ) → length rest ≡ 0 → first_fault check rest ≡ None
first_fault-end check [] none = first_fault-nil check
first_fault-end check (b ∷ rest) none = absurd (omega arith)

-- where reading stops
pub halts : (check : Field → Option Cause) (rest : List ℕ) (stop : Stop) (whole : Option Fault) → 0 < length rest → StopsBy (cause_at check rest) stop → first_fault check rest ≡ whole
    → HaltsAt whole (length rest) stop
halts check rest (stop.Fault why) whole some at so_far = sym so_far ∙ first_fault-at check rest why some at
halts check rest stop.Memory whole some at so_far = tt
