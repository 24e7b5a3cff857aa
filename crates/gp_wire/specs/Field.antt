-- A message on the wire is a list of fields, one after another. Under a field's number stands a number, or a part of
-- bytes (a text, numbers that are packed, a message), or eight or four bytes, which no field of a profile has.
use Rattle.std.specs.Prelude.{ℕ, ◌+◌, ◌*◌, List, ◌++◌, length}
use Rattle.std.specs.List.{flat_map}
use Rattle.gp_wire.specs.declared.field.Field.{Field}
use Rattle.gp_wire.specs.declared.field.Value.{Value}
use Rattle.gp_wire.specs.declared.field.Value.TheVariants.{Number, Part, Eight, Four}
use Rattle.gp_wire.specs.Varint.{varint}

-- The wire type is 0 for a number, 2 for a part, and 1 and 5 for eight and for four bytes.
abbrev pub wire_type : Value → ℕ
wire_type (Number n) = 0
wire_type (Part bytes) = 2
wire_type (Eight bytes) = 1
wire_type (Four bytes) = 5

-- A number is a varint. A part is its length in bytes, a varint, and then the bytes.
abbrev pub content : Value → List ℕ
content (Number n) = varint n
content (Part bytes) = varint (length bytes) ++ bytes
content (Eight bytes) = bytes
content (Four bytes) = bytes

-- A field is its key and its content.
abbrev pub field_bytes : Field → List ℕ
field_bytes field = varint (field.number * 8 + wire_type field.value) ++ content field.value

-- the bytes of a list of fields
unfoldable pub spelled : List Field → List ℕ
spelled fields = flat_map field_bytes fields
