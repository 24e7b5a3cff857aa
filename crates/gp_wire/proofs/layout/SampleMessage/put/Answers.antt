use Rattle.std.proofs.Common.{append_assoc, refl}
use Rattle.std.proofs.lemmas.Result.{IfOk-equal}
use Rattle.std.proofs.lemmas.List.{map-id}
use Rattle.gp_wire.proofs.FieldLemmas.{spelled-append}
use Rattle.gp_wire.proofs.layout.SampleMessage.put.Goals as goal

-- Each call appended the bytes of its fields.
pub returns : goal.returns
returns c =
    IfOk-equal _ _ _ _ c.put_messages.ensures
    (rw (c.in_ok-put_packed-2.ensures, c.in_ok-put_packed.ensures)
    (rw (c.as_slice.ensures, c.as_slice-2.ensures, c.as_slice-3.ensures)
    (simp (map-id, spelled-append, append_assoc) refl)))
