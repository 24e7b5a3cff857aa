use Rattle.std.proofs.Common.{append_assoc, refl, rules}
use Rattle.std.specs.Prelude.{FitsSigned}
use Rattle.std.specs.Int.{w64}
use Rattle.std.proofs.lemmas.Int.{to_z-of_z}
use Rattle.std.proofs.lemmas.Result.{IfOk-equal}
use Rattle.gp_wire.proofs.FieldLemmas.{spelled-append}
use Rattle.gp_wire.proofs.layout.ProfileMessage.put.Goals as goal

-- Each call appended the bytes of its fields.
pub returns : goal.returns
returns c =
    let duration : FitsSigned w64 c.args.self.now.duration = search rules in
    let period : FitsSigned w64 c.args.self.now.period = search rules in
    IfOk-equal _ _ _ _ c.put_signed-2.ensures
    (rw (c.in_ok-put_optional.ensures, c.in_ok-put_signed.ensures, c.in_ok-put_texts.ensures)
    (rw (c.in_ok-put_messages-4.ensures, c.in_ok-put_messages-3.ensures, c.in_ok-put_messages-2.ensures, c.in_ok-put_messages.ensures)
    (rw (c.as_slice.ensures, c.as_slice-2.ensures, c.as_slice-3.ensures, c.as_slice-4.ensures, c.as_slice-5.ensures)
    (simp (to_z-of_z, spelled-append, append_assoc) refl))))
