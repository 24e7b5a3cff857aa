use Rattle.std.proofs.Common.{append_assoc, refl, rules}
use Rattle.std.specs.Prelude.{FitsSigned}
use Rattle.std.specs.Int.{w64}
use Rattle.std.proofs.lemmas.Int.{to_z-of_z}
use Rattle.std.proofs.lemmas.Result.{IfOk-equal}
use Rattle.gp_wire.proofs.FieldLemmas.{spelled-append}
use Rattle.gp_wire.proofs.layout.LabelMessage.put.Goals as goal

-- Each call appended the bytes of its fields.
pub returns : goal.returns
returns c =
    let key : FitsSigned w64 c.args.self.now.key = search rules in
    let text : FitsSigned w64 c.args.self.now.text = search rules in
    let num : FitsSigned w64 c.args.self.now.num = search rules in
    let num_unit : FitsSigned w64 c.args.self.now.num_unit = search rules in
    IfOk-equal _ _ _ _ c.put_signed-4.ensures
    (rw (c.in_ok-put_signed-3.ensures, c.in_ok-put_signed-2.ensures, c.in_ok-put_signed.ensures)
    (simp (to_z-of_z, spelled-append, append_assoc) refl))
