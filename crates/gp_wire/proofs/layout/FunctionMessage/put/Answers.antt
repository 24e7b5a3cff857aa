use Rattle.std.proofs.Common.{append_assoc, refl, rules}
use Rattle.std.specs.Prelude.{FitsSigned}
use Rattle.std.specs.Int.{w64}
use Rattle.std.proofs.lemmas.Int.{to_z-of_z}
use Rattle.std.proofs.lemmas.Result.{IfOk-equal}
use Rattle.gp_wire.proofs.FieldLemmas.{spelled-append}
use Rattle.gp_wire.proofs.layout.FunctionMessage.put.Goals as goal

-- Each call appended the bytes of its fields.
pub returns : goal.returns
returns c =
    let name : FitsSigned w64 c.args.self.now.name = search rules in
    let system_name : FitsSigned w64 c.args.self.now.system_name = search rules in
    let filename : FitsSigned w64 c.args.self.now.filename = search rules in
    let start_line : FitsSigned w64 c.args.self.now.start_line = search rules in
    IfOk-equal _ _ _ _ c.put_signed-4.ensures
    (rw (c.in_ok-put_signed-3.ensures, c.in_ok-put_signed-2.ensures, c.in_ok-put_signed.ensures, c.in_ok-put_number.ensures)
    (simp (to_z-of_z, spelled-append, append_assoc) refl))
