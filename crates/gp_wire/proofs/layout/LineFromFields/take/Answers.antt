use Rattle.std.proofs.Common.{ap, refl}
use Rattle.gp_wire.specs.declared.profile.Line.{Line}
use Rattle.gp_wire.specs.Messages.{line_from}
use Rattle.gp_wire.proofs.MessageLemmas.{signed_step, unsigned_step}
use Rattle.gp_wire.proofs.layout.LineFromFields.take.Goals as goal

pub returns-clause-taken : goal.returns-clause-taken
unfolding line_from
returns-clause-taken c = λ fields e.
    let function_id = unsigned_step 1 fields c.args.field.now c.args.self.now.function_id c.take_scalar.new.slot c.take_scalar.ensures (ap (λ (m : Line). m.function_id) e) in
    let line = signed_step 2 fields c.args.field.now c.args.self.now.line c.take_scalar-2.new.slot c.take_scalar-2.ensures (ap (λ (m : Line). m.line) e) in
    rw (function_id, line) refl
