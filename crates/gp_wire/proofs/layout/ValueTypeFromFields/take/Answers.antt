use Rattle.std.proofs.Common.{ap, refl}
use Rattle.gp_wire.specs.declared.profile.ValueType.{ValueType}
use Rattle.gp_wire.specs.Messages.{value_type_from}
use Rattle.gp_wire.proofs.MessageLemmas.{signed_step}
use Rattle.gp_wire.proofs.layout.ValueTypeFromFields.take.Goals as goal

pub returns-clause-taken : goal.returns-clause-taken
unfolding value_type_from
returns-clause-taken c = λ fields e.
    let kind = signed_step 1 fields c.args.field.now c.args.self.now.kind c.take_scalar.new.slot c.take_scalar.ensures (ap (λ (m : ValueType). m.kind) e) in
    let unit = signed_step 2 fields c.args.field.now c.args.self.now.unit c.take_scalar-2.new.slot c.take_scalar-2.ensures (ap (λ (m : ValueType). m.unit) e) in
    rw (kind, unit) refl
