use Rattle.std.proofs.Common.{ap, refl}
use Rattle.gp_wire.specs.declared.profile.Label.{Label}
use Rattle.gp_wire.specs.Messages.{label_from}
use Rattle.gp_wire.proofs.MessageLemmas.{signed_step}
use Rattle.gp_wire.proofs.layout.LabelFromFields.take.Goals as goal

pub returns-clause-taken : goal.returns-clause-taken
unfolding label_from
returns-clause-taken c = λ fields e.
    let key = signed_step 1 fields c.args.field.now c.args.self.now.key c.take_scalar.new.slot c.take_scalar.ensures (ap (λ (m : Label). m.key) e) in
    let text = signed_step 2 fields c.args.field.now c.args.self.now.text c.take_scalar-2.new.slot c.take_scalar-2.ensures (ap (λ (m : Label). m.text) e) in
    let num = signed_step 3 fields c.args.field.now c.args.self.now.num c.take_scalar-3.new.slot c.take_scalar-3.ensures (ap (λ (m : Label). m.num) e) in
    let num_unit = signed_step 4 fields c.args.field.now c.args.self.now.num_unit c.take_scalar-4.new.slot c.take_scalar-4.ensures (ap (λ (m : Label). m.num_unit) e) in
    rw (key, text, num, num_unit) refl
