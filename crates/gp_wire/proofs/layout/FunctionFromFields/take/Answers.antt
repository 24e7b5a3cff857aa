use Rattle.std.proofs.Common.{ap, refl}
use Rattle.gp_wire.specs.declared.profile.Function.{Function}
use Rattle.gp_wire.specs.Messages.{function_from}
use Rattle.gp_wire.proofs.MessageLemmas.{signed_step, unsigned_step}
use Rattle.gp_wire.proofs.layout.FunctionFromFields.take.Goals as goal

pub returns-clause-taken : goal.returns-clause-taken
unfolding function_from
returns-clause-taken c = λ fields e.
    let id = unsigned_step 1 fields c.args.field.now c.args.self.now.id c.take_scalar.new.slot c.take_scalar.ensures (ap (λ (m : Function). m.id) e) in
    let name = signed_step 2 fields c.args.field.now c.args.self.now.name c.take_scalar-2.new.slot c.take_scalar-2.ensures (ap (λ (m : Function). m.name) e) in
    let system_name = signed_step 3 fields c.args.field.now c.args.self.now.system_name c.take_scalar-3.new.slot c.take_scalar-3.ensures (ap (λ (m : Function). m.system_name) e) in
    let filename = signed_step 4 fields c.args.field.now c.args.self.now.filename c.take_scalar-4.new.slot c.take_scalar-4.ensures (ap (λ (m : Function). m.filename) e) in
    let start_line = signed_step 5 fields c.args.field.now c.args.self.now.start_line c.take_scalar-5.new.slot c.take_scalar-5.ensures (ap (λ (m : Function). m.start_line) e) in
    rw (id, name, system_name, filename, start_line) refl
