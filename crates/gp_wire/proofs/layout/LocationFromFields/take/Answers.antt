use Rattle.std.proofs.Common.{ap, refl}
use Rattle.std.proofs.lemmas.Result.{on_ok_weaker}
use Rattle.gp_wire.specs.declared.profile.Location.{Location}
use Rattle.gp_wire.specs.Checks.{location_check}
use Rattle.gp_wire.specs.Messages.{location_from, line_from}
use Rattle.gp_wire.proofs.MessageLemmas.{unsigned_step, messages_step}
use Rattle.gp_wire.proofs.layout.LocationFromFields.take.Goals as goal

pub returns-clause-taken : goal.returns-clause-taken
unfolding location_from
returns-clause-taken c = λ fields e.
    let id = unsigned_step 1 fields c.args.field.now c.args.self.now.id c.take_scalar.new.slot c.take_scalar.ensures (ap (λ (m : Location). m.id) e) in
    on_ok_weaker c.take_messages.result
    (λ h. rw (id, messages_step line_from 4 fields c.args.field.now c.args.self.now.lines c.take_messages.new.list h (ap (λ (m : Location). m.lines) e)) refl)
    c.take_messages.ensures.taken

pub returns-clause-fine : goal.returns-clause-fine
unfolding location_check
returns-clause-fine c = c.take_messages.ensures.fine

pub returns-clause-fault : goal.returns-clause-fault
unfolding location_check
returns-clause-fault c = c.take_messages.ensures.fault
