use Rattle.std.proofs.Common.{ap, refl}
use Rattle.std.proofs.lemmas.Result.{on_ok_weaker, err_from_is_err_and}
use Rattle.gp_wire.specs.declared.profile.Profile.{Profile}
use Rattle.gp_wire.specs.Checks.{profile_check}
use Rattle.gp_wire.specs.Messages.{profile_from, value_type_from, sample_from, location_from, function_from}
use Rattle.gp_wire.proofs.MessageLemmas.{signed_step, parts_step, messages_step, fine_of-last, stops_of-last, stops_first}
use Rattle.gp_wire.proofs.layout.ProfileFromFields.take.Goals as goal

pub returns-in_err-take_messages-clause-fault : goal.returns-in_err-take_messages-clause-fault
unfolding profile_check
returns-in_err-take_messages-clause-fault c =
    let p = err_from_is_err_and c.from_residual.result c.from_residual.ensures.1 in
    rw (p.1, p.2)
    (stops_first _ _ c.in_err-take_messages.field-0.0 c.in_err-take_messages.ensures.fault)

pub returns-in_err-take_messages-2-clause-fault : goal.returns-in_err-take_messages-2-clause-fault
unfolding profile_check
returns-in_err-take_messages-2-clause-fault c =
    let p = err_from_is_err_and c.from_residual-in_err-take_messages-2.result c.from_residual-in_err-take_messages-2.ensures.1 in
    rw (p.1, p.2, c.in_ok-take_messages.ensures.fine)
    (stops_first _ _ c.in_err-take_messages-2.field-0.0 c.in_err-take_messages-2.ensures.fault)

pub returns-in_err-take_messages-3-clause-fault : goal.returns-in_err-take_messages-3-clause-fault
unfolding profile_check
returns-in_err-take_messages-3-clause-fault c =
    let p = err_from_is_err_and c.from_residual-in_err-take_messages-3.result c.from_residual-in_err-take_messages-3.ensures.1 in
    rw (p.1, p.2, c.in_ok-take_messages.ensures.fine, c.in_ok-take_messages-2.ensures.fine)
    (stops_first _ _ c.in_err-take_messages-3.field-0.0 c.in_err-take_messages-3.ensures.fault)

pub returns-in_err-take_messages-4-clause-fault : goal.returns-in_err-take_messages-4-clause-fault
unfolding profile_check
returns-in_err-take_messages-4-clause-fault c =
    let p = err_from_is_err_and c.from_residual-in_err-take_messages-4.result c.from_residual-in_err-take_messages-4.ensures.1 in
    rw (p.1, p.2, c.in_ok-take_messages.ensures.fine, c.in_ok-take_messages-2.ensures.fine, c.in_ok-take_messages-3.ensures.fine)
    (stops_first _ _ c.in_err-take_messages-4.field-0.0 c.in_err-take_messages-4.ensures.fault)

pub returns-in_err-take_texts-clause-fault : goal.returns-in_err-take_texts-clause-fault
unfolding profile_check
returns-in_err-take_texts-clause-fault c =
    let p = err_from_is_err_and c.from_residual-in_err-take_texts.result c.from_residual-in_err-take_texts.ensures.1 in
    rw (p.1, p.2, c.in_ok-take_messages.ensures.fine, c.in_ok-take_messages-2.ensures.fine, c.in_ok-take_messages-3.ensures.fine, c.in_ok-take_messages-4.ensures.fine)
    (stops_first _ _ c.in_err-take_texts.field-0.0 c.in_err-take_texts.ensures.fault)

pub returns-in_err-take_merged-clause-fault : goal.returns-in_err-take_merged-clause-fault
unfolding profile_check
returns-in_err-take_merged-clause-fault c =
    let p = err_from_is_err_and c.from_residual-in_err-take_merged.result c.from_residual-in_err-take_merged.ensures.1 in
    rw (p.1, p.2, c.in_ok-take_messages.ensures.fine, c.in_ok-take_messages-2.ensures.fine, c.in_ok-take_messages-3.ensures.fine, c.in_ok-take_messages-4.ensures.fine, c.in_ok-take_texts.ensures.fine)
    (stops_first _ _ c.in_err-take_merged.field-0.0 c.in_err-take_merged.ensures.fault)

pub returns-clause-taken : goal.returns-clause-taken
unfolding profile_from
returns-clause-taken c = λ fields e.
    let f = c.args.field.now in
    let old = c.args.self.now in
    let types = messages_step value_type_from 1 fields f old.sample_types c.take_messages.new.list c.in_ok-take_messages.ensures.taken (ap (λ (p : Profile). p.sample_types) e) in
    let samples = messages_step sample_from 2 fields f old.samples c.take_messages-2.new.list c.in_ok-take_messages-2.ensures.taken (ap (λ (p : Profile). p.samples) e) in
    let locations = messages_step location_from 4 fields f old.locations c.take_messages-3.new.list c.in_ok-take_messages-3.ensures.taken (ap (λ (p : Profile). p.locations) e) in
    let functions = messages_step function_from 5 fields f old.functions c.take_messages-4.new.list c.in_ok-take_messages-4.ensures.taken (ap (λ (p : Profile). p.functions) e) in
    let strings = parts_step 6 fields f old.strings c.take_texts.new.list c.in_ok-take_texts.ensures.taken (ap (λ (p : Profile). p.strings) e) in
    let duration = signed_step 10 fields f old.duration c.take_scalar.new.slot c.take_scalar.ensures (ap (λ (p : Profile). p.duration) e) in
    let period_type = c.in_ok-take_merged.ensures.taken fields (ap (λ (p : Profile). p.period_type) e) in
    let period = signed_step 12 fields f old.period c.take_scalar-2.new.slot c.take_scalar-2.ensures (ap (λ (p : Profile). p.period) e) in
    on_ok_weaker c.pass_numbers.result (λ h. rw (types, samples, locations, functions, strings, duration, period_type, period) refl) c.pass_numbers.ensures.fine

pub returns-clause-fine : goal.returns-clause-fine
unfolding profile_check
returns-clause-fine c =
    rw (c.in_ok-take_messages.ensures.fine, c.in_ok-take_messages-2.ensures.fine, c.in_ok-take_messages-3.ensures.fine, c.in_ok-take_messages-4.ensures.fine, c.in_ok-take_texts.ensures.fine, c.in_ok-take_merged.ensures.fine)
    (fine_of-last c.pass_numbers.result _ c.pass_numbers.ensures.fine)

pub returns-clause-fault : goal.returns-clause-fault
unfolding profile_check
returns-clause-fault c =
    rw (c.in_ok-take_messages.ensures.fine, c.in_ok-take_messages-2.ensures.fine, c.in_ok-take_messages-3.ensures.fine, c.in_ok-take_messages-4.ensures.fine, c.in_ok-take_texts.ensures.fine, c.in_ok-take_merged.ensures.fine)
    (stops_of-last c.pass_numbers.result _ c.pass_numbers.ensures.fault)
