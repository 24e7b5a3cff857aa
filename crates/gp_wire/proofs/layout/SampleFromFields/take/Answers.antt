use Rattle.std.proofs.Common.{ℕ, ap, refl, ◌∙◌, sym}
use Rattle.std.proofs.lemmas.List.{map-id}
use Rattle.std.proofs.lemmas.Result.{on_ok_weaker, err_from_is_err_and}
use Rattle.gp_wire.specs.declared.profile.Sample.{Sample}
use Rattle.gp_wire.specs.Checks.{sample_check}
use Rattle.gp_wire.specs.Messages.{sample_from, label_from, int64_of, numbers_under}
use Rattle.gp_wire.proofs.MessageLemmas.{numbers_step, messages_step, fine_of-last, stops_of-last, stops_first}
use Rattle.gp_wire.proofs.layout.SampleFromFields.take.Goals as goal

pub returns-in_err-take_numbers-clause-fault : goal.returns-in_err-take_numbers-clause-fault
unfolding sample_check
returns-in_err-take_numbers-clause-fault c =
    let p = err_from_is_err_and c.from_residual.result c.from_residual.ensures.1 in
    rw (p.1, p.2) (stops_first _ _ c.in_err-take_numbers.field-0.0 c.in_err-take_numbers.ensures.fault)

pub returns-in_err-take_numbers-2-clause-fault : goal.returns-in_err-take_numbers-2-clause-fault
unfolding sample_check
returns-in_err-take_numbers-2-clause-fault c =
    let p = err_from_is_err_and c.from_residual-in_err-take_numbers-2.result c.from_residual-in_err-take_numbers-2.ensures.1 in
    rw (p.1, p.2, c.in_ok-take_numbers.ensures.fine) (stops_first _ _ c.in_err-take_numbers-2.field-0.0 c.in_err-take_numbers-2.ensures.fault)

pub returns-clause-taken : goal.returns-clause-taken
unfolding sample_from
returns-clause-taken c = λ fields e.
    let f = c.args.field.now in
    let plain = ap (λ (m : Sample). m.location_ids) e ∙ sym (map-id (numbers_under 1 fields)) in
    let ids = numbers_step (λ (n : ℕ). n) 1 fields f c.args.self.now.location_ids c.take_numbers.new.list c.in_ok-take_numbers.ensures.taken plain ∙ map-id _ in
    let values = numbers_step int64_of 2 fields f c.args.self.now.values c.take_numbers-2.new.list c.in_ok-take_numbers-2.ensures.taken (ap (λ (m : Sample). m.values) e) in
    on_ok_weaker c.take_messages.result
    (λ h. rw (ids, values, messages_step label_from 3 fields f c.args.self.now.labels c.take_messages.new.list h (ap (λ (m : Sample). m.labels) e)) refl)
    c.take_messages.ensures.taken

pub returns-clause-fine : goal.returns-clause-fine
unfolding sample_check
returns-clause-fine c =
    rw (c.in_ok-take_numbers.ensures.fine, c.in_ok-take_numbers-2.ensures.fine) (fine_of-last c.take_messages.result _ c.take_messages.ensures.fine)

pub returns-clause-fault : goal.returns-clause-fault
unfolding sample_check
returns-clause-fault c =
    rw (c.in_ok-take_numbers.ensures.fine, c.in_ok-take_numbers-2.ensures.fine) (stops_of-last c.take_messages.result _ c.take_messages.ensures.fault)
