use Rattle.std.proofs.Common.{◌∙◌}
use Rattle.std.specs.List.{flat_map}
use Rattle.gp_wire.specs.Fields.{fields_of}
use Rattle.gp_wire.specs.Messages.{parts_under}
use Rattle.gp_wire.proofs.MessageLemmas.{merged_more, merged_stays}
use Rattle.gp_wire.proofs.taking.take_merged.Goals as goal

pub returns-in_ok-merge-clause-taken : goal.returns-in_ok-merge-clause-taken
returns-in_ok-merge-clause-taken g c = λ fields e.
    let made = g.M.FromFields.made in
    let so_far = parts_under c.args.number fields in
    let item = c.merged_so_far-item.ensures so_far e in
    merged_more made c.args.number fields c.args.field.now c.in-Some.bytes.now c.merge.new.message c.in-Some.ensures.part
    (c.in_ok-merge.ensures.taken (flat_map fields_of so_far) item)

pub returns-in_default-clause-taken : goal.returns-in_default-clause-taken
returns-in_default-clause-taken g c = λ fields e.
    e ∙ merged_stays g.M.FromFields.made c.args.number fields c.args.field.now c.in_default.ensures.part
