use Rattle.std.proofs.Common.{◌∙◌, ap}
use Rattle.gp_wire.specs.Messages.{lone_number}
use Rattle.gp_wire.proofs.MessageLemmas.{pick-other, pick-same, no_number}
use Rattle.gp_wire.proofs.taking.number_under.Goals as goal

pub returns-then-field-number : goal.returns-then-field-number
returns-then-field-number c = pick-other lone_number c.args.number c.args.field.now c.if-field-number.true

pub returns-in-Number : goal.returns-in-Number
returns-in-Number c = pick-same lone_number c.args.number c.args.field.now c.if-field-number.false ∙ ap lone_number c.in-Number.is

pub returns-in_default : goal.returns-in_default
returns-in_default c =
    pick-same lone_number c.args.number c.args.field.now c.if-field-number.false ∙ no_number c.args.field.now.value c.in_default.not-Number
