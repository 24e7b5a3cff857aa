use Rattle.std.proofs.Common.{ℕ, List, [], ◌∷◌, ◌∙◌, ap, sym}
use Rattle.gp_wire.specs.Messages.{part_in}
use Rattle.gp_wire.specs.Checks.{cause_in_part}
use Rattle.gp_wire.proofs.MessageLemmas.{pick-other, pick-same, no_part, no_cause_in_part, cause-other, cause-same}
use Rattle.gp_wire.proofs.taking.part_under.Goals as goal

pub returns-then-field-number-clause-part : goal.returns-then-field-number-clause-part
returns-then-field-number-clause-part c = pick-other part_in c.args.number c.args.field.now c.if-field-number.true

pub returns-then-field-number-clause-cause : goal.returns-then-field-number-clause-cause
returns-then-field-number-clause-cause c = λ within. cause-other c.args.number within c.args.field.now c.if-field-number.true

pub returns-in-Part-clause-part : goal.returns-in-Part-clause-part
returns-in-Part-clause-part c =
    pick-same part_in c.args.number c.args.field.now c.if-field-number.false ∙ ap part_in c.in-Part.is
    ∙ ap (λ (bytes : List ℕ). bytes ∷ []) (sym c.as_slice.ensures)

pub returns-in-Part-clause-cause : goal.returns-in-Part-clause-cause
returns-in-Part-clause-cause c = λ within.
    cause-same c.args.number within c.args.field.now c.if-field-number.false ∙ ap (cause_in_part within) c.in-Part.is ∙ ap within (sym c.as_slice.ensures)

pub returns-in_default-clause-part : goal.returns-in_default-clause-part
returns-in_default-clause-part c =
    pick-same part_in c.args.number c.args.field.now c.if-field-number.false ∙ no_part c.args.field.now.value c.in_default.not-Part

pub returns-in_default-clause-cause : goal.returns-in_default-clause-cause
returns-in_default-clause-cause c = λ within.
    cause-same c.args.number within c.args.field.now c.if-field-number.false ∙ no_cause_in_part within c.args.field.now.value c.in_default.not-Part
