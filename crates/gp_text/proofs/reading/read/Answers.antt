use Rattle.std.proofs.Common.{◌≡◌, sym, subst, ◌∙◌}
use Rattle.std.specs.Prelude.{IfOk, IfErr}
use Rattle.gp_text.specs.Reading.{Reading, Gives, program_of, IsRefusalOf}
use Rattle.gp_text.specs.declared.error.TextError.TheVariants.{Memory as OutOfMemory}
use Rattle.gp_text.specs.Spaces.{kept}
use Rattle.gp_text.proofs.Judging.{refused_first, refused_second, judged_third, can_build, limits, passed_on, few_known}
use Rattle.gp_text.proofs.reading.read.Goals as goal

pub returns-in_err-spaces-clause-refused : goal.returns-in_err-spaces-clause-refused
returns-in_err-spaces-clause-refused c =
    passed_on _ c.in_err-spaces.field-0.0 (IsRefusalOf (program_of c.args.bytes.now)) c.from_residual-in_err-spaces.ensures.1
    (refused_first c.args.bytes.now c.as_slice-said.result.now c.in_err-spaces.field-0.0 (c.as_slice-said.ensures.value ∙ c.in_ok-lines.ensures.lines) c.in_err-spaces.ensures.refused)

pub returns-in_err-parts-clause-refused : goal.returns-in_err-parts-clause-refused
returns-in_err-parts-clause-refused c = passed_on _ OutOfMemory (IsRefusalOf (program_of c.args.bytes.now)) c.from_residual-in_err-parts.ensures.1 tt

pub returns-in-Some-clause-refused : goal.returns-in-Some-clause-refused
returns-in-Some-clause-refused c =
    refused_second c.args.bytes.now c.as_slice-said.result.now (kept c.in_ok-spaces.spaces) c.in-Some.at (c.as_slice-said.ensures.value ∙ c.in_ok-lines.ensures.lines) c.in_ok-spaces.ensures.sound c.in_ok-spaces.ensures.names
    (sym c.in-Some.ensures.place)

pub parts-requires-clause-can : goal.parts-requires-clause-can
parts-requires-clause-can c = can_build c.args.bytes.now c.as_slice-said.result.now (c.as_slice-said.ensures.value ∙ c.in_ok-lines.ensures.lines) c.in_ok-spaces.ensures.sound

pub checked-requires : goal.checked-requires
checked-requires c = limits c.args.bytes.now c.as_slice-said.result.now (kept c.in_ok-spaces.spaces) _ (c.as_slice-said.ensures.value ∙ c.in_ok-lines.ensures.lines) c.in_ok-spaces.ensures.sound c.in_ok-spaces.ensures.names
    (sym c.in_default.ensures.place) c.in_ok-parts.ensures

pub parts-requires-clause-few : goal.parts-requires-clause-few
parts-requires-clause-few c = few_known (kept c.in_ok-spaces.spaces) c.as_slice-said.result.now c.in_ok-spaces.ensures.sound c.in_ok-spaces.ensures.names

pub parts-requires-clause-names : goal.parts-requires-clause-names
parts-requires-clause-names c = c.in_ok-spaces.ensures.names

pub returns-clause-ok : goal.returns-clause-ok
returns-clause-ok c =
    subst (λ (reading : Reading). IfOk c.checked.result (λ program. reading ≡ Gives program))
    (judged_third c.args.bytes.now c.as_slice-said.result.now (kept c.in_ok-spaces.spaces) c.in_ok-parts.parts (c.as_slice-said.ensures.value ∙ c.in_ok-lines.ensures.lines) c.in_ok-spaces.ensures.sound c.in_ok-spaces.ensures.names
    (sym c.in_default.ensures.place) c.in_ok-parts.ensures)
    c.checked.ensures.ok

pub returns-clause-refused : goal.returns-clause-refused
returns-clause-refused c =
    subst (λ (reading : Reading). IfErr c.checked.result (IsRefusalOf reading))
    (judged_third c.args.bytes.now c.as_slice-said.result.now (kept c.in_ok-spaces.spaces) c.in_ok-parts.parts (c.as_slice-said.ensures.value ∙ c.in_ok-lines.ensures.lines) c.in_ok-spaces.ensures.sound c.in_ok-spaces.ensures.names
    (sym c.in_default.ensures.place) c.in_ok-parts.ensures)
    c.checked.ensures.refused
