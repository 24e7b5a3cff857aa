use Rattle.gp_text.proofs.Texts.{numeral_utf8, valued}
use Rattle.gp_text.proofs.marks.value.Goals as goal

pub returns-in-Ok : goal.returns-in-Ok
returns-in-Ok c = valued c.in-Ok.text.now c.args.digits.now _ _ c.in-Ok.ensures.cases.0 c.requires c.parse.ensures.value.0 c.ok.ensures.value

pub returns-in-Err : goal.returns-in-Err
returns-in-Err c = absurd (c.in-Err.ensures.cases.0 (numeral_utf8 c.args.digits.now c.requires))
