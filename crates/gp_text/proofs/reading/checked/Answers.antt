use Rattle.gp_text.proofs.Judging.{gives}
use Rattle.gp_text.proofs.reading.checked.Goals as goal

pub returns-in-Ok-clause-ok : goal.returns-in-Ok-clause-ok
returns-in-Ok-clause-ok c = gives c.args.parts c.in-Ok.program c.in-Ok.ensures.checked c.in-Ok.ensures.ok
