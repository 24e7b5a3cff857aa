use Rattle.std.proofs.Common.{sym}
use Rattle.std.proofs.lemmas.List.{drop_all}
use Rattle.gp_build.proofs.spelled.rest.Goals as goal

pub returns-then-stack-le-NUMBERED : goal.returns-then-stack-le-NUMBERED
returns-then-stack-le-NUMBERED c = sym (drop_all 32 c.args.stack.now c.if-stack-le-NUMBERED.true)
