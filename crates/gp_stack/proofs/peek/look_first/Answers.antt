use Rattle.std.proofs.Common.{◌∙◌, sym, arith}
use Rattle.gp_stack.proofs.Firsts.{first_short, first_found, first_none}
use Rattle.gp_stack.proofs.peek.look_first.Goals as goal

pub returns-then-limit-size : goal.returns-then-limit-size
returns-then-limit-size c points before first = first_short points c.args.limit (omega arith)

pub returns-in-Some : goal.returns-in-Some
returns-in-Some c points before first =
    first_found points c.args.limit c.args.size.before c.operation.result c.in-Some.shared before c.if-limit-size.false (sym first ∙ c.in-Some.is) c.operation.ensures

pub returns-in-None : goal.returns-in-None
returns-in-None c points before first = first_none points c.args.limit c.args.size.before before c.if-limit-size.false (sym first ∙ c.in-None.is)
