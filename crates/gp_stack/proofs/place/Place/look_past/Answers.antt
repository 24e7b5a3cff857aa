use Rattle.std.proofs.Common.{◌≤◌, ◌-◌, arith}
use Rattle.gp_stack.specs.kept.Level.{left}
use Rattle.gp_stack.specs.kept.Looks.{steps}
use Rattle.gp_stack.specs.kept.Place.{levels, stepped}
use Rattle.gp_stack.proofs.Peeks.{peek_few}
use Rattle.gp_stack.proofs.Looking.{past_stop, past_on}
use Rattle.gp_stack.proofs.place.Place.look_past.Goals as goal

pub returns-then-not-is_over : goal.returns-then-not-is_over
returns-then-not-is_over c xs is = past_stop xs (steps (left c.args.program.now (stepped (levels c.args.self.now)))) c.args.limit c.args.first c.if-not-is_over.ensures.more is

pub overflow_add-result : goal.overflow_add-result
overflow_add-result c =
    let few : c.look_behind-rest.result.local ≤ c.args.limit - c.args.first.local = peek_few (steps (left c.args.program.now (stepped (levels c.args.self.now)))) (c.args.limit - c.args.first.local) c.look_behind-rest.result
    c.look_behind-rest.ensures in
    omega arith

pub returns : goal.returns
returns c xs is = past_on xs (steps (left c.args.program.now (stepped (levels c.args.self.now)))) c.args.limit c.args.first c.look_behind-rest.result c.if-not-is_over.ensures.over c.look_behind-rest.ensures is
