use Rattle.std.proofs.Common.{◌≤◌, ◌+◌, length, arith}
use Rattle.gp_isa.specs.Size.{depth_of}
use Rattle.gp_stack.proofs.Deep.{depth_few}
use Rattle.gp_stack.proofs.body.most_calls.Goals as goal

pub overflow_cast-result : goal.overflow_cast-result
overflow_cast-result c =
    let few : depth_of c.args.program.now ≤ length c.args.program.now.functions + 1 = depth_few c.args.program.now in
    omega (arith, c.parts.ensures.limits.functions)
