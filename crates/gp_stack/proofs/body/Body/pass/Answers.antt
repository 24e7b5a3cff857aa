use Rattle.std.proofs.Common.{◌∙◌}
use Rattle.gp_stack.proofs.Levels.{body_base}
use Rattle.gp_stack.proofs.body.Body.pass.Goals as goal

pub pass_in-requires-clause-here : goal.pass_in-requires-clause-here
pass_in-requires-clause-here c = record {
  statements = c.block-here.ensures.statements ∙ body_base c.args.program.now c.args.self.now.place.top c.args.self.now.place.outer.items c.if-self-eq-LOOPS.true;
  kept = c.block-here.ensures.block;
}
