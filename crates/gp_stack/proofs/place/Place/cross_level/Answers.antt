use Rattle.std.proofs.Common.{◌∙◌}
use Rattle.gp_stack.proofs.Levels.{body_base}
use Rattle.gp_stack.proofs.place.Place.cross_level.Goals as goal

pub cross-requires-clause-here : goal.cross-requires-clause-here
cross-requires-clause-here c = record {
  statements = c.block-here.ensures.statements ∙ body_base c.args.program.now c.args.self.now.top c.args.self.now.outer.items c.if-self-eq-LOOPS.true;
  kept = c.block-here.ensures.block;
}
