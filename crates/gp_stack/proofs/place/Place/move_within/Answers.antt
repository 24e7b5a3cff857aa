use Rattle.std.proofs.Common.{reverse, sym, ap, ◌∙◌}
use Rattle.gp_stack.specs.kept.Level.{left}
use Rattle.gp_stack.specs.kept.Place.{levels, room}
use Rattle.gp_stack.specs.kept.Cost.{cost}
use Rattle.gp_stack.proofs.Costs.{cost_run}
use Rattle.gp_stack.proofs.Moves.{body_moved}
use Rattle.gp_stack.proofs.Passing.{passes_none, passes_run}
use Rattle.gp_stack.proofs.Settle.{fit_moved}
use Rattle.gp_stack.proofs.place.Place.move_within.Goals as goal

pub returns-in-Some-clause-passes : goal.returns-in-Some-clause-passes
returns-in-Some-clause-passes c = passes_run c.args.program.now c.args.self.now.top (reverse c.args.self.now.outer.items) c.in-Some.run'.to c.in-Some.run'.points c.in-Some.ensures.stands

pub returns-in-Some-clause-falls : goal.returns-in-Some-clause-falls
returns-in-Some-clause-falls c = cost_run c.args.program.now c.args.self.now.top (reverse c.args.self.now.outer.items) c.in-Some.run'.to c.in-Some.ensures.stands.some c.in-Some.ensures.stands.within

pub returns-in-Some-clause-place : goal.returns-in-Some-clause-place
returns-in-Some-clause-place c = record {
  fit = fit_moved c.args.program.now (room c.args.program.now) c.in-Some.run'.to c.args.self.now.top (reverse c.args.self.now.outer.items) c.requires.place.fit;
  reserved = c.requires.place.reserved;
}

pub returns-in-Some-clause-here : goal.returns-in-Some-clause-here
returns-in-Some-clause-here c = record {
  statements = c.requires.here.statements ∙ sym (body_moved c.args.program.now c.args.self.now.top c.in-Some.run'.to (reverse c.args.self.now.outer.items));
  kept = c.requires.here.kept;
}
