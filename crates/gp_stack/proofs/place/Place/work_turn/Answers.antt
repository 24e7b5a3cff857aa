use Rattle.std.proofs.Common.{◌≤◌, List, length, arith, subst}
use Rattle.gp_isa.specs.declared.statement.Stmt.{Stmt}
use Rattle.gp_stack.specs.kept.Level.{points_of_statements}
use Rattle.gp_stack.specs.kept.Passing.{AreWork}
use Rattle.gp_stack.proofs.Working.{work_whole}
use Rattle.gp_stack.proofs.place.Place.work_turn.Goals as goal

pub returns-clause-stands : goal.returns-clause-stands
returns-clause-stands c =
    record {
      over = subst (λ (body : List Stmt). length body ≤ c.args.self.now.top.at) c.requires.statements c.if-self-here.false;
      again = omega arith;
      some = omega arith;
      work = subst (λ (body : List Stmt). AreWork (points_of_statements c.args.program.now c.args.self.now.top body) c.in_ok-turn.turn.points) c.requires.statements
          (work_whole c.args.program.now c.parts.ensures.checked c.args.self.now.top c.args.here.now.statements.now c.in_ok-turn.turn c.if-turn-here.false (c.in_ok-turn.ensures.run c.args.program.now c.requires.kept));
    }
