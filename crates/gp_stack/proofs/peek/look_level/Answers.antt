use Rattle.std.proofs.Common.{◌≡◌, ◌∙◌, List, subst}
use Rattle.gp_isa.specs.declared.statement.Stmt.{Stmt}
use Rattle.gp_stack.specs.kept.Level.{left_here}
use Rattle.gp_stack.specs.kept.Looks.{steps, peek_of}
use Rattle.gp_stack.proofs.Levels.{body_base}
use Rattle.gp_stack.proofs.peek.look_level.Goals as goal

pub returns-then-level-eq-LOOPS : goal.returns-then-level-eq-LOOPS
returns-then-level-eq-LOOPS c =
    subst (λ (body : List Stmt). c.look_here.result ≡ peek_of (steps (left_here c.args.program.now c.args.level body)) c.args.limit)
    (c.block.ensures.statements ∙ body_base c.args.program.now c.args.level c.args.outer.now c.if-level-eq-LOOPS.true) c.look_here.ensures

pub returns : goal.returns
returns c =
    subst (λ (body : List Stmt). c.look_here-2.result ≡ peek_of (steps (left_here c.args.program.now c.args.level body)) c.args.limit) c.block-2.ensures.statements c.look_here-2.ensures
