use Rattle.std.proofs.Common.{sym, ap, ◌∙◌}
use Rattle.gp_isa.specs.Trace.{trace}
use Rattle.gp_stack.specs.Body.{Progress}
use Rattle.gp_stack.specs.Peek.{then_at}
use Rattle.gp_stack.proofs.Conditions.{at_shared}
use Rattle.gp_body_tests.proofs.bodies.walk.Goals as goal

pub pass-requires-clause-shared : goal.pass-requires-clause-shared
pass-requires-clause-shared c =
    (at_shared (trace c.args.program.now c.advance.new.self.start) c.advance.new.self.count c.in-Shared.field-0
    (ap (λ (p : Progress). then_at (trace c.args.program.now p.start) p.count) c.advance.ensures.progress ∙ sym c.peek-ahead.ensures.then ∙ c.in-Shared.is)).0
