-- The statements so far fit.
use Rattle.std.proofs.Common.{take}
use Rattle.std.specs.List.{All}
use Rattle.gp_isa.specs.Statement.{action_of}
use Rattle.gp_isa.specs.InLimits.{IsAction, AreStatements}
use Rattle.gp_isa.proofs.in_limits.+limits.Given as goal

abbrev pub invariant-statements_fit-loop-statement : goal.invariant-statements_fit-loop-statement
invariant-statements_fit-loop-statement l =
    All (λ s. IsAction l.parts (AreStatements l.parts l.deep) (action_of s)) (take l.statement-index l.body)
