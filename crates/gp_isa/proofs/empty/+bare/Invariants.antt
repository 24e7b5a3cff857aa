-- No statement so far holds such a loop.
use Rattle.std.proofs.Common.{◌≡◌, false, take}
use Rattle.std.specs.List.{list_any}
use Rattle.gp_isa.specs.Statement.{action_of}
use Rattle.gp_isa.specs.Checked.{lacks_statement, loop_lacks}
use Rattle.gp_isa.proofs.empty.+bare.Given as goal

abbrev pub invariant-is_bare-loop-statement : goal.invariant-is_bare-loop-statement
invariant-is_bare-loop-statement l =
    list_any (λ s. loop_lacks (lacks_statement l.deep) (action_of s)) (take l.statement-index l.body) ≡ false
