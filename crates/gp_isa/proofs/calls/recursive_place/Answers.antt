use Rattle.std.proofs.Common.{[], length, get_or, sym, ◌∙◌, arith}
use Rattle.gp_isa.specs.kept.Ways.{marked}
use Rattle.gp_isa.proofs.First.{first_from-Some, first_from-None}
use Rattle.gp_isa.proofs.Leads.{first_recursive_is}
use Rattle.gp_isa.proofs.calls.recursive_place.Goals as goal

pub returns-then-row-f-clause-place : goal.returns-then-row-f-clause-place
returns-then-row-f-clause-place c parts limits len leads =
    sym (first_from-Some (λ f. marked (get_or c.args.rows.now f []) f) 0 (length parts.functions) c.loop-f.f (omega arith) (omega (arith, len, c.loop-f-test.true)) c.if-row-f.true
    (λ j above below. c.loop-f.invariant j below)) ∙
    first_recursive_is parts limits c.args.rows.now leads

pub returns-clause-place : goal.returns-clause-place
returns-clause-place c parts limits len leads =
    sym (first_from-None (λ f. marked (get_or c.args.rows.now f []) f) 0 (length parts.functions)
    (λ j above below. c.loop-f.invariant j (omega (arith, len, c.loop-f-test.false, c.loop-f.auto, below)))) ∙
    first_recursive_is parts limits c.args.rows.now leads
