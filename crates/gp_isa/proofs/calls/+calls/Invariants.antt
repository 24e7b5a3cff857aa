-- The calls of the statements so far are marked.
use Rattle.std.proofs.Common.{◌+◌, ◌*◌, take, flat_map}
use Rattle.gp_isa.specs.kept.Ways.{AddsMarks}
use Rattle.gp_isa.proofs.Marks.{calls_of_statement}
use Rattle.gp_isa.proofs.calls.+calls.Given as goal

abbrev pub invariant-mark_calls-loop-statement : goal.invariant-mark_calls-loop-statement
invariant-mark_calls-loop-statement l = AddsMarks l.initial.row l.row (flat_map (calls_of_statement l.deep) (take l.statement-index l.body))

-- A statement's calls come before those of the body that it stands in.
abbrev pub decreases-mark_calls : goal.decreases-mark_calls
decreases-mark_calls l = 2 * l.deep + 1

abbrev pub decreases-mark_statement : goal.decreases-mark_statement
decreases-mark_statement l = 2 * l.deep
