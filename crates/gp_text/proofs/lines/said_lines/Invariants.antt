use Rattle.std.proofs.Common.{◌≡◌, ◌+◌, ◌≤◌, ◌++◌, length}
use Rattle.gp_text.specs.Pieces.{lines_of}
use Rattle.gp_text.specs.Line.{said_from}
use Rattle.gp_text.proofs.lines.said_lines.Given as goal

abbrev pub invariant-loop-at : goal.invariant-loop-at
invariant-loop-at l = record {
  said : l.all.items ++ said_from l.deep (lines_of l.rest) ≡ said_from 0 (lines_of l.bytes);
  few : length l.all.items + length l.rest ≤ length l.bytes;
  shallow : l.deep ≤ length l.all.items;
}

abbrev pub decreases-loop-at : goal.decreases-loop-at
decreases-loop-at l = length l.rest
