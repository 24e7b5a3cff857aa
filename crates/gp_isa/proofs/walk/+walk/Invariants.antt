-- What the statements from one on are is known, and the table has their entries in the room for them.
use Rattle.std.proofs.Common.{◌≡◌, ◌≤◌, ◌+◌, ℕ, suc, List, length, drop}
use Rattle.gp_isa.specs.Nesting.{loops_in}
use Rattle.gp_isa.specs.Trace.{Point, points_of_body}
use Rattle.gp_isa.specs.kept.Sizes.{size_of, AreSizes}
use Rattle.gp_isa.specs.kept.Blocks.{IsSuffix, Grows}
use Rattle.gp_isa.proofs.Blocks.{Filled}
use Rattle.gp_isa.proofs.walk.+walk.Given as goal

abbrev pub invariant-walk_body-loop-at : goal.invariant-walk_body-loop-at
invariant-walk_body-loop-at l = record {
  grows : Grows l.fn.table.items l.table.items;
  place : l.place ≡ length l.fn.table.items;
  room : l.place + length l.body ≤ length l.table.items;
  within : l.at ≤ length l.body;
  behind : (calls : ℕ → List Point) → AreSizes l.sizes calls → IsSuffix calls (suc l.deep) l.behind (drop l.at l.body);
  filled : (calls : ℕ → List Point) → AreSizes l.sizes calls → Filled calls l.table.items l.deep l.place l.body l.at;
  sized : (calls : ℕ → List Point) (f : ℕ) → AreSizes l.sizes calls → l.size ≡ size_of (points_of_body calls f (suc l.deep) (drop l.at l.body));
  nested : l.loops ≡ loops_in (suc l.deep) (drop l.at l.body);
  few : l.loops ≤ l.deep + 1;
}

abbrev pub decreases-walk_body-loop-at : goal.decreases-walk_body-loop-at
decreases-walk_body-loop-at l = l.at
