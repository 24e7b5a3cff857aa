use Rattle.std.specs.Slice.Iter.{iter_rest}
use Rattle.std.specs.Iterator.Adapters.{zip_first, zip_second}
use Rattle.gp_build.specs.kept.Ranks.{ranked_cmp}
use Rattle.gp_build.specs.kept.Spelled.{number_cmp}
use Rattle.gp_build.proofs.Comparing.{IsLeft}
use Rattle.gp_build.proofs.spelled.compare_blocks.Given as goal

abbrev pub invariant-loop-n : goal.invariant-loop-n
invariant-loop-n l =
    (goal.iterator-loop-n).can_next l.n-iterator × (goal.iterator-loop-n).is_finite l.n-iterator
    × IsLeft (number_cmp (ranked_cmp l.ranks) l.table) l.a l.b (iter_rest (zip_first l.n-iterator)) (iter_rest (zip_second l.n-iterator))
