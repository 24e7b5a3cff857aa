use Rattle.std.specs.Slice.Iter.{iter_rest}
use Rattle.std.specs.Iterator.Adapters.{zip_first, zip_second}
use Rattle.gp_build.specs.kept.Ranks.{ranked_cmp}
use Rattle.gp_build.proofs.Comparing.{IsLeft}
use Rattle.gp_build.proofs.compare.compare_stacks.Given as goal

abbrev pub invariant-loop-x : goal.invariant-loop-x
invariant-loop-x l =
    (goal.iterator-loop-x).can_next l.x-iterator × (goal.iterator-loop-x).is_finite l.x-iterator
    × IsLeft (ranked_cmp l.ranks) l.a l.b (iter_rest (zip_first l.x-iterator)) (iter_rest (zip_second l.x-iterator))
