use Rattle.std.proofs.Common.{◌≡◌, sym, ◌∙◌, rules}
use Rattle.std.specs.Slice.Iter.{iter_rest}
use Rattle.std.specs.Iterator.Adapters.{zip_first, zip_second}
use Rattle.gp_build.specs.Shown.{same_pair}
use Rattle.gp_build.proofs.Comparing.{same_all, same_more}
use Rattle.gp_build.proofs.shown.are_same_pairs.Goals as goal

pub loop-x-init : goal.loop-x-init
loop-x-init c =
    let first : iter_rest (zip_first c.into_iter-x-iterator.result) ≡ c.args.a.now = search rules in
    let second : iter_rest (zip_second c.into_iter-x-iterator.result) ≡ c.args.b.now = search rules in
    ((tt, tt), tt, same_all same_pair c.args.a.now c.args.b.now _ _ first second c.if-a-b.false)

pub loop-x-preserved : goal.loop-x-preserved
loop-x-preserved c = (
  (tt, tt),
  tt,
  same_more same_pair c.args.a.now c.args.b.now _ _ _ _ c.in-Some.x.now c.in-Some.y.now
      c.in-Some.ensures.steps.0 c.in-Some.ensures.steps.1 c.loop-x.invariant.2 (sym c.is_same_pair.ensures ∙ c.if-not-is_same_pair.false),
)
