use Rattle.std.proofs.Common.{◌≡◌, sym, ◌∙◌, rules}
use Rattle.std.specs.Slice.Iter.{iter_rest}
use Rattle.std.specs.Iterator.Adapters.{zip_first, zip_second}
use Rattle.std.proofs.lemmas.Slice.Zip.{either_empty_from_Zip}
use Rattle.gp_build.specs.kept.Ranks.{ranked_cmp}
use Rattle.gp_build.proofs.Comparing.{left_all, left_more, left_told, left_end}
use Rattle.gp_build.proofs.compare.compare_stacks.Goals as goal

pub loop-x-init : goal.loop-x-init
loop-x-init c =
    let first : iter_rest (zip_first c.into_iter-x-iterator.result) ≡ c.args.a.now = search rules in
    let second : iter_rest (zip_second c.into_iter-x-iterator.result) ≡ c.args.b.now = search rules in
    ((tt, tt), tt, left_all (ranked_cmp c.args.ranks.now) c.args.a.now c.args.b.now _ _ first second)

pub loop-x-preserved : goal.loop-x-preserved
loop-x-preserved c = (
  (tt, tt),
  tt,
  left_more (ranked_cmp c.args.ranks.now) c.args.a.now c.args.b.now _ _ _ _ c.in-Some.x.now c.in-Some.y.now
      c.in-Some.ensures.steps.0 c.in-Some.ensures.steps.1 c.loop-x.invariant.2 (sym c.compare_frames.ensures ∙ c.in-Equal.is),
)

pub returns-in_default : goal.returns-in_default
returns-in_default c =
    left_told (ranked_cmp c.args.ranks.now) c.args.a.now c.args.b.now _ _ _ _ c.in-Some.x.now c.in-Some.y.now c.compare_frames.result
    c.in-Some.ensures.steps.0 c.in-Some.ensures.steps.1 c.loop-x.invariant.2 c.compare_frames.ensures c.in_default.not-Equal

pub returns : goal.returns
returns c =
    c.cmp.ensures ∙ left_end (ranked_cmp c.args.ranks.now) c.args.a.now c.args.b.now _ _
    (either_empty_from_Zip c.loop-x.x-iterator c.next.new.self c.next.result c.in-None.is c.next.ensures.steps) c.loop-x.invariant.2
