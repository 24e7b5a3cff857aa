use Rattle.std.proofs.Common.{◌<◌, subst, [], length, get_or, nat_lt, sym, arith}
use Rattle.std.proofs.lemmas.Bool.{lt-ltb}
use Rattle.std.proofs.lemmas.List.{get_or_default}
use Rattle.gp_isa.specs.declared.size.Size.{Size}
use Rattle.gp_isa.specs.Limits.{most_points}
use Rattle.gp_isa.specs.kept.Sizes.{size_of}
use Rattle.gp_isa.proofs.First.{first_from-Some, first_from-None}
use Rattle.gp_isa.proofs.size.long_place.Goals as goal

pub returns-then-size-gt-POINTS-clause-place : goal.returns-then-size-gt-POINTS-clause-place
returns-then-size-gt-POINTS-clause-place c =
    sym (first_from-Some (λ f. nat_lt most_points (get_or c.args.sizes.now f (size_of [])).points) 0 (length c.args.sizes.now) c.loop-f.f
    (omega arith) (omega (arith, c.loop-f-test.true))
    (lt-ltb most_points (get_or c.args.sizes.now c.loop-f.f (size_of [])).points (subst (λ (s : Size). most_points < s.points) (get_or_default c.args.sizes.now c.loop-f.f _ (size_of []) c.loop-f-test.true) c.if-size-gt-POINTS.true))
    (λ j above below. c.loop-f.invariant j below))

pub returns-clause-place : goal.returns-clause-place
returns-clause-place c =
    sym (first_from-None (λ f. nat_lt most_points (get_or c.args.sizes.now f (size_of [])).points) 0 (length c.args.sizes.now)
    (λ j above below. c.loop-f.invariant j (omega (arith, c.loop-f-test.false, c.loop-f.auto, below))))
