use Rattle.std.proofs.Common.{◌≡◌, IfOk, List, map, sym, ap, ◌∙◌, subst}
use mathlib.Core.List.{map-map}
use Rattle.gp_build.specs.declared.spelled.Spelled.{Spelled}
use Rattle.gp_build.specs.declared.sample.StackSample.{StackSample}
use Rattle.gp_build.specs.Profile.{sample_of_group, goroutine_samples}
use Rattle.gp_build.specs.Samples.{groups_in_order}
use Rattle.gp_build.proofs.samples.samples.Goals as goal

pub returns : goal.returns
unfolding goroutine_samples
returns c =
    let is : map (λ (it : Spelled). sample_of_group it.group) c.as_slice.result.now ≡ map sample_of_group (groups_in_order c.args.parts.now c.args.records.now) =
    ap (map (λ (it : Spelled). sample_of_group it.group)) c.as_slice.ensures.value
    ∙ sym (map-map sample_of_group (λ (it : Spelled). it.group) c.in_ok-all.all.items)
    ∙ ap (map sample_of_group) c.in_ok-all.ensures.groups in
    subst (λ (target : List StackSample). IfOk c.samples_of.result (λ samples. samples.items ≡ target)) is c.samples_of.ensures
