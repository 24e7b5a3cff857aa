use Rattle.std.proofs.Common.{◌≡◌, IfOk, ◌∙◌, subst}
use Rattle.gp_wire.specs.declared.profile.Profile.{Profile}
use Rattle.gp_build.specs.Message.{profile_of}
use Rattle.gp_build.specs.Profile.{goroutine_samples, goroutine_profile_of}
use Rattle.gp_build.proofs.goroutine.goroutine_profile.Goals as goal

pub returns-clause-profile : goal.returns-clause-profile
unfolding goroutine_profile_of
returns-clause-profile c =
    let samples =
    c.as_slice-2.ensures.value ∙ c.in_ok-samples.ensures
    ∙ (λ i. goroutine_samples (c.parts.ensures.parts i) (c.as_slice.ensures i)) in
    subst (λ (profile : Profile). IfOk c.profile.result (λ p. p ≡ profile))
    (λ i. profile_of c.args.program.now c.args.file.now (c.in_ok-header.ensures i) (samples i))
    c.profile.ensures.profile
