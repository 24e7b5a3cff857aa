use Rattle.std.proofs.Common.{◌≡◌, IfOk, map, ◌∙◌, subst}
use Rattle.gp_wire.specs.declared.profile.Profile.{Profile}
use Rattle.gp_build.specs.Message.{profile_of}
use Rattle.gp_build.specs.Cpu.{sample_of_cpu_sum, cpu_profile_of}
use Rattle.gp_build.proofs.cpu.cpu_profile.Goals as goal

pub returns-clause-profile : goal.returns-clause-profile
unfolding cpu_profile_of
returns-clause-profile c =
    let samples =
    c.as_slice-2.ensures.value ∙ c.in_ok-samples.ensures
    ∙ (λ i. map (sample_of_cpu_sum (c.tick_time.ensures.time i)) ((c.as_slice.ensures ∙ c.in_ok-sums.ensures) i)) in
    subst (λ (profile : Profile). IfOk c.profile.result (λ p. p ≡ profile))
    (λ i. profile_of c.args.program.now c.args.file.now (c.in_ok-header.ensures i) (samples i))
    c.profile.ensures.profile
