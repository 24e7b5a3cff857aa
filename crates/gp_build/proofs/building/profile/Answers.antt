use Rattle.std.proofs.Common.{◌≡◌, IfOk, ap, ◌∙◌, subst}
use Rattle.gp_isa.specs.declared.parts.Parts.{Parts}
use Rattle.gp_wire.specs.declared.profile.Profile.{Profile}
use Rattle.gp_build.specs.Message.{profile_of, profile_with}
use Rattle.gp_build.specs.Numbers.{string_table}
use Rattle.gp_build.proofs.Faultless.{valid_of}
use Rattle.gp_build.proofs.building.profile.Goals as goal

pub returns-clause-profile : goal.returns-clause-profile
unfolding profile_of
returns-clause-profile c =
    let strings =
    c.in_ok-all.ensures.strings
    ∙ ap (λ (parts : Parts). string_table parts c.args.file.now c.args.header.now c.args.samples.now) c.parts-parts.ensures.parts in
    subst (λ (profile : Profile). IfOk c.from_tables.result (λ p. p ≡ profile))
    (λ i. profile_with (c.parts-parts.ensures.parts i) c.args.file.now c.args.header.now c.args.samples.now
    (strings i) (c.in_ok-all.ensures.locations i) (c.in_ok-all.ensures.functions i))
    c.from_tables.ensures.profile

pub returns-clause-valid : goal.returns-clause-valid
returns-clause-valid c =
    valid_of c.args.program.now c.args.file.now c.args.header.now c.args.samples.now c.from_tables.result
    (returns-clause-profile c) c.from_tables.ensures.fits
