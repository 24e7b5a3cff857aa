use Rattle.std.proofs.Common.{◌<◌, ◌∙◌, length, sym, ap, subst, arith}
use Rattle.std.proofs.lemmas.List.{get_or_read}
use Rattle.gp_isa.specs.declared.parts.Parts.{Parts}
use Rattle.gp_isa.specs.declared.size.Size.{Size}
use Rattle.gp_isa.specs.Trace.{trace}
use Rattle.gp_isa.specs.kept.Sizes.{no_size}
use Rattle.gp_isa.specs.Size.{local_before}
use Rattle.gp_isa.proofs.Lengths.{points_are, before_are}
use Rattle.gp_isa.proofs.program.Program.size.Goals as goal

pub returns-clause-points : goal.returns-clause-points
returns-clause-points c =
    let there : c.args.f < length c.self.inside.parts.functions = subst (λ (parts : Parts). c.args.f < length parts.functions) (sym c.self.view_is) c.requires in
    let within : c.args.f < length c.self.inside.sizes.items = omega (arith, there, c.self.invariant.count) in
    ap (λ (s : Size). s.points) (get_or_read c.self.inside.sizes.items c.args.f c.index.result.now within c.index.ensures no_size) ∙
    points_are c.self.inside.parts c.self.inside.sizes.items c.self.invariant.traces c.self.invariant.checked c.args.f there ∙
    ap (λ (parts : Parts). length (trace parts c.args.f)) c.self.view_is

pub returns-clause-before : goal.returns-clause-before
returns-clause-before c =
    let there : c.args.f < length c.self.inside.parts.functions = subst (λ (parts : Parts). c.args.f < length parts.functions) (sym c.self.view_is) c.requires in
    let within : c.args.f < length c.self.inside.sizes.items = omega (arith, there, c.self.invariant.count) in
    ap (λ (s : Size). s.before) (get_or_read c.self.inside.sizes.items c.args.f c.index.result.now within c.index.ensures no_size) ∙
    before_are c.self.inside.parts c.self.inside.sizes.items c.self.invariant.traces c.self.invariant.checked c.args.f there ∙
    ap (λ (parts : Parts). local_before (trace parts c.args.f)) c.self.view_is
