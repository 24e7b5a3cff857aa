use Rattle.std.proofs.Common.{◌≡◌, ◌<◌, ◌^◌, ◌-◌, ◌∙◌, List, length, refl, sym, ap, subst, arith}
use Rattle.std.specs.List.{All}
use Rattle.gp_isa.specs.declared.parts.Function.{Function}
use Rattle.gp_isa.specs.declared.size.Size.{Size}
use Rattle.gp_isa.specs.Nesting.{loops_in}
use Rattle.gp_isa.specs.Statement.{most_bodies}
use Rattle.gp_isa.specs.Trace.{points_of_body, body_of}
use Rattle.gp_isa.specs.kept.Blocks.{HasBlock}
use Rattle.gp_isa.specs.kept.Sizes.{size_of, AreSizes}
use Rattle.gp_isa.proofs.Blocks.{block_added}
use Rattle.gp_isa.proofs.Tables.{body_there, some_sizes-frames}
use Rattle.gp_isa.proofs.Walks.{walked_more}
use Rattle.gp_isa.proofs.walk.walk_function.Goals as goal

pub bounds-functions-f : goal.bounds-functions-f
bounds-functions-f c = subst (λ (fs : List Function). c.args.f < length fs) (sym c.as_slice-functions.ensures) c.requires.there

pub walk_body-requires : goal.walk_body-requires
walk_body-requires c = subst (λ (sizes : List Size). All (λ s. s.frames < 2 ^ 32 - 1) sizes) (sym c.as_slice-sizes.ensures.value) (some_sizes-frames c.args.parts.now c.args.walk.now.sizes.items _ c.requires.limits.functions c.requires.before.sizes)

pub returns : goal.returns
returns c =
    let its : c.as_slice-body.result.now ≡ body_of c.args.parts.now c.args.f =
    body_there c.args.parts.now c.as_slice-functions.result.now c.args.f c.index-functions-f.result c.as_slice-body.result.now c.as_slice-functions.ensures
    (subst (λ (fs : List Function). c.args.f < length fs) (sym c.as_slice-functions.ensures) c.requires.there) c.index-functions-f.is (c.as_slice-body.ensures ∙ ap (λ (g : Function). g.body) (sym c.index-functions-f.is)) in
    walked_more c.args.parts.now c.requires.limits c.requires.acyclic c.args.ranks.now c.requires.ranks c.args.walk.now _ c.args.f c.in_ok-found.found.size c.in_ok-found.found.base c.in_ok-found.found.loops
    c.requires.there refl c.in_ok-found.ensures.grows refl (omega (arith, c.max-walk.ensures))
    (λ some calls are. subst (λ body. HasBlock calls c.walk_body.new.table.items most_bodies c.in_ok-found.found.base body) its
    (block_added calls c.args.walk.now.table.suffixes.items c.walk_body.new.table.items most_bodies c.in_ok-found.found.base c.as_slice-body.result.now c.in_ok-found.ensures.grows
    (c.in_ok-found.ensures.block some calls (subst (λ (sizes : List Size). AreSizes sizes calls) (sym c.as_slice-sizes.ensures.value) are))))
    (λ calls g are. c.in_ok-found.ensures.size calls g (subst (λ (sizes : List Size). AreSizes sizes calls) (sym c.as_slice-sizes.ensures.value) are) ∙ ap (λ body. size_of (points_of_body calls g most_bodies body)) its)
    (c.in_ok-found.ensures.loops ∙ ap (loops_in most_bodies) its) (omega (arith, c.in_ok-found.ensures.few)) c.requires.before
