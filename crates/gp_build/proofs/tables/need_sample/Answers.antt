use Rattle.std.proofs.Common.{◌≡◌, List, ap, ◌∙◌, refl, subst}
use Rattle.std.specs.List.{flat_map}
use Rattle.gp_isa.specs.declared.parts.Pair.{Pair}
use Rattle.gp_build.specs.declared.site.Site.{Site}
use Rattle.gp_build.specs.Numbers.{site_needs, label_needs, sample_needs}
use Rattle.gp_build.specs.Site.{labels_of}
use Rattle.gp_build.specs.kept.Tables.{with_needs, Enters}
use Rattle.gp_build.proofs.Entering.{enters_needs}
use Rattle.gp_build.proofs.tables.need_sample.Goals as goal

pub returns : goal.returns
unfolding sample_needs
returns c =
    let stack : Enters c.args.parts.now c.args.file.now (flat_map (site_needs c.args.parts.now c.args.file.now) c.args.sample.now.stack) c.args.sample.now.stack c.args.all.now c.need_stack.new.all =
    subst (λ (stack : List Site). Enters c.args.parts.now c.args.file.now (flat_map (site_needs c.args.parts.now c.args.file.now) stack) stack c.args.all.now c.need_stack.new.all)
    c.as_slice.ensures c.in_ok-need_stack.ensures in
    let labels : c.need_labels.new.strings.keys ≡ with_needs c.need_stack.new.all.strings.keys (flat_map label_needs (labels_of c.args.parts.now c.args.sample.now.set)) =
    c.in_ok-need_labels.ensures ∙ ap (λ (pairs : List Pair). with_needs c.need_stack.new.all.strings.keys (flat_map label_needs pairs)) c.labels.ensures in
    enters_needs c.args.parts.now c.args.file.now _ _ _ _ _ _ stack labels refl refl
