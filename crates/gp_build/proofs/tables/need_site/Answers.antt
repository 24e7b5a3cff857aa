use Rattle.std.proofs.Common.{◌≡◌, sym, ◌∙◌, refl}
use Rattle.gp_build.specs.Numbers.{site_needs}
use Rattle.gp_build.specs.kept.Tables.{with_needs}
use Rattle.gp_build.proofs.FirstSeen.{not_true}
use Rattle.gp_build.proofs.Entering.{enters_site, enters_again, enters_there}
use Rattle.gp_build.proofs.tables.need_site.Goals as goal

pub returns-then-is_at : goal.returns-then-is_at
returns-then-is_at c =
    enters_there c.args.parts.now c.args.file.now c.args.all.now c.args.site c.requires (c.is_at.ensures.there c.if-is_at.true)

pub returns-in_ok-enter-3 : goal.returns-in_ok-enter-3
returns-in_ok-enter-3 c =
    let strings : c.enter-then-new-3.new.table.keys ≡ with_needs c.args.all.now.strings.keys (site_needs c.args.parts.now c.args.file.now c.args.site) =
    rw (c.in_ok-enter-3.ensures.keys, c.in_ok-enter-2.ensures.keys, c.text.ensures, c.text-then-new.ensures, c.name.ensures, c.filename.ensures) refl in
    enters_site c.args.parts.now c.args.file.now c.args.all.now _ c.args.site c.requires strings c.in_ok-place.ensures.keys c.in_ok-enter.ensures.keys

pub returns-else-new : goal.returns-else-new
returns-else-new c =
    enters_again c.args.parts.now c.args.file.now c.args.all.now _ c.args.site c.requires
    (not_true _ (sym c.in_ok-place.ensures.new ∙ c.if-new.false)) refl c.in_ok-place.ensures.keys refl
