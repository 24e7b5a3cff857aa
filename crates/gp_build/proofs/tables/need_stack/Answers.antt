use Rattle.gp_build.specs.Numbers.{site_needs}
use Rattle.gp_build.proofs.Entering.{enters_stack}
use Rattle.gp_build.proofs.tables.need_stack.Goals as goal

pub returns : goal.returns
returns c =
    enters_stack c.args.parts.now c.args.file.now (site_needs c.args.parts.now c.args.file.now) c.args.stack.now c.loop-site.site-index _ _
    c.loop-site-test.false c.loop-site.invariant
