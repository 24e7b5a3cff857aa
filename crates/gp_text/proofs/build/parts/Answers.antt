use Rattle.gp_text.specs.Spaces.{kept}
use Rattle.gp_text.proofs.Judging.{parts_are}
use Rattle.gp_text.proofs.build.parts.Goals as goal

pub returns : goal.returns
returns c = parts_are _ _ _ _ (kept c.args.spaces.now) c.args.said.now c.in_ok-functions.ensures c.in_ok-each.ensures c.in_ok-each-2.ensures c.in_ok-each-3.ensures c.requires.names
