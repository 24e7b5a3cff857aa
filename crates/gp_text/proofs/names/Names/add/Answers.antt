use Rattle.gp_text.proofs.Known.{added}
use Rattle.gp_text.proofs.names.Names.add.Goals as goal

pub returns : goal.returns
returns c = added (λ k. k.now) c.args.name c.self.inside.set.keys _ c.args.self.now c.self.view_is c.in_ok-insert.ensures.keys
