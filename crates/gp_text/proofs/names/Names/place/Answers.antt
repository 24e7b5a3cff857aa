use Rattle.std.proofs.Common.{◌∙◌}
use Rattle.gp_text.proofs.Known.{placed, known}
use Rattle.gp_text.proofs.names.Names.place.Goals as goal

pub returns-clause-place : goal.returns-clause-place
returns-clause-place c = c.get_index_of.ensures.index ∙ placed (λ k. k.now) c.args.name.now c.self.inside.set.keys c.args.self.now c.self.view_is

pub returns-clause-known : goal.returns-clause-known
returns-clause-known c = c.get_index_of.ensures.found ∙ known (λ k. k.now) c.args.name.now c.self.inside.set.keys c.args.self.now c.self.view_is
