use Rattle.std.proofs.Common.{sym, ◌∙◌}
use Rattle.gp_journal.specs.State.{code_of}
use Rattle.gp_core.proofs.Admits.{admitted, admits_enabled}
use Rattle.gp_core.proofs.status_words.Core.enabled.Goals as goal

pub returns : goal.returns
returns g c =
    let code = code_of g.R.Run.program in let S = g.R.Run.settings in (
      λ yes. admitted code S c.args.self.now c.args.event.now (sym c.admits.ensures ∙ yes),
      λ may. c.admits.ensures ∙ admits_enabled code S c.args.self.now c.args.event.now may,
    )
