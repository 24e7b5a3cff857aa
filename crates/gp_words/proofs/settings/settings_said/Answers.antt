use Rattle.std.proofs.Common.{◌∙◌, ap, sym}
use Rattle.gp_words.specs.Read.{Names}
use Rattle.gp_words.specs.Settings.{settings_of}
use Rattle.gp_words.proofs.Taking.{handed_on, goes_on}
use Rattle.gp_words.proofs.settings.settings_said.Goals as goal

pub returns-in_err-taken-clause-said : goal.returns-in_err-taken-clause-said
returns-in_err-taken-clause-said c =
    handed_on c.from_residual.result c.in_err-taken.field-0.0 _ (λ taken. Names (settings_of taken)) c.from_residual.ensures.1 c.in_err-taken.ensures.options

pub returns-clause-said : goal.returns-clause-said
returns-clause-said c =
    goes_on _ (λ taken. Names (settings_of taken)) c.in_ok-taken.taken c.in_ok-taken.ensures.options ∙ ap Names (sym c.in_ok-settings.ensures.settings)
