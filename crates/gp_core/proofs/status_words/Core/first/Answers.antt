use Rattle.std.proofs.Common.{◌+◌, [], None, replicate, ap, ◌∙◌, subst}
use Rattle.gp_journal.specs.declared.settings.Settings.{Settings}
use Rattle.gp_core.specs.declared.word.Word.TheVariants.{Dead}
use Rattle.gp_core.specs.CoreState.{first_core}
use Rattle.gp_core.specs.kept.Core.{core_of, IsReachedBy}
use Rattle.gp_core.proofs.Running.{first_is, first_reached}
use Rattle.gp_core.proofs.status_words.Core.first.Goals as goal

pub invariant_of-result : goal.invariant_of-result
invariant_of-result g c =
    let P = g.R.Run.program in let it = c.args.settings.now in
    rw (c.in_ok-new.ensures, c.in_ok-dead_words.ensures, c.in_ok-vacant.ensures, c.in_ok-vacant-2.ensures, c.new-2.ensures.items)
    (subst (λ (s : Settings). IsReachedBy P s it.workers it.room (replicate it.cells None) (core_of [] (replicate it.cells Dead) (replicate it.cells None) (replicate (it.workers + 1) None) []))
    c.requires.settings (first_reached P it c.requires.range))

pub returns : goal.returns
returns g c =
    (λ i. core_of (c.in_ok-new.ensures i) (c.in_ok-dead_words.ensures i) (c.in_ok-vacant.ensures i) (c.in_ok-vacant-2.ensures i) (c.new-2.ensures.items i))
    ∙ first_is c.args.settings.now ∙ ap first_core c.requires.settings
