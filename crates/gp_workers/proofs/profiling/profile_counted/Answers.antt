use Rattle.std.proofs.Common.{◌+◌, ◌≤◌, ap, sym, ◌∙◌, subst}
use Rattle.gp_journal.specs.Actors.{made_by}
use Rattle.gp_tally.specs.Rows.{Part}
use Rattle.gp_world.specs.Scene.{Scene}
use Rattle.gp_workers.specs.kept.Turns.{TakesOneTurn}
use Rattle.gp_workers.proofs.Turns.{few_made}
use Rattle.gp_workers.proofs.profiling.profile_counted.Goals as goal

pub returns-clause-few : goal.returns-clause-few
returns-clause-few g c =
    let settings = g.R.Run.settings in let old = c.args.world.now.journal in let new = c.profile_on-did.new.world.journal in let was = c.args.who.now in let who = c.profile_on-did.new.who in
    let turn = subst (λ (s : Scene). TakesOneTurn s.journal new) c.check_actor.ensures.scene c.profile_on-did.ensures.entries in
    let number = c.profile_on-did.ensures.profiler.number ∙ sym c.requires.profiler.number in
    subst (λ (p : Part). p.row.c ≤ was.row.c + 2) (sym c.check_actor-2.ensures.share)
    (few_made settings was.number was.row.c who.row.c old new turn c.check_actor.ensures.made (c.check_actor-2.ensures.made ∙ ap (λ n. made_by settings n new) number))
