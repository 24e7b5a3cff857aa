use Rattle.std.proofs.Common.{◌≡◌, ◌+◌, ap, ◌∙◌, arith}
use Rattle.std.proofs.lemmas.Grind.{common_steps}
use Rattle.gp_journal.specs.Run.{state_of}
use Rattle.gp_journal.specs.State.{code_of}
use Rattle.gp_world.specs.Scene.{Scene}
use Rattle.gp_profiler.proofs.MayEnter.{epoch_opened}
use Rattle.gp_profiler.proofs.opening.open_profile.Goals as goal

pub returns-clause-answer : goal.returns-clause-answer
returns-clause-answer g c =
    let program = g.R.Run.program in
    let settings = g.R.Run.settings in
    let journal = c.args.world.now.journal in
    let epoch = (state_of program settings journal).last_epoch + 1 in
    let told : c.last_epoch.result ≡ epoch = c.last_epoch.ensures ∙ ap (λ j. (state_of program settings j).last_epoch) c.machine.ensures.journal
    ∙ ap (λ (scene : Scene). (state_of program settings scene.journal).last_epoch) c.enter_open.ensures.scene
    ∙ epoch_opened (code_of program) settings journal epoch settings.room in
    rw told (grind (arith, common_steps))

pub returns-clause-scene : goal.returns-clause-scene
returns-clause-scene g c =
    let program = g.R.Run.program in
    let settings = g.R.Run.settings in
    let journal = c.args.world.now.journal in
    let epoch = (state_of program settings journal).last_epoch + 1 in
    let told : c.last_epoch.result ≡ epoch = c.last_epoch.ensures ∙ ap (λ j. (state_of program settings j).last_epoch) c.machine.ensures.journal
    ∙ ap (λ (scene : Scene). (state_of program settings scene.journal).last_epoch) c.enter_open.ensures.scene
    ∙ epoch_opened (code_of program) settings journal epoch settings.room in
    rw told c.enter_open.ensures.scene
