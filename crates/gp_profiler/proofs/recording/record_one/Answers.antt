use Rattle.std.proofs.Common.{sym, subst, ap, ◌∙◌}
use Rattle.gp_journal.specs.May.{MayRecord}
use Rattle.gp_journal.specs.Run.{state_of}
use Rattle.gp_journal.specs.State.{code_of, goroutine}
use Rattle.gp_tally.specs.Rows.{Part}
use Rattle.gp_world.specs.Scene.{Scene}
use Rattle.gp_profiler.proofs.MayEnter.{may_record}
use Rattle.gp_profiler.proofs.recording.record_one.Goals as goal

pub enter_record-requires-clause-may : goal.enter_record-requires-clause-may
enter_record-requires-clause-may g c =
    let program = g.R.Run.program in
    let settings = g.R.Run.settings in
    let journal = c.args.world.now.journal in
    let who = c.args.who.now in
    let id = c.args.copy.g in
    let active = c.active-active.ensures ∙ ap (λ j. (state_of program settings j).active) c.machine.ensures.journal in
    let epoch = c.epoch-epoch.ensures ∙ ap (λ j. (goroutine (state_of program settings j) id).epoch) c.machine-2.ensures.journal in
    let may = may_record (code_of program) settings journal c.machine.ensures.legal who.number id who.row c.requires.recorder
    c.check_actor.ensures.runs c.requires.live c.active-active.result c.epoch-epoch.result active epoch c.if-active-eq0.false
    c.if-epoch-active.false in
    subst (λ (scene : Scene). MayRecord settings (state_of program settings scene.journal) c.check_actor.new.who.number id)
    (sym c.check_actor.ensures.scene)
    (subst (λ (share : Part). MayRecord settings (state_of program settings journal) share.number id) (sym c.check_actor.ensures.share) may)
