use Rattle.std.proofs.Common.{◌≡◌, true, Some, None, subst, sym, ◌∙◌}
use Rattle.gp_journal.specs.Run.{state_of}
use Rattle.gp_journal.specs.Standing.{first_behind}
use Rattle.gp_journal.specs.State.{goroutine, is_live}
use Rattle.gp_workers.specs.kept.Locked.{Fit}
use Rattle.gp_workers.proofs.Following.{body_place, lent_back}
use Rattle.gp_workers.proofs.ProfilerKeeps.{found_lives}
use Rattle.gp_workers.proofs.profiling.serve.Goals as goal

pub record-requires-clause-live : goal.record-requires-clause-live
record-requires-clause-live g c =
    subst (λ j. is_live (goroutine (state_of g.R.Run.program g.R.Run.settings j) c.in-Some.g) ≡ true) c.machine.ensures.journal
    (found_lives (state_of g.R.Run.program g.R.Run.settings c.machine.result.now) c.in-Some.g (sym c.unrecorded.ensures ∙ c.in-Some.is))

pub record-requires-clause-place : goal.record-requires-clause-place
record-requires-clause-place g c =
    let live =
    subst (λ j. is_live (goroutine (state_of g.R.Run.program g.R.Run.settings j) c.in-Some.g) ≡ true) c.machine.ensures.journal
    (found_lives (state_of g.R.Run.program g.R.Run.settings c.machine.result.now) c.in-Some.g (sym c.unrecorded.ensures ∙ c.in-Some.is)) in
    body_place g.R.Run.program g.R.Run.settings c.args.world.now.journal _ c.in-Some.g c.args.bodies.now.items c.index_mut.result.now c.requires.fit live c.index_mut.ensures.value

pub returns-in-Some-clause-fit : goal.returns-in-Some-clause-fit
returns-in-Some-clause-fit g c =
    let items = c.args.bodies.now.items in
    subst (λ xs. Fit g.R.Run.program g.R.Run.settings c.record.new.world.journal c.args.bodies.now.cap xs) (sym (lent_back items c.in-Some.g c.index_mut.result.now c.record.new.body c.index_mut.ensures.value c.record.ensures.body))
    (c.record.ensures.world.still_fit c.args.bodies.now.cap items c.requires.fit)

pub returns-in-None-clause-fit : goal.returns-in-None-clause-fit
returns-in-None-clause-fit g c = c.close.ensures.world.still_fit c.args.bodies.now.cap c.args.bodies.now.items c.requires.fit

pub record-requires-clause-behind : goal.record-requires-clause-behind
record-requires-clause-behind g c =
    subst (λ j. let state = state_of g.R.Run.program g.R.Run.settings j in first_behind state.active state.goroutines ≡ Some c.in-Some.g) c.machine.ensures.journal (sym c.unrecorded.ensures ∙ c.in-Some.is)

pub close-requires-clause-recorded : goal.close-requires-clause-recorded
close-requires-clause-recorded g c =
    subst (λ j. let state = state_of g.R.Run.program g.R.Run.settings j in first_behind state.active state.goroutines ≡ None) c.machine.ensures.journal (sym c.unrecorded.ensures ∙ c.in-None.is)
