use Rattle.std.proofs.Common.{◌+◌, refl, subst, sym, ap, ◌∙◌, arith}
use Rattle.gp_journal.specs.declared.entry.Entry.{Entry}
use Rattle.gp_journal.specs.declared.entry.Entry.TheVariants.{Open}
use Rattle.gp_journal.specs.May.{May}
use Rattle.gp_journal.specs.Run.{state_of}
use Rattle.gp_journal.specs.State.{code_of, live}
use Rattle.gp_world.specs.Scene.{Scene}
use Rattle.gp_world.proofs.Entering.{workers_then}
use Rattle.gp_world.proofs.Profiling.{epoch_fits, open_queue, profiler_enters, numbers_opened}
use Rattle.gp_world.proofs.world.World.enter_open.Goals as goal

pub overflow_add-epoch : goal.overflow_add-epoch
overflow_add-epoch g c =
    let epoch = c.last_epoch-epoch.ensures ∙ ap (λ j. (state_of g.R.Run.program g.R.Run.settings j).last_epoch) c.machine.ensures in
    let fits = epoch_fits g.R.Run.program g.R.Run.settings c.self.inside.history c.self.inside.waiting c.self.inside.ring c.self.inside.book.rows c.self.inside.unborn.items c.self.inside.numbers c.self.invariant in omega arith

pub profiler_row-row-requires-clause-no_more : goal.profiler_row-row-requires-clause-no_more
profiler_row-row-requires-clause-no_more g c =
    let made : Entry = Open (c.last_epoch-epoch.result + 1) c.self.inside.numbers.room in
    let epoch = c.last_epoch-epoch.ensures ∙ ap (λ j. (state_of g.R.Run.program g.R.Run.settings j).last_epoch) c.machine.ensures in
    let may = subst (May (code_of g.R.Run.program) g.R.Run.settings (state_of g.R.Run.program g.R.Run.settings c.self.inside.history)) (λ i. Open (sym epoch i + 1) (sym c.self.invariant.its_numbers.its_room i))
    (subst (λ (s : Scene). May (code_of g.R.Run.program) g.R.Run.settings (state_of g.R.Run.program g.R.Run.settings s.journal) (Open ((state_of g.R.Run.program g.R.Run.settings s.journal).last_epoch + 1) g.R.Run.settings.room))
    (sym c.self.view_is) c.requires.may) in
    rw (c.machine-3.ensures, c.open.ensures)
    (workers_then g.R.Run.program g.R.Run.settings c.self.inside.history c.self.inside.waiting c.self.inside.ring c.self.inside.book.rows c.self.inside.unborn.items c.self.inside.numbers c.self.invariant made may)

pub invariant_of-self : goal.invariant_of-self
invariant_of-self g c =
    let made : Entry = Open (c.last_epoch-epoch.result + 1) c.self.inside.numbers.room in
    let epoch = c.last_epoch-epoch.ensures ∙ ap (λ j. (state_of g.R.Run.program g.R.Run.settings j).last_epoch) c.machine.ensures in
    let may = subst (May (code_of g.R.Run.program) g.R.Run.settings (state_of g.R.Run.program g.R.Run.settings c.self.inside.history)) (λ i. Open (sym epoch i + 1) (sym c.self.invariant.its_numbers.its_room i))
    (subst (λ (s : Scene). May (code_of g.R.Run.program) g.R.Run.settings (state_of g.R.Run.program g.R.Run.settings s.journal) (Open ((state_of g.R.Run.program g.R.Run.settings s.journal).last_epoch + 1) g.R.Run.settings.room))
    (sym c.self.view_is) c.requires.may) in
    let live_is = c.live-live.ensures ∙ ap (λ j. live (state_of g.R.Run.program g.R.Run.settings j)) c.machine-2.ensures in
    rw (c.set.ensures.rows, c.requires.profiler, c.profiler_row-row.ensures, c.machine-3.ensures, c.open.ensures, live_is)
    (profiler_enters g.R.Run.program g.R.Run.settings c.self.inside.history c.self.inside.waiting c.self.inside.ring c.self.inside.book.rows c.self.inside.unborn.items c.self.inside.numbers c.self.invariant made may _ refl
    (open_queue (code_of g.R.Run.program) g.R.Run.settings (state_of g.R.Run.program g.R.Run.settings c.self.inside.history) (c.last_epoch-epoch.result + 1) c.self.inside.numbers.room) refl refl
    (numbers_opened g.R.Run.program g.R.Run.settings c.self.inside.history c.self.inside.waiting c.self.inside.ring c.self.inside.book.rows c.self.inside.unborn.items c.self.inside.numbers c.self.invariant
    (c.last_epoch-epoch.result + 1) c.self.inside.numbers.room))
