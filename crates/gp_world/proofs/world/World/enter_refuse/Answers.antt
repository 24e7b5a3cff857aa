use Rattle.std.proofs.Common.{refl, subst, sym, ap, ◌∙◌}
use Rattle.gp_journal.specs.declared.entry.Entry.{Entry}
use Rattle.gp_journal.specs.declared.entry.Entry.TheVariants.{Refuse}
use Rattle.gp_journal.specs.May.{May}
use Rattle.gp_journal.specs.Run.{state_of}
use Rattle.gp_journal.specs.State.{code_of, live}
use Rattle.gp_world.specs.Scene.{Scene}
use Rattle.gp_world.proofs.Entering.{workers_then, numbers_then}
use Rattle.gp_world.proofs.Profiling.{refuse_queue, profiler_enters}
use Rattle.gp_world.proofs.world.World.enter_refuse.Goals as goal

pub profiler_row-row-requires-clause-no_more : goal.profiler_row-row-requires-clause-no_more
profiler_row-row-requires-clause-no_more g c =
    let made : Entry = Refuse c.self.inside.numbers.room c.live.result in
    let count = c.live.ensures ∙ ap (λ j. live (state_of g.R.Run.program g.R.Run.settings j)) c.machine.ensures in
    let may = subst (May (code_of g.R.Run.program) g.R.Run.settings (state_of g.R.Run.program g.R.Run.settings c.self.inside.history)) (λ i. Refuse (sym c.self.invariant.its_numbers.its_room i) (sym count i))
    (subst (λ (s : Scene). May (code_of g.R.Run.program) g.R.Run.settings (state_of g.R.Run.program g.R.Run.settings s.journal) (Refuse g.R.Run.settings.room (live (state_of g.R.Run.program g.R.Run.settings s.journal))))
    (sym c.self.view_is) c.requires.may) in
    rw (c.machine-2.ensures, c.enter.ensures.journal)
    (workers_then g.R.Run.program g.R.Run.settings c.self.inside.history c.self.inside.waiting c.self.inside.ring c.self.inside.book.rows c.self.inside.unborn.items c.self.inside.numbers c.self.invariant made may)

pub invariant_of-self : goal.invariant_of-self
invariant_of-self g c =
    let made : Entry = Refuse c.self.inside.numbers.room c.live.result in
    let count = c.live.ensures ∙ ap (λ j. live (state_of g.R.Run.program g.R.Run.settings j)) c.machine.ensures in
    let may = subst (May (code_of g.R.Run.program) g.R.Run.settings (state_of g.R.Run.program g.R.Run.settings c.self.inside.history)) (λ i. Refuse (sym c.self.invariant.its_numbers.its_room i) (sym count i))
    (subst (λ (s : Scene). May (code_of g.R.Run.program) g.R.Run.settings (state_of g.R.Run.program g.R.Run.settings s.journal) (Refuse g.R.Run.settings.room (live (state_of g.R.Run.program g.R.Run.settings s.journal))))
    (sym c.self.view_is) c.requires.may) in
    rw (c.set.ensures.rows, c.requires.profiler, c.profiler_row-row.ensures, c.machine-2.ensures, c.enter.ensures.journal)
    (profiler_enters g.R.Run.program g.R.Run.settings c.self.inside.history c.self.inside.waiting c.self.inside.ring c.self.inside.book.rows c.self.inside.unborn.items c.self.inside.numbers c.self.invariant made may c.self.inside.numbers refl
    (refuse_queue (code_of g.R.Run.program) g.R.Run.settings (state_of g.R.Run.program g.R.Run.settings c.self.inside.history) c.self.inside.numbers.room c.live.result) refl refl
    (numbers_then g.R.Run.program g.R.Run.settings c.self.inside.history c.self.inside.waiting c.self.inside.ring c.self.inside.book.rows c.self.inside.unborn.items c.self.inside.numbers c.self.invariant made may tt))
