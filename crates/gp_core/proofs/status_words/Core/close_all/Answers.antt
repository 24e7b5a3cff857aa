use Rattle.std.proofs.Common.{◌++◌, ◌∷◌, [], List, sym, ap, ◌∙◌, subst}
use Rattle.gp_journal.specs.declared.entry.Entry.{Entry}
use Rattle.gp_journal.specs.declared.entry.Entry.TheVariants as entry
use Rattle.gp_journal.specs.State.{code_of}
use Rattle.gp_core.specs.declared.event.CoreEvent.TheVariants as event
use Rattle.gp_core.specs.CoreState.{CoreState}
use Rattle.gp_core.specs.Enabled.{IsEnabled}
use Rattle.gp_core.specs.kept.Core.{core_of, IsReachedBy}
use Rattle.gp_core.proofs.Running.{closed}
use Rattle.gp_core.proofs.status_words.Core.close_all.Goals as goal

pub invariant_of-self : goal.invariant_of-self
invariant_of-self g c =
    let P = g.R.Run.program in let S = g.R.Run.settings in let m = c.self.inside in
    let may = subst (λ (core : CoreState). IsEnabled (code_of P) S core event.CloseAll) (sym c.self.view_is) c.requires in
    let entries = c.make.ensures.journal ∙ ap (λ epoch. m.machine ++ entry.Close epoch ∷ []) c.active-epoch.ensures in
    subst (λ (j : List Entry). IsReachedBy P S m.workers m.room m.bodies.items (core_of j m.words.items m.bodies.items m.hands.items m.copies.items))
    (sym entries) (closed P S m.workers m.room m.machine m.words.items m.bodies.items m.hands.items m.copies.items c.self.invariant may)
