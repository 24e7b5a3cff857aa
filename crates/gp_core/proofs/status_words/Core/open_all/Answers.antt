use Rattle.std.proofs.Common.{◌<◌, ◌≤◌, ◌+◌, ◌++◌, ◌∷◌, [], List, sym, ap, ◌∙◌, subst, arith}
use Rattle.gp_journal.specs.declared.entry.Entry.{Entry}
use Rattle.gp_journal.specs.declared.entry.Entry.TheVariants as entry
use Rattle.gp_journal.specs.State.{code_of, live}
use Rattle.gp_core.specs.declared.event.CoreEvent.TheVariants as event
use Rattle.gp_core.specs.CoreState.{CoreState, now}
use Rattle.gp_core.specs.Enabled.{IsEnabled}
use Rattle.gp_core.specs.kept.Core.{core_of, IsReachedBy}
use Rattle.gp_core.proofs.Running.{opened, opens_room, refuses_full, epoch_fits}
use Rattle.gp_core.proofs.status_words.Core.open_all.Goals as goal

pub overflow_add-epoch : goal.overflow_add-epoch
overflow_add-epoch g c =
    let P = g.R.Run.program in let S = g.R.Run.settings in let m = c.self.inside in
    let fits = epoch_fits P S m.workers m.room m.machine m.words.items m.bodies.items m.hands.items m.copies.items c.self.invariant in
    let same = c.last_epoch-epoch.ensures in
    omega (arith, fits, same)

pub invariant_of-self : goal.invariant_of-self
invariant_of-self g c =
    let P = g.R.Run.program in let S = g.R.Run.settings in let m = c.self.inside in
    let may = subst (λ (core : CoreState). IsEnabled (code_of P) S core event.OpenAll) (sym c.self.view_is) c.requires in
    let few : live (now (code_of P) S (core_of m.machine m.words.items m.bodies.items m.hands.items m.copies.items)) ≤ S.room = omega (arith, c.live-n.ensures, c.self.invariant.its_room, c.if-n-room.true) in
    let entries = c.make.ensures.journal ∙ (λ i. m.machine ++ entry.Open (c.last_epoch-epoch.ensures i + 1) (c.self.invariant.its_room i) ∷ [])
    ∙ ap (λ (e : Entry). m.machine ++ e ∷ []) (sym (opens_room P S m.workers m.room m.machine m.words.items m.bodies.items m.hands.items m.copies.items c.self.invariant few)) in
    subst (λ (j : List Entry). IsReachedBy P S m.workers m.room m.bodies.items (core_of j m.words.items m.bodies.items m.hands.items m.copies.items))
    (sym entries) (opened P S m.workers m.room m.machine m.words.items m.bodies.items m.hands.items m.copies.items c.self.invariant may)

pub invariant_of-self-else-n-room : goal.invariant_of-self-else-n-room
invariant_of-self-else-n-room g c =
    let P = g.R.Run.program in let S = g.R.Run.settings in let m = c.self.inside in
    let may = subst (λ (core : CoreState). IsEnabled (code_of P) S core event.OpenAll) (sym c.self.view_is) c.requires in
    let many : S.room < live (now (code_of P) S (core_of m.machine m.words.items m.bodies.items m.hands.items m.copies.items)) = omega (arith, c.live-n.ensures, c.self.invariant.its_room, c.if-n-room.false) in
    let entries = c.make-else-n-room.ensures.journal ∙ (λ i. m.machine ++ entry.Refuse (c.self.invariant.its_room i) (c.live-n.ensures i) ∷ [])
    ∙ ap (λ (e : Entry). m.machine ++ e ∷ []) (sym (refuses_full P S m.workers m.room m.machine m.words.items m.bodies.items m.hands.items m.copies.items c.self.invariant many)) in
    subst (λ (j : List Entry). IsReachedBy P S m.workers m.room m.bodies.items (core_of j m.words.items m.bodies.items m.hands.items m.copies.items))
    (sym entries) (opened P S m.workers m.room m.machine m.words.items m.bodies.items m.hands.items m.copies.items c.self.invariant may)
