use Rattle.std.proofs.Common.{◌≡◌, set, Some, sym, ap, ◌∙◌, subst}
use Rattle.gp_journal.specs.State.{code_of}
use Rattle.gp_core.specs.declared.event.CoreEvent.TheVariants as event
use Rattle.gp_core.specs.CoreState.{CoreState, hand, now, with_copy}
use Rattle.gp_core.specs.Enabled.{IsEnabled}
use Rattle.gp_core.specs.Stepped.{copy_of}
use Rattle.gp_core.specs.kept.Core.{core_of, IsReachedBy}
use Rattle.std.proofs.Common.{Option}
use Rattle.gp_core.specs.declared.hold.Hold.{Hold}
use Rattle.gp_core.proofs.Running.{hand_found, copied}
use Rattle.gp_core.proofs.status_words.Core.copy.Goals as goal

pub invariant_of-self : goal.invariant_of-self
invariant_of-self g c =
    let P = g.R.Run.program in let S = g.R.Run.settings in let m = c.self.inside in let w = c.args.a in let h = c.args.g in
    let core = core_of m.machine m.words.items m.bodies.items m.hands.items m.copies.items in
    let may = subst (λ (core : CoreState). IsEnabled (code_of P) S core (event.Copy c.args.a c.args.g)) (sym c.self.view_is) c.requires.enabled in
    let old = hand_found P S m.workers m.room m.machine m.words.items m.bodies.items m.hands.items m.copies.items c.self.invariant w c.index_mut.result.now may.is_actor c.index_mut.ensures.value in
    let row : c.in_ok-copy.copy ≡ copy_of (code_of P) (now (code_of P) S core) core h =
    c.in_ok-copy.ensures ∙ ap (λ (it : CoreState). copy_of (code_of P) (now (code_of P) S it) it h) (sym c.self.view_is) in
    let same : c.exchange_copy.new.hand ≡ with_copy (Some (copy_of (code_of P) (now (code_of P) S core) core h)) (hand core w) =
    c.exchange_copy.ensures.hand ∙ (λ i. with_copy (Some (row i)) (old i)) in
    subst (λ (new : Option Hold). IsReachedBy P S m.workers m.room m.bodies.items (core_of m.machine (m.words.items) m.bodies.items (set m.hands.items w new) m.copies.items))
    (sym same) (copied P S m.workers m.room m.machine m.words.items m.bodies.items m.hands.items m.copies.items c.self.invariant w h may)
