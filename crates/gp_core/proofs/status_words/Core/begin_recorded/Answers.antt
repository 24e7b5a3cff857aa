use Rattle.std.proofs.Common.{◌≡◌, false, set, None, sym, ap, ◌∙◌, subst, arith}
use Rattle.gp_journal.specs.State.{code_of}
use Rattle.gp_core.specs.declared.event.CoreEvent.TheVariants as event
use Rattle.gp_core.specs.CoreState.{CoreState, now, with_copy}
use Rattle.gp_core.specs.Enabled.{IsEnabled, is_needed}
use Rattle.gp_core.specs.kept.Core.{core_of, IsReachedBy}
use Rattle.gp_core.proofs.Running.{hand_found, begun, recorded_core}
use Rattle.gp_core.proofs.status_words.Core.begin_recorded.Goals as goal

pub invariant_of-self : goal.invariant_of-self
invariant_of-self g c =
    let P = g.R.Run.program in let S = g.R.Run.settings in let m = c.self.inside in let w = c.args.w in let h = c.args.g in
    let may = subst (λ (core : CoreState). IsEnabled (code_of P) S core (event.Begin c.args.w c.args.g)) (sym c.self.view_is) c.requires.enabled in
    let none : is_needed (now (code_of P) S (core_of m.machine m.words.items m.bodies.items m.hands.items m.copies.items)) h ≡ false =
    ap (λ (core : CoreState). is_needed (now (code_of P) S core) h) c.self.view_is ∙ c.requires.recorded in
    let old = hand_found P S m.workers m.room m.machine m.words.items m.bodies.items m.hands.items m.copies.items c.self.invariant w c.index_mut.result.now (let i = may.is_worker in omega arith) c.index_mut.ensures.value in
    let new = c.exchange_copy.ensures.hand ∙ ap (with_copy None) old in
    let same = (λ i. core_of (c.start.ensures i) m.words.items m.bodies.items (set m.hands.items w (new i)) m.copies.items)
    ∙ recorded_core P S m.workers m.room m.machine m.words.items m.bodies.items m.hands.items m.copies.items c.self.invariant w h none in
    subst (IsReachedBy P S m.workers m.room m.bodies.items) (sym same) (begun P S m.workers m.room m.machine m.words.items m.bodies.items m.hands.items m.copies.items c.self.invariant w h may)
