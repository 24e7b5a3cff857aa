use Rattle.std.proofs.Common.{◌≡◌, set, sym, ap, ◌∙◌, subst, arith}
use Rattle.gp_journal.specs.State.{code_of}
use Rattle.gp_core.specs.declared.word.Word.TheVariants.{Running}
use Rattle.gp_core.specs.declared.hold.How.TheVariants as how
use Rattle.gp_core.specs.declared.event.CoreEvent.TheVariants as event
use Rattle.gp_core.specs.CoreState.{CoreState, word}
use Rattle.gp_core.specs.Enabled.{IsEnabled}
use Rattle.gp_core.specs.Stepped.{held, home_epoch}
use Rattle.gp_core.specs.kept.Core.{core_of, IsReachedBy}
use Rattle.gp_core.proofs.Running.{actor_within, taken}
use Rattle.gp_core.proofs.status_words.Core.take.Goals as goal

pub index_mut-requires-2 : goal.index_mut-requires-2
index_mut-requires-2 g c =
    let P = g.R.Run.program in let S = g.R.Run.settings in let m = c.self.inside in
    let within = actor_within P S m.workers m.room m.machine m.words.items m.bodies.items m.hands.items m.copies.items c.self.invariant c.args.w (omega arith) in
    omega (arith, m.hands.ok.0, within)

pub invariant_of-self : goal.invariant_of-self
invariant_of-self g c =
    let P = g.R.Run.program in let S = g.R.Run.settings in let m = c.self.inside in let w = c.args.w in let h = c.args.g in
    let may = subst (λ (core : CoreState). IsEnabled (code_of P) S core (event.Take c.args.w c.args.g)) (sym c.self.view_is) c.requires in
    let epoch : c.home_epoch-epoch.result ≡ home_epoch (word (core_of m.machine m.words.items m.bodies.items m.hands.items m.copies.items) h) =
    c.home_epoch-epoch.ensures ∙ ap home_epoch (c.word.ensures ∙ ap (λ (core : CoreState). word core h) (sym c.self.view_is)) in
    subst (λ epoch. IsReachedBy P S m.workers m.room m.bodies.items (core_of m.machine (set m.words.items h (Running epoch w)) m.bodies.items (set m.hands.items w (held h how.Take)) m.copies.items))
    (sym epoch) (taken P S m.workers m.room m.machine m.words.items m.bodies.items m.hands.items m.copies.items c.self.invariant w h may)
