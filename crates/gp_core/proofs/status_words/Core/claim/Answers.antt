use Rattle.std.proofs.Common.{set, sym, subst, arith}
use Rattle.gp_journal.specs.State.{code_of}
use Rattle.gp_core.specs.declared.word.Word.TheVariants.{Claimed}
use Rattle.gp_core.specs.declared.hold.How.TheVariants as how
use Rattle.gp_core.specs.declared.event.CoreEvent.TheVariants as event
use Rattle.gp_core.specs.CoreState.{CoreState}
use Rattle.gp_core.specs.Enabled.{IsEnabled}
use Rattle.gp_core.specs.Stepped.{held}
use Rattle.gp_core.specs.kept.Core.{core_of, IsReachedBy}
use Rattle.gp_core.proofs.Running.{actor_within, claimed}
use Rattle.gp_core.proofs.status_words.Core.claim.Goals as goal

pub index_mut-requires-2 : goal.index_mut-requires-2
index_mut-requires-2 g c =
    let P = g.R.Run.program in let S = g.R.Run.settings in let m = c.self.inside in
    let within = actor_within P S m.workers m.room m.machine m.words.items m.bodies.items m.hands.items m.copies.items c.self.invariant c.args.a c.requires.is_actor in
    omega (arith, m.hands.ok.0, within)

pub invariant_of-self : goal.invariant_of-self
invariant_of-self g c =
    let P = g.R.Run.program in let S = g.R.Run.settings in let m = c.self.inside in let w = c.args.a in let h = c.args.g in
    let may = subst (λ (core : CoreState). IsEnabled (code_of P) S core (event.Claim c.args.a c.args.g)) (sym c.self.view_is) c.requires in
    subst (λ epoch. IsReachedBy P S m.workers m.room m.bodies.items (core_of m.machine (set m.words.items h (Claimed epoch w)) m.bodies.items (set m.hands.items w (held h how.Claim)) m.copies.items))
    (sym c.last_epoch-epoch.ensures) (claimed P S m.workers m.room m.machine m.words.items m.bodies.items m.hands.items m.copies.items c.self.invariant w h may)
