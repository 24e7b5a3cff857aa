use Rattle.std.proofs.Common.{ap, sym, subst}
use Rattle.gp_journal.specs.Bodies.{AllStand, progress_each}
use Rattle.gp_journal.specs.Due.{due}
use Rattle.gp_journal.specs.Run.{state_of}
use Rattle.gp_journal.specs.State.{code_of}
use Rattle.gp_world.specs.Scene.{Scene}
use Rattle.gp_world.proofs.RingEnds.{offered_of}
use Rattle.gp_workers.specs.kept.Following.{CanFollow}
use Rattle.gp_workers.proofs.Following.{body_stands, able, still_fit}
use Rattle.gp_workers.proofs.Turns.{none_made, one_made}
use Rattle.gp_workers.proofs.working.step.Goals as goal

pub step-requires-clause-stands : goal.step-requires-clause-stands
step-requires-clause-stands g c =
    body_stands g.R.Run.program g.R.Run.settings c.args.world.now.journal _ c.args.g c.args.bodies.now.items c.index_mut.result.now c.requires.fit c.requires.live c.index_mut.ensures.value

pub follow-requires-clause-able : goal.follow-requires-clause-able
follow-requires-clause-able g c =
    let who = c.args.who.now in let it = c.in_ok-step.step in let items = c.args.bodies.now.items in let back = c.step.new.body in let room = c.args.bodies.now.cap in
    subst (λ program. CanFollow program c.args.g room (progress_each (Rattle.std.proofs.Common.set items c.args.g back)) it) (sym c.requires.program)
    (able g.R.Run.program g.R.Run.settings c.args.world.now c.step.new.self who.number who.row.b c.args.g room c.requires.g items c.index_mut.result.now back it c.requires.fit
    c.machine.ensures.legal c.machine-2.ensures.legal c.requires.live c.index_mut.ensures.value c.in_ok-step.ensures.answer (ap (λ (s : Scene). s.journal) c.in_ok-step.ensures.scene) c.in_ok-step.ensures.moved)

pub returns-clause-fit : goal.returns-clause-fit
returns-clause-fit g c =
    let who = c.args.who.now in let it = c.in_ok-step.step in let items = c.args.bodies.now.items in let back = c.step.new.body in let room = c.args.bodies.now.cap in
    still_fit g.R.Run.program g.R.Run.settings c.args.world.now c.step.new.self who.number who.row.b c.args.g room c.requires.g items c.index_mut.result.now back it c.requires.fit
    c.machine.ensures.legal c.machine-2.ensures.legal c.requires.live c.index_mut.ensures.value c.in_ok-step.ensures.answer (ap (λ (s : Scene). s.journal) c.in_ok-step.ensures.scene) c.in_ok-step.ensures.moved
    c.follow.new.bodies.items c.follow.new.bodies.cap (subst (λ program. AllStand program c.follow.new.bodies.items) c.requires.program c.follow.ensures.stand) c.follow.ensures.places c.follow.ensures.capacity

pub returns-clause-world : goal.returns-clause-world
returns-clause-world g c =
    let old = c.args.world.now in let new = c.step.new.self in let scene = c.in_ok-step.ensures.scene in
    record { same_book = ap (λ (s : Scene). s.book) scene; still_of = offered_of old.ring new.ring _ (ap (λ (s : Scene). s.ring) scene) }

pub returns-clause-entries : goal.returns-clause-entries
returns-clause-entries g c =
    let who = c.args.who.now in let journal = c.args.world.now.journal in let state = state_of g.R.Run.program g.R.Run.settings journal in
    one_made journal c.step.new.self.journal (due (code_of g.R.Run.program) g.R.Run.settings state who.number who.row.b) (ap (λ (s : Scene). s.journal) c.in_ok-step.ensures.scene)

pub returns-in_err-step-clause-entries : goal.returns-in_err-step-clause-entries
returns-in_err-step-clause-entries g c = none_made c.args.world.now.journal c.step.new.self.journal (ap (λ (s : Scene). s.journal) c.in_err-step.ensures.err.0)
