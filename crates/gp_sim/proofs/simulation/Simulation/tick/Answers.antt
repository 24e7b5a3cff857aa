use Rattle.std.proofs.Common.{◌≡◌, List, map, get_or, refl, sym, ap, ◌∙◌, subst, arith}
use Rattle.gp_stack.specs.Body.{progress_of}
use Rattle.gp_journal.specs.State.{code_of, goroutine}
use Rattle.gp_journal.specs.May.{May}
use Rattle.gp_journal.specs.Run.{last}
use Rattle.gp_journal.specs.Bodies.{nowhere}
use Rattle.gp_journal.specs.declared.entry.Entry.{Entry}
use Rattle.gp_journal.specs.declared.entry.Entry.TheVariants as entry
use Rattle.gp_journal.proofs.Lemmas.{clock_fits}
use Rattle.gp_ring.specs.PlainRing.{written}
use Rattle.gp_ring.specs.Follows.{IsOfferable}
use Rattle.gp_cpu.specs.Records.{ring_record_of}
use Rattle.gp_samples.specs.RunRing.{sample_at}
use Rattle.gp_samples.proofs.Keeping.{sample_is, body_offerable}
use Rattle.gp_sim.specs.Choice.{SoFar, with_entry}
use Rattle.gp_sim.specs.kept.Simulation.{KeepsItsRing}
use Rattle.gp_sim.proofs.Stepping.{reached, by_still, runner_has_body, runner_stands, entry_fits}
use Rattle.gp_sim.proofs.simulation.Simulation.tick.Goals as goal

pub body-requires : goal.body-requires
body-requires g c =
    let was = c.self.invariant in
    let may = subst (λ (s : SoFar). May (code_of g.R.Run.program) g.R.Run.settings (last (code_of g.R.Run.program) g.R.Run.settings s.journal) (entry.Tick c.args.w c.args.g)) (sym c.self.view_is) c.requires.may in
    runner_has_body g.R.Run.program g.R.Run.settings c.self.inside.history c.self.inside.bodies was c.args.w c.args.g may.runs

pub offer_sample-requires-clause-time : goal.offer_sample-requires-clause-time
offer_sample-requires-clause-time g c =
    let now = last (code_of g.R.Run.program) g.R.Run.settings c.self.inside.history in
    let few = clock_fits (code_of g.R.Run.program) g.R.Run.settings now (reached (code_of g.R.Run.program) g.R.Run.settings c.self.inside.history c.self.inside.bodies c.self.invariant) c.self.invariant.in_range in
    let machine = ap (λ (j : List Entry). (last (code_of g.R.Run.program) g.R.Run.settings j).clock) c.machine.ensures in
    omega (arith, c.clock-clock.ensures, machine)

pub offer_sample-requires-clause-offerable : goal.offer_sample-requires-clause-offerable
offer_sample-requires-clause-offerable g c =
    let was = c.self.invariant in
    let may = subst (λ (s : SoFar). May (code_of g.R.Run.program) g.R.Run.settings (last (code_of g.R.Run.program) g.R.Run.settings s.journal) (entry.Tick c.args.w c.args.g)) (sym c.self.view_is) c.requires.may in
    let clock = c.clock-clock.ensures ∙ ap (λ (j : List Entry). (last (code_of g.R.Run.program) g.R.Run.settings j).clock) c.machine.ensures in
    let offer : sample_at c.args.program.now c.clock-clock.result (progress_of c.body.result.now)
    ≡ sample_at g.R.Run.program (last (code_of g.R.Run.program) g.R.Run.settings c.self.inside.history).clock (get_or c.self.inside.bodies c.args.g nowhere) =
    λ i. sample_at (c.requires.program i) (clock i) (c.body.ensures.place i) in
    let keeps = subst (KeepsItsRing g.R.Run.program g.R.Run.settings) (sym c.self.view_is) c.requires.ring in
    subst (IsOfferable c.self.inside.ring) (sym offer)
    (body_offerable g.R.Run.program g.R.Run.settings was.in_range _ _ _ keeps c.args.g _
    (runner_stands g.R.Run.program g.R.Run.settings c.self.inside.history c.self.inside.bodies was c.args.w c.args.g may.runs)
    (entry_fits g.R.Run.program g.R.Run.settings c.self.inside.history c.self.inside.bodies was (entry.Tick c.args.w c.args.g) may))

pub invariant_of-self : goal.invariant_of-self
invariant_of-self g c =
    let was = c.self.invariant in
    let may = subst (λ (s : SoFar). May (code_of g.R.Run.program) g.R.Run.settings (last (code_of g.R.Run.program) g.R.Run.settings s.journal) (entry.Tick c.args.w c.args.g)) (sym c.self.view_is) c.requires.may in
    rw c.enter.ensures.journal (by_still (code_of g.R.Run.program) g.R.Run.settings c.self.inside.history c.self.inside.bodies was (entry.Tick c.args.w c.args.g) refl may)

pub returns : goal.returns
returns g c =
    let was = c.self.invariant in
    let may = subst (λ (s : SoFar). May (code_of g.R.Run.program) g.R.Run.settings (last (code_of g.R.Run.program) g.R.Run.settings s.journal) (entry.Tick c.args.w c.args.g)) (sym c.self.view_is) c.requires.may in
    let now = last (code_of g.R.Run.program) g.R.Run.settings c.self.inside.history in
    let clock = c.clock-clock.ensures ∙ ap (λ (j : List Entry). (last (code_of g.R.Run.program) g.R.Run.settings j).clock) c.machine.ensures in
    let offer : sample_at c.args.program.now c.clock-clock.result (progress_of c.body.result.now) ≡ sample_at g.R.Run.program now.clock (get_or c.self.inside.bodies c.args.g nowhere) =
    λ i. sample_at (c.requires.program i) (clock i) (c.body.ensures.place i) in
    let its = sample_is g.R.Run.program now (goroutine now c.args.g) _ (runner_stands g.R.Run.program g.R.Run.settings c.self.inside.history c.self.inside.bodies was c.args.w c.args.g may.runs) in
    let ring = c.offer_sample.ensures.after ∙ ap (written c.self.inside.ring) (offer ∙ its) in
    (λ i. record { journal = c.enter.ensures.journal i; taken = c.self.inside.numbers; ring = ring i; records = map ring_record_of c.self.inside.cpu })
    ∙ ap (λ (s : SoFar). with_entry (code_of g.R.Run.program) g.R.Run.settings s (entry.Tick c.args.w c.args.g)) c.self.view_is
