use Rattle.std.proofs.Common.{◌≡◌, ◌<◌, length, Some, refl, sym, ap, ◌∙◌, subst}
use Rattle.gp_isa.specs.declared.parts.Parts.{Parts}
use Rattle.gp_isa.specs.InLimits.{AreInLimits}
use Rattle.gp_stack.specs.Body.{progress_of}
use Rattle.gp_journal.specs.State.{code_of}
use Rattle.gp_journal.specs.Run.{last}
use Rattle.gp_journal.specs.Answer.{op_answer}
use Rattle.gp_journal.specs.Bodies.{followed, gained}
use Rattle.gp_machine.specs.AtPoint.{at_point}
use Rattle.gp_sim.specs.kept.Bodies.{gone_on, joined}
use Rattle.gp_journal.proofs.Lemmas.{born_there}
use Rattle.gp_sim.specs.Choice.{SoFar}
use Rattle.gp_sim.specs.kept.Simulation.{IsSimulation}
use Rattle.gp_sim.proofs.Stepping.{runner_has_body, runner_stands, at_shared, spawned, cell_left_by, gone_on_is, joined_is}
use Rattle.gp_sim.proofs.simulation.Simulation.spawn.Goals as goal

pub newborn-requires : goal.newborn-requires
newborn-requires g c =
    subst (λ (p : Parts). c.args.f < length p.functions) (sym c.requires.program)
    (born_there g.R.Run.program (last (code_of g.R.Run.program) g.R.Run.settings c.args.self.now.journal) c.args.g c.args.f (subst AreInLimits c.requires.program c.parts.ensures.limits) (c.requires.point.operation ∙ ap Some c.requires.spawn))

pub come_to-requires-clause-born : goal.come_to-requires-clause-born
come_to-requires-clause-born g c =
    let was = subst (λ (s : SoFar). IsSimulation (code_of g.R.Run.program) g.R.Run.settings s.journal c.self.inside.bodies) c.self.view_is c.self.invariant in
    runner_has_body g.R.Run.program g.R.Run.settings c.args.self.now.journal c.self.inside.bodies was c.args.w c.args.g c.requires.may.runs

pub come_to-requires-clause-shared : goal.come_to-requires-clause-shared
come_to-requires-clause-shared g c =
    let was = subst (λ (s : SoFar). IsSimulation (code_of g.R.Run.program) g.R.Run.settings s.journal c.self.inside.bodies) c.self.view_is c.self.invariant in
    at_shared g.R.Run.program g.R.Run.settings c.args.self.now.journal c.self.inside.bodies was c.args.w c.args.g c.requires.may

pub come_to-requires-clause-stands : goal.come_to-requires-clause-stands
come_to-requires-clause-stands g c =
    let j = ap (λ (s : SoFar). s.journal) c.self.view_is in
    let was = subst (λ (s : SoFar). IsSimulation (code_of g.R.Run.program) g.R.Run.settings s.journal c.self.inside.bodies) c.self.view_is c.self.invariant in
    rw j (runner_stands g.R.Run.program g.R.Run.settings c.args.self.now.journal c.self.inside.bodies was c.args.w c.args.g c.requires.may.runs)

pub follow-requires-clause-born : goal.follow-requires-clause-born
follow-requires-clause-born g c =
    let was = subst (λ (s : SoFar). IsSimulation (code_of g.R.Run.program) g.R.Run.settings s.journal c.self.inside.bodies) c.self.view_is c.self.invariant in
    runner_has_body g.R.Run.program g.R.Run.settings c.args.self.now.journal c.self.inside.bodies was c.args.w c.args.g c.requires.may.runs

pub follow-requires-clause-shared : goal.follow-requires-clause-shared
follow-requires-clause-shared g c =
    let was = subst (λ (s : SoFar). IsSimulation (code_of g.R.Run.program) g.R.Run.settings s.journal c.self.inside.bodies) c.self.view_is c.self.invariant in
    at_shared g.R.Run.program g.R.Run.settings c.args.self.now.journal c.self.inside.bodies was c.args.w c.args.g c.requires.may

pub gain-requires-clause-room : goal.gain-requires-clause-room
gain-requires-clause-room g c = λ bears.
    let j = ap (λ (s : SoFar). s.journal) c.self.view_is in
    let was = subst (λ (s : SoFar). IsSimulation (code_of g.R.Run.program) g.R.Run.settings s.journal c.self.inside.bodies) c.self.view_is c.self.invariant in
    let now = last (code_of g.R.Run.program) g.R.Run.settings c.args.self.now.journal in
    let answer = op_answer (code_of g.R.Run.program) g.R.Run.settings c.args.g now in
    let told : c.in_ok-at.at ≡ at_point answer = rw j at c.in_ok-at.ensures.at_point in
    let moved : c.follow.new.self ≡ followed c.args.g answer c.self.inside.bodies = c.follow.ensures ∙ ap (λ at. gone_on c.args.g at c.self.inside.bodies) told ∙ gone_on_is c.args.g answer c.self.inside.bodies in
    rw moved (cell_left_by g.R.Run.program g.R.Run.settings c.args.self.now.journal c.self.inside.bodies was c.args.g c.in_ok-at.at told bears)

pub invariant_of-self-2 : goal.invariant_of-self-2
invariant_of-self-2 g c =
    let j = ap (λ (s : SoFar). s.journal) c.self.view_is in
    let was = subst (λ (s : SoFar). IsSimulation (code_of g.R.Run.program) g.R.Run.settings s.journal c.self.inside.bodies) c.self.view_is c.self.invariant in
    let now = last (code_of g.R.Run.program) g.R.Run.settings c.args.self.now.journal in
    let answer = op_answer (code_of g.R.Run.program) g.R.Run.settings c.args.g now in
    let told : c.in_ok-at.at ≡ at_point answer = rw j at c.in_ok-at.ensures.at_point in
    let moved : c.follow.new.self ≡ followed c.args.g answer c.self.inside.bodies = c.follow.ensures ∙ ap (λ at. gone_on c.args.g at c.self.inside.bodies) told ∙ gone_on_is c.args.g answer c.self.inside.bodies in
    let more : c.gain.new.self ≡ gained answer (progress_of c.in_ok-born.born) c.follow.new.self =
    c.gain.ensures ∙ ap (λ at. joined at (progress_of c.in_ok-born.born) c.follow.new.self) told ∙ joined_is answer (progress_of c.in_ok-born.born) c.follow.new.self in
    rw (c.in_ok-at.ensures.journal, more, moved, j)
    (spawned g.R.Run.program g.R.Run.settings c.args.self.now.journal c.self.inside.bodies was c.args.w c.args.g c.args.f c.args.point answer (progress_of c.in_ok-born.born)
    c.requires.may c.requires.point c.requires.spawn refl c.in_ok-born.ensures.progress)
