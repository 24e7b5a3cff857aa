use Rattle.std.proofs.Common.{◌≡◌, ◌∙◌, refl, ap, subst}
use Rattle.gp_journal.specs.State.{code_of}
use Rattle.gp_journal.specs.Run.{last}
use Rattle.gp_journal.specs.Answer.{op_answer}
use Rattle.gp_journal.specs.Bodies.{followed}
use Rattle.gp_machine.specs.AtPoint.{at_point}
use Rattle.gp_sim.specs.kept.Bodies.{gone_on}
use Rattle.gp_sim.specs.Choice.{SoFar}
use Rattle.gp_sim.specs.kept.Simulation.{IsSimulation}
use Rattle.gp_sim.proofs.Stepping.{runner_has_body, runner_stands, at_shared, operated, gone_on_is}
use Rattle.gp_sim.proofs.simulation.Simulation.operate.Goals as goal

pub come_to-requires-clause-born : goal.come_to-requires-clause-born
come_to-requires-clause-born g c =
    let was = subst (λ (s : SoFar). IsSimulation (code_of g.R.Run.program) g.R.Run.settings s.journal c.self.inside.bodies) c.self.view_is c.self.invariant in
    runner_has_body g.R.Run.program g.R.Run.settings c.args.self.now.journal c.self.inside.bodies was c.args.w c.args.g c.requires.may.runs

pub come_to-requires-clause-shared : goal.come_to-requires-clause-shared
come_to-requires-clause-shared g c =
    let was = subst (λ (s : SoFar). IsSimulation (code_of g.R.Run.program) g.R.Run.settings s.journal c.self.inside.bodies) c.self.view_is c.self.invariant in
    at_shared g.R.Run.program g.R.Run.settings c.args.self.now.journal c.self.inside.bodies was c.args.w c.args.g c.requires.may

pub come_to-requires-clause-stands : goal.come_to-requires-clause-stands
come_to-requires-clause-stands g c =
    let j = ap (λ (s : SoFar). s.journal) c.self.view_is in
    let was = subst (λ (s : SoFar). IsSimulation (code_of g.R.Run.program) g.R.Run.settings s.journal c.self.inside.bodies) c.self.view_is c.self.invariant in
    rw j (runner_stands g.R.Run.program g.R.Run.settings c.args.self.now.journal c.self.inside.bodies was c.args.w c.args.g c.requires.may.runs)

pub follow-requires-clause-born : goal.follow-requires-clause-born
follow-requires-clause-born g c =
    let was = subst (λ (s : SoFar). IsSimulation (code_of g.R.Run.program) g.R.Run.settings s.journal c.self.inside.bodies) c.self.view_is c.self.invariant in
    runner_has_body g.R.Run.program g.R.Run.settings c.args.self.now.journal c.self.inside.bodies was c.args.w c.args.g c.requires.may.runs

pub follow-requires-clause-shared : goal.follow-requires-clause-shared
follow-requires-clause-shared g c =
    let was = subst (λ (s : SoFar). IsSimulation (code_of g.R.Run.program) g.R.Run.settings s.journal c.self.inside.bodies) c.self.view_is c.self.invariant in
    at_shared g.R.Run.program g.R.Run.settings c.args.self.now.journal c.self.inside.bodies was c.args.w c.args.g c.requires.may

pub invariant_of-self-2 : goal.invariant_of-self-2
invariant_of-self-2 g c =
    let j = ap (λ (s : SoFar). s.journal) c.self.view_is in
    let was = subst (λ (s : SoFar). IsSimulation (code_of g.R.Run.program) g.R.Run.settings s.journal c.self.inside.bodies) c.self.view_is c.self.invariant in
    let now = last (code_of g.R.Run.program) g.R.Run.settings c.args.self.now.journal in
    let answer = op_answer (code_of g.R.Run.program) g.R.Run.settings c.args.g now in
    let told : c.in_ok-at.at ≡ at_point answer = rw j at c.in_ok-at.ensures.at_point in
    let moved : c.follow.new.self ≡ followed c.args.g answer c.self.inside.bodies = c.follow.ensures ∙ ap (λ at. gone_on c.args.g at c.self.inside.bodies) told ∙ gone_on_is c.args.g answer c.self.inside.bodies in
    rw (c.in_ok-at.ensures.journal, moved, j)
    (operated g.R.Run.program g.R.Run.settings c.args.self.now.journal c.self.inside.bodies was c.args.w c.args.g c.args.point answer c.requires.may c.requires.point c.requires.nobody refl)
