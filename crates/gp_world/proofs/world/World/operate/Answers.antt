use Rattle.std.proofs.Common.{◌≡◌, false, true, IfOk, IfSome, sym, ap, ◌∙◌, subst}
use Rattle.gp_isa.specs.declared.parts.Parts.{Parts}
use Rattle.gp_isa.specs.InLimits.{AreInLimits}
use Rattle.gp_isa.specs.Trace.{trace}
use Rattle.gp_stack.specs.Body.{progress_of, is_over_at, IsAtShared, HasRoom, StandsIn}
use Rattle.gp_history.specs.Events.{event_of, AddsEvent}
use Rattle.gp_history.specs.History.{IsEventOn}
use Rattle.gp_journal.specs.declared.answer.Applied.TheVariants as answer
use Rattle.gp_journal.specs.declared.entry.Entry.TheVariants as entry
use Rattle.gp_journal.specs.Answer.{op_answer}
use Rattle.gp_journal.specs.Effect.{after}
use Rattle.gp_journal.specs.Run.{IsLegal, state_of}
use Rattle.gp_journal.specs.State.{State, code_of, goroutine, is_live}
use Rattle.gp_journal.proofs.Lemmas.{op_not_plain}
use Rattle.gp_machine.specs.OnWorker.{OpIsDueOn}
use Rattle.gp_world.specs.kept.Workers.{IsStepIn, BearsIn}
use Rattle.gp_world.specs.Scene.{Scene}
use Rattle.gp_world.proofs.Started.{entered}
use Rattle.gp_world.proofs.Stepped.{due_on, is_at_shared, newborn_lives, newborn_stands, bears_in, spare_room, passed_step, on_error_so}
use Rattle.gp_world.proofs.world.World.operate.Goals as goal
use Rattle.gp_world.proofs.world.World.operate.Goals.{in-Passed+in-Some-1, in-Passed+in-None-1, in-Born, in-Blocked+in-Some-1, in-Blocked+in-None-1, in-Fault+in-Some-1, in-Fault+in-None-1}

pub foresee-event-requires-clause-due : goal.foresee-event-requires-clause-due
foresee-event-requires-clause-due g c =
    let P = g.R.Run.program in let S = g.R.Run.settings in let now = c.args.self.now in let w = c.args.who.now.number in
    let j = ap (λ (s : Scene). s.journal) c.self.view_is in
    subst (λ n. OpIsDueOn P S c.self.inside.history n) (sym c.number.ensures) (subst (λ x. OpIsDueOn P S x w) (sym j) (due_on P S now.journal w c.args.g c.requires.may))

pub event_stack-requires-clause-going : goal.event_stack-requires-clause-going
event_stack-requires-clause-going g c =
    let P = g.R.Run.program in let S = g.R.Run.settings in let now = c.args.self.now in let w = c.args.who.now.number in
    let j = ap (λ (s : Scene). s.journal) c.self.view_is in
    let legal = subst (IsLegal (code_of P) S) j c.self.invariant.legal in let range = c.self.invariant.in_range in
    subst (λ (p : Parts). is_over_at p (progress_of c.args.body.now) ≡ false) (sym c.requires.program)
    (is_at_shared P S now.journal legal range w c.args.g (progress_of c.args.body.now) c.requires.place c.requires.may).going

pub enter_op-requires-clause-event : goal.enter_op-requires-clause-event
enter_op-requires-clause-event g c =
    let P = g.R.Run.program in let S = g.R.Run.settings in let now = c.args.self.now in let w = c.args.who.now.number in
    let j = ap (λ (s : Scene). s.journal) c.self.view_is in
    (subst (λ x. IsEventOn P S x w c.foresee-event.result) j (subst (λ n. IsEventOn P S c.self.inside.history n c.foresee-event.result) c.number.ensures c.foresee-event.ensures)) c.args.g c.requires.may.runs

pub pass-requires-clause-shared : goal.pass-requires-clause-shared
pass-requires-clause-shared g c =
    let P = g.R.Run.program in let S = g.R.Run.settings in let now = c.args.self.now in let w = c.args.who.now.number in
    let j = ap (λ (s : Scene). s.journal) c.self.view_is in
    let legal = subst (IsLegal (code_of P) S) j c.self.invariant.legal in let range = c.self.invariant.in_range in
    subst (λ (p : Parts). IsAtShared (trace p c.args.body.now.start) c.args.body.now.count) (sym c.requires.program)
    (is_at_shared P S now.journal legal range w c.args.g (progress_of c.args.body.now) c.requires.place c.requires.may)

pub pass-requires-in-Born-clause-shared : goal.pass-requires-in-Born-clause-shared
pass-requires-in-Born-clause-shared g c =
    let P = g.R.Run.program in let S = g.R.Run.settings in let now = c.args.self.now in let w = c.args.who.now.number in
    let j = ap (λ (s : Scene). s.journal) c.self.view_is in
    let legal = subst (IsLegal (code_of P) S) j c.self.invariant.legal in let range = c.self.invariant.in_range in
    subst (λ (p : Parts). IsAtShared (trace p c.args.body.now.start) c.args.body.now.count) (sym c.requires.program)
    (is_at_shared P S now.journal legal range w c.args.g (progress_of c.args.body.now) c.requires.place c.requires.may)

pub epoch-epoch-requires : goal.epoch-epoch-requires
epoch-epoch-requires g c =
    let P = g.R.Run.program in let S = g.R.Run.settings in let now = c.args.self.now in let w = c.args.who.now.number in
    let j = ap (λ (s : Scene). s.journal) c.self.view_is in
    let legal = subst (IsLegal (code_of P) S) j c.self.invariant.legal in let range = c.self.invariant.in_range in
    let told : op_answer (code_of P) S c.args.g (state_of P S now.journal) ≡ answer.Born c.in-Born.g c.in-Born.died = sym c.in_ok-answer.ensures.answer ∙ c.in-Born.is in
    let st : state_of P S c.machine.result.now ≡ after (code_of P) S (state_of P S now.journal) (entry.Op w c.args.g) =
    ap (state_of P S) (c.machine.ensures ∙ ap (λ (s : Scene). s.journal) c.self-2.view_is ∙ ap (λ (s : Scene). s.journal) c.in_ok-answer.ensures.scene) ∙ entered P S now.journal (entry.Op w c.args.g) in
    subst (λ (s : State). is_live (goroutine s c.in-Born.g) ≡ true) (sym st)
    (newborn_lives P S now.journal legal range w c.args.g c.requires.may c.args.point c.requires.point c.in-Born.g c.in-Born.died told)

pub newborn-body-requires-clause-room : goal.newborn-body-requires-clause-room
newborn-body-requires-clause-room g c =
    subst (λ (p : Parts). IfSome c.in_ok-answer.field-0.spare (HasRoom p)) (sym c.requires.program)
    (spare_room g.R.Run.program c.in_ok-answer.field-0.answer c.in_ok-answer.field-0.spare c.in-Born.g c.in-Born.died c.in-Born.is c.in_ok-answer.ensures.spare)

pub newborn-body-requires-clause-bears : goal.newborn-body-requires-clause-bears
newborn-body-requires-clause-bears g c =
    let P = g.R.Run.program in let S = g.R.Run.settings in let now = c.args.self.now in let w = c.args.who.now.number in
    let j = ap (λ (s : Scene). s.journal) c.self.view_is in
    let legal = subst (IsLegal (code_of P) S) j c.self.invariant.legal in let range = c.self.invariant.in_range in
    let told : op_answer (code_of P) S c.args.g (state_of P S now.journal) ≡ answer.Born c.in-Born.g c.in-Born.died = sym c.in_ok-answer.ensures.answer ∙ c.in-Born.is in
    subst (λ (p : Parts). BearsIn p c.args.point.operation) (sym c.requires.program)
    (bears_in P S now.journal legal range w c.args.g c.requires.may c.args.point c.requires.point c.in-Born.g c.in-Born.died told (subst AreInLimits c.requires.program c.parts.ensures.limits))

pub unreachable-requires : goal.unreachable-requires
unreachable-requires g c =
    let P = g.R.Run.program in let S = g.R.Run.settings in let s = state_of P S c.args.self.now.journal in
    let told : op_answer (code_of P) S c.args.g s ≡ answer.Plain c.in-Plain.died = sym c.in_ok-answer.ensures.answer ∙ c.in-Plain.is in
    op_not_plain (code_of P) S s c.args.g c.args.who.now.number c.in-Plain.died c.requires.may told

pub returns-clause-answer : goal.returns-clause-answer
returns-clause-answer g c =
    let P = g.R.Run.program in let S = g.R.Run.settings in let now = c.args.self.now in let w = c.args.who.now.number in
    let j = ap (λ (s : Scene). s.journal) c.self.view_is in
    let legal = subst (IsLegal (code_of P) S) j c.self.invariant.legal in let range = c.self.invariant.in_range in
    let s = state_of P S now.journal in let h = c.args.g in
    let due = c.requires.may.is_next in
    let told = sym c.in_ok-answer.ensures.answer in
    elim c.match-answer.branch [
      | in-Passed+in-Some-1 arm ↦
          subst (λ r. IfOk r (IsStepIn P S now c.enter_op.new.self w h)) (sym arm.result-is)
          (subst (IsStepIn P S now c.enter_op.new.self w h) (sym arm.passed.ensures) (passed_step P S s now.ring c.enter_op.new.self.ring w h arm.in-Passed.woke arm.in-Passed.event arm.in-Passed.died due (told ∙ arm.in-Passed.is)))
      | in-Passed+in-None-1 arm ↦
          subst (λ r. IfOk r (IsStepIn P S now c.enter_op.new.self w h)) (sym arm.result-is)
          (subst (IsStepIn P S now c.enter_op.new.self w h) (sym arm.passed.ensures) (passed_step P S s now.ring c.enter_op.new.self.ring w h arm.in-Passed.woke arm.in-Passed.event arm.in-Passed.died due (told ∙ arm.in-Passed.is)))
      | in-Born arm ↦
          let born : op_answer (code_of P) S h s ≡ answer.Born arm.in-Born.g arm.in-Born.died = told ∙ arm.in-Born.is in
          let st : state_of P S arm.machine.result.now ≡ after (code_of P) S s (entry.Op w h) =
          ap (state_of P S) (arm.machine.ensures ∙ ap (λ (x : Scene). x.journal) c.self-2.view_is ∙ ap (λ (x : Scene). x.journal) c.in_ok-answer.ensures.scene) ∙ entered P S now.journal (entry.Op w h) in
          subst (λ r. IfOk r (IsStepIn P S now c.enter_op.new.self w h)) (sym arm.result-is) (
            due,
            (
              born,
              (
                subst (λ (p : Parts). StandsIn p arm.newborn-body.result) c.requires.program arm.newborn-body.ensures.stands,
                record {
                  epoch_is = arm.epoch-epoch.ensures ∙ ap (λ (x : State). (goroutine x arm.in-Born.g).epoch) st;
                  stands = arm.newborn-body.ensures.place ∙ newborn_stands P S now.journal legal range w h c.requires.may c.args.point c.requires.point arm.in-Born.g arm.in-Born.died born;
                },
              ),
            ),
          )
      | in-Blocked+in-Some-1 arm ↦ subst (λ r. IfOk r (IsStepIn P S now c.enter_op.new.self w h)) (sym arm.result-is) (due, told ∙ arm.in-Blocked.is)
      | in-Blocked+in-None-1 arm ↦ subst (λ r. IfOk r (IsStepIn P S now c.enter_op.new.self w h)) (sym arm.result-is) (due, told ∙ arm.in-Blocked.is)
      | in-Fault+in-Some-1 arm ↦ subst (λ r. IfOk r (IsStepIn P S now c.enter_op.new.self w h)) (sym arm.result-is) (due, told ∙ arm.in-Fault.is)
      | in-Fault+in-None-1 arm ↦ subst (λ r. IfOk r (IsStepIn P S now c.enter_op.new.self w h)) (sym arm.result-is) (due, told ∙ arm.in-Fault.is)
    ]

pub returns-clause-still_stands : goal.returns-clause-still_stands
returns-clause-still_stands g c =
    let P = g.R.Run.program in
    elim c.match-answer.branch [
      | in-Passed+in-Some-1 arm ↦ subst (StandsIn P) (sym arm.body-is) (subst (λ (p : Parts). StandsIn p arm.pass.new.self) c.requires.program arm.pass.ensures.stands)
      | in-Passed+in-None-1 arm ↦ subst (StandsIn P) (sym arm.body-is) (subst (λ (p : Parts). StandsIn p arm.pass.new.self) c.requires.program arm.pass.ensures.stands)
      | in-Born arm ↦ subst (StandsIn P) (sym arm.body-is) (subst (λ (p : Parts). StandsIn p arm.pass-in-Born.new.self) c.requires.program arm.pass-in-Born.ensures.stands)
      | in-Blocked+in-Some-1 arm ↦ subst (StandsIn P) (sym arm.body-is) c.requires.stands
      | in-Blocked+in-None-1 arm ↦ subst (StandsIn P) (sym arm.body-is) c.requires.stands
      | in-Fault+in-Some-1 arm ↦ subst (StandsIn P) (sym arm.body-is) c.requires.stands
      | in-Fault+in-None-1 arm ↦ subst (StandsIn P) (sym arm.body-is) c.requires.stands
    ]

pub returns-in_err-stack-clause-memory : goal.returns-in_err-stack-clause-memory
returns-in_err-stack-clause-memory g c =
    let P = g.R.Run.program in let S = g.R.Run.settings in let now = c.args.self.now in let w = c.args.who.now.number in
    let j = ap (λ (s : Scene). s.journal) c.self.view_is in
    let is : c.foresee-event.result ≡ event_of P S now.journal c.args.g =
    (subst (λ x. IsEventOn P S x w c.foresee-event.result) j (subst (λ n. IsEventOn P S c.self.inside.history n c.foresee-event.result) c.number.ensures c.foresee-event.ensures)) c.args.g c.requires.may.runs in
    on_error_so (AddsEvent (event_of P S now.journal c.args.g)) c.from_residual.result (subst AddsEvent is c.in_err-stack.ensures.memory)

pub returns-in_err-answer-clause-memory : goal.returns-in_err-answer-clause-memory
returns-in_err-answer-clause-memory g c =
    let P = g.R.Run.program in let S = g.R.Run.settings in let now = c.args.self.now in let w = c.args.who.now.number in
    let j = ap (λ (s : Scene). s.journal) c.self.view_is in
    let is : c.foresee-event.result ≡ event_of P S now.journal c.args.g =
    (subst (λ x. IsEventOn P S x w c.foresee-event.result) j (subst (λ n. IsEventOn P S c.self.inside.history n c.foresee-event.result) c.number.ensures c.foresee-event.ensures)) c.args.g c.requires.may.runs in
    on_error_so (AddsEvent (event_of P S now.journal c.args.g)) c.from_residual-in_err-answer.result (subst AddsEvent is c.in_err-answer.ensures.memory)
