use Rattle.std.proofs.Common.{◌≡◌, ◌<◌, ◌≤◌, ◌+◌, ◌-◌, ◌*◌, reverse, sym, ◌∙◌, arith}
use Rattle.gp_stack.proofs.Moves.{body_turning}
use Rattle.gp_stack.proofs.Costs.{cost_turns}
use Rattle.gp_stack.proofs.Passing.{passes_turns, turns_fit}
use Rattle.gp_stack.specs.kept.Place.{room}
use Rattle.gp_stack.proofs.Settle.{fit_turning}
use Rattle.gp_stack.proofs.place.Place.take_turns.Goals as goal

pub returns-clause-few : goal.returns-clause-few
returns-clause-few c =
    (turns_fit c.args.most c.in_ok-once.once c.args.self.now.top.turns c.min-turns.result c.min-turns.ensures c.in_ok-once.ensures.stands.some c.in_ok-once.ensures.few c.in_ok-once.ensures.stands.again).2

pub returns-clause-passes : goal.returns-clause-passes
returns-clause-passes c =
    let fit : (0 < c.min-turns.result) × (c.min-turns.result ≤ c.args.self.now.top.turns) × (c.min-turns.result * c.in_ok-once.once ≤ c.args.most) =
    turns_fit c.args.most c.in_ok-once.once c.args.self.now.top.turns c.min-turns.result c.min-turns.ensures c.in_ok-once.ensures.stands.some c.in_ok-once.ensures.few c.in_ok-once.ensures.stands.again in
    let rest : c.args.self.now.top.turns ≡ c.min-turns.result + (c.args.self.now.top.turns - c.min-turns.result) = omega (arith, fit.1) in
    passes_turns c.args.program.now c.args.self.now.top (reverse c.args.self.now.outer.items) c.in_ok-once.once c.min-turns.result (c.args.self.now.top.turns - c.min-turns.result) c.in_ok-once.ensures.stands rest

pub returns-clause-falls : goal.returns-clause-falls
returns-clause-falls c =
    let fit : (0 < c.min-turns.result) × (c.min-turns.result ≤ c.args.self.now.top.turns) × (c.min-turns.result * c.in_ok-once.once ≤ c.args.most) =
    turns_fit c.args.most c.in_ok-once.once c.args.self.now.top.turns c.min-turns.result c.min-turns.ensures c.in_ok-once.ensures.stands.some c.in_ok-once.ensures.few c.in_ok-once.ensures.stands.again in
    let rest : c.args.self.now.top.turns ≡ c.min-turns.result + (c.args.self.now.top.turns - c.min-turns.result) = omega (arith, fit.1) in
    cost_turns c.args.program.now c.args.self.now.top (reverse c.args.self.now.outer.items) c.min-turns.result (c.args.self.now.top.turns - c.min-turns.result) c.in_ok-once.ensures.stands.over rest fit.0

pub returns-clause-place : goal.returns-clause-place
returns-clause-place c = record {
  fit = fit_turning c.args.program.now (room c.args.program.now) (c.args.self.now.top.turns - c.min-turns.result) c.args.self.now.top (reverse c.args.self.now.outer.items) c.requires.place.fit;
  reserved = c.requires.place.reserved;
}

pub returns-clause-here : goal.returns-clause-here
returns-clause-here c = record {
  statements = c.requires.here.statements ∙ sym (body_turning c.args.program.now c.args.self.now.top (c.args.self.now.top.turns - c.min-turns.result) (reverse c.args.self.now.outer.items));
  kept = c.requires.here.kept;
}
