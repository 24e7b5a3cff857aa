use Rattle.std.proofs.Common.{◌≡◌, ◌-◌, suc, reverse, sym, ◌∙◌, ◌≤◌, List, length, arith, subst}
use Rattle.gp_isa.specs.declared.statement.Stmt.{Stmt}
use Rattle.gp_stack.specs.kept.Level.{body_at}
use Rattle.gp_stack.specs.kept.Place.{room}
use Rattle.gp_stack.proofs.Costs.{cost_turned}
use Rattle.gp_stack.proofs.Moves.{body_turned, left_turned}
use Rattle.gp_stack.proofs.Settle.{fit_moved, fit_turning}
use Rattle.gp_stack.proofs.place.Place.turn.Goals as goal

pub returns-clause-place : goal.returns-clause-place
returns-clause-place c = record {
  fit = fit_moved c.args.program.now (room c.args.program.now) 0 (record c.args.self.now.top { turns = c.args.self.now.top.turns - 1 }) (reverse c.args.self.now.outer.items)
      (fit_turning c.args.program.now (room c.args.program.now) (c.args.self.now.top.turns - 1) c.args.self.now.top (reverse c.args.self.now.outer.items) c.requires.place.fit);
  reserved = c.requires.place.reserved;
}

pub returns-clause-here : goal.returns-clause-here
returns-clause-here c = record {
  statements = c.requires.here.statements ∙ sym (body_turned c.args.program.now c.args.self.now.top (c.args.self.now.top.turns - 1) (reverse c.args.self.now.outer.items));
  kept = c.requires.here.kept;
}

pub returns-clause-left : goal.returns-clause-left
returns-clause-left c =
    let over : length (body_at c.args.program.now c.args.self.now.top (reverse c.args.self.now.outer.items)) ≤ c.args.self.now.top.at =
    subst (λ (body : List Stmt). length body ≤ c.args.self.now.top.at) c.requires.here.statements (omega arith) in
    left_turned c.args.program.now c.args.self.now.top (reverse c.args.self.now.outer.items) (suc (c.args.self.now.top.turns - 1)) over (omega arith)

pub returns-clause-falls : goal.returns-clause-falls
returns-clause-falls c =
    let over : length (body_at c.args.program.now c.args.self.now.top (reverse c.args.self.now.outer.items)) ≤ c.args.self.now.top.at =
    subst (λ (body : List Stmt). length body ≤ c.args.self.now.top.at) c.requires.here.statements (omega arith) in
    cost_turned c.args.program.now c.args.self.now.top (reverse c.args.self.now.outer.items) (suc (c.args.self.now.top.turns - 1)) over (omega arith)
