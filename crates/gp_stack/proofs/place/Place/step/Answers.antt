use Rattle.std.proofs.Common.{rules, ◌≡◌, ◌<◌, length, vec_len, reverse, refl, ap, arith}
use Rattle.std.proofs.lemmas.List.{length-reverse}
use Rattle.gp_isa.specs.declared.statement.What.TheOpen.{Work, Call, Labels}
use Rattle.gp_isa.specs.Statement.{line_of}
use Rattle.gp_stack.specs.kept.Place.{levels, stepped, room, AtPoint}
use Rattle.gp_stack.proofs.Moves.{added, left_skip, added_no_function}
use Rattle.gp_stack.proofs.Costs.{cost_skip}
use Rattle.gp_stack.proofs.Settle.{is_in, fit_stepped, fit_looped, fit_called, loop_room, left_looped, cost_looped, left_called, cost_called, shared_settled}
use Rattle.gp_stack.proofs.place.Place.step.Goals as goal

pub returns-then-n-eq0-clause-left : goal.returns-then-n-eq0-clause-left
returns-then-n-eq0-clause-left c =
    rw c.skip.ensures.levels (left_skip c.args.program.now c.args.self.now.top (reverse c.args.self.now.outer.items) (Work c.in-Work.n) c.in-Work.ensures.ahead
    (ap (λ n. added c.args.program.now c.args.self.now.top (line_of c.in-Work.ensures.ahead.statement) (Work n)) c.if-n-eq0.true))

pub returns-then-n-eq0-clause-falls : goal.returns-then-n-eq0-clause-falls
returns-then-n-eq0-clause-falls c = rw c.skip.ensures.levels (cost_skip c.args.program.now c.args.self.now.top (reverse c.args.self.now.outer.items) (Work c.in-Work.n) c.in-Work.ensures.ahead)

pub returns-else-n-eq0-clause-settled : goal.returns-else-n-eq0-clause-settled
returns-else-n-eq0-clause-settled c = AtPoint (Work c.in-Work.n) c.in-Work.ensures.ahead (omega arith)

pub returns-in-Labels-clause-settled : goal.returns-in-Labels-clause-settled
returns-in-Labels-clause-settled c = AtPoint (Labels c.in-Labels.field-0) c.in-Labels.ensures.ahead tt

pub returns-in-Shared-clause-settled : goal.returns-in-Shared-clause-settled
returns-in-Shared-clause-settled c = shared_settled _ _ _ c.in-Shared.field-0 c.in-Shared.ensures.ahead

pub returns-in-Loop-clause-left : goal.returns-in-Loop-clause-left
returns-in-Loop-clause-left c =
    rw c.enter_loop.ensures.levels (left_looped c.args.program.now c.args.self.now.top (reverse c.args.self.now.outer.items) c.args.self.now.top.loops c.in-Loop.n c.in-Loop.inner.now refl c.requires.place.fit.1 c.in-Loop.ensures.ahead)

pub returns-in-Loop-clause-falls : goal.returns-in-Loop-clause-falls
returns-in-Loop-clause-falls c =
    rw c.enter_loop.ensures.levels (cost_looped c.args.program.now c.args.self.now.top (reverse c.args.self.now.outer.items) c.args.self.now.top.loops c.in-Loop.n c.in-Loop.inner.now refl c.requires.place.fit.1 c.in-Loop.ensures.ahead)

pub returns-then-f-len-clause-left : goal.returns-then-f-len-clause-left
returns-then-f-len-clause-left c = rw c.enter_call.ensures.levels (left_called c.args.program.now c.args.self.now.top (reverse c.args.self.now.outer.items) c.args.self.now.top.calls c.in-Call.f refl c.in-Call.ensures.ahead)

pub returns-then-f-len-clause-falls : goal.returns-then-f-len-clause-falls
returns-then-f-len-clause-falls c = rw c.enter_call.ensures.levels (cost_called c.args.program.now c.args.self.now.top (reverse c.args.self.now.outer.items) c.args.self.now.top.calls c.in-Call.f refl c.in-Call.ensures.ahead)

pub returns-else-f-len-clause-left : goal.returns-else-f-len-clause-left
returns-else-f-len-clause-left c =
    rw c.skip-else-f-len.ensures.levels
    (left_skip c.args.program.now c.args.self.now.top (reverse c.args.self.now.outer.items) (Call c.in-Call.f) c.in-Call.ensures.ahead
    (added_no_function c.args.program.now c.args.self.now.top (line_of c.in-Call.ensures.ahead.statement) c.in-Call.f (rw (← c.parts.ensures.parts, ← c.len.ensures) c.if-f-len.false)))

pub returns-else-f-len-clause-falls : goal.returns-else-f-len-clause-falls
returns-else-f-len-clause-falls c = rw c.skip-else-f-len.ensures.levels (cost_skip c.args.program.now c.args.self.now.top (reverse c.args.self.now.outer.items) (Call c.in-Call.f) c.in-Call.ensures.ahead)

pub returns-then-n-eq0-clause-place : goal.returns-then-n-eq0-clause-place
returns-then-n-eq0-clause-place c = is_in c.args.program.now c.args.self.now c.skip.new.self (stepped (levels c.args.self.now)) c.requires.place c.skip.ensures.levels (fit_stepped c.args.program.now (room c.args.program.now) c.args.self.now.top
    (reverse c.args.self.now.outer.items) c.requires.place.fit) c.skip.ensures.room

pub enter_loop-requires-clause-room : goal.enter_loop-requires-clause-room
enter_loop-requires-clause-room c =
    let less : length (reverse c.args.self.now.outer.items) < room c.args.program.now = loop_room c.args.program.now (room c.args.program.now) c.args.self.now.top (reverse c.args.self.now.outer.items) c.in-Loop.n c.in-Loop.inner.now
    c.in-Loop.ensures.ahead c.requires.place.fit in
    let long : length c.args.self.now.outer.items ≡ vec_len c.args.self.now.outer = search rules in
    omega (arith, less, length-reverse c.args.self.now.outer.items, long, c.requires.place.reserved)

pub returns-in-Loop-clause-place : goal.returns-in-Loop-clause-place
returns-in-Loop-clause-place c =
    is_in c.args.program.now c.args.self.now c.enter_loop.new.self _ c.requires.place c.enter_loop.ensures.levels
    (fit_looped c.args.program.now (room c.args.program.now) c.args.self.now.top.loops c.in-Loop.n c.args.self.now.top (reverse c.args.self.now.outer.items) c.in-Loop.inner.now refl c.in-Loop.ensures.ahead c.requires.place.fit) c.enter_loop.ensures.room

pub returns-then-f-len-clause-place : goal.returns-then-f-len-clause-place
returns-then-f-len-clause-place c =
    is_in c.args.program.now c.args.self.now c.enter_call.new.self _ c.requires.place c.enter_call.ensures.levels (fit_called c.args.program.now (room c.args.program.now) c.args.self.now.top.calls c.in-Call.f c.args.self.now.top (reverse
    c.args.self.now.outer.items) refl c.requires.place.fit)
    c.enter_call.ensures.room

pub returns-else-f-len-clause-place : goal.returns-else-f-len-clause-place
returns-else-f-len-clause-place c =
    is_in c.args.program.now c.args.self.now c.skip-else-f-len.new.self (stepped (levels c.args.self.now)) c.requires.place c.skip-else-f-len.ensures.levels (fit_stepped c.args.program.now (room c.args.program.now) c.args.self.now.top (reverse
    c.args.self.now.outer.items) c.requires.place.fit)
    c.skip-else-f-len.ensures.room
