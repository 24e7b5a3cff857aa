use Rattle.std.proofs.Common.{Bool, List, reverse, subst}
use Rattle.std.specs.Bool.{OnTrue}
use Rattle.gp_stack.specs.declared.level.Level.{Level}
use Rattle.gp_stack.specs.kept.Level.{left}
use Rattle.gp_stack.specs.kept.Place.{levels, stepped, room, IsSettled}
use Rattle.gp_stack.specs.kept.Passing.{Passes}
use Rattle.gp_stack.proofs.Passing.{work_more}
use Rattle.gp_stack.proofs.Settle.{is_in, fit_stepped, here_stepped}
use Rattle.gp_stack.proofs.place.Place.pass.Goals as goal

pub cross-crossing-requires-clause-place : goal.cross-crossing-requires-clause-place
cross-crossing-requires-clause-place c = is_in c.args.program.now c.args.self.now c.skip.new.self (stepped (levels c.args.self.now)) c.requires.place c.skip.ensures.levels (fit_stepped c.args.program.now (room c.args.program.now) c.args.self.now.top (reverse
    c.args.self.now.outer.items) c.requires.place.fit) c.skip.ensures.room

pub cross-crossing-requires-clause-here : goal.cross-crossing-requires-clause-here
cross-crossing-requires-clause-here c = here_stepped c.args.program.now c.skip.new.self c.args.self.now.top (reverse c.args.self.now.outer.items) c.args.here.now c.skip.ensures.levels c.requires.here

pub returns-then-crossing-clause-passes : goal.returns-then-crossing-clause-passes
returns-then-crossing-clause-passes c = subst (λ (before : List Level). Passes c.args.program.now before (levels c.cross-crossing.new.self) c.cross-crossing.result.points) c.skip.ensures.levels c.cross-crossing.ensures.passes

pub returns-clause-passes : goal.returns-clause-passes
returns-clause-passes c =
    work_more (left c.args.program.now (stepped (levels c.args.self.now))) (left c.args.program.now (levels c.cross-crossing.new.self)) (left c.args.program.now (levels c.go_on.new.self)) c.cross-crossing.result.points c.go_on.result
    (subst (λ (before : List Level). Passes c.args.program.now before (levels c.cross-crossing.new.self) c.cross-crossing.result.points) c.skip.ensures.levels c.cross-crossing.ensures.passes) c.go_on.ensures.passes

pub returns-then-crossing-clause-settled : goal.returns-then-crossing-clause-settled
returns-then-crossing-clause-settled c =
    subst (λ (b : Bool). OnTrue b (IsSettled c.args.program.now c.cross-crossing.new.self.top (reverse c.cross-crossing.new.self.outer.items))) c.if-crossing.true c.cross-crossing.ensures.settled
