use Rattle.std.proofs.Common.{sym, arith}
use Rattle.gp_text.specs.Spaces.{kept}
use Rattle.gp_text.proofs.Cuts.{one_deeper}
use Rattle.gp_text.proofs.Behind.{found, passed, over_inside, over_outside, all_known}
use Rattle.gp_text.proofs.faults.declared.Goals as goal

pub returns-in-Some-clause-refused : goal.returns-in-Some-clause-refused
returns-in-Some-clause-refused c = found c.loop-at.before.deep (kept c.loop-at.before.spaces) c.loop-at.at c.args.said.now c.index-said-at.result c.in-Some.cause c.loop-at.invariant c.loop-at-test.true c.index-said-at.is (sym c.in-Some.ensures)

pub pass-requires : goal.pass-requires
pass-requires c = let few = c.loop-at.invariant.shallow in omega arith

pub loop-at-preserved : goal.loop-at-preserved
loop-at-preserved c =
    let few = c.loop-at.invariant.shallow in
    let more = one_deeper c.loop-at.before.deep c.index-said-at.result in
    let is = c.in_ok-pass.ensures.deep in
    passed c.loop-at.before.deep c.pass.new.self.deep (kept c.loop-at.before.spaces) (kept c.pass.new.self.spaces) c.loop-at.at c.args.said.now c.index-said-at.result c.loop-at.invariant c.loop-at-test.true c.index-said-at.is
    (sym c.in_default.ensures)
    c.in_ok-pass.ensures.deep c.in_ok-pass.ensures.names (omega arith)

pub returns-then-deep-gt0-clause-refused : goal.returns-then-deep-gt0-clause-refused
returns-then-deep-gt0-clause-refused c = over_inside c.loop-at.before.deep (kept c.loop-at.before.spaces) c.loop-at.at c.args.said.now c.loop-at.invariant (omega (arith, c.loop-at-test.false)) c.if-deep-gt0.true

pub returns-clause-sound : goal.returns-clause-sound
returns-clause-sound c = over_outside c.loop-at.before.deep (kept c.loop-at.before.spaces) c.loop-at.at c.args.said.now c.loop-at.invariant (omega (arith, c.loop-at-test.false)) c.if-deep-gt0.false

pub returns-clause-names : goal.returns-clause-names
returns-clause-names c = all_known c.loop-at.before.deep (kept c.loop-at.before.spaces) c.loop-at.at c.args.said.now c.loop-at.invariant (omega (arith, c.loop-at-test.false))
