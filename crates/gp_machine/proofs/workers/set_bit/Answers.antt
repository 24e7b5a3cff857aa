use Rattle.std.proofs.Common.{◌≡◌, ◌+◌, ◌-◌, ◌<◌, ◌^◌, ◌∙◌, subst, arith, rules}
use Rattle.gp_machine.specs.kept.Workers.{bits_below}
use Rattle.gp_machine.proofs.SetBits.{IsLeft, left_all, left_less, lowest_within, lowest_set, lowest_before, without_lowest}
use Rattle.gp_machine.proofs.workers.set_bit.Goals as goal

pub loop-left-init : goal.loop-left-init
loop-left-init c =
    let none : 0 ≡ c.args.count - c.args.count = omega arith in
    record { counted = omega arith; is_left = subst (IsLeft c.args.word c.args.word) none (left_all c.args.word) }

pub overflow_shl-rest : goal.overflow_shl-rest
overflow_shl-rest c =
    let fits : c.loop-left.rest < 2 ^ 32 = search rules in
    let more : c.args.count - c.loop-left.left < bits_below c.args.word 32 = let few = c.requires in omega arith in
    lowest_within c.loop-left.invariant.is_left more fits

pub loop-left-preserved : goal.loop-left-preserved
loop-left-preserved c =
    let fits : c.loop-left.rest < 2 ^ 32 = search rules in
    let more : c.args.count - c.loop-left.left < bits_below c.args.word 32 = let few = c.requires in omega arith in
    let one : (c.args.count - c.loop-left.left) + 1 ≡ c.args.count - (c.loop-left.left - 1) =
    let some = c.loop-left-test.true in let within = c.loop-left.invariant.counted in omega arith in
    record {
      counted = let within = c.loop-left.invariant.counted in omega arith;
      is_left = subst (IsLeft c.args.word (without_lowest c.loop-left.rest)) one (left_less c.loop-left.invariant.is_left more fits);
    }

pub returns-clause-within : goal.returns-clause-within
returns-clause-within c =
    let fits : c.loop-left.rest < 2 ^ 32 = search rules in
    let more : c.args.count - c.loop-left.left < bits_below c.args.word 32 = let few = c.requires in omega arith in
    lowest_within c.loop-left.invariant.is_left more fits

pub returns-clause-set : goal.returns-clause-set
returns-clause-set c =
    let fits : c.loop-left.rest < 2 ^ 32 = search rules in
    let more : c.args.count - c.loop-left.left < bits_below c.args.word 32 = let few = c.requires in omega arith in
    lowest_set c.loop-left.invariant.is_left more fits

pub returns-clause-before : goal.returns-clause-before
returns-clause-before c =
    let fits : c.loop-left.rest < 2 ^ 32 = search rules in
    let more : c.args.count - c.loop-left.left < bits_below c.args.word 32 = let few = c.requires in omega arith in
    lowest_before c.loop-left.invariant.is_left more fits ∙ (let none = c.loop-left-test.false in omega arith)
