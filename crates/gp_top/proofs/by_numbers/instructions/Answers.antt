use Rattle.std.proofs.Common.{arith}
use Rattle.gp_machine.specs.State.{code_of}
use Rattle.gp_machine.specs.Run.{last}
use Rattle.gp_top.proofs.Reporting.{number_of_workers, done_more, all_done}
use Rattle.gp_top.proofs.by_numbers.instructions.Goals as goal

pub loop-w-preserved : goal.loop-w-preserved
loop-w-preserved g c =
    let number = number_of_workers (code_of g.R.Run.program) g.R.Run.settings c.args.settings.now c.args.machine.now c.requires.settings c.requires.range c.journal.ensures.legal in
    let below = c.loop-w-test.true in
    record {
      so_far = done_more (last (code_of g.R.Run.program) g.R.Run.settings c.args.machine.now).workers _ _ c.loop-w.w c.done.result (omega arith) c.loop-w.invariant.so_far c.done.ensures c.in_ok-push.ensures.items;
      within = omega arith;
    }

pub returns : goal.returns
returns g c =
    let number = number_of_workers (code_of g.R.Run.program) g.R.Run.settings c.args.settings.now c.args.machine.now c.requires.settings c.requires.range c.journal.ensures.legal in
    let past = c.loop-w-test.false in
    let within = c.loop-w.invariant.within in
    all_done (last (code_of g.R.Run.program) g.R.Run.settings c.args.machine.now).workers _ _ c.loop-w.w (omega arith) c.loop-w.invariant.so_far c.from_vec.ensures
