use Rattle.std.proofs.Common.{arith}
use Rattle.gp_top.proofs.Reporting.{made_more, all_made}
use Rattle.gp_top.proofs.by_numbers.entries_made.Goals as goal

pub loop-actor-preserved : goal.loop-actor-preserved
loop-actor-preserved g c =
    let test = c.loop-actor-test.true in
    record {
      so_far = made_more g.R.Run.settings c.args.machine.now c.loop-actor.made.items _ c.loop-actor.actor c.made.result c.loop-actor.invariant.so_far c.made.ensures c.in_ok-push.ensures.items;
      within = omega arith;
    }

pub returns : goal.returns
returns g c =
    all_made g.R.Run.settings c.args.settings.now c.args.machine.now c.loop-actor.made.items _ c.loop-actor.actor c.requires.settings c.loop-actor.invariant.within c.loop-actor-test.false
    c.loop-actor.invariant.so_far c.from_vec.ensures
