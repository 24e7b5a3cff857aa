use Rattle.gp_build.specs.declared.spelled.Spelled.{Spelled}
use Rattle.gp_build.proofs.Spelling.{groups_push, spelled_push}
use Rattle.gp_build.proofs.spelled.spell_all.Goals as goal

pub loop-group-preserved : goal.loop-group-preserved
loop-group-preserved c =
    let it : Spelled = record { group = c.in-Some.group; blocks = c.in_ok-numbers.numbers } in
    record {
      groups = groups_push c.loop-group.all.items c.push.new.self.items c.loop-group.yielded it c.in_ok-push.ensures.items c.loop-group.invariant.groups;
      spelled = spelled_push c.loop-group.table.keys c.spell.new.table.keys c.loop-group.all.items c.push.new.self.items it c.stack.result.now
          c.in_ok-numbers.ensures.grows c.in_ok-push.ensures.items c.in_ok-numbers.ensures.spells c.stack.ensures c.loop-group.invariant.spelled;
    }
