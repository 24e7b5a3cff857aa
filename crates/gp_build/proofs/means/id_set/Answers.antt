use Rattle.gp_build.proofs.Ids.{ids_more}
use Rattle.gp_build.proofs.means.id_set.Goals as goal

pub loop-item-preserved : goal.loop-item-preserved
loop-item-preserved g c =
    ids_more g.M.HasId.id_of c.args.items.now c.loop-item.item-index c.item-item.result c.id.result c.loop-item.set.keys c.insert.new.self.keys c.loop-item-test.true c.item-item.is c.id.ensures
    c.requires c.loop-item.invariant c.in_ok-insert.ensures.keys
