use Rattle.gp_top.specs.Files.{TextFile}
use Rattle.gp_top.specs.Putting.{Told}
use Rattle.gp_top.proofs.Putting.{answered_put, answered_fault}
use Rattle.gp_top.proofs.save.put_text.Goals as goal

pub returns-clause-put : goal.returns-clause-put
returns-clause-put g c =
    let before : Told = (g.K.Store.files c.args.store.now, g.K.Store.asked c.args.store.now, g.K.Store.faults c.args.store.now) in
    let after : Told = (g.K.Store.files c.put.new.self, g.K.Store.asked c.put.new.self, g.K.Store.faults c.put.new.self) in
    answered_put (TextFile c.args.name.now c.args.text.now) before after c.put.result c.put.ensures.put c.put.ensures.counted c.put.ensures.well tt

pub returns-clause-failed : goal.returns-clause-failed
returns-clause-failed g c =
    let before : Told = (g.K.Store.files c.args.store.now, g.K.Store.asked c.args.store.now, g.K.Store.faults c.args.store.now) in
    let after : Told = (g.K.Store.files c.put.new.self, g.K.Store.asked c.put.new.self, g.K.Store.faults c.put.new.self) in
    answered_fault (TextFile c.args.name.now c.args.text.now) before after c.put.result c.put.ensures.others c.put.ensures.counted c.put.ensures.failed
