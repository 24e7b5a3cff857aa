use Rattle.std.proofs.Common.{[], ◌∷◌, sym, ◌∙◌}
use Rattle.gp_top.specs.declared.save.SaveError.TheVariants as save
use Rattle.gp_top.specs.Files.{ProfileFile}
use Rattle.gp_top.specs.Putting.{Told}
use Rattle.gp_top.specs.kept.Steps.{SaveStops}
use Rattle.gp_top.proofs.Loading.{carried}
use Rattle.gp_top.proofs.Putting.{one_put, one_fails, no_more}
use Rattle.gp_top.proofs.save.put_named.Goals as goal

pub returns-in_err-bytes-clause-stopped : goal.returns-in_err-bytes-clause-stopped
returns-in_err-bytes-clause-stopped g c =
    let output = ProfileFile c.args.name.now c.args.profile.now in
    let before : Told = (g.K.Store.files c.args.store.now, g.K.Store.asked c.args.store.now, g.K.Store.faults c.args.store.now) in
    carried c.from_residual.result save.Memory (SaveStops (output ∷ []) before before) c.from_residual.ensures.1 (no_more (output ∷ []) before)

pub returns-in_err-put-clause-stopped : goal.returns-in_err-put-clause-stopped
returns-in_err-put-clause-stopped g c =
    let output = ProfileFile c.args.name.now c.args.profile.now in
    let before : Told = (g.K.Store.files c.args.store.now, g.K.Store.asked c.args.store.now, g.K.Store.faults c.args.store.now) in
    let after : Told = (g.K.Store.files c.put.new.self, g.K.Store.asked c.put.new.self, g.K.Store.faults c.put.new.self) in
    carried c.from_residual-in_err-put.result save.PutFault (SaveStops (output ∷ []) before after) c.from_residual-in_err-put.ensures.1
    (one_fails output before after c.in_err-put.ensures.others c.put.ensures.counted c.in_err-put.ensures.failed)

pub returns-clause-put : goal.returns-clause-put
returns-clause-put g c =
    let output = ProfileFile c.args.name.now c.args.profile.now in
    let before : Told = (g.K.Store.files c.args.store.now, g.K.Store.asked c.args.store.now, g.K.Store.faults c.args.store.now) in
    let after : Told = (g.K.Store.files c.put.new.self, g.K.Store.asked c.put.new.self, g.K.Store.faults c.put.new.self) in
    one_put output before after (rw (sym (c.as_slice.ensures ∙ c.in_ok-bytes.ensures.bytes)) c.in_ok-put.ensures.put) c.put.ensures.counted c.in_ok-put.ensures.well c.in_ok-bytes.ensures.again
