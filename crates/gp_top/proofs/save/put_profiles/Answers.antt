use Rattle.std.proofs.Common.{[], sym, arith}
use Rattle.std.proofs.lemmas.List.{get_or_read}
use Rattle.gp_top.specs.Files.{goroutine_files}
use Rattle.gp_top.specs.Putting.{Told}
use Rattle.gp_top.specs.kept.Steps.{SaveStops}
use Rattle.gp_top.proofs.Loading.{carried}
use Rattle.gp_top.proofs.Putting.{none_put, goes_on, stops, all_put}
use Rattle.gp_top.proofs.save.put_profiles.Goals as goal

pub loop-at-init : goal.loop-at-init
loop-at-init g c = none_put (g.K.Store.files c.args.store.now, g.K.Store.asked c.args.store.now, g.K.Store.faults c.args.store.now)

pub loop-at-preserved : goal.loop-at-preserved
loop-at-preserved g c =
    let before : Told = (g.K.Store.files c.args.store.now, g.K.Store.asked c.args.store.now, g.K.Store.faults c.args.store.now) in
    let mid : Told = (g.K.Store.files c.loop-at.store, g.K.Store.asked c.loop-at.store, g.K.Store.faults c.loop-at.store) in
    let after : Told = (g.K.Store.files c.put_profile.new.store, g.K.Store.asked c.put_profile.new.store, g.K.Store.faults c.put_profile.new.store) in
    goes_on c.args.program.now c.args.file.now c.args.profiles.now c.loop-at.at before mid after (rw (sym c.as_slice-records-items.ensures) c.loop-at-test.true) c.loop-at.invariant
    (rw (sym c.as_slice-records-items.ensures, sym (get_or_read c.as_slice-records-items.result.now c.loop-at.at c.records-item.result c.loop-at-test.true c.records-item.is [])) c.in_ok-put_profile.ensures.put)

pub returns-in_err-put_profile-clause-stopped : goal.returns-in_err-put_profile-clause-stopped
returns-in_err-put_profile-clause-stopped g c =
    let before : Told = (g.K.Store.files c.args.store.now, g.K.Store.asked c.args.store.now, g.K.Store.faults c.args.store.now) in
    let mid : Told = (g.K.Store.files c.loop-at.store, g.K.Store.asked c.loop-at.store, g.K.Store.faults c.loop-at.store) in
    let after : Told = (g.K.Store.files c.put_profile.new.store, g.K.Store.asked c.put_profile.new.store, g.K.Store.faults c.put_profile.new.store) in
    let e = c.in_err-put_profile.field-0.0 in
    carried c.from_residual.result e (SaveStops (goroutine_files c.args.program.now c.args.file.now c.args.profiles.now) before after) c.from_residual.ensures.1
    (stops c.args.program.now c.args.file.now c.args.profiles.now c.loop-at.at before mid after e (rw (sym c.as_slice-records-items.ensures) c.loop-at-test.true) c.loop-at.invariant
    (rw (sym c.as_slice-records-items.ensures, sym (get_or_read c.as_slice-records-items.result.now c.loop-at.at c.records-item.result c.loop-at-test.true c.records-item.is [])) c.in_err-put_profile.ensures.stopped))

pub returns-clause-put : goal.returns-clause-put
returns-clause-put g c =
    all_put c.args.program.now c.args.file.now c.args.profiles.now c.loop-at.at (g.K.Store.files c.args.store.now, g.K.Store.asked c.args.store.now, g.K.Store.faults c.args.store.now)
    (g.K.Store.files c.loop-at.store, g.K.Store.asked c.loop-at.store, g.K.Store.faults c.loop-at.store) (rw (sym c.as_slice-records-items.ensures) (let past = c.loop-at-test.false in omega arith)) c.loop-at.invariant
