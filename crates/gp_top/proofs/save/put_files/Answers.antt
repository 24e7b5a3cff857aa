use Rattle.std.proofs.Common.{[], ◌∷◌, codes}
use Rattle.gp_top.specs.Files.{goroutine_files, cpu_file, waits_file, block_sums, mutex_sums, files_of}
use Rattle.gp_top.specs.Putting.{Told}
use Rattle.gp_top.specs.kept.Steps.{SaveStops}
use Rattle.gp_top.proofs.Loading.{carried}
use Rattle.gp_top.proofs.Putting.{stops_before, waits_put, waits_stop, one_stops, two_stops, three_stops, three_put}
use Rattle.gp_top.proofs.save.put_files.Goals as goal

pub returns-in_err-put_profiles-clause-stopped : goal.returns-in_err-put_profiles-clause-stopped
returns-in_err-put_profiles-clause-stopped g c =
    let program = c.args.program.now in
    let settings = c.args.settings.now in
    let file = c.args.file.now in
    let report = c.args.ran.now.report in
    let front = goroutine_files program file report.goroutine_records in
    let one = cpu_file program settings file report in
    let two = waits_file program file (codes "block.pb") (block_sums program settings report) in
    let three = waits_file program file (codes "mutex.pb") (mutex_sums program settings report) in
    let before : Told = (g.K.Store.files c.args.store.now, g.K.Store.asked c.args.store.now, g.K.Store.faults c.args.store.now) in
    let first : Told = (g.K.Store.files c.put_profiles.new.store, g.K.Store.asked c.put_profiles.new.store, g.K.Store.faults c.put_profiles.new.store) in
    let e = c.in_err-put_profiles.field-0.0 in
    carried c.from_residual.result e (SaveStops (files_of program settings file report) before first) c.from_residual.ensures.1
    (stops_before front (one ∷ two ∷ three ∷ []) before first e c.in_err-put_profiles.ensures.stopped)

pub returns-in_err-put_cpu-clause-stopped : goal.returns-in_err-put_cpu-clause-stopped
returns-in_err-put_cpu-clause-stopped g c =
    let program = c.args.program.now in
    let settings = c.args.settings.now in
    let file = c.args.file.now in
    let report = c.args.ran.now.report in
    let front = goroutine_files program file report.goroutine_records in
    let one = cpu_file program settings file report in
    let block = block_sums program settings report in
    let mutex = mutex_sums program settings report in
    let two = waits_file program file (codes "block.pb") block in
    let three = waits_file program file (codes "mutex.pb") mutex in
    let before : Told = (g.K.Store.files c.args.store.now, g.K.Store.asked c.args.store.now, g.K.Store.faults c.args.store.now) in
    let first : Told = (g.K.Store.files c.put_profiles.new.store, g.K.Store.asked c.put_profiles.new.store, g.K.Store.faults c.put_profiles.new.store) in
    let second : Told = (g.K.Store.files c.put_cpu.new.store, g.K.Store.asked c.put_cpu.new.store, g.K.Store.faults c.put_cpu.new.store) in
    let e = c.in_err-put_cpu.field-0.0 in
    carried c.from_residual-in_err-put_cpu.result e (SaveStops (files_of program settings file report) before second) c.from_residual-in_err-put_cpu.ensures.1
    (one_stops front one two three before first second c.in_ok-put_profiles.ensures.put e c.in_err-put_cpu.ensures.stopped)

pub returns-in_err-put_waits-clause-stopped : goal.returns-in_err-put_waits-clause-stopped
returns-in_err-put_waits-clause-stopped g c =
    let program = c.args.program.now in
    let settings = c.args.settings.now in
    let file = c.args.file.now in
    let report = c.args.ran.now.report in
    let front = goroutine_files program file report.goroutine_records in
    let one = cpu_file program settings file report in
    let block = block_sums program settings report in
    let mutex = mutex_sums program settings report in
    let two = waits_file program file (codes "block.pb") block in
    let three = waits_file program file (codes "mutex.pb") mutex in
    let before : Told = (g.K.Store.files c.args.store.now, g.K.Store.asked c.args.store.now, g.K.Store.faults c.args.store.now) in
    let first : Told = (g.K.Store.files c.put_profiles.new.store, g.K.Store.asked c.put_profiles.new.store, g.K.Store.faults c.put_profiles.new.store) in
    let second : Told = (g.K.Store.files c.put_cpu.new.store, g.K.Store.asked c.put_cpu.new.store, g.K.Store.faults c.put_cpu.new.store) in
    let third : Told = (g.K.Store.files c.put_waits.new.store, g.K.Store.asked c.put_waits.new.store, g.K.Store.faults c.put_waits.new.store) in
    let e = c.in_err-put_waits.field-0.0 in
    carried c.from_residual-in_err-put_waits.result e (SaveStops (files_of program settings file report) before third) c.from_residual-in_err-put_waits.ensures.1
    (two_stops front one two three before first second c.in_ok-put_profiles.ensures.put third c.in_ok-put_cpu.ensures.put e
    (waits_stop program file (codes "block.pb") c.args.ran.now.block block second third c.requires.ran.block_are e c.in_err-put_waits.ensures.stopped))

pub returns-in_err-put_waits-2-clause-stopped : goal.returns-in_err-put_waits-2-clause-stopped
returns-in_err-put_waits-2-clause-stopped g c =
    let program = c.args.program.now in
    let settings = c.args.settings.now in
    let file = c.args.file.now in
    let report = c.args.ran.now.report in
    let front = goroutine_files program file report.goroutine_records in
    let one = cpu_file program settings file report in
    let block = block_sums program settings report in
    let mutex = mutex_sums program settings report in
    let two = waits_file program file (codes "block.pb") block in
    let three = waits_file program file (codes "mutex.pb") mutex in
    let before : Told = (g.K.Store.files c.args.store.now, g.K.Store.asked c.args.store.now, g.K.Store.faults c.args.store.now) in
    let first : Told = (g.K.Store.files c.put_profiles.new.store, g.K.Store.asked c.put_profiles.new.store, g.K.Store.faults c.put_profiles.new.store) in
    let second : Told = (g.K.Store.files c.put_cpu.new.store, g.K.Store.asked c.put_cpu.new.store, g.K.Store.faults c.put_cpu.new.store) in
    let third : Told = (g.K.Store.files c.put_waits.new.store, g.K.Store.asked c.put_waits.new.store, g.K.Store.faults c.put_waits.new.store) in
    let fourth : Told = (g.K.Store.files c.put_waits-2.new.store, g.K.Store.asked c.put_waits-2.new.store, g.K.Store.faults c.put_waits-2.new.store) in
    let e = c.in_err-put_waits-2.field-0.0 in
    carried c.from_residual-in_err-put_waits-2.result e (SaveStops (files_of program settings file report) before fourth) c.from_residual-in_err-put_waits-2.ensures.1
    (three_stops front one two three before first second c.in_ok-put_profiles.ensures.put third c.in_ok-put_cpu.ensures.put fourth
    (waits_put program file (codes "block.pb") c.args.ran.now.block block second third c.requires.ran.block_are c.in_ok-put_waits.ensures.put) e
    (waits_stop program file (codes "mutex.pb") c.args.ran.now.mutex mutex third fourth c.requires.ran.mutex_are e c.in_err-put_waits-2.ensures.stopped))

pub returns-clause-put : goal.returns-clause-put
returns-clause-put g c =
    let program = c.args.program.now in
    let settings = c.args.settings.now in
    let file = c.args.file.now in
    let report = c.args.ran.now.report in
    let front = goroutine_files program file report.goroutine_records in
    let one = cpu_file program settings file report in
    let block = block_sums program settings report in
    let mutex = mutex_sums program settings report in
    let two = waits_file program file (codes "block.pb") block in
    let three = waits_file program file (codes "mutex.pb") mutex in
    let before : Told = (g.K.Store.files c.args.store.now, g.K.Store.asked c.args.store.now, g.K.Store.faults c.args.store.now) in
    let first : Told = (g.K.Store.files c.put_profiles.new.store, g.K.Store.asked c.put_profiles.new.store, g.K.Store.faults c.put_profiles.new.store) in
    let second : Told = (g.K.Store.files c.put_cpu.new.store, g.K.Store.asked c.put_cpu.new.store, g.K.Store.faults c.put_cpu.new.store) in
    let third : Told = (g.K.Store.files c.put_waits.new.store, g.K.Store.asked c.put_waits.new.store, g.K.Store.faults c.put_waits.new.store) in
    let fourth : Told = (g.K.Store.files c.put_waits-2.new.store, g.K.Store.asked c.put_waits-2.new.store, g.K.Store.faults c.put_waits-2.new.store) in
    three_put front one two three before first second c.in_ok-put_profiles.ensures.put third c.in_ok-put_cpu.ensures.put fourth
    (waits_put program file (codes "block.pb") c.args.ran.now.block block second third c.requires.ran.block_are c.in_ok-put_waits.ensures.put)
    (waits_put program file (codes "mutex.pb") c.args.ran.now.mutex mutex third fourth c.requires.ran.mutex_are c.in_ok-put_waits-2.ensures.put)
