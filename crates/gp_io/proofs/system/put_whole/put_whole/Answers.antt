use Rattle.std.proofs.Common.{rules, string_bytes, sym}
use Rattle.gp_io.specs.OfSystem.{NoFile}
use Rattle.gp_io.proofs.Calls.{on_err, on_err_in_vain}
use Rattle.gp_io.proofs.system.put_whole.put_whole.Goals as goal
use Rattle.gp_io.proofs.system.put_whole.put_whole.Goals.{then-is_err, else-is_err}

pub returns-in_err-beside-clause-in_vain : goal.returns-in_err-beside-clause-in_vain
returns-in_err-beside-clause-in_vain g c = on_err c.from_residual.result _ (NoFile c.in_err-beside.ensures.none)

pub returns-clause-in_vain : goal.returns-clause-in_vain
returns-clause-in_vain g c = elim c.if-is_err.branch [
  | then-is_err w ↦ rw w.folder-is (on_err_in_vain c.write_and_rename-outcome.result
      (g.F.Folder.calls c.args.folder.now) (g.F.Folder.calls c.create_beside.new.folder)
      (g.F.Folder.calls c.write_and_rename-outcome.new.folder) (g.F.Folder.calls w.remove.new.self)
      c.in_ok-beside.ensures.made.0 (string_bytes c.in_ok-beside.beside) c.args.name.now c.args.bytes.now
      c.in_ok-beside.ensures.made.1 (rw (sym c.as_str.ensures.value) c.write_and_rename-outcome.ensures.in_vain) (rw (sym w.as_str-then-is_err.ensures.value) w.remove.ensures))
  | else-is_err w ↦ search rules
]
