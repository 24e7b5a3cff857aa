use Rattle.std.proofs.Common.{List, true, length, sym, ap}
use Rattle.gp_stack.specs.declared.record.Record.{Record as Row}
use Rattle.gp_history.specs.Recorder.{Recording}
use Rattle.gp_journal.proofs.Lemmas.{with_row_last}
use Rattle.gp_history.proofs.recorder.Recorder.push.Goals as goal

pub returns : goal.returns
returns c =
    let recorded : List (List Row) → Recording = λ profiles. record { profiles = profiles; is_open = true; left = length c.self.inside.spare.items; each = c.self.inside.each } in
    rw (← c.self.view_is, c.in-Some.is, c.push.ensures) (ap recorded (sym (with_row_last c.self.inside.closed.items c.in-Some.rows.rows c.args.row)))
