use Rattle.std.proofs.Common.{ap, sym, ◌∙◌}
use Rattle.gp_workers.specs.kept.Reading.{turn_of}
use Rattle.gp_workers.proofs.Taking.{took_done}
use Rattle.gp_workers.proofs.intake.Intake.read_once.Goals as goal

pub returns-in-Ok-clause-done : goal.returns-in-Ok-clause-done
returns-in-Ok-clause-done c =
    let same = c.came_by.ensures ∙ c.came_to-turn.ensures ∙ ap turn_of c.in-Ok.ensures.answer in
    let both = took_done c.take.new.reader.hand in
    (λ over. both.0 (sym same ∙ over), λ over. same ∙ both.1 over)
