use Rattle.std.proofs.Common.{◌∙◌, refl, ap}
use Rattle.gp_journal.specs.State.{nobody, is_behind}
use Rattle.gp_machine.specs.kept.Crowd.{Crowd}
use Rattle.gp_journal.specs.Standing.{first_behind}
use Rattle.gp_machine.proofs.Marked.{same_position}
use Rattle.gp_machine.proofs.goroutines.Goroutines.unrecorded.Goals as goal

pub returns : goal.returns
returns c =
    let inside = c.self.inside in
    c.least.ensures
    ∙ same_position (is_behind inside.active) nobody inside.unrecorded inside.all.items refl c.self.invariant.behind
    ∙ ap (λ (crowd : Crowd). first_behind crowd.active crowd.all) c.self.view_is
