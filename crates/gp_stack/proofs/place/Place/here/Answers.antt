use Rattle.std.proofs.Common.{refl, ◌∙◌}
use Rattle.gp_stack.proofs.place.Place.here.Goals as goal

pub returns : goal.returns
returns c = record { statements = c.block.ensures.statements ∙ (rw c.as_slice.ensures.value refl); kept = c.block.ensures.block }
