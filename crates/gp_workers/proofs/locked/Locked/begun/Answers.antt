use Rattle.std.proofs.Common.{sym, subst, vec_capacity}
use Rattle.gp_workers.specs.kept.Locked.{Fit}
use Rattle.gp_workers.proofs.locked.Locked.begun.Goals as goal

pub invariant_of-result : goal.invariant_of-result
invariant_of-result g c = record {
  its_book = c.requires.begun.its_book;
  its_ring = c.requires.begun.its_ring;
  fit = subst (λ j. Fit g.R.Run.program g.R.Run.settings j (vec_capacity c.args.bodies) c.args.bodies.items) (sym c.requires.begun.empty) c.requires.bodies;
}
