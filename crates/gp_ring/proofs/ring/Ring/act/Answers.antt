use Rattle.std.proofs.Common.{refl, subst}
use Rattle.gp_ring.specs.PlainRing.{PlainRing}
use Rattle.gp_ring.specs.Shown.{Shows}
use Rattle.gp_ring.proofs.Acting.{act-goes}
use Rattle.gp_ring.proofs.ring.Ring.act.Goals as goal

pub returns : goal.returns
returns c = (
  (refl, λ _. tt, c.advance.ensures),
  record { answer = subst (λ (v : PlainRing). Shows v.hand c.shown.result) c.advance.ensures c.shown.ensures; after = tt; follows = act-goes c.args.self.now },
)
