use Rattle.std.proofs.Common.{◌≡◌, refl, ap, subst, ◌∙◌}
use Rattle.gp_ring.specs.PlainRing.{PlainRing, acted, looked}
use Rattle.gp_ring.specs.Shown.{Shows}
use Rattle.gp_ring.proofs.Acting.{read-goes}
use Rattle.gp_ring.proofs.ring.Ring.read.Goals as goal

pub returns : goal.returns
returns c =
    let e : c.advance.new.self ≡ acted (looked c.args.self.now) = c.advance.ensures ∙ ap acted c.look.ensures.after in (
      (refl, λ _. tt, e),
      record { answer = subst (λ (v : PlainRing). Shows v.hand c.shown.result) e c.shown.ensures; after = tt; follows = read-goes c.args.self.now },
    )
