use Rattle.std.proofs.Common.{inl, inr, refl}
use Rattle.gp_top.proofs.finish.tell.Goals as goal

pub returns-in-Ok : goal.returns-in-Ok
returns-in-Ok g c = inl (refl, (c.in-Ok.ensures.whole, c.in-Ok.ensures.well))

pub returns-in-Err : goal.returns-in-Err
returns-in-Err g c = inr (refl, (c.in-Err.ensures.prefix, c.in-Err.ensures.failed))
