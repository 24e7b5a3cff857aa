use Rattle.gp_ring_tests.proofs.Driven.{when-new}
use Rattle.gp_ring_tests.proofs.driver.Driver.new.Goals as goal

pub invariant_of-result : goal.invariant_of-result
invariant_of-result c = when-new c.in_ok-new.field-0 _ _ _ c.law_ring.ensures.empty c.in_ok-new.ensures.empty
