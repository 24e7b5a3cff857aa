-- So many bodies were made, all vacant.
use Rattle.std.proofs.Common.{◌≡◌, length}
use Rattle.std.specs.List.{AllByRecursion}
use Rattle.gp_stack.specs.Body.{HasRoom}
use Rattle.gp_world.proofs.making.unborn.Given as goal

abbrev pub invariant-loop : goal.invariant-loop
invariant-loop l = record {
  each : length l.bodies.items ≡ l.counter;
  vacant : AllByRecursion (HasRoom l.program) l.bodies.items;
}
