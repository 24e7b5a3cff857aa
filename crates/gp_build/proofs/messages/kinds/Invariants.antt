use Rattle.std.proofs.Common.{◌≡◌, take, map, All}
use Rattle.gp_wire.specs.RoundTrip.{TypeFits}
use Rattle.gp_build.specs.Message.{type_of}
use Rattle.gp_build.proofs.messages.kinds.Given as goal

abbrev pub invariant-loop-item : goal.invariant-loop-item
invariant-loop-item l = record {
  are : l.types ≡ map (type_of l.strings.keys) (take l.item-index l.kinds);
  fit : All TypeFits l.types;
}
