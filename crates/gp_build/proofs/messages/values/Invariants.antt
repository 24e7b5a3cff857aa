use Rattle.std.proofs.Common.{◌≡◌, take, All}
use Rattle.gp_wire.specs.RoundTrip.{IsInt64}
use Rattle.gp_build.proofs.messages.values.Given as goal

abbrev pub invariant-loop-value : goal.invariant-loop-value
invariant-loop-value l = record {
  are : l.copy ≡ take l.value-index l.values;
  fit : All IsInt64 l.copy;
}
