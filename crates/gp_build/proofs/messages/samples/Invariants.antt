use Rattle.std.proofs.Common.{◌≡◌, take, map, All}
use Rattle.gp_wire.specs.RoundTrip.{SampleFits}
use Rattle.gp_build.specs.Message.{sample_of}
use Rattle.gp_build.proofs.messages.samples.Given as goal

abbrev pub invariant-loop-item : goal.invariant-loop-item
invariant-loop-item l = record {
  are : l.messages ≡ map (sample_of l.parts l.strings.keys l.locations.keys) (take l.item-index l.samples);
  fit : All SampleFits l.messages;
}
