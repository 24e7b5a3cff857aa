use Rattle.std.proofs.Common.{◌≡◌, take, map, All}
use Rattle.gp_wire.specs.RoundTrip.{LabelFits}
use Rattle.gp_build.specs.Message.{label_of}
use Rattle.gp_build.proofs.messages.labels.Given as goal

abbrev pub invariant-loop-pair : goal.invariant-loop-pair
invariant-loop-pair l = record {
  are : l.labels ≡ map (label_of l.strings.keys) (take l.pair-index l.pairs);
  fit : All LabelFits l.labels;
}
