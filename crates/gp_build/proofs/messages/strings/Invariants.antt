use Rattle.std.proofs.Common.{◌≡◌, take, map, All}
use Rattle.gp_wire.specs.RoundTrip.{IsText}
use Rattle.gp_build.specs.Numbers.{text_of}
use Rattle.gp_build.proofs.messages.strings.Given as goal

abbrev pub invariant-loop-need : goal.invariant-loop-need
invariant-loop-need l = record {
  are : l.strings ≡ map text_of (take l.need-index l.need-items);
  fit : All IsText l.strings;
}
