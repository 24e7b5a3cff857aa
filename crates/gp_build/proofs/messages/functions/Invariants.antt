use Rattle.std.proofs.Common.{◌≡◌, take, map, All}
use Rattle.gp_wire.specs.RoundTrip.{FunctionFits}
use Rattle.gp_build.specs.Message.{function_in}
use Rattle.gp_build.proofs.messages.functions.Given as goal

abbrev pub invariant-loop-routine : goal.invariant-loop-routine
invariant-loop-routine l = record {
  are : l.functions ≡ map (function_in l.parts l.file l.strings.keys l.table.keys) (take l.routine-index l.routine-items);
  fit : All FunctionFits l.functions;
}
