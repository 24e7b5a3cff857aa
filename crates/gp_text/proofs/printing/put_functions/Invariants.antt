use Rattle.std.proofs.Common.{take, flat_map}
use Rattle.gp_text.specs.Text.{function_items}
use Rattle.gp_text.specs.Page.{texts, PutsAll}
use Rattle.gp_text.proofs.printing.put_functions.Given as goal

abbrev pub invariant-loop-function : goal.invariant-loop-function
invariant-loop-function l = PutsAll (texts l.initial.page) (texts l.page) (flat_map (function_items l.parts) (take l.function-index l.function-items))
