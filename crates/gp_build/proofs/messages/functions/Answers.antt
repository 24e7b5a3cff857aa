use Rattle.std.proofs.Common.{List, All, sym, subst}
use Rattle.std.proofs.lemmas.List.Elements.{All-push}
use Rattle.gp_wire.specs.declared.profile.Function.{Function}
use Rattle.gp_wire.specs.RoundTrip.{FunctionFits}
use Rattle.gp_build.specs.Message.{function_in}
use Rattle.gp_build.proofs.Steps.{map_step}
use Rattle.gp_build.proofs.messages.functions.Goals as goal

pub loop-routine-preserved : goal.loop-routine-preserved
loop-routine-preserved c = record {
  are = map_step (function_in c.args.parts.now c.args.file.now c.args.strings.now.keys c.args.table.now.keys)
      c.as_slice-routine-items.result.now c.loop-routine.routine-index _ _ _ _ c.loop-routine-test.true
      c.loop-routine.invariant.are c.function.ensures.function c.in_ok-push.ensures.ok;
  fit = subst (λ (all : List Function). All FunctionFits all) (sym c.in_ok-push.ensures.ok)
      (All-push FunctionFits c.loop-routine.functions c.function.result c.loop-routine.invariant.fit c.function.ensures.fits);
}
