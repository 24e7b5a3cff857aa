use Rattle.gp_text.specs.Text.{function_items}
use Rattle.gp_text.specs.Page.{texts}
use Rattle.gp_text.proofs.Puts.{puts_more}
use Rattle.gp_text.proofs.printing.put_functions.Goals as goal

pub loop-function-preserved : goal.loop-function-preserved
loop-function-preserved c =
    puts_more (function_items c.args.parts.now) (texts c.args.page.now) (texts c.loop-function.page) (texts c.put_function.new.page) c.as_slice-function-items.result.now c.loop-function.function-index c.function-item.result
    c.loop-function-test.true c.function-item.is c.loop-function.invariant c.in_ok-put_function.ensures
