use Rattle.std.proofs.Common.{◌≡◌, ◌++◌, codes, rules}
use Rattle.gp_text.specs.Page.{texts}
use Rattle.gp_text.proofs.Puts.{puts_append, then_puts, function_is}
use Rattle.gp_text.proofs.printing.put_function.Goals as goal

pub returns : goal.returns
returns c =
    let text : c.as_str.result.now ≡ codes "func " ++ (c.as_str-name.result.now ++ codes " {") = search rules in
    then_puts c.put-2.result (texts c.args.page.now) (texts c.put_body.new.page) (texts c.put-2.new.page) _ _ _
    (puts_append (texts c.args.page.now) (texts c.put.new.page) (texts c.put_body.new.page) _ _ c.in_ok-put.ensures c.in_ok-put_body.ensures) c.put-2.ensures
    (function_is c.args.parts.now c.args.function.now c.as_slice.result.now c.as_str-name.result.now c.as_str.result.now c.as_str-name.ensures c.as_slice.ensures text)
