use Rattle.std.proofs.Common.{◌++◌, ap, ◌∙◌}
use Rattle.gp_io.proofs.memory.sink.append.Goals as goal

pub returns-in-Ok-clause-ok : goal.returns-in-Ok-clause-ok
returns-in-Ok-clause-ok c =
    c.from_vec.ensures ∙ (c.in-Ok.ensures.items ∙ ap (λ bytes. bytes ++ c.args.piece.now) (c.into_vec-bytes.ensures ∙ c.replace.ensures.value))

pub returns-in-Err-clause-err : goal.returns-in-Err-clause-err
returns-in-Err-clause-err c = c.from_vec.ensures ∙ (c.in-Err.ensures.items ∙ (c.into_vec-bytes.ensures ∙ c.replace.ensures.value))
