use Rattle.std.proofs.Common.{◌+◌, arith, vec_len}
use Rattle.std.proofs.lemmas.Result.{err_from_is_err_and}
use Rattle.gp_io.proofs.Taken.{TakesAtMost-after}
use Rattle.gp_io.proofs.whole.read_all.Goals as goal

pub returns-in_err-read_block-clause-some_taken : goal.returns-in_err-read_block-clause-some_taken
returns-in_err-read_block-clause-some_taken g c =
    let p = err_from_is_err_and c.from_residual.result c.from_residual.ensures.1 in
    let bytes = c.loop-source.bytes in
    rw (p.1, p.2)
    (λ e. TakesAtMost-after (c.args.limit + 1) (vec_len bytes) _ _ _ bytes.items (omega arith) (omega arith) c.loop-source.invariant.taken (c.in_err-read_block.ensures.some_taken (cc)))
