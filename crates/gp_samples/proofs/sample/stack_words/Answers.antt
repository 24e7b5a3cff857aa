use Rattle.std.proofs.Common.{◌≡◌, true, ap, sym, ◌∙◌, map, length}
use Rattle.gp_isa.specs.Trace.{trace}
use Rattle.gp_stack.specs.Body.{progress_of, is_over_at}
use Rattle.gp_stack.specs.Word.{word_of}
use Rattle.gp_stack.proofs.Coming.{no_stack}
use Rattle.gp_samples.proofs.sample.stack_words.Goals as goal

pub returns-then-is_over-clause-words : goal.returns-then-is_over-clause-words
returns-then-is_over-clause-words c =
    let p = progress_of c.args.body.now in
    let over : is_over_at c.args.program.now p ≡ true = sym c.is_over.ensures ∙ c.if-is_over.true in
    ap (map word_of) (sym (no_stack (trace c.args.program.now p.start) p.count (length c.args.to.now) over))
