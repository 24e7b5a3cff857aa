use Rattle.std.proofs.Common.{replicate, ap, sym, ◌∙◌, arith}
use Rattle.gp_isa.specs.Trace.{Local, point_at}
use Rattle.gp_isa.specs.kept.Sizes.{size_of}
use Rattle.gp_isa.proofs.Sizes.{size_of-work}
use Rattle.gp_isa.proofs.size.Size.work.Goals as goal

pub returns : goal.returns
returns c f line = size_of-work c.args.n f line (omega arith) c.if-n-eq0.false

pub returns-then-n-eq0 : goal.returns-then-n-eq0
returns-then-n-eq0 c f line = c.none.ensures ∙ ap (λ n. size_of (replicate n (point_at f line Local))) (sym c.if-n-eq0.true)
