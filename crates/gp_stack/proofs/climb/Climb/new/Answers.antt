use Rattle.std.proofs.Common.{rules, ap, reverse}
use Rattle.std.proofs.lemmas.List.{take_all}
use Rattle.gp_stack.specs.kept.Level.{callers, is_base}
use Rattle.gp_stack.specs.kept.Climb.{frames_left}
use Rattle.gp_stack.proofs.climb.Climb.new.Goals as goal

pub returns-clause-frames : goal.returns-clause-frames
unfolding frames_left
returns-clause-frames c parts =
    ap (λ levels. callers parts (is_base c.args.place.now.top) (reverse levels)) (take_all c.len.result c.args.place.now.outer.items (search rules))
