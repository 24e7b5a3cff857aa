use Rattle.std.proofs.Common.{sym, ap, ◌∙◌}
use Rattle.gp_build.specs.kept.Ranks.{ranked_cmp}
use Rattle.gp_build.specs.kept.Spelled.{number_cmp}
use Rattle.gp_build.proofs.Ranking.{ranked_total}
use Rattle.gp_build.proofs.Spelling.{number_itself}
use Rattle.gp_build.proofs.spelled.compare_numbers.Goals as goal

-- A block is equal to itself.
pub returns-then-n-m : goal.returns-then-n-m
returns-then-n-m c =
    sym (ap (number_cmp (ranked_cmp c.args.ranks.now) c.args.table.now c.args.n) (sym c.if-n-m.true)
    ∙ number_itself (ranked_cmp c.args.ranks.now) c.args.table.now (ranked_total c.args.ranks.now) c.args.n)
