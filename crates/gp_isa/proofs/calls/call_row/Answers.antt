use Rattle.std.proofs.Common.{◌||◌, ap, ◌∙◌}
use Rattle.gp_isa.specs.Statement.{most_bodies}
use Rattle.gp_isa.specs.Calls.{calls_in}
use Rattle.gp_isa.specs.kept.Ways.{is_among}
use Rattle.gp_isa.proofs.Rows.{unmarked}
use Rattle.gp_isa.proofs.calls.call_row.Goals as goal

pub returns : goal.returns
returns c h = c.mark_calls-count.ensures.each h ∙ ap (λ b. b || is_among h (calls_in most_bodies c.args.body.now)) (unmarked 256 h)
