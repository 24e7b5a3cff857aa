use Rattle.std.proofs.Common.{◌≡◌, ap, ◌∙◌, arith}
use Rattle.std.proofs.lemmas.Result.{on_ok_weaker}
use Rattle.gp_events.specs.Sums.{added, total_count, total_delay}
use Rattle.gp_events.specs.kept.Buckets.{entered, sums_of_entries}
use Rattle.gp_events.proofs.Entered.{entered_is, count_within, delay_within}
use Rattle.gp_events.proofs.buckets.Buckets.add_stack.Goals as goal

pub enter-requires-clause-count : goal.enter-requires-clause-count
enter-requires-clause-count c =
    let within = count_within c.self.inside.totals.entries c.new.result in
    let same = ap total_count c.self.view_is in omega arith

pub enter-requires-clause-delay : goal.enter-requires-clause-delay
enter-requires-clause-delay c =
    let within = delay_within c.self.inside.totals.entries c.new.result in
    let same = ap total_delay c.self.view_is in omega arith

pub returns-clause-ok : goal.returns-clause-ok
returns-clause-ok c =
    let is : sums_of_entries (entered c.self.inside.totals.entries c.new.result c.from.result c.args.delay) ≡ added c.args.self.now (record { stack = c.args.stack; count = c.args.count; delay = c.args.delay }) =
    entered_is c.self.inside.totals.entries c.new.result c.from.result c.args.delay
    ∙ (λ i. added (c.self.view_is i) (record { stack = c.new.ensures i; count = c.from.ensures i; delay = c.args.delay })) in
    on_ok_weaker c.enter.result (λ e. ap sums_of_entries e ∙ is) c.enter.ensures.ok
