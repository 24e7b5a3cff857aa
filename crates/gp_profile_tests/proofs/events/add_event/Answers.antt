use Rattle.std.proofs.Common.{◌≡◌, ◌<◌, ◌+◌, ◌^◌, List, sym, subst, arith}
use Rattle.gp_events.specs.Sums.{added, total_count, total_delay}
use Rattle.gp_events.specs.Event.{Event}
use Rattle.gp_events.specs.declared.sum.Sum.{Sum}
use Rattle.gp_events.proofs.Lemmas.{total_count-added, total_delay-added}
use Rattle.gp_profile_tests.proofs.events.add_event.Goals as goal

count_grows : (before after : List Sum) (event : Event) → after ≡ added before event → event.count < 2 ^ 64
    → total_count after < total_count before + 2 ^ 64
count_grows before after event is small = subst (λ all. total_count all < total_count before + 2 ^ 64) (sym is)
    (let more = total_count-added before event in omega arith)

delay_grows : (before after : List Sum) (event : Event) → after ≡ added before event → event.delay < 2 ^ 64
    → total_delay after < total_delay before + 2 ^ 64
delay_grows before after event is small = subst (λ all. total_delay all < total_delay before + 2 ^ 64) (sym is)
    (let more = total_delay-added before event in omega arith)

pub returns-clause-count : goal.returns-clause-count
returns-clause-count c = count_grows c.args.buckets.now c.add.new.self
    (record { stack = c.in_ok-stack.stack; count = c.in_ok-count.count; delay = c.from.result }) c.in_ok-add.ensures.ok (omega arith)

pub returns-clause-delay : goal.returns-clause-delay
returns-clause-delay c = delay_grows c.args.buckets.now c.add.new.self
    (record { stack = c.in_ok-stack.stack; count = c.in_ok-count.count; delay = c.from.result }) c.in_ok-add.ensures.ok (omega arith)
