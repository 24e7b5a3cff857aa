use Rattle.std.proofs.Common.{◌≡◌, ◌+◌, ◌<◌, ◌^◌, ℕ, List, sym, ◌∙◌, subst, get_or, rules}
use Rattle.gp_cpu.specs.declared.sum.CpuKey.{CpuKey}
use Rattle.gp_cpu.specs.Sums.{key_of, samples_of}
use Rattle.gp_cpu.specs.kept.Counts.{entered}
use Rattle.gp_cpu.proofs.Counting.{IsCounted, counted_none, counted_more, count_fits}
use Rattle.gp_cpu.proofs.collector.count.Goals as goal

pub loop-it-init : goal.loop-it-init
loop-it-init c =
    subst (λ (es : List (CpuKey × ℕ)). IsCounted c.args.records.now es 0) (sym c.new-counts.ensures.empty) (counted_none c.args.records.now)

pub enter-requires : goal.enter-requires
enter-requires c =
    let few : c.loop-it.it-index < 2 ^ 64 = search rules in
    let fits : c.samples.result < 2 ^ 64 = search rules in
    count_fits c.args.records.now c.loop-it.counts.entries c.loop-it.it-index c.samples.result c.in_ok-key.key c.loop-it.invariant few fits

pub loop-it-preserved : goal.loop-it-preserved
loop-it-preserved c =
    let it = c.it-item.result in
    let fits : samples_of it < 2 ^ 64 = subst (λ (n : ℕ). n < 2 ^ 64) c.samples.ensures (search rules) in
    let at : get_or c.args.records.now c.loop-it.it-index it ≡ it = search rules in
    let more = counted_more c.args.records.now c.loop-it.counts.entries c.loop-it.it-index it c.loop-it.invariant c.loop-it-test.true at fits in
    let entries : c.enter.new.counts.entries ≡ entered c.loop-it.counts.entries (key_of it) (samples_of it) =
    c.in_ok-enter.ensures ∙ (λ i. entered c.loop-it.counts.entries (c.in_ok-key.ensures i) (c.samples.ensures i)) in
    subst (λ (es : List (CpuKey × ℕ)). IsCounted c.args.records.now es (c.loop-it.it-index + 1)) (sym entries) more
