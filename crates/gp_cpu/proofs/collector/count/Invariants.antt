use Rattle.gp_cpu.proofs.Counting.{IsCounted}
use Rattle.gp_cpu.proofs.collector.count.Given as goal

abbrev pub invariant-loop-it : goal.invariant-loop-it
invariant-loop-it l = IsCounted l.records l.counts.entries l.it-index
