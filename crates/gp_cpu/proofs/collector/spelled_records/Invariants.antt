use Rattle.gp_cpu.proofs.Batching.{IsRead}
use Rattle.gp_cpu.proofs.collector.spelled_records.Given as goal

abbrev pub invariant-loop-tag : goal.invariant-loop-tag
invariant-loop-tag l = IsRead l.words l.tags l.rest l.records.items l.tag-index
