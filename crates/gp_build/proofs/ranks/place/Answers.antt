use Rattle.std.proofs.Common.{ℕ, rules}
use Rattle.std.specs.Ordering.{is_lt}
use Rattle.std.proofs.lemmas.List.Sorted.{IsPartitionPoint-from_clause}
use Rattle.gp_build.specs.kept.Ranks.{name_cmp}
use Rattle.gp_build.proofs.Ranking.{parted}
use Rattle.gp_build.proofs.ranks.place.Goals as goal

pub returns : goal.returns
returns c = record {
  within = c.partition_point.ensures.bound;
  point =
      IsPartitionPoint-from_clause (λ (g : ℕ). is_lt (name_cmp c.args.parts.now g c.args.f)) c.args.order.now c.partition_point.result
      c.partition_point.ensures.partitioned (parted c.args.parts.now c.args.order.now c.requires c.args.f) (λ a r f' k. search rules);
}
