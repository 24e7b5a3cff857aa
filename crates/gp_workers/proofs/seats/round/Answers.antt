use Rattle.std.proofs.Common.{rules, ap, ◌∙◌}
use Rattle.std.proofs.Math.Seq.{map-set_same}
use Rattle.gp_workers.proofs.seats.round.Goals as goal

pub loop-k-preserved : goal.loop-k-preserved
loop-k-preserved g c = record {
  same = map-set_same (λ seat. seat.number) c.loop-k.seats.items c.loop-k.k c.play.new.self c.index_mut.result.now (c.play.ensures ∙ ap (λ seat. seat.number) c.index_mut.ensures.value) ∙ c.loop-k.invariant.same;
  long = search rules;
}
