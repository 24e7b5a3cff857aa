use Rattle.std.proofs.Common.{◌≡◌, map, take, drop}
use Rattle.std.specs.Prelude.{vec_capacity}
use Rattle.gp_ring.specs.kept.Traces.{tags_from}
use Rattle.gp_ring.specs.kept.Views.{with_due_tags}
use Rattle.gp_ring.proofs.between.copying.load_tags.Given as goal

-- the first i tags are loaded
abbrev pub invariant-loop-i : goal.invariant-loop-i
invariant-loop-i l = record {
  table : l.seat.table_id ≡ l.initial.seat.table_id;
  view : l.seat.me ≡ (with_due_tags l.initial.seat.me.0 (drop l.i (tags_from l.from l.initial.seat.me.0.reader.ahead)), l.initial.seat.me.1);
  tags : l.to.items ≡ take l.i (map (λ offer. offer.tag) l.initial.seat.me.0.reader.ahead);
  capacity : vec_capacity l.to ≡ vec_capacity l.initial.to;
}
