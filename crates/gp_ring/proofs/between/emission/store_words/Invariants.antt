use Rattle.std.proofs.Common.{◌≡◌, take}
use Rattle.gp_ring.specs.kept.Views.{with_words}
use Rattle.gp_ring.proofs.between.emission.store_words.Given as goal

-- the first i words are stored
abbrev pub invariant-loop-i : goal.invariant-loop-i
invariant-loop-i l = record {
  table : l.seat.table_id ≡ l.initial.seat.table_id;
  view : l.seat.me ≡ (with_words l.initial.seat.me.0 (take l.i l.words), l.initial.seat.me.1);
}
