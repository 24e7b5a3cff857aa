use Rattle.std.proofs.Common.{◌≡◌, ◌++◌, take}
use Rattle.std.specs.Prelude.{vec_capacity}
use Rattle.gp_ring.specs.kept.Traces.{words_in}
use Rattle.gp_ring.specs.kept.Views.{without_words}
use Rattle.gp_ring.proofs.between.copying.load_words.Given as goal

-- the first i words are loaded
abbrev pub invariant-loop-i : goal.invariant-loop-i
invariant-loop-i l = record {
  table : l.seat.table_id ≡ l.initial.seat.table_id;
  view : l.seat.me ≡ (without_words l.initial.seat.me.0 l.i, l.initial.seat.me.1);
  words : l.to.items ≡ l.initial.to.items ++ words_in (take l.i l.initial.seat.me.0.reader.due);
  capacity : vec_capacity l.to ≡ vec_capacity l.initial.to;
}
