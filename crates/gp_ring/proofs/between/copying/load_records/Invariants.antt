use Rattle.std.proofs.Common.{◌≡◌, ◌%◌, take, drop}
use Rattle.std.specs.Prelude.{vec_capacity}
use Rattle.std.specs.List.{flat_map}
use Rattle.gp_ring.specs.PlainRing.{piece_for}
use Rattle.gp_ring.specs.Counts.{behind_all}
use Rattle.gp_ring.specs.kept.Traces.{all_laid}
use Rattle.gp_ring.specs.kept.Views.{with_due}
use Rattle.gp_ring.proofs.between.copying.load_records.Given as goal

-- the words of the first i records are loaded
abbrev pub invariant-loop : goal.invariant-loop
invariant-loop l =
    let v = l.initial.seat.me.0 in
    let from = behind_all l.initial.seat.me.0.len 0 l.initial.seat.me.0.reader.pulled in
    let count = behind_all l.initial.seat.me.0.len from (take l.counter l.initial.seat.me.0.reader.ahead) in
    record {
      table : l.seat.table_id ≡ l.initial.seat.table_id;
      view : l.seat.me ≡ (with_due v (all_laid v.len count (drop l.counter v.reader.ahead)), l.initial.seat.me.1);
      place : l.place ≡ count % v.len;
      words : l.to.items ≡ flat_map (λ offer. (piece_for offer).words) (take l.counter v.reader.ahead);
      capacity : vec_capacity l.to ≡ vec_capacity l.initial.to;
    }
