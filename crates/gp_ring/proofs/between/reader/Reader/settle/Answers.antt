use Rattle.std.proofs.Common.{◌<◌, ◌∙◌, sym, ap, subst, arith}
use Rattle.std.specs.Arc.{arc_value}
use Rattle.atomic_table.specs.Seated.{TableId}
use Rattle.gp_ring.specs.TwoEnds.{RingOf, ClosedEnd, ReaderEnd}
use Rattle.gp_ring.proofs.RingReads.{joins}
use Rattle.gp_ring.proofs.between.reader.Reader.settle.Goals as goal

pub join_seat-requires : goal.join_seat-requires
join_seat-requires c =
    let k = c.self.invariant.0 in
    let w = c.closed.invariant in
    let same = ap (λ (e : ClosedEnd). e.ring.table) c.closed.view_is ∙ ap (λ (l : RingOf). l.table) c.requires.ring ∙ sym (ap (λ (e : ReaderEnd). e.ring.table) c.self.view_is) in
    let some : 0 < (arc_value c.self.inside.table).shared.table_id.words = omega (arith, k.seated.size) in (
      k.seated.seat_is ∙ (λ i. (sym c.deref.ensures i).shared.table_id),
      w.seat_is ∙ same ∙ (λ i. (sym c.deref.ensures i).shared.table_id),
      w.alone,
      subst (λ (t : TableId). 0 < t.words) (λ i. (sym c.deref.ensures i).shared.table_id) some,
      joins _ _ _ _ k.reads w.writes,
    )
