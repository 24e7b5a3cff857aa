use Rattle.std.proofs.Common.{rules, ◌≡◌, ◌+◌, ◌<◌, ◌∙◌, List, [], ℕ, true, sym, subst}
use Rattle.std.specs.Prelude.{replicate}
use Rattle.atomic_table.specs.Table.{opening}
use Rattle.gp_ring.specs.kept.Views.{first_view}
use Rattle.gp_ring.specs.kept.RingRule.{IsRing}
use Rattle.gp_ring.proofs.RingReads.{opens, splits}
use Rattle.gp_ring.proofs.between.new.Goals as goal

pub of_words-requires : goal.of_words-requires
of_words-requires c =
    let words : 0 < c.next_power_of_two.result = search rules in
    let tags : 0 < c.next_power_of_two-2.result = search rules in
    let zeros : c.in_ok-shared.shared.items ≡ replicate (5 + (c.next_power_of_two.result + c.next_power_of_two-2.result)) 0 = search rules in
    subst (λ (ws : List ℕ). IsRing (opening {S = Unit {0}} ws [] (first_view c.args.hdrsize c.next_power_of_two.result c.next_power_of_two-2.result))) (sym (c.as_slice.ensures.value ∙ zeros))
    (opens (Unit {0}) c.args.hdrsize c.next_power_of_two.result c.next_power_of_two-2.result words tags)

pub split_seat-writer_seat-requires : goal.split_seat-writer_seat-requires
split_seat-writer_seat-requires c =
    let writes : c.in_ok-table.seat.me.0.writes ≡ true = search rules in
    (search rules, search rules, splits c.in_ok-table.seat.id c.in_ok-table.seat.me.0 writes)
