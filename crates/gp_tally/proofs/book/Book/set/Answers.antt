use Rattle.std.proofs.Common.{◌∙◌, ◌<◌, sym, ap, subst}
use Rattle.gp_tally.specs.Rows.{Rows, Part}
use Rattle.gp_tally.proofs.Agreeing.{joins_at, splits_at, in_hand, in_book}
use Rattle.gp_tally.proofs.book.Book.set.Goals as goal

pub join_seat-requires : goal.join_seat-requires
join_seat-requires c =
    let i = c.self.invariant in
    let seat = c.into_seat.ensures in
    let badge = c.replace-badge.ensures.value in
    let same = ap (λ (p : Part). p.book) c.share.view_is ∙ c.requires ∙ sym (ap (λ (b : Rows). b.book) c.self.view_is) in
    (i.0, seat.0 ∙ ap (λ b. b.table_id) badge ∙ same, seat.3, i.1, joins_at _ _ _ _ _ _ _ _ i.2 seat.2 (ap (λ b. b.views) badge ∙ c.share.invariant))

pub split_seat-requires : goal.split_seat-requires
split_seat-requires c =
    let i = c.self.invariant in
    (c.change.ensures.table ∙ c.join_seat.ensures.0 ∙ i.0, i.1, splits_at _ _ _ _ _ c.change.ensures.view)

pub index_mut-requires : goal.index_mut-requires
index_mut-requires c =
    let i = c.self.invariant in
    let seat = c.into_seat.ensures in
    let badge = c.replace-badge.ensures.value in
    let hand = in_hand _ _ _ _ _ _ _ i.2 seat.2 (ap (λ b. b.views) badge ∙ c.share.invariant) c.join_seat.ensures.2 in
    subst (λ k. c.share.inside.number < k) (sym c.self.inside.rows.ok.0) (in_book _ _ _ _ hand c.change.ensures.agree)
