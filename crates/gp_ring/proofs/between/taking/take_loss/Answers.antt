use Rattle.std.proofs.Common.{◌∙◌, ℕ, List, true, false, ap, refl, sym, subst}
use Rattle.atomic_table.specs.Table.{Me}
use Rattle.gp_ring.specs.PlainRing.{Found, Taken, Nothing}
use Rattle.gp_ring.specs.TwoEnds.{Acts}
use Rattle.gp_ring.specs.kept.Halves.{reader_end}
use Rattle.gp_ring.specs.kept.Views.{with_time, with_loss, without_loss}
use Rattle.gp_ring.specs.declared.between.view.View.{View}
use Rattle.gp_ring.proofs.Acted.{none-ahead, loss-acts, race-acts, goes-reading}
use Rattle.gp_ring.proofs.between.taking.take_loss.Goals as goal

pub exchange_loss-found-requires-clause-none_ahead : goal.exchange_loss-found-requires-clause-none_ahead
exchange_loss-found-requires-clause-none_ahead c =
    ap (λ (m : Me Unit View). m.0.reader.ahead) c.load_since-time.ensures.view
    ∙ none-ahead c.args.shared.now.table_id _ Nothing c.args.r _ _ _ c.requires.seen c.requires.reading.read_tags c.requires.none

pub returns-then-found-overflow-clause-reading : goal.returns-then-found-overflow-clause-reading
returns-then-found-overflow-clause-reading c =
    let t = c.load_since-time.ensures.view in
    let e = c.exchange_loss-found.ensures.raced c.if-found-overflow.true ∙ (λ i. (without_loss (t i).0 c.exchange_loss-found.result, (t i).1)) in
    goes-reading _ _ _ c.args.seat.now.me c.exchange_loss-found.new.seat.me (without_loss (with_time c.args.seat.now.me.0 c.load_since-time.result) c.exchange_loss-found.result) c.args.sizes c.args.r
    c.requires.reading (c.exchange_loss-found.ensures.table ∙ c.load_since-time.ensures.table) e refl refl refl refl refl

pub returns-then-found-overflow-clause-acts : goal.returns-then-found-overflow-clause-acts
returns-then-found-overflow-clause-acts c = λ (hand : Found) (words tag_words : List ℕ).
    let t = c.load_since-time.ensures.view in
    let e = c.exchange_loss-found.ensures.raced c.if-found-overflow.true ∙ (λ i. (without_loss (t i).0 c.exchange_loss-found.result, (t i).1)) in
    race-acts c.args.shared.now.table_id _ hand c.args.r _ _ _ c.requires.seen c.requires.reading.read_tags c.exchange_loss-found.new.seat.me.0 c.load_since-time.result c.exchange_loss-found.result
    c.requires.none c.requires.pending c.if-found-overflow.true (ap (λ (m : Me Unit View). m.0) e)

pub returns-clause-reading : goal.returns-clause-reading
returns-clause-reading c =
    let t = c.load_since-time.ensures.view in
    let e = c.exchange_loss-found.ensures.won c.if-found-overflow.false ∙ (λ i. (with_loss (t i).0 c.exchange_loss-found.result, (t i).1)) in
    goes-reading _ _ _ c.args.seat.now.me c.exchange_loss-found.new.seat.me (with_loss (with_time c.args.seat.now.me.0 c.load_since-time.result) c.exchange_loss-found.result) c.args.sizes c.args.r
    c.requires.reading (c.exchange_loss-found.ensures.table ∙ c.load_since-time.ensures.table) e refl refl refl refl refl

pub returns-clause-acts : goal.returns-clause-acts
returns-clause-acts c = λ (hand : Found) (words tag_words : List ℕ).
    let t = c.load_since-time.ensures.view in
    let e = c.exchange_loss-found.ensures.won c.if-found-overflow.false ∙ (λ i. (with_loss (t i).0 c.exchange_loss-found.result, (t i).1)) in
    subst (λ (k : ℕ). Acts (reader_end c.args.shared.now.table_id c.args.seat.now.me.0 true hand) (reader_end c.args.shared.now.table_id c.exchange_loss-found.new.seat.me.0 false (Taken k c.load_since-time.result)))
    (sym c.count_of-count.ensures)
    (loss-acts c.args.shared.now.table_id _ hand c.args.r _ _ _ c.requires.seen c.requires.reading.read_tags c.exchange_loss-found.new.seat.me.0 c.load_since-time.result c.exchange_loss-found.result
    c.requires.none c.requires.pending c.if-found-overflow.false (ap (λ (m : Me Unit View). m.0) e))
