use Rattle.std.proofs.Common.{◌≡◌, true, false, sym, ◌∙◌}
use Rattle.std.proofs.lemmas.Bool.{not-true, not-false}
use Rattle.gp_wire.specs.Valid.{is_id_among}
use Rattle.gp_wire.proofs.IdLemmas.{zero_id, twin_id, id_step}
use Rattle.gp_wire.proofs.whole.id_set.Goals as goal

pub returns-then-id-eq0 : goal.returns-then-id-eq0
returns-then-id-eq0 g c =
    zero_id g.M.HasId.id_of c.args.items.now c.loop-item.item-index c.item-item.result c.id-id.result c.loop-item-test.true c.item-item.is c.id-id.ensures c.if-id-eq0.true

pub returns-then-not-new : goal.returns-then-not-new
returns-then-not-new g c =
    let keys = c.loop-item.set.keys in
    let among : is_id_among keys c.id-id.result ≡ true = not-false (is_id_among keys c.id-id.result) (sym c.in_ok-new.ensures.added ∙ c.if-not-new.true) in
    twin_id g.M.HasId.id_of c.args.items.now c.loop-item.item-index c.item-item.result c.id-id.result keys c.loop-item-test.true c.item-item.is c.id-id.ensures c.loop-item.invariant.0 among

pub loop-item-preserved : goal.loop-item-preserved
loop-item-preserved g c =
    let keys = c.loop-item.set.keys in
    let fresh : is_id_among keys c.id-id.result ≡ false = not-true (is_id_among keys c.id-id.result) (sym c.in_ok-new.ensures.added ∙ c.if-not-new.false) in
    id_step g.M.HasId.id_of c.args.items.now c.loop-item.item-index c.item-item.result c.id-id.result keys c.insert.new.self.keys c.loop-item-test.true c.item-item.is c.id-id.ensures
    c.if-id-eq0.false c.loop-item.invariant.0 c.loop-item.invariant.1 fresh c.in_ok-new.ensures.keys
