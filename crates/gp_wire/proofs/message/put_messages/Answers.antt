use Rattle.std.proofs.Common.{refl}
use Rattle.std.proofs.lemmas.List.{append-nil}
use Rattle.gp_wire.specs.Field.{spelled}
use Rattle.gp_wire.specs.Canonical.{part, messages}
use Rattle.gp_wire.proofs.FieldLemmas.{spelled-nil, spelled_more}
use Rattle.gp_wire.proofs.message.put_messages.Goals as goal

pub loop-message-init : goal.loop-message-init
unfolding messages
loop-message-init g c = rw (spelled-nil, append-nil) refl

pub loop-message-preserved : goal.loop-message-preserved
unfolding messages
loop-message-preserved g c =
    let fields = g.M.Message.fields in
    let more = spelled_more (λ item. part c.args.number (spelled (fields item))) c.args.out.now.items c.args.messages.now c.loop-message.message-index c.message-item.result c.loop-message-test.true in
    rw (c.in_ok-put_message.ensures, c.loop-message.invariant, c.message-item.is) more
