use Rattle.std.proofs.Common.{◌≡◌, ◌++◌, take}
use Rattle.gp_wire.specs.Field.{spelled}
use Rattle.gp_wire.specs.Canonical.{messages as message_fields}
use Rattle.gp_wire.proofs.message.put_messages.Given as goal

abbrev pub invariant-loop-message : goal.invariant-loop-message
invariant-loop-message g l =
    l.out.items ≡ l.initial.out.items ++ spelled (message_fields l.number g.M.Message.fields (take l.message-index l.messages))
