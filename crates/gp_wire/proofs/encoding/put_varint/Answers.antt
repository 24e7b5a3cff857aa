use Rattle.std.proofs.Common.{append_assoc}
use Rattle.gp_wire.proofs.VarintLemmas.{varint-last, varint-more}
use Rattle.gp_wire.proofs.encoding.put_varint.Goals as goal

pub loop-left-preserved : goal.loop-left-preserved
loop-left-preserved c =
    let more = varint-more c.loop-left.left c.loop-left-test.true in
    rw (c.in_ok-push.ensures.items, append_assoc, ← more) c.loop-left.invariant

pub returns : goal.returns
returns c =
    let last = varint-last c.loop-left.left c.loop-left-test.false in
    rw (c.in_ok-push-2.ensures.items, ← last) c.loop-left.invariant
