use Rattle.std.proofs.Common.{◌≡◌, suc, ◌/◌, length, ap, arith}
use Rattle.gp_wire.specs.Varint.{varint}
use Rattle.gp_wire.proofs.VarintLemmas.{varint-last, varint-more}
use Rattle.gp_wire.proofs.encoding.varint_len.Goals as goal

pub loop-left-preserved : goal.loop-left-preserved
loop-left-preserved c =
    let more : length (varint c.loop-left.left) ≡ suc (length (varint (c.loop-left.left / 128))) =
    ap length (varint-more c.loop-left.left c.loop-left-test.true) in
    (omega arith, omega arith)

pub returns : goal.returns
returns c =
    let last : length (varint c.loop-left.left) ≡ 1 = ap length (varint-last c.loop-left.left c.loop-left-test.false) in
    omega arith
