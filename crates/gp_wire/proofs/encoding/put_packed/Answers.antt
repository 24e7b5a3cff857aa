use Rattle.std.proofs.Common.{◌≡◌, ◌<◌, length, rules}
use Rattle.std.proofs.lemmas.Result.{IfOk-equal}
use Rattle.gp_wire.proofs.FieldLemmas.{packed-none, packed-some}
use Rattle.gp_wire.proofs.encoding.put_packed.Goals as goal

pub returns-then-is_empty : goal.returns-then-is_empty
returns-then-is_empty g c =
    let none : length c.args.items.now ≡ 0 = search rules in
    packed-none g.T.Word.word c.args.number c.args.items.now c.args.out.now.items none

pub returns : goal.returns
returns g c =
    let some : 0 < length c.args.items.now = search rules in
    IfOk-equal _ _ _ _ c.pack.ensures
    (rw (c.in_ok-put_head.ensures, c.in_ok-packed_len.ensures)
    (packed-some g.T.Word.word c.args.number c.args.items.now c.args.out.now.items some))
