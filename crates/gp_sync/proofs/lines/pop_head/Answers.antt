use Rattle.std.proofs.Common.{sym, arith}
use Rattle.gp_sync.proofs.Linking.{head_within, first_at, some_at, empty_line, no_head, linked_popped, without_popped}
use Rattle.gp_sync.proofs.lines.pop_head.Goals as goal

pub head-requires : goal.head-requires
head-requires c = λ some.
    let within = head_within c.args.next.now c.args.since.now c.args.lines.now c.args.at c.requires.linked c.requires.there some in
    omega (arith, within, c.requires.linked.clocks)

pub shortened-requires-clause-some : goal.shortened-requires-clause-some
shortened-requires-clause-some c =
    some_at c.args.next.now c.args.since.now c.args.lines.now c.args.at c.in_ok-head.head (c.in_ok-head.ensures c.args.next.now)

pub shortened-requires-clause-within : goal.shortened-requires-clause-within
shortened-requires-clause-within c =
    let some = some_at c.args.next.now c.args.since.now c.args.lines.now c.args.at c.in_ok-head.head (c.in_ok-head.ensures c.args.next.now) in
    head_within c.args.next.now c.args.since.now c.args.lines.now c.args.at c.requires.linked c.requires.there some

pub returns-clause-linked : goal.returns-clause-linked
returns-clause-linked c =
    rw c.shortened.ensures
    (linked_popped c.args.next.now c.args.since.now c.args.lines.now c.args.at c.requires.linked c.requires.there)

pub returns-clause-head : goal.returns-clause-head
returns-clause-head c =
    first_at c.args.next.now c.args.since.now c.args.lines.now c.args.at c.in_ok-head.head (c.in_ok-head.ensures c.args.next.now)

pub returns-clause-lines : goal.returns-clause-lines
returns-clause-lines c =
    rw c.shortened.ensures
    (without_popped c.args.next.now c.args.since.now c.args.lines.now c.args.at c.requires.linked c.requires.there)

pub returns-in_err-head-clause-none : goal.returns-in_err-head-clause-none
returns-in_err-head-clause-none c =
    let none = empty_line c.args.next.now c.args.since.now c.args.lines.now c.args.at (c.in_err-head.ensures c.args.next.now) in
    rw c.from_residual.ensures none

pub returns-in_err-head-clause-lines : goal.returns-in_err-head-clause-lines
returns-in_err-head-clause-lines c =
    let none = empty_line c.args.next.now c.args.since.now c.args.lines.now c.args.at (c.in_err-head.ensures c.args.next.now) in
    sym (no_head _ c.args.at none)
