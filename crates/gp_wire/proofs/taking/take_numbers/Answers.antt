use Rattle.std.proofs.Common.{sym}
use Rattle.std.proofs.lemmas.List.{append-nil}
use Rattle.gp_wire.proofs.MessageLemmas.{numbers_under-part, numbers_under-alone}
use Rattle.gp_wire.proofs.taking.take_numbers.Goals as goal

pub returns-in-Some-clause-taken : goal.returns-in-Some-clause-taken
returns-in-Some-clause-taken g c =
    rw (numbers_under-part c.args.number c.args.field.now c.in-Some.bytes.now c.in-Some.ensures.part) c.unpack.ensures.taken

pub returns-in_ok-push-clause-taken : goal.returns-in_ok-push-clause-taken
returns-in_ok-push-clause-taken g c =
    rw (numbers_under-alone c.args.number c.args.field.now c.in_default.ensures.part, c.in-Some-number_under.ensures, ← c.of_word.ensures) c.in_ok-push.ensures.ok

pub returns-in_default-number_under-clause-taken : goal.returns-in_default-number_under-clause-taken
returns-in_default-number_under-clause-taken g c =
    rw (numbers_under-alone c.args.number c.args.field.now c.in_default.ensures.part, c.in_default-number_under.ensures) (sym (append-nil c.args.list.now))
