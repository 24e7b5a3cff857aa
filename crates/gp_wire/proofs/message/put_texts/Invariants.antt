use Rattle.std.proofs.Common.{◌≡◌, ◌++◌, take}
use Rattle.gp_wire.specs.Field.{spelled}
use Rattle.gp_wire.specs.Canonical.{texts as text_fields}
use Rattle.gp_wire.proofs.message.put_texts.Given as goal

abbrev pub invariant-loop-text : goal.invariant-loop-text
invariant-loop-text l =
    l.out.items ≡ l.initial.out.items ++ spelled (text_fields l.number (take l.text-index l.texts))
