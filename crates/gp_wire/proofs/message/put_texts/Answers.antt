use Rattle.std.proofs.Common.{refl}
use Rattle.std.proofs.lemmas.List.{append-nil}
use Rattle.gp_wire.specs.Canonical.{part, texts}
use Rattle.gp_wire.proofs.FieldLemmas.{spelled-nil, spelled_more}
use Rattle.gp_wire.proofs.message.put_texts.Goals as goal

pub loop-text-init : goal.loop-text-init
unfolding texts
loop-text-init c = rw (spelled-nil, append-nil) refl

pub loop-text-preserved : goal.loop-text-preserved
unfolding texts
loop-text-preserved c =
    let more = spelled_more (part c.args.number) c.args.out.now.items c.args.texts.now c.loop-text.text-index c.text-item.result c.loop-text-test.true in
    rw (c.in_ok-put_part.ensures, c.loop-text.invariant, c.as_bytes.ensures, c.text-item.is) more
