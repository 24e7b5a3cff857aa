use Rattle.gp_text.proofs.Texts.{ok_at_text}
use Rattle.gp_text.proofs.declare.copied.Goals as goal

pub unwrap-requires : goal.unwrap-requires
unwrap-requires c = ok_at_text c.args.bytes.now _ _ _ c.requires c.from_utf8.ensures.cases
