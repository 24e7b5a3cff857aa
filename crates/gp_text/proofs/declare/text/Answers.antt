use Rattle.std.proofs.Common.{◌≡◌, true, ap, ◌∙◌}
use Rattle.gp_text.specs.Line.{is_name}
use Rattle.gp_text.proofs.Texts.{name_utf8}
use Rattle.gp_text.proofs.declare.text.Goals as goal

pub copied-requires : goal.copied-requires
copied-requires c =
    let named : is_name c.bytes.result.now ≡ true = ap is_name c.bytes.ensures ∙ c.requires in
    name_utf8 c.bytes.result.now named
