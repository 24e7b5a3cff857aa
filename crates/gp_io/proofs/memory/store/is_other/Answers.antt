use Rattle.std.proofs.Common.{not, ap, ◌∙◌}
use Rattle.std.specs.Str.{bytes_eq}
use Rattle.gp_io.proofs.memory.store.is_other.Goals as goal

pub returns : goal.returns
returns c = c.ne.ensures ∙ ap (λ name. not (bytes_eq name c.args.name.now)) c.as_str.ensures
