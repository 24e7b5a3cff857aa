use Rattle.std.proofs.Common.{rules, ◌≡◌, arith, not}
use Rattle.std.specs.Str.{bytes_eq}
use Rattle.std.proofs.lemmas.Fn.{filter_same}
use Rattle.std.proofs.lemmas.Grind.{common_steps}
use Rattle.gp_io.specs.Outside.{File, others}
use Rattle.gp_io.proofs.memory.store.push_last.Goals as goal

pub returns-clause-ok : goal.returns-clause-ok
returns-clause-ok c =
    let kept : c.retain.new.self.items ≡ others c.args.name.now c.reserve.new.self.items =
    filter_same _ (λ (file : File). not (bytes_eq file.0 c.args.name.now)) _ (λ x b f' k. search rules) _ _ c.retain.ensures.filtered
    in grind (arith, common_steps)
