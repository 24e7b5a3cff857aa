use Rattle.std.proofs.Common.{◌≡◌, ◌++◌, take, flat_map, codes}
use Rattle.std.specs.Prelude.{string_bytes}
use Rattle.gp_text.specs.Text.{pair_text}
use Rattle.gp_text.proofs.printing.set_text.Given as goal

abbrev pub invariant-loop-pair : goal.invariant-loop-pair
invariant-loop-pair l = string_bytes l.text ≡ codes "labels " ++ l.set.name ++ flat_map pair_text (take l.pair-index l.pair-items)
