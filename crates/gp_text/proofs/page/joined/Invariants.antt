use Rattle.std.proofs.Common.{◌≡◌, ◌++◌, ◌∷◌, [], take, flat_map}
use Rattle.std.specs.Prelude.{map, string_bytes}
use Rattle.gp_text.proofs.page.joined.Given as goal

abbrev pub invariant-loop-line : goal.invariant-loop-line
invariant-loop-line l = string_bytes l.text ≡ flat_map (λ line. line ++ 10 ∷ []) (map string_bytes (take l.line-index l.page))
