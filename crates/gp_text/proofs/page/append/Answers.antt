use Rattle.std.proofs.Common.{◌≡◌, ℕ, zero, suc, ◌<◌, List, [], ◌∷◌, ◌++◌, length, get_or, ap, ◌∙◌, arith}
use Rattle.std.specs.Prelude.{map, String, string_bytes}
use Rattle.std.specs.Global.{Global}
use Rattle.std.proofs.Math.ListN.{set}
use Rattle.std.proofs.lemmas.List.{map-set, get_or-set_same, get_or-set_other, length-map}
use Rattle.gp_text.proofs.page.append.Goals as goal

bytes_at : (xs : List (String Global)) (at : ℕ) (old : String Global) → at < length xs → old ≡ get_or xs at old → string_bytes old ≡ get_or (map string_bytes xs) at []
bytes_at [] at old within is = absurd (omega arith)
bytes_at (x ∷ xs) zero old within is = ap string_bytes is
bytes_at (x ∷ xs) (suc at) old within is = bytes_at xs at old (omega arith) is

here : (xs : List (String Global)) (at : ℕ) (old new : String Global) (text : List ℕ) → at < length (map string_bytes xs) → old ≡ get_or xs at old → string_bytes new ≡ string_bytes old ++ text →
    get_or (map string_bytes (set xs at new)) at [] ≡ get_or (map string_bytes xs) at [] ++ text
here xs at old new text within is pushed =
    ap (λ l. get_or l at []) (map-set string_bytes xs at new) ∙ get_or-set_same (map string_bytes xs) at (string_bytes new) [] within ∙ pushed ∙ ap (λ t. t ++ text) (bytes_at xs at old (omega (arith, length-map xs string_bytes)) is)

there : (xs : List (String Global)) (at n : ℕ) (new : String Global) → (n ≡ at → ⊥) → get_or (map string_bytes (set xs at new)) n [] ≡ get_or (map string_bytes xs) n []
there xs at n new other = ap (λ l. get_or l n []) (map-set string_bytes xs at new) ∙ get_or-set_other (map string_bytes xs) at n (string_bytes new) [] other

pub returns-clause-here : goal.returns-clause-here
returns-clause-here c = here c.args.page.now.items c.args.at c.index_mut.result.now c.push_str.new.self c.args.text.now c.requires c.index_mut.ensures.value c.in_ok-push_str.ensures.bytes

pub returns-clause-there : goal.returns-clause-there
returns-clause-there c = λ n other. there c.args.page.now.items c.args.at n c.push_str.new.self other
