-- A Vec after a write to the slice of its elements.
use Rattle.std.proofs.Common.{◌≡◌, ℕ, List, length, set, Vec, Global, ap, ◌∙◌}
use Rattle.std.specs.Vec.{with_items}
use Rattle.std.proofs.lemmas.List.{length-set, with_items_is}

pub written : (v : Vec ℕ Global) (now new : List ℕ) (i x : ℕ) → new ≡ set now i x → now ≡ v.items → length now ≡ v.len → (with_items v new).items ≡ set v.items i x
written v now new i x writes is count =
    with_items_is v new (ap length writes ∙ length-set now i x ∙ count) ∙ writes ∙ ap (λ (items : List ℕ). set items i x) is
