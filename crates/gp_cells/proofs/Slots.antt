-- What a seat's one slot has.
use Rattle.std.proofs.Common.{◌≡◌, ℕ, List, [], ◌∷◌, sym, ap, ◌∙◌, subst}
use Rattle.std.specs.Prelude.{Option, Some, None}
use Rattle.atomic_table.specs.Seated.{TableId}
use Rattle.gp_isa.specs.declared.parts.Parts.{Parts}
use Rattle.gp_cells.specs.declared.carried.Carried.{Carried}
use Rattle.gp_cells.specs.Goroutine.{IsBodyOf}

abbrev slot_in : {A : Type 0} → A → List (ℕ × A) → A
slot_in d [] = d
slot_in d (x ∷ xs) = x.1

pub same_slot : {A : Type 0} (cell : ℕ) (slots : List (ℕ × A)) (a b : A) → slots ≡ (cell, a) ∷ [] → slots ≡ (cell, b) ∷ [] → a ≡ b
same_slot cell slots a b p q = ap (slot_in a) (sym p ∙ q)

-- the body that came out of a slot is the one that was there
pub taken_out : (program : Parts) (roster : TableId) (cell : ℕ) (slots : List (ℕ × Option Carried)) (slot : Option Carried) (body : Carried)
    → slots ≡ (cell, slot) ∷ [] → ((carried : Carried) × (slot ≡ Some carried) × IsBodyOf program roster cell carried)
    → slots ≡ (cell, Some body) ∷ [] → IsBodyOf program roster cell body
taken_out program roster cell slots slot body was has is =
    let e : Some has.0 ≡ Some body = sym has.1 ∙ same_slot cell slots slot (Some body) was is in
    let same : has.0 ≡ body = cc in
    subst (λ (x : Carried). IsBodyOf program roster cell x) same has.2

-- and there was one
pub not_none : (cell : ℕ) (slots : List (ℕ × Option Carried)) (slot : Option Carried) (carried : Carried)
    → slots ≡ (cell, slot) ∷ [] → slot ≡ Some carried → slots ≡ (cell, None) ∷ [] → ⊥
not_none cell slots slot carried was has is = let e : Some carried ≡ None = sym has ∙ same_slot cell slots slot None was is in cc
