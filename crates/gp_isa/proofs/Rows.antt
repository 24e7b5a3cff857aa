-- Rows of marks.
use Rattle.std.proofs.Common.{◌≡◌, ℕ, zero, suc, ◌<◌, ◌≤◌, Bool, false, ◌||◌, ◌&&◌, List, [], get_or, replicate, refl}
use Rattle.gp_isa.specs.kept.Ways.{marked}

pub unmarked : (n h : ℕ) → marked (replicate n false) h ≡ false
unmarked zero h = refl
unmarked (suc n) zero = refl
unmarked (suc n) (suc h) = unmarked n h

-- The first places have the marks of both rows, and the others those of the first.
pub record Joins (row onward both : List Bool) (i : ℕ) : Type 0 where
  pub joined : (h : ℕ) → h < i → marked both h ≡ (marked row h || marked onward h)
  pub rest : (h : ℕ) → i ≤ h → marked both h ≡ marked row h

abbrev row_at : List (List Bool) → ℕ → List Bool
row_at rows f = get_or rows f []

-- The first rows have been sent through, and the others are as before.
pub record GoesThrough (old new : List (List Bool)) (through i : ℕ) : Type 0 where
  pub done : (f h : ℕ) → f < i → marked (row_at new f) h ≡ (marked (row_at old f) h || (marked (row_at old f) through && marked (row_at old through) h))
  pub rest : (f : ℕ) → i ≤ f → row_at new f ≡ row_at old f
