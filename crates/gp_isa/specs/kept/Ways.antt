-- Ways of calls, and tables of who is led to from where.
use Rattle.std.specs.Prelude.{◌≡◌, ◌<◌, ◌+◌, ℕ, zero, suc, Bool, true, false, ◌||◌, ◌&&◌, ◌==◌, cond, List, [], ◌∷◌, slice_index_or}
use Rattle.std.specs.Bool.{Decides}
use Rattle.std.specs.List.{All, list_any}
use Rattle.gp_isa.specs.declared.parts.Parts.{Parts}
use Rattle.gp_isa.specs.Calls.{callees}

-- whether a number stands in a list
abbrev pub is_among : ℕ → List ℕ → Bool
is_among h hs = list_any (λ g. h == g) hs

-- whether a row has a mark at a place
abbrev pub marked : List Bool → ℕ → Bool
marked row h = slice_index_or row h false

-- how many marks a row has at the first places
unfoldable pub marks_below : List Bool → ℕ → ℕ
marks_below row zero = 0
marks_below row (suc n) = marks_below row n + cond (marked row n) 1 0

-- a row with marks at the functions called, and those that it had
pub record AddsMarks (old new : List Bool) (called : List ℕ) : Type 0 where
  pub each : (h : ℕ) → marked new h ≡ (marked old h || is_among h called)

-- Calls lead from f to h, through the functions `via` one after another.
abbrev pub IsWay : Parts → ℕ → List ℕ → ℕ → Type 0
IsWay parts f [] h = is_among h (callees parts f) ≡ true
IsWay parts f (g ∷ via) h = (is_among g (callees parts f) ≡ true) × IsWay parts g via h

-- Calls lead from f to h through functions below a number alone.
pub record LeadsBelow (parts : Parts) (bound f h : ℕ) : Type 0 where
  pub via : List ℕ
  pub below : All (λ g. g < bound) via
  pub way : IsWay parts f via h

-- A table has a row for each function, with a mark where calls lead through functions below a number.
pub record AreLeads (parts : Parts) (bound : ℕ) (rows : List (List Bool)) : Type 0 where
  pub each : (f h : ℕ) → Decides (marked (slice_index_or rows f []) h) (LeadsBelow parts bound f h)

-- A table has a row for each function, with a mark where it calls.
pub record AreCalls (parts : Parts) (rows : List (List Bool)) : Type 0 where
  pub each : (f h : ℕ) → marked (slice_index_or rows f []) h ≡ is_among h (callees parts f)

-- Rows after ways through one more function: from f to it, and from it on.
pub record GoThrough (old new : List (List Bool)) (through : ℕ) : Type 0 where
  pub each : (f h : ℕ) → let row = slice_index_or old f [] in
      marked (slice_index_or new f []) h ≡ (marked row h || (marked row through && marked (slice_index_or old through []) h))
