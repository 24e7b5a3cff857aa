-- How often goroutines are picked, once one row is set.
use Rattle.std.proofs.Common.{◌≡◌, ◌≢◌, ◌⊎◌, inl, inr, ◌+◌, ◌<◌, ◌≤◌, ℕ, zero, suc, List, length, get_or, set, refl, ap, ◌∙◌, arith, get_or-set_same, get_or-set_other}
use Rattle.std.proofs.lemmas.Bool.{cases_eq}
use Rattle.gp_tally.specs.declared.row.Row.{Row}
use Rattle.gp_world.specs.Rows.{blank}
use Rattle.gp_world.specs.kept.World.{picks, picks_by}

-- A row behind the first n doesn't count.
pub picks_past : (rows : List Row) (w n g : ℕ) (row : Row) → n ≤ w → picks (set rows w row) n g ≡ picks rows n g
picks_past rows w zero g row past = refl
picks_past rows w (suc n) g row past =
    let other : n ≢ w = λ same. absurd (omega arith) in
    let here = ap (λ (r : Row). picks_by r g) (get_or-set_other rows w n row blank other) in
    omega (arith, here, picks_past rows w n g row (omega arith))

picks_set_at : (rows : List Row) (w n g : ℕ) (row : Row) → w < length rows → (n ≡ w) ⊎ (n ≡ w → ⊥) →
    (w < n → picks (set rows w row) n g + picks_by (get_or rows w blank) g ≡ picks rows n g + picks_by row g) → w < suc n →
    picks (set rows w row) (suc n) g + picks_by (get_or rows w blank) g ≡ picks rows (suc n) g + picks_by row g
picks_set_at rows w n g row within (inl same) fewer below =
    let here = ap (λ (r : Row). picks_by r g) (ap (λ k. get_or (set rows w row) k blank) same ∙ get_or-set_same rows w row blank within) in
    let was = ap (λ (k : ℕ). picks_by (get_or rows k blank) g) same in
    let before = picks_past rows w n g row (omega arith) in
    omega (arith, here, was, before)
picks_set_at rows w n g row within (inr other) fewer below =
    let here = ap (λ (r : Row). picks_by r g) (get_or-set_other rows w n row blank other) in
    let before = fewer (omega arith) in
    omega (arith, here, before)

-- One among them counts by what it is set to.
pub picks_set : (rows : List Row) (w n g : ℕ) (row : Row) → w < n → w < length rows →
    picks (set rows w row) n g + picks_by (get_or rows w blank) g ≡ picks rows n g + picks_by row g
picks_set rows w zero g row below within = absurd (omega arith)
picks_set rows w (suc n) g row below within = picks_set_at rows w n g row within (cases_eq n w) (λ less. picks_set rows w n g row less within) below
