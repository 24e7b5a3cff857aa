-- Lists of goroutines whose rows are the same, but for one of them and for those behind.
use Rattle.std.proofs.Common.{◌≡◌, ◌+◌, ◌<◌, ◌≤◌, ℕ, zero, suc, List, [], ◌∷◌, ◌++◌, length, get_or, set, drop, Some, None, refl, ap, ap₂, sym, ◌∙◌, arith}
use Rattle.std.specs.Prelude.{slice_get}
use Rattle.gp_tally.specs.declared.row.Row.{Row}
use Rattle.gp_journal.specs.declared.goroutine.Goroutine.{Goroutine}
use Rattle.gp_journal.specs.State.{State, nobody, goroutine, births}
use Rattle.gp_roster.specs.Rows.{row_of, rows_from, rows_of}

-- two goroutines have the same row under each number
abbrev pub SameRow : Goroutine → Goroutine → Type 0
SameRow x y = (m : ℕ) → row_of m y ≡ row_of m x

pub rows_same : (n m : ℕ) (xs ys : List Goroutine) → m ≡ n + length xs → length xs ≤ length ys → ((k : ℕ) → k < length xs → SameRow (get_or xs k nobody) (get_or ys k nobody)) →
    rows_from n ys ≡ rows_from n xs ++ rows_from m (drop (length xs) ys)
rows_same n m [] ys last long same = let here : n ≡ m = omega arith in ap (λ k. rows_from k ys) here
rows_same n m (x ∷ xs) [] last long same = absurd (omega arith)
rows_same n m (x ∷ xs) (y ∷ ys) last long same =
    ap₂ (λ (row : Row) (rows : List Row). row ∷ rows) (same 0 (omega arith) n) (rows_same (n + 1) m xs ys (omega arith) (omega arith) (λ k within. same (suc k) (omega arith)))

pub rows_moved : (n m h : ℕ) (xs ys : List Goroutine) (g : ℕ) → m ≡ n + length xs → h ≡ n + g → length xs ≤ length ys → g < length xs →
    ((k : ℕ) → k < length xs → (k ≡ g → ⊥) → SameRow (get_or xs k nobody) (get_or ys k nobody)) →
    rows_from n ys ≡ set (rows_from n xs) g (row_of h (get_or ys g nobody)) ++ rows_from m (drop (length xs) ys)
rows_moved n m h [] ys g last here long there same = absurd (omega arith)
rows_moved n m h (x ∷ xs) [] g last here long there same = absurd (omega arith)
rows_moved n m h (x ∷ xs) (y ∷ ys) zero last here long there same =
    let is : n ≡ h = omega arith in
    ap₂ (λ (k : ℕ) (rows : List Row). row_of k y ∷ rows) is (rows_same (n + 1) m xs ys (omega arith) (omega arith) (λ k within. same (suc k) (omega arith) (λ e. omega arith)))
rows_moved n m h (x ∷ xs) (y ∷ ys) (suc g) last here long there same =
    ap₂ (λ (row : Row) (rows : List Row). row ∷ rows) (same 0 (omega arith) (λ e. omega arith) n)
    (rows_moved (n + 1) m h xs ys g (omega arith) (omega arith) (omega arith) (omega arith) (λ k within other. same (suc k) (omega arith) (λ e. other (omega arith))))

-- ---- what is found in them

pub rows_many : (n : ℕ) (xs : List Goroutine) → length (rows_from n xs) ≡ length xs
rows_many n [] = refl
rows_many n (x ∷ xs) = let rest = rows_many (n + 1) xs in omega arith

-- a row that is found is the one of its goroutine
found_row : (n m : ℕ) (xs : List Goroutine) (g : ℕ) (row : Row) → m ≡ n + g → slice_get (rows_from n xs) g ≡ Some row → (g < length xs) × (row ≡ row_of m (get_or xs g nobody))
found_row n m [] g row here found = absurd (let clash : None ≡ Some row = found in cc)
found_row n m (x ∷ xs) zero row here found =
    let same : n ≡ m = omega arith in
    let is : row_of n x ≡ row = cc in
    (omega arith, sym is ∙ ap (λ k. row_of k x) same)
found_row n m (x ∷ xs) (suc g) row here found = let rest = found_row (n + 1) m xs g row (omega arith) found in (omega (arith, rest.0), rest.1)

pub row_is : (s : State) (rows : List Row) (g : ℕ) (row : Row) → rows ≡ rows_of s → slice_get rows g ≡ Some row → (g < births s) × (row ≡ row_of g (goroutine s g))
unfolding rows_of
row_is s rows g row are found = found_row 0 g s.goroutines g row (omega arith) (ap (λ (it : List Row). slice_get it g) (sym are) ∙ found)

pub as_many_rows : (s : State) (rows : List Row) → rows ≡ rows_of s → length rows ≡ births s
unfolding rows_of
as_many_rows s rows are = ap (λ (it : List Row). length it) are ∙ rows_many 0 s.goroutines
