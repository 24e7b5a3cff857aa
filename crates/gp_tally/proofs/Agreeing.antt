-- Each kind of step keeps the agreement of book and shares.
use Rattle.std.proofs.Common.{◌≡◌, ◌≢◌, ◌⊎◌, ℕ, eqb, eq-eqb, ne_eqb, zero, suc, ◌<◌, List, [], ◌∷◌, ◌++◌, length, Some, true, false, true≢false, refl, sym, ap, ◌∙◌, subst, inl, inr, ⊎_elim, arith}
use Rattle.std.specs.Prelude.{slice_get, slice_set}
use mathlib.Core.Option.{some, some-ne-none, some-injective}
use prog.Atomic.{either}
use lib.ListN.{get_elem?}
use Rattle.atomic_table.specs.Table.{State, Step, Me, Allows, Splits, Joins, opening}
use Rattle.atomic_table.specs.Table.Act.{keeps}
use Rattle.atomic_table.proofs.Lists.{at_set}
use Rattle.gp_tally.specs.declared.row.Row.{Row}
use Rattle.gp_tally.specs.declared.view.View.{View}
use Rattle.gp_tally.specs.kept.Views.{keeper, claimer, holder, nobody, book_of, share_of, with_share, found, added, changed}
use Rattle.gp_tally.specs.kept.Agreement.{Fits, AllFit, Agrees}

-- ---- rows

last_row : (rows : List Row) (r : Row) → slice_get (rows ++ r ∷ []) (length rows) ≡ Some r
last_row [] r = refl
last_row (x ∷ rows) r = last_row rows r

row_before : (rows : List Row) (r : Row) (n : ℕ) (x : Row) → slice_get rows n ≡ Some x → slice_get (rows ++ r ∷ []) n ≡ Some x
row_before [] r n x e = absurd (cc)
row_before (y ∷ rows) r zero x e = e
row_before (y ∷ rows) r (suc n) x e = row_before rows r n x e

pub row_there : (rows : List Row) (n : ℕ) (x : Row) → slice_get rows n ≡ Some x → n < length rows
row_there [] n x e = absurd (cc)
row_there (y ∷ rows) zero x e = omega arith
row_there (y ∷ rows) (suc n) x e = let h = row_there rows n x e in omega arith

row_set : (rows : List Row) (n : ℕ) (r x : Row) → slice_get rows n ≡ Some x → slice_get (slice_set rows n r) n ≡ Some r
row_set [] n r x e = absurd (cc)
row_set (y ∷ rows) zero r x e = refl
row_set (y ∷ rows) (suc n) r x e = row_set rows n r x e

row_else : (rows : List Row) (n m : ℕ) (r : Row) → m ≢ n → slice_get (slice_set rows n r) m ≡ slice_get rows m
row_else [] n m r ne = refl
row_else (y ∷ rows) zero zero r ne = absurd (ne refl)
row_else (y ∷ rows) zero (suc m) r ne = refl
row_else (y ∷ rows) (suc n) zero r ne = refl
row_else (y ∷ rows) (suc n) (suc m) r ne = row_else rows n m r (λ e. ne (ap suc e))

-- ---- owners

-- the number n has another owner
abbrev moved : (ℕ → ℕ) → ℕ → ℕ → ℕ → ℕ
moved owner n seat m = either (eqb m n) seat (owner m)

moved_here : (owner : ℕ → ℕ) (n seat : ℕ) → moved owner n seat n ≡ seat
moved_here owner n seat = ap (λ b. either b seat (owner n)) (eq-eqb n n refl)

moved_else : (owner : ℕ → ℕ) (n seat m : ℕ) → m ≢ n → moved owner n seat m ≡ owner m
moved_else owner n seat m ne = ap (λ b. either b seat (owner m)) (ne_eqb m n ne)

off : false ≡ true → ⊥
off e = true≢false (sym e)

-- who claims another number claims it as before
fits_moved : (book : ℕ) (rows : List Row) (owner : ℕ → ℕ) (n to seat : ℕ) (v : View) → (v.claims ≡ true → v.number ≢ n)
    → Fits book rows owner seat v → Fits book rows (moved owner n to) seat v
fits_moved book rows owner n to seat v other fits =
    (fits.0, λ claims. (moved_else owner n to v.number (other claims) ∙ (fits.1 claims).0, (fits.1 claims).1))

-- ---- views

at_end : (l : List View) (a b : View) (j : ℕ) → get_elem? (l ++ a ∷ []) j ≡ some b → (get_elem? l j ≡ some b) ⊎ ((j ≡ length l) × (a ≡ b))
at_end [] a b zero e = inr (refl, some-injective a b e)
at_end [] a b (suc j) e = absurd (some-ne-none b (sym e))
at_end (x ∷ l) a b zero e = inl e
at_end (x ∷ l) a b (suc j) e = ⊎_elim (λ t. inl t) (λ t. inr (ap suc t.0, t.1)) (at_end l a b j e)

-- one seat has a new view
fits_set : (book : ℕ) (rows : List Row) (owner : ℕ → ℕ) (views : List View) (seat : ℕ) (w : View)
    → ((j : ℕ) (u : View) → j ≢ seat → get_elem? views j ≡ some u → Fits book rows owner j u)
    → Fits book rows owner seat w → AllFit book rows owner (slice_set views seat w)
fits_set book rows owner views seat w others mine j u e =
    ⊎_elim
    (λ (x : (j ≡ seat) × (w ≡ u)). subst (λ (y : ℕ × View). Fits book rows owner y.0 y.1) (λ i. (sym x.0 i, x.1 i)) mine)
    (λ (x : (j ≢ seat) × (get_elem? views j ≡ some u)). others j u x.0 x.1)
    (at_set views seat j w u e)

-- the seat that keeps is the book's, with its rows
known : {S : Type 0} (s : State S View) (seat : ℕ) (v : View) → Agrees s → get_elem? s.views seat ≡ some v → v.keeps ≡ true
    → (owner : ℕ → ℕ) × AllFit seat v.rows owner s.views
known s seat v h at keep =
    let is = (h.3 seat v at).0 keep in
    subst (λ (x : ℕ × List Row). (owner : ℕ → ℕ) × AllFit x.0 x.1 owner s.views) (λ i. (sym is.0 i, sym is.1 i)) (h.2, h.3)

-- a seat that owns the number n is the only one that claims it
others : (book : ℕ) (rows : List Row) (owner : ℕ → ℕ) (views : List View) → AllFit book rows owner views → (n seat : ℕ) → owner n ≡ seat
    → (j : ℕ) (u : View) → j ≢ seat → get_elem? views j ≡ some u → u.claims ≡ true → u.number ≢ n
others book rows owner views all n seat own j u apart at claims same = apart (sym ((all j u at).1 claims).0 ∙ ap owner same ∙ own)

-- ---- steps

pub opens : (S : Type 0) (words : List ℕ) → Agrees (opening {S = S} words [] (keeper []))
opens S words = (0, [], (λ _. 0), one)
  where
    one : AllFit 0 [] (λ _. 0) (keeper [] ∷ [])
    one zero v e = subst (Fits 0 [] (λ _. 0) 0) (some-injective _ _ e) ((λ _. (refl, refl)), (λ c. absurd (off c)))
    one (suc seat) v e = absurd (some-ne-none v (sym e))

pub finds : {S : Type 0} (slots seat word : ℕ) (rows : List Row) (n : ℕ) (r : Row) (st : Step S)
    → Allows Agrees slots seat (holder rows n r, []) word (λ x. x) (found st (holder rows n r, []))
finds slots seat word rows n r st s h count at bits =
    let v = holder rows n r in
    let k = known s seat v h at refl in
    let mine = k.1 seat v at in
    (v, keeps, tt, (seat, rows, k.0, fits_set seat rows k.0 s.views seat v (λ j u _ e. k.1 j u e) mine), (refl, (mine.1 refl).1))

pub adds : {S : Type 0} (slots seat word : ℕ) (rows : List Row) (r : Row) (st : Step S)
    → Allows Agrees slots seat (keeper rows, []) word (λ x. x) (added r st (keeper rows, []))
adds slots seat word rows r st s h count at bits =
    let v = keeper rows in
    let n = length rows in
    let more = rows ++ r ∷ [] in
    let w = holder more n r in
    let k = known s seat v h at refl in
    let owner = moved k.0 n seat in
    let there : (j : ℕ) (u : View) → j ≢ seat → get_elem? s.views j ≡ some u → Fits seat more owner j u =
    λ j u apart e. let f = k.1 j u e in (
      (λ c. absurd (apart (f.0 c).0)),
      (λ c. let g = f.1 c in let lt = row_there rows u.number u.claim g.1 in
          (moved_else k.0 n seat u.number (λ same. absurd (omega (arith, same, lt))) ∙ g.0, row_before rows r u.number u.claim g.1)),
    ) in
    (w, keeps, tt, (seat, more, owner, fits_set seat more owner s.views seat w there ((λ _. (refl, refl)), (λ _. (moved_here k.0 n seat, last_row rows r)))), refl)

pub changes : {S : Type 0} (slots seat word : ℕ) (rows : List Row) (n : ℕ) (r new : Row) (st : Step S)
    → Allows Agrees slots seat (holder rows n r, []) word (λ x. x) (changed new st (holder rows n r, []))
changes slots seat word rows n r new st s h count at bits =
    let v = holder rows n r in
    let later = slice_set rows n new in
    let w = holder later n new in
    let k = known s seat v h at refl in
    let mine = (k.1 seat v at).1 refl in
    let there : (j : ℕ) (u : View) → j ≢ seat → get_elem? s.views j ≡ some u → Fits seat later k.0 j u =
    λ j u apart e. let f = k.1 j u e in (
      (λ c. absurd (apart (f.0 c).0)),
      (λ c. let g = f.1 c in (g.0, row_else rows n u.number new (others seat rows k.0 s.views k.1 n seat mine.0 j u apart e c) ∙ g.1)),
    ) in
    (w, keeps, tt, (seat, later, k.0, fits_set seat later k.0 s.views seat w there ((λ _. (refl, refl)), (λ _. (mine.0, row_set rows n new r mine.1)))), (refl, mine.1))

pub splits : {S : Type 0} (seat : ℕ) (rows : List Row) (n : ℕ) (r : Row)
    → Splits {S = S} Agrees seat (holder rows n r) (keeper rows) (claimer n r)
splits seat rows n r s h at =
    let v = holder rows n r in
    let views = slice_set s.views seat (keeper rows) in
    let k = known s seat v h at refl in
    let mine = (k.1 seat v at).1 refl in
    let owner = moved k.0 n (length views) in
    let first : AllFit seat rows owner views =
    fits_set seat rows owner s.views seat (keeper rows)
    (λ j u apart e. fits_moved seat rows k.0 n (length views) j u (others seat rows k.0 s.views k.1 n seat mine.0 j u apart e) (k.1 j u e))
    ((λ _. (refl, refl)), (λ c. absurd (off c))) in
    let new : Fits seat rows owner (length views) (claimer n r) = ((λ c. absurd (off c)), (λ _. (moved_here k.0 n (length views), mine.1))) in (
      seat,
      rows,
      owner,
      λ j u e. ⊎_elim
          (λ (x : get_elem? views j ≡ some u). first j u x)
          (λ (x : (j ≡ length views) × (claimer n r ≡ u)). subst (λ (y : ℕ × View). Fits seat rows owner y.0 y.1) (λ i. (sym x.0 i, x.1 i)) new)
          (at_end views (claimer n r) u j e),
    )

pub joins : {S : Type 0} (seat : ℕ) (rows : List Row) (other n : ℕ) (r : Row)
    → Joins {S = S} Agrees seat (keeper rows) other (claimer n r) (holder rows n r) nobody
joins seat rows other n r s h at apart there =
    let v = keeper rows in
    let w = holder rows n r in
    let k = known s seat v h at refl in
    let at_other = ⊎_elim (λ (t : (other ≡ seat) × (w ≡ claimer n r)). absurd (apart t.0)) (λ (t : (other ≢ seat) × (get_elem? s.views other ≡ some (claimer n r))). t.1) (at_set s.views seat other w (claimer n r) there) in
    let theirs = (k.1 other (claimer n r) at_other).1 refl in
    let owner = moved k.0 n seat in
    let rest : (j : ℕ) (u : View) → j ≢ seat → get_elem? (slice_set s.views other nobody) j ≡ some u → Fits seat rows owner j u =
    λ j u far e. ⊎_elim
    (λ (x : (j ≡ other) × (nobody ≡ u)). subst (λ (y : View). Fits seat rows owner j y) x.1 ((λ c. absurd (off c)), (λ c. absurd (off c))))
    (λ (x : (j ≢ other) × (get_elem? s.views j ≡ some u)). fits_moved seat rows k.0 n seat j u (others seat rows k.0 s.views k.1 n other theirs.0 j u x.0 x.1) (k.1 j u x.1))
    (at_set s.views other j nobody u e) in
    let both : Fits seat rows owner seat w = ((λ _. (refl, refl)), (λ _. (moved_here k.0 n seat, theirs.1))) in (
      seat,
      rows,
      owner,
      λ j u e. ⊎_elim
          (λ (x : (j ≡ other) × (nobody ≡ u)). subst (λ (y : View). Fits seat rows owner j y) x.1 ((λ c. absurd (off c)), (λ c. absurd (off c))))
          (λ (x : (j ≢ other) × (get_elem? (slice_set s.views seat w) j ≡ some u)). ⊎_elim
          (λ (y : (j ≡ seat) × (w ≡ u)). subst (λ (z : ℕ × View). Fits seat rows owner z.0 z.1) (λ i. (sym y.0 i, y.1 i)) both)
          (λ (y : (j ≢ seat) × (get_elem? s.views j ≡ some u)). fits_moved seat rows k.0 n seat j u (others seat rows k.0 s.views k.1 n other theirs.0 j u x.0 y.1) (k.1 j u y.1))
          (at_set s.views seat j w u x.1))
          (at_set (slice_set s.views seat w) other j nobody u e),
    )

-- ---- the same, at a view that is known

pub finds_at : {S : Type 0} (slots seat word : ℕ) (me : Me S View) (rows : List Row) (n : ℕ) (r : Row) (st : Step S) → me ≡ (holder rows n r, [])
    → Allows Agrees slots seat me word (λ x. x) (found st me)
finds_at {S} slots seat word me rows n r st is = subst (λ (m : Me S View). Allows Agrees slots seat m word (λ x. x) (found st m)) (sym is) (finds slots seat word rows n r st)

pub adds_at : {S : Type 0} (slots seat word : ℕ) (me : Me S View) (rows : List Row) (r : Row) (st : Step S) → me ≡ (keeper rows, [])
    → Allows Agrees slots seat me word (λ x. x) (added r st me)
adds_at {S} slots seat word me rows r st is = subst (λ (m : Me S View). Allows Agrees slots seat m word (λ x. x) (added r st m)) (sym is) (adds slots seat word rows r st)

pub changes_at : {S : Type 0} (slots seat word : ℕ) (me : Me S View) (rows : List Row) (n : ℕ) (r new : Row) (st : Step S) → me ≡ (holder rows n r, [])
    → Allows Agrees slots seat me word (λ x. x) (changed new st me)
changes_at {S} slots seat word me rows n r new st is = subst (λ (m : Me S View). Allows Agrees slots seat m word (λ x. x) (changed new st m)) (sym is) (changes slots seat word rows n r new st)

-- a book with a share in hand
pub splits_at : {S : Type 0} (seat : ℕ) (me : Me S View) (rows : List Row) (n : ℕ) (r : Row) → me ≡ (holder rows n r, [])
    → Splits {S = S} Agrees seat me.0 (book_of me.0) (share_of me.0)
splits_at {S} seat me rows n r is = subst (λ (m : Me S View). Splits {S = S} Agrees seat m.0 (book_of m.0) (share_of m.0)) (sym is) (splits seat rows n r)

-- the view of a share that was no seat
abbrev first : View → List View → View
first v [] = v
first v (w ∷ views) = w

the_view : (views : List View) (w : View) (n : ℕ) (r : Row) → views ≡ w ∷ [] → views ≡ claimer n r ∷ [] → w ≡ claimer n r
the_view views w n r is was = ap (first w) (sym is ∙ was)

pub joins_at : {S : Type 0} (seat : ℕ) (me : Me S View) (rows : List Row) (other : ℕ) (w : View) (views : List View) (n : ℕ) (r : Row)
    → me ≡ (keeper rows, []) → views ≡ w ∷ [] → views ≡ claimer n r ∷ []
    → Joins {S = S} Agrees seat me.0 other w (with_share me.0 w) nobody
joins_at {S} seat me rows other w views n r is one was =
    subst (λ (x : Me S View × View). Joins {S = S} Agrees seat x.0.0 other x.1 (with_share x.0.0 x.1) nobody)
    (λ i. (sym is i, sym (the_view views w n r one was) i)) (joins seat rows other n r)

pub in_hand : {S : Type 0} (me after : Me S View) (rows : List Row) (w : View) (views : List View) (n : ℕ) (r : Row)
    → me ≡ (keeper rows, []) → views ≡ w ∷ [] → views ≡ claimer n r ∷ [] → after ≡ (with_share me.0 w, me.1) → after ≡ (holder rows n r, [])
in_hand {S} me after rows w views n r is one was then =
    subst (λ (x : Me S View × View). after ≡ (with_share x.0.0 x.1, x.0.1)) (λ i. (is i, the_view views w n r one was i)) then

pub in_book : {S : Type 0} (me : Me S View) (rows : List Row) (n : ℕ) (r : Row) → me ≡ (holder rows n r, [])
    → slice_get me.0.rows me.0.number ≡ Some me.0.claim → n < length rows
in_book {S} me rows n r is agree = row_there rows n r (subst (λ (m : Me S View). slice_get m.0.rows m.0.number ≡ Some m.0.claim) is agree)

pub changed_at : {S : Type 0} (me after : Me S View) (rows : List Row) (n : ℕ) (r new : Row) → me ≡ (holder rows n r, [])
    → after ≡ (holder (slice_set me.0.rows me.0.number new) me.0.number new, []) → after ≡ (holder (slice_set rows n new) n new, [])
changed_at {S} me after rows n r new is then =
    subst (λ (m : Me S View). after ≡ (holder (slice_set m.0.rows m.0.number new) m.0.number new, [])) is then
