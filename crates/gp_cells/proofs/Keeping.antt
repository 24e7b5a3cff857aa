-- Each kind of step keeps the rule of cells.
use Rattle.std.proofs.Common.{◌≡◌, ◌≢◌, ◌⊎◌, ℕ, eqb, eq-eqb, ne_eqb, zero, suc, ◌<◌, List, [], ◌∷◌, ◌++◌, map, length, get_or, set, replicate, true, false, true≢false}
use Rattle.std.proofs.Common.{refl, sym, ap, ◌∙◌, subst, inl, inr, ⊎_elim, arith, length-set, get_or-set_other, get_or-set_same}
use mathlib.Core.Logic.{dite}
use mathlib.Core.Option.{some, none, some-ne-none, some-injective}
use mathlib.Core.Option as home
use native.Mathlib.Decide.{ℕ_discrete}
use prog.Atomic.{either}
use lib.ListN.{get_elem?, length-map, length-replicate}
use Rattle.std.specs.Prelude.{Option, None, slice_index}
use Rattle.atomic_table.specs.Table.{State, Me, Act, step, keeps, takes, gives, Valid, carried_after, stepped, Allows, Splits, Joins, opening}
use Rattle.atomic_table.specs.Seated.{TableId}
use Rattle.atomic_table.proofs.Lists.{at_set, set_here, set_else, at_longer, at_snoc, exchanged}
use Rattle.gp_isa.specs.declared.parts.Parts.{Parts}
use Rattle.gp_cells.specs.declared.carried.Carried.{Carried}
use Rattle.gp_cells.specs.declared.view.View.{View}
use Rattle.gp_cells.specs.Words.{IsWord, IsSettled, IsBusy}
use Rattle.gp_cells.specs.kept.Views.{first_view, with_found, with_cell, with_stored}
use Rattle.gp_cells.specs.kept.CellRule.{Fills, IsAtHome, IsOut, IsHolder, AreCells}
use Rattle.gp_cells.specs.kept.Plays.{Seized, Settled}
use Rattle.gp_cells.proofs.WordFacts.{not_both}

-- ---- lists

set_again : (l : List ℕ) (i : ℕ) → set l i (get_or l i 0) ≡ l
set_again [] i = refl
set_again (x ∷ xs) zero = refl
set_again (x ∷ xs) (suc i) = ap (λ (l : List ℕ). x ∷ l) (set_again xs i)

set_there : {A : Type 0} (l : List A) (i : ℕ) (a b : A) → get_elem? l i ≡ some a → get_elem? (set l i b) i ≡ some b
set_there [] i a b e = absurd (some-ne-none a (sym e))
set_there (x ∷ xs) zero a b e = refl
set_there (x ∷ xs) (suc i) a b e = set_there xs i a b e

blank : {T : Type 0} (n i : ℕ) → i < n → get_elem? (map some (replicate {A = Option T} n None)) i ≡ some (some None)
blank zero i near = absurd (omega arith)
blank (suc n) zero near = refl
blank (suc n) (suc i) near = blank n i (omega arith)

none_there : (n i : ℕ) → ◌≡◌ {A = ℕ} (get_or (replicate n 0) i 0) 0
none_there zero i = refl
none_there (suc n) zero = refl
none_there (suc n) (suc i) = none_there n i

off : false ≡ true → ⊥
off e = true≢false (sym e)

-- ---- owners

abbrev moved : (ℕ → ℕ) → ℕ → ℕ → ℕ → ℕ
moved owner g seat k = either (eqb k g) seat (owner k)

moved_here : (owner : ℕ → ℕ) (g seat : ℕ) → moved owner g seat g ≡ seat
moved_here owner g seat = ap (λ b. either b seat (owner g)) (eq-eqb g g refl)

moved_else : (owner : ℕ → ℕ) (g seat k : ℕ) → k ≢ g → moved owner g seat k ≡ owner k
moved_else owner g seat k ne = ap (λ b. either b seat (owner k)) (ne_eqb k g ne)

-- ---- views

-- a seat holds as it did
record HoldsAlike (v w : View) : Type 0 where
  to : w.holds ≡ true → (v.holds ≡ true) × (w.cell ≡ v.cell) × (w.word ≡ v.word)
  from : v.holds ≡ true → (w.holds ≡ true) × (w.cell ≡ v.cell)

alike : (v w : View) → w.holds ≡ v.holds → w.cell ≡ v.cell → w.word ≡ v.word → HoldsAlike v w
alike v w h c x = record { to = λ t. (sym h ∙ t, c, x); from = λ t. (h ∙ t, c) }

idle : (v w : View) → v.holds ≡ false → w.holds ≡ false → HoldsAlike v w
idle v w a b = record { to = λ t. absurd (off (sym b ∙ t)); from = λ t. absurd (off (sym a ∙ t)) }

module _ (program : Parts) (roster : TableId) where
  abbrev S : Type 0
  S = Option Carried

  abbrev Cell : List ℕ → List (home.Option S) → List View → (ℕ → ℕ) → ℕ → Type 0
  Cell words homes views owner g = IsAtHome program roster words homes g ⊎ IsOut words homes views owner g

  -- a view changes, and what it holds doesn't
  reviewed : (s : State S View) → AreCells program roster s → (seat : ℕ) (v w : View) → get_elem? s.views seat ≡ some v → HoldsAlike v w
      → AreCells program roster record { words = s.words; homes = s.homes; views = set s.views seat w }
  reviewed s r seat v w at same = record {
    owner = r.owner;
    wide = r.wide;
    each_cell = λ g lt. ⊎_elim
        (λ (h : IsAtHome program roster s.words s.homes g). inl h)
        (λ (h : IsOut s.words s.homes s.views r.owner g). inr (out g h))
        (r.each_cell g lt);
    each_view = λ j u e holds. ⊎_elim
        (λ (x : (j ≡ seat) × (w ≡ u)). subst (λ (y : ℕ × View). IsHolder s.words r.owner y.0 y.1) (λ i. (sym x.0 i, x.1 i)) (mine (subst (λ (y : View). y.holds ≡ true) (sym x.1) holds)))
        (λ (x : (j ≢ seat) × (get_elem? s.views j ≡ some u)). r.each_view j u x.1 holds)
        (at_set s.views seat j w u e);
  }
    where
      out : (g : ℕ) → IsOut s.words s.homes s.views r.owner g → IsOut s.words s.homes (set s.views seat w) r.owner g
      out g h = dite (ℕ_discrete (r.owner g) seat)
          (λ (e : r.owner g ≡ seat).
          let is : h.view ≡ v = some-injective h.view v (sym h.there ∙ ap (get_elem? s.views) e ∙ at) in
          let new = same.from (subst (λ (y : View). y.holds ≡ true) is h.holds) in
          record {
            busy = h.busy;
            out = h.out;
            view = w;
            there = subst (λ (k : ℕ). get_elem? (set s.views seat w) k ≡ some w) (sym e) (set_there s.views seat v w at);
            holds = new.0;
            cell = new.1 ∙ ap (λ (y : View). y.cell) (sym is) ∙ h.cell;
          })
          (λ (ne : r.owner g ≢ seat). record {
            busy = h.busy;
            out = h.out;
            view = h.view;
            there = set_else s.views seat (r.owner g) w ne ∙ h.there;
            holds = h.holds;
            cell = h.cell;
          })

      mine : w.holds ≡ true → IsHolder s.words r.owner seat w
      mine holds =
          let old = same.to holds in
          let h = r.each_view seat v at old.0 in
          record {
            owns = ap r.owner old.1 ∙ h.owns;
            within = subst (λ (k : ℕ). k < length s.words) (sym old.1) h.within;
            same = ap (slice_index s.words) old.1 ∙ h.same ∙ sym old.2;
            busy = subst IsBusy (sym old.2) h.busy;
          }

  -- a view that holds nothing comes behind the others
  longer : (s : State S View) → AreCells program roster s → (w : View) → w.holds ≡ false
      → AreCells program roster record { words = s.words; homes = s.homes; views = s.views ++ w ∷ [] }
  longer s r w free = record {
    owner = r.owner;
    wide = r.wide;
    each_cell = λ g lt. ⊎_elim
        (λ (h : IsAtHome program roster s.words s.homes g). inl h)
        (λ (h : IsOut s.words s.homes s.views r.owner g). inr record {
          busy = h.busy;
          out = h.out;
          view = h.view;
          there = at_longer s.views (w ∷ []) (r.owner g) h.view h.there;
          holds = h.holds;
          cell = h.cell;
        })
        (r.each_cell g lt);
    each_view = λ j u e holds. ⊎_elim
        (λ (x : get_elem? s.views j ≡ some u). r.each_view j u x holds)
        (λ (x : w ≡ u). absurd (off (sym free ∙ ap (λ (y : View). y.holds) x ∙ holds)))
        (at_snoc s.views w u j e);
  }

  -- the word and the slot of cell g change by a seat that holds nothing else, while nobody else holds it
  changes : (s : State S View) → (r : AreCells program roster s) → (g seat x : ℕ) (slot : home.Option S) (v w : View)
      → g < length s.words → get_elem? s.views seat ≡ some v → (v.holds ≡ true → v.cell ≡ g)
      → ((j : ℕ) (u : View) → j ≢ seat → get_elem? s.views j ≡ some u → u.holds ≡ true → u.cell ≢ g)
      → (((it : S) × (slot ≡ some it) × Fills program roster g x it) ⊎ (IsBusy x × (slot ≡ none) × (w.holds ≡ true) × (w.cell ≡ g)))
      → (w.holds ≡ true → (w.cell ≡ g) × (w.word ≡ x) × IsBusy x)
      → AreCells program roster record { words = set s.words g x; homes = set s.homes g slot; views = set s.views seat w }
  changes s r g seat x slot v w lt at only others new mine = record {
    owner = owner;
    wide = length-set s.homes g slot ∙ r.wide ∙ sym (length-set s.words g x);
    each_cell = λ k below. dite (ℕ_discrete k g)
        (λ (e : k ≡ g). subst (Cell words homes views owner) (sym e) (here new))
        (λ (ne : k ≢ g). there k ne (r.each_cell k (subst (λ (n : ℕ). k < n) (length-set s.words g x) below)));
    each_view = λ j u e holds. ⊎_elim
        (λ (y : (j ≡ seat) × (w ≡ u)). subst (λ (z : ℕ × View). IsHolder words owner z.0 z.1) (λ i. (sym y.0 i, y.1 i)) (holder (mine (subst (λ (z : View). z.holds ≡ true) (sym y.1) holds))))
        (λ (y : (j ≢ seat) × (get_elem? s.views j ≡ some u)). other j u y.0 y.1 holds)
        (at_set s.views seat j w u e);
  }
    where
      words : List ℕ
      words = set s.words g x

      homes : List (home.Option S)
      homes = set s.homes g slot

      views : List View
      views = set s.views seat w

      owner : ℕ → ℕ
      owner = moved r.owner g seat

      here : (((it : S) × (slot ≡ some it) × Fills program roster g x it) ⊎ (IsBusy x × (slot ≡ none) × (w.holds ≡ true) × (w.cell ≡ g)))
          → Cell (set s.words g x) (set s.homes g slot) (set s.views seat w) (moved r.owner g seat) g
      here (inl h) = inl record {
        slot = h.0;
        at = set_here s.homes g slot (omega (arith, r.wide)) ∙ ap some h.1;
        fills = subst (λ (n : ℕ). Fills program roster g n h.0) (sym (get_or-set_same s.words g x 0 lt)) h.2;
      }
      here (inr h) = inr record {
        busy = subst IsBusy (sym (get_or-set_same s.words g x 0 lt)) h.0;
        out = set_here s.homes g slot (omega (arith, r.wide)) ∙ ap some h.1;
        view = w;
        there = subst (λ (k : ℕ). get_elem? (set s.views seat w) k ≡ some w) (sym (moved_here r.owner g seat)) (set_there s.views seat v w at);
        holds = h.2;
        cell = h.3;
      }

      there : (k : ℕ) → k ≢ g → Cell s.words s.homes s.views r.owner k
          → Cell (set s.words g x) (set s.homes g slot) (set s.views seat w) (moved r.owner g seat) k
      there k ne (inl h) = inl record {
        slot = h.slot;
        at = set_else s.homes g k slot ne ∙ h.at;
        fills = subst (λ (n : ℕ). Fills program roster k n h.slot) (sym (get_or-set_other s.words g k x 0 ne)) h.fills;
      }
      there k ne (inr h) =
          let far : r.owner k ≢ seat = λ e.
          (let is : h.view ≡ v = some-injective h.view v (sym h.there ∙ ap (get_elem? s.views) e ∙ at) in
          ne (sym h.cell ∙ ap (λ (y : View). y.cell) is ∙ only (subst (λ (y : View). y.holds ≡ true) is h.holds))) in
          inr record {
            busy = subst IsBusy (sym (get_or-set_other s.words g k x 0 ne)) h.busy;
            out = set_else s.homes g k slot ne ∙ h.out;
            view = h.view;
            there = ap (get_elem? (set s.views seat w)) (moved_else r.owner g seat k ne) ∙ set_else s.views seat (r.owner k) w far ∙ h.there;
            holds = h.holds;
            cell = h.cell;
          }

      holder : (w.cell ≡ g) × (w.word ≡ x) × IsBusy x → IsHolder (set s.words g x) (moved r.owner g seat) seat w
      holder h = record {
        owns = ap (moved r.owner g seat) h.0 ∙ moved_here r.owner g seat;
        within = subst (λ (k : ℕ). k < length (set s.words g x)) (sym h.0) (subst (λ (n : ℕ). g < n) (sym (length-set s.words g x)) lt);
        same = ap (slice_index (set s.words g x)) h.0 ∙ get_or-set_same s.words g x 0 lt ∙ sym h.1;
        busy = subst IsBusy (sym h.1) h.2;
      }

      other : (j : ℕ) (u : View) → j ≢ seat → get_elem? s.views j ≡ some u → u.holds ≡ true → IsHolder (set s.words g x) (moved r.owner g seat) j u
      other j u ne e holds =
          let h = r.each_view j u e holds in
          let far = others j u ne e holds in
          record {
            owns = moved_else r.owner g seat u.cell far ∙ h.owns;
            within = subst (λ (n : ℕ). u.cell < n) (sym (length-set s.words g x)) h.within;
            same = get_or-set_other s.words g u.cell x 0 far ∙ h.same;
            busy = h.busy;
          }

  -- ---- steps

  pub opens : (n : ℕ) → AreCells program roster (opening (replicate n 0) (replicate n None) first_view)
  opens n = record {
    owner = λ _. 0;
    wide = length-map (replicate n None) some ∙ length-replicate n None ∙ sym (length-replicate n 0);
    each_cell = λ g lt. inl record {
      slot = None;
      at = blank n g (subst (λ (k : ℕ). g < k) (length-replicate n 0) lt);
      fills = inl (none_there n g, refl);
    };
    each_view = one;
  }
    where
      one : (seat : ℕ) (v : View) → get_elem? (first_view ∷ []) seat ≡ some v → v.holds ≡ true → IsHolder (replicate n 0) (λ _. 0) seat v
      one zero v e holds = absurd (off (ap (λ (y : View). y.holds) (some-injective first_view v e) ∙ holds))
      one (suc seat) v e holds = absurd (some-ne-none v (sym e))

  abbrev Goes : State S View → ℕ → ℕ → Me S View → (ℕ → Me S View → Type 0) → ℕ → Type 0
  Goes s g seat me then x = (w : View) × (a : Act S) × Valid s.homes me.1 a × AreCells program roster (stepped s g x seat me.1 w a) × then (get_or s.words g 0) (w, carried_after me.1 a)

  pub seizes : (slots seat : ℕ) (me : Me S View) (g from to : ℕ) → me.0.holds ≡ false → me.1 ≡ [] → g < slots → IsSettled from → IsBusy to
      → Allows (AreCells program roster) slots seat me g (λ n. either (eqb n from) to n) (Seized program roster (step slots g from to none) me)
  seizes slots seat me g from to free bare lt settled busy s r wide at bits =
      exchanged (get_or s.words g 0) from to (Goes s g seat me (Seized program roster (step slots g from to none) me))
      (λ hit. wins hit (r.each_cell g there)) misses
    where
      n : ℕ
      n = get_or s.words g 0

      there : g < length s.words
      there = omega (arith, r.wide, wide)

      word_there : Cell s.words s.homes s.views r.owner g → IsWord (get_or s.words g 0)
      word_there (inl h) = inl (⊎_elim (λ x. inl x.0) (λ x. inr x.0) h.fills)
      word_there (inr h) = inr h.busy

      nobody_has : (u : View) → u.cell ≡ g → IsSettled (get_or s.words g 0) → slice_index s.words u.cell ≡ u.word → IsBusy u.word → ⊥
      nobody_has u e is same b = not_both (get_or s.words g 0) is (subst IsBusy (sym (ap (slice_index s.words) (sym e) ∙ same)) b)

      wins : get_or s.words g 0 ≡ from → Cell s.words s.homes s.views r.owner g → Goes s g seat me (Seized program roster (step slots g from to none) me) to
      wins hit (inr h) = absurd (not_both (get_or s.words g 0) (subst IsSettled (sym hit) settled) h.busy)
      wins hit (inl h) = (
        with_cell (with_found me.0 g to (get_or s.words g 0)) g to,
        takes g h.slot,
        h.at,
        changes s r g seat to none me.0 (with_cell (with_found me.0 g to (get_or s.words g 0)) g to) there at
            (λ holds. absurd (off (sym free ∙ holds)))
            (λ j u ne e holds same. let k = r.each_view j u e holds in nobody_has u same (subst IsSettled (sym hit) settled) k.same k.busy)
            (inr (busy, refl, refl, refl))
            (λ _. (refl, refl, busy)),
        ((λ miss. absurd (miss hit)), (λ _. (h.slot, refl, subst (λ (k : ℕ). Fills program roster g k h.slot) hit h.fills))),
      )

      misses : get_or s.words g 0 ≢ from → Goes s g seat me (Seized program roster (step slots g from to none) me) (get_or s.words g 0)
      misses miss = (
        with_found me.0 g to (get_or s.words g 0),
        keeps,
        tt,
        subst (λ (ws : List ℕ). AreCells program roster record { words = ws; homes = s.homes; views = set s.views seat (with_found me.0 g to (get_or s.words g 0)) }) (sym (set_again s.words g))
            (reviewed s r seat me.0 (with_found me.0 g to (get_or s.words g 0)) at (alike me.0 (with_found me.0 g to (get_or s.words g 0)) refl refl refl)),
        ((λ _. (refl, word_there (r.each_cell g there))), (λ hit. absurd (miss hit))),
      )

  pub settles : (slots seat : ℕ) (me : Me S View) (g word : ℕ) (slot : S) → me.0.holds ≡ true → me.0.cell ≡ g → me.1 ≡ (g, slot) ∷ [] → g < slots → Fills program roster g word slot
      → Allows (AreCells program roster) slots seat me g (λ _. word) (λ _. Settled (step slots g word 0 none) me word)
  settles slots seat me g word slot holds cell has lt fills s r wide at bits =
      subst (λ (cs : List (ℕ × S)). Goes s g seat (me.0, cs) (λ _. Settled (step slots g word 0 none) (me.0, cs) word) word) (sym has) (
        with_stored me.0 g word,
        gives,
        tt,
        changes s r g seat word (some slot) me.0 (with_stored me.0 g word) (omega (arith, r.wide, wide)) at (λ _. cell)
            (λ j u ne e h same. let k = r.each_view j u e h in ne (sym k.owns ∙ ap r.owner (same ∙ sym cell) ∙ (r.each_view seat me.0 at holds).owns))
            (inl (slot, refl, fills))
            (λ h. absurd (off h)),
        refl,
      )

  pub splits : (seat : ℕ) (v left right : View) → left.holds ≡ v.holds → left.cell ≡ v.cell → left.word ≡ v.word → right.holds ≡ false → Splits (AreCells program roster) seat v left right
  splits seat v left right h c x free s r at =
      longer record { words = s.words; homes = s.homes; views = set s.views seat left } (reviewed s r seat v left at (alike v left h c x)) right free

  pub joins : (seat : ℕ) (v : View) (other : ℕ) (w both spent : View) → v.holds ≡ false → both.holds ≡ false → w.holds ≡ false → spent.holds ≡ false
      → Joins (AreCells program roster) seat v other w both spent
  joins seat v other w both spent vh bh wh sh s r at apart there =
      reviewed record { words = s.words; homes = s.homes; views = set s.views seat both } (reviewed s r seat v both at (idle v both vh bh)) other w spent there (idle w spent wh sh)
