-- What stands behind the lock as a run begins.
use Rattle.std.proofs.Common.{◌≡◌, ◌≤◌, ◌+◌, ◌++◌, ◌∷◌, [], ℕ, List, length, map, refl, sym, ap, ◌∙◌, subst, true≢false, Some, unwrap_or, arith}
use Rattle.std.specs.List.{AllByRecursion, range_with_len}
use Rattle.std.proofs.lemmas.List.{length-map, map-append}
use Rattle.std.proofs.lemmas.List.FromFn.{length-range_with_len}
use Rattle.atomic_table.specs.Seated.{TableId}
use Rattle.gp_isa.specs.declared.parts.Parts.{Parts}
use Rattle.gp_isa.specs.Checked.{main_of}
use Rattle.gp_stack.specs.declared.body.Body.{Body}
use Rattle.gp_stack.specs.Body.{Progress, progress_of, StandsIn}
use Rattle.gp_journal.specs.declared.settings.Settings.{Settings}
use Rattle.gp_journal.specs.Bodies.{AreBodiesOf}
use Rattle.gp_journal.specs.Settings.{AreInRange}
use Rattle.gp_journal.specs.State.{code_of, first}
use Rattle.gp_journal.proofs.Lemmas.{first_bodies}
use Rattle.gp_tally.specs.Rows.{Part}
use Rattle.gp_world.specs.Rows.{blank, share_of, shares_of}
use Rattle.gp_workers.specs.kept.Locked.{Fit}
use Rattle.gp_workers.specs.Actors.{Actor, numbers_of, AreActors}
use Rattle.gp_workers.proofs.InOrder.{Splits, all_taken, range_more}

pub begun_fit : (program : Parts) (settings : Settings) (room main : ℕ) (bodies : List Body) (body : Body) → bodies ≡ body ∷ [] → AreInRange settings → main_of program ≡ Some main → StandsIn program body →
    progress_of body ≡ record { start = main; set = 0; count = 0 } → settings.cells ≤ room → Fit program settings [] room bodies
begun_fit program settings room main bodies body alone range is_main stands place fits = subst (Fit program settings [] room) (sym alone) (record {
  in_range = range;
  stand = (stands, tt);
  its_bodies = subst (λ (p : Progress). AreBodiesOf (first (code_of program) settings) (p ∷ [])) (sym place)
      (subst (λ n. AreBodiesOf (first (code_of program) settings) (record { start = n; set = 0; count = 0 } ∷ [])) (ap (λ o. unwrap_or o 0) is_main) (first_bodies (code_of program) settings));
  has_room = fits;
})

-- ---- the shares that are issued, and the actors

issued_numbers : (book : TableId) (ns : List ℕ) → map (λ (s : Part). s.number) (map (share_of book) ns) ≡ ns
issued_numbers book [] = refl
issued_numbers book (n ∷ ns) = ap (λ ms. n ∷ ms) (issued_numbers book ns)

issued_each : (book : TableId) (ns : List ℕ) → AllByRecursion (λ (s : Part). (s.book ≡ book) × (s.row ≡ blank)) (map (share_of book) ns)
issued_each book [] = tt
issued_each book (n ∷ ns) = ((refl, refl), issued_each book ns)

pub shares_numbers : (book : TableId) (workers : ℕ) (shares : List Part) → shares ≡ shares_of book workers → map (λ (s : Part). s.number) shares ≡ range_with_len 0 (workers + 1)
shares_numbers book workers shares e = ap (map (λ (s : Part). s.number)) e ∙ issued_numbers book (range_with_len 0 (workers + 1))

pub shares_each : (book : TableId) (workers : ℕ) (shares : List Part) → shares ≡ shares_of book workers → AllByRecursion (λ (s : Part). (s.book ≡ book) × (s.row ≡ blank)) shares
shares_each book workers shares e = subst (AllByRecursion (λ (s : Part). (s.book ≡ book) × (s.row ≡ blank))) (sym e) (issued_each book (range_with_len 0 (workers + 1)))

pub shares_number : (book : TableId) (workers : ℕ) (shares : List Part) → shares ≡ shares_of book workers → length shares ≡ workers + 1
shares_number book workers shares e =
    ap length e ∙ length-map (range_with_len 0 (workers + 1)) (share_of book) ∙ length-range_with_len 0 (workers + 1)

-- the reader comes behind all others
pub with_reader : (workers : ℕ) (numbers : List ℕ) → numbers ≡ range_with_len 0 (workers + 1) → numbers ++ (workers + 1) ∷ [] ≡ range_with_len 0 (workers + 2)
with_reader workers numbers e =
    ap (λ ns. ns ++ (workers + 1) ∷ []) e ∙ ap (λ n. range_with_len 0 (workers + 1) ++ n ∷ []) (let same : workers + 1 ≡ 0 + (workers + 1) = omega arith in same)
    ∙ sym (range_more (workers + 1) 0) ∙ ap (range_with_len 0) (let same : workers + 1 + 1 ≡ workers + 2 = omega arith in same)

-- Once no share is left, those who have one are all but the reader.
module _ (settings : Settings) (actors : List Actor) (shares : List Part) (none : shares ≡ []) (splits : Splits (settings.workers + 1) (numbers_of actors) (map (λ (s : Part). s.number) shares)) where
  all_seated : numbers_of actors ≡ range_with_len 0 (settings.workers + 1)
  all_seated = all_taken (settings.workers + 1) (numbers_of actors) (subst (λ (ss : List Part). Splits (settings.workers + 1) (numbers_of actors) (map (λ (s : Part). s.number) ss)) none splits)

  pub so_many : length actors ≡ settings.workers + 1
  so_many = sym (length-map actors (λ (it : Actor). it.number)) ∙ ap length all_seated ∙ length-range_with_len 0 (settings.workers + 1)

  pub all_with_reader : (all : List Actor) (it : Actor) → all ≡ actors ++ it ∷ [] → it.number ≡ settings.workers + 1 → AreActors settings all
  all_with_reader all it pushed behind =
      ap numbers_of pushed ∙ map-append (λ (a : Actor). a.number) actors (it ∷ []) ∙ ap (λ n. numbers_of actors ++ n ∷ []) behind ∙ with_reader settings.workers (numbers_of actors) all_seated
