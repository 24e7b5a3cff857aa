-- What actors did, by their numbers: those that were noted, and those that have still to be.
use Rattle.std.proofs.Common.{◌≡◌, ◌+◌, ◌<◌, ◌≤◌, ◌++◌, ◌∷◌, [], ℕ, zero, suc, List, length, get_or, map, refl, sym, ap, ◌∙◌, subst, arith, append_assoc, append-nil}
use Rattle.std.proofs.lemmas.List.{map-append}
use Rattle.std.specs.List.{AllByRecursion, range_with_len}
use Rattle.gp_isa.specs.declared.parts.Parts.{Parts}
use Rattle.gp_journal.specs.declared.entry.Entry.{Entry}
use Rattle.gp_journal.specs.declared.goroutine.Worker.{Worker}
use Rattle.gp_journal.specs.declared.settings.Settings.{Settings}
use Rattle.gp_journal.specs.Run.{IsLegal, state_of}
use Rattle.gp_journal.specs.Settings.{AreInRange}
use Rattle.gp_journal.specs.State.{code_of, worker, resting}
use Rattle.gp_journal.specs.Told.{done_of, made_of}
use Rattle.gp_journal.proofs.Lemmas.{is_kept}
use Rattle.gp_workers.specs.Actors.{Actor, numbers_of}
use Rattle.gp_workers.specs.kept.Ending.{done_in, made_in}
use Rattle.gp_workers.proofs.InOrder.{range_more}

-- ---- by worker

mapped : {X : Type 0} (f : X → ℕ) (d : X) (xs : List X) (at : ℕ → X) (a : ℕ) → ((k : ℕ) → k < length xs → at (a + k) ≡ get_or xs k d) → map (λ i. f (at i)) (range_with_len a (length xs)) ≡ map f xs
mapped f d [] at a same = refl
mapped f d (x ∷ xs) at a same =
    ap (λ n. n ∷ map (λ i. f (at i)) (range_with_len (a + 1) (length xs))) (ap f (ap at (let e : a ≡ a + 0 = omega arith in e) ∙ same 0 (omega arith)))
    ∙ ap (λ ns. f x ∷ ns) (mapped f d xs at (a + 1) (λ k low. ap at (let e : a + 1 + k ≡ a + suc k = omega arith in e) ∙ same (suc k) (omega arith)))

pub done_all : (program : Parts) (settings : Settings) (journal : List Entry) → AreInRange settings → IsLegal (code_of program) settings journal →
    map (done_in program settings journal) (range_with_len 0 settings.workers) ≡ done_of (state_of program settings journal)
done_all program settings journal range legal =
    let s = state_of program settings journal in
    let number = (is_kept (code_of program) settings s (record { journal = journal; legal = legal; its_last = refl }) range).numbered.number in
    ap (λ n. map (done_in program settings journal) (range_with_len 0 n)) (sym number)
    ∙ mapped (λ (v : Worker). v.instructions) resting s.workers (worker s) 0 (λ k low. ap (worker s) (let e : 0 + k ≡ k = omega arith in e))

-- the numbers of a row are below its end
range_below : (count a b : ℕ) → a + count ≤ b → AllByRecursion (λ n. n < b) (range_with_len a count)
range_below zero a b fits = tt
range_below (suc count) a b fits = (omega arith, range_below count (a + 1) b (omega arith))

-- ---- before any of them is noted

module _ (program : Parts) (settings : Settings) (journal : List Entry) (range : AreInRange settings) (legal : IsLegal (code_of program) settings journal) (workers : List Actor)
    (all : numbers_of workers ≡ range_with_len 0 settings.workers) where
  pub done_first : (none : List ℕ) → none ≡ [] → none ++ map (done_in program settings journal) (numbers_of workers) ≡ done_of (state_of program settings journal)
  done_first none e =
      ap (λ ns. ns ++ map (done_in program settings journal) (numbers_of workers)) e ∙ ap (map (done_in program settings journal)) all ∙ done_all program settings journal range legal

  pub made_first : (none : List ℕ) → none ≡ [] → none ++ map (made_in settings journal) (numbers_of workers) ≡ map (made_in settings journal) (range_with_len 0 settings.workers)
  made_first none e = ap (λ ns. ns ++ map (made_in settings journal) (numbers_of workers)) e ∙ ap (map (made_in settings journal)) all

  pub low_first : AllByRecursion (λ n. n < settings.workers) (numbers_of workers)
  low_first = subst (AllByRecursion (λ n. n < settings.workers)) (sym all) (range_below settings.workers 0 settings.workers (omega arith))

-- ---- as one of them is

module _ (rest rest' : List Actor) (it : Actor) (steps : rest ≡ it ∷ rest') where
  pub noted_on : (f : ℕ → ℕ) (sofar next whole : List ℕ) → sofar ++ map f (numbers_of rest) ≡ whole → next ≡ sofar ++ f it.number ∷ [] → next ++ map f (numbers_of rest') ≡ whole
  noted_on f sofar next whole e is =
      ap (λ ns. ns ++ map f (numbers_of rest')) is ∙ append_assoc sofar (f it.number ∷ []) (map f (numbers_of rest')) ∙ ap (λ (xs : List Actor). sofar ++ map f (numbers_of xs)) (sym steps) ∙ e

  lows : (b : ℕ) → AllByRecursion (λ n. n < b) (numbers_of rest) → AllByRecursion (λ n. n < b) (numbers_of (it ∷ rest'))
  lows b low = subst (λ (xs : List Actor). AllByRecursion (λ n. n < b) (numbers_of xs)) steps low

  pub low_now : (b : ℕ) → AllByRecursion (λ n. n < b) (numbers_of rest) → it.number < b
  low_now b low = (lows b low).0

  pub low_rest : (b : ℕ) → AllByRecursion (λ n. n < b) (numbers_of rest) → AllByRecursion (λ n. n < b) (numbers_of rest')
  low_rest b low = (lows b low).1

-- ---- once all are

pub all_noted : (f : ℕ → ℕ) (sofar whole : List ℕ) (rest : List Actor) → rest ≡ [] → sofar ++ map f (numbers_of rest) ≡ whole → sofar ≡ whole
all_noted f sofar whole rest none e = sym (append-nil sofar) ∙ ap (λ (xs : List Actor). sofar ++ map f (numbers_of xs)) (sym none) ∙ e

-- and the profiler behind them
pub made_all : (settings : Settings) (journal : List Entry) (made : List ℕ) (last : ℕ) → made ≡ map (made_in settings journal) (range_with_len 0 settings.workers) → last ≡ made_in settings journal settings.workers →
    made ++ last ∷ [] ≡ made_of settings journal
made_all settings journal made last e is =
    let f = made_in settings journal in let n = settings.workers in let row = range_with_len 0 n in
    ap (λ ns. ns ++ last ∷ []) e ∙ ap (λ m. map f row ++ m ∷ []) (is ∙ ap f (let same : n ≡ 0 + n = omega arith in same)) ∙ sym (map-append f row ((0 + n) ∷ [])) ∙ ap (map f) (sym (range_more n 0))
