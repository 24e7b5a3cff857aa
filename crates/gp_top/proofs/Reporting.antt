-- What a report tells of the journal of a run.
use Rattle.std.proofs.Common.{◌≡◌, ◌≤◌, ◌<◌, ◌+◌, ◌^◌, ℕ, List, [], ◌∷◌, ◌++◌, length, get_or, take, map, refl, sym, ap, subst, ◌∙◌, arith}
use Rattle.std.proofs.lemmas.List.{length-map, get_or-map, take_more, take_all}
use Rattle.std.proofs.lemmas.List.FromFn.{map-range_with_len_more}
use Rattle.std.specs.List.{range_with_len}
use Rattle.gp_isa.specs.declared.parts.Parts.{Parts}
use Rattle.gp_events.specs.Event.{Event}
use Rattle.gp_events.specs.declared.sum.Sum.{Sum}
use Rattle.gp_events.specs.Order.{sums_in_order}
use Rattle.gp_events.specs.Sums.{sums}
use Rattle.gp_journal.specs.declared.entry.Entry.{Entry}
use Rattle.gp_journal.specs.declared.entry.Entry.TheVariants.{Open, Refuse, Record, Close}
use Rattle.gp_journal.specs.declared.goroutine.Worker.{Worker}
use Rattle.gp_journal.specs.declared.settings.Settings.{Settings}
use Rattle.gp_machine.specs.Settings.{AreInRange}
use Rattle.gp_machine.specs.State.{Code, State, code_of, first, resting}
use Rattle.gp_machine.specs.Effect.{after}
use Rattle.gp_machine.specs.Run.{IsLegal, last, state_of}
use Rattle.gp_machine.specs.Frozen.{rows_taken}
use Rattle.gp_journal.specs.Actors.{made_by}
use Rattle.gp_journal.specs.Told.{made_of}
use Rattle.gp_journal.proofs.Lemmas.{kept_at}
use Rattle.gp_journal.specs.Profiles.{records_from, records_of}
use Rattle.gp_top.specs.Report.{ids_taken, recorded_ids, ids, refusals}

pub refusals_more : (xs : List Entry) (x : Entry) → refusals (xs ++ x ∷ []) ≡ refusals xs ++ refusals (x ∷ [])
refusals_more [] x = refl
refusals_more (Refuse room n ∷ xs) x = ap (λ l. (room, n) ∷ l) (refusals_more xs x)
refusals_more (y ∷ xs) x = refusals_more xs x

-- sums of a run's events that were put in order, and a clock, by the journal of its report
module _ (program given : Parts) (settings : Settings) (machine journal : List Entry) (same : given ≡ program) (is : journal ≡ machine) where
  pub ordered_sums : (events : Code → Settings → List Entry → List Event) (made ordered : List Sum) → ordered ≡ sums_in_order given made
      → made ≡ sums (events (code_of program) settings machine) → ordered ≡ sums_in_order program (sums (events (code_of program) settings journal))
  ordered_sums events made ordered in_order are =
      in_order
      ∙ (ap (λ p. sums_in_order p made) same
      ∙ (ap (sums_in_order program) are ∙ ap (λ j. sums_in_order program (sums (events (code_of program) settings j))) (sym is)))

  pub journal_clock : (clock : ℕ) → clock ≡ (state_of program settings machine).clock → clock ≡ (state_of program settings journal).clock
  journal_clock clock told = told ∙ ap (λ j. (state_of program settings j).clock) (sym is)

-- an entry that is no Refuse
pub none_refused : (x : Entry) → ((room n : ℕ) → x ≡ Refuse room n → ⊥) → refusals (x ∷ []) ≡ []
none_refused (Refuse room n) isnt = absurd (isnt room n refl)
none_refused x isnt = refl

-- a journal's workers are as many as the options say
pub number_of_workers : (code : Code) (settings given : Settings) (journal : List Entry) → given ≡ settings → AreInRange given → IsLegal code settings journal
    → length (last code settings journal).workers ≡ given.workers
number_of_workers code settings given journal same range legal =
    (kept_at code settings journal (subst AreInRange same range) legal).numbered.number ∙ sym (ap (λ (s : Settings). s.workers) same)

-- the clock of a legal journal is far from its type's end
pub clock_fits : (code : Code) (settings : Settings) (journal : List Entry) → AreInRange settings → IsLegal code settings journal → (last code settings journal).clock < 2 ^ 53
clock_fits code settings journal range legal =
    let kept = kept_at code settings journal range legal in
    let bound = kept.numbered.bound in
    let few = kept.bounded.few in
    let a = range.entries in
    let b = range.cells in
    let c = range.workers in
    omega arith

abbrev pub instructions_of : Worker → ℕ
instructions_of worker = worker.instructions

-- the instructions of one worker more
pub done_more : (workers : List Worker) (done now : List ℕ) (at n : ℕ) → at < length workers → done ≡ take at (map instructions_of workers)
    → n ≡ (get_or workers at resting).instructions → now ≡ done ++ n ∷ [] → now ≡ take (at + 1) (map instructions_of workers)
done_more workers done now at n within so_far is pushed =
    pushed ∙ (ap (λ (l : List ℕ). l ++ n ∷ []) so_far
    ∙ (ap (λ (k : ℕ). take at (map instructions_of workers) ++ k ∷ []) (is ∙ sym (get_or-map instructions_of workers at resting 0 within))
    ∙ sym (take_more (map instructions_of workers) at 0 (omega (arith, length-map workers instructions_of)))))

-- the instructions of all workers
pub all_done : (workers : List Worker) (done all : List ℕ) (at : ℕ) → length workers ≤ at → done ≡ take at (map instructions_of workers) → all ≡ done
    → all ≡ map instructions_of workers
all_done workers done all at past so_far is =
    is ∙ (so_far ∙ take_all at (map instructions_of workers) (omega (arith, length-map workers instructions_of)))

-- the number of entries of one actor more
pub made_more : (settings : Settings) (journal : List Entry) (made now : List ℕ) (at n : ℕ) → made ≡ map (λ actor. made_by settings actor journal) (range_with_len 0 at)
    → n ≡ made_by settings at journal → now ≡ made ++ n ∷ [] → now ≡ map (λ actor. made_by settings actor journal) (range_with_len 0 (at + 1))
made_more settings journal made now at n so_far is pushed =
    let of : ℕ → ℕ = λ actor. made_by settings actor journal in
    pushed ∙ (ap (λ (l : List ℕ). l ++ n ∷ []) so_far
    ∙ (ap (λ (k : ℕ). map of (range_with_len 0 at) ++ k ∷ []) is ∙ sym (map-range_with_len_more of 0 at at (omega arith))))

-- the numbers of all actors
pub all_made : (settings given : Settings) (journal : List Entry) (made all : List ℕ) (at : ℕ) → given ≡ settings → at ≤ given.workers + 1 → given.workers + 1 ≤ at
    → made ≡ map (λ actor. made_by settings actor journal) (range_with_len 0 at) → all ≡ made → all ≡ made_of settings journal
all_made settings given journal made all at same within past so_far is =
    let workers = ap (λ (s : Settings). s.workers) same in
    let end : at ≡ settings.workers + 1 = omega (arith, workers) in
    is ∙ (so_far ∙ ap (λ (k : ℕ). map (λ actor. made_by settings actor journal) (range_with_len 0 k)) end)

module _ (code : Code) (settings : Settings) where
  taken_ids : (s : State) (entries : List Entry) → ids (rows_taken code settings s entries) ≡ ids_taken entries
  taken_ids s [] = refl
  taken_ids s (Record actor g ∷ entries) = ap (λ l. g ∷ l) (taken_ids (after code settings s (Record actor g)) entries)
  taken_ids s (Close epoch ∷ entries) = refl
  taken_ids s (x ∷ entries) = taken_ids (after code settings s x) entries

  recorded_from : (s : State) (entries : List Entry) → map ids (records_from code settings s entries) ≡ recorded_ids entries
  recorded_from s [] = refl
  recorded_from s (Open epoch room ∷ entries) =
      let opened = after code settings s (Open epoch room) in
      ap (λ l. l ∷ map ids (records_from code settings opened entries)) (taken_ids opened entries)
      ∙ ap (λ l. ids_taken entries ∷ l) (recorded_from opened entries)
  recorded_from s (x ∷ entries) = recorded_from (after code settings s x) entries

  -- The records of a journal name the goroutines that its Record entries name.
  pub are_recorded : (journal : List Entry) → map ids (records_of code settings journal) ≡ recorded_ids journal
  unfolding records_of
  are_recorded journal = recorded_from (first code settings) journal
