-- How many goroutines have still to be recorded: as a profile is opened, and over each entry until it is closed.
use Rattle.std.proofs.Common.{◌≡◌, ℕ, ◌+◌, ◌<◌, Bool, true, false, List, [], ◌∷◌, ◌++◌, length, get_or, set, cond, count_by, refl, sym, ap, ◌∙◌, subst, arith, suc, true≢false}
use Rattle.std.proofs.lemmas.List.Sums.{sum_by-cons, sum_by-set}
use Rattle.gp_journal.specs.declared.entry.Entry.{Entry}
use Rattle.gp_journal.specs.declared.entry.Entry.TheVariants.{Start, Run, Op, Tick, Park, Open, Refuse, Record, Close}
use Rattle.gp_journal.specs.declared.goroutine.Goroutine.{Goroutine}
use Rattle.gp_journal.specs.declared.settings.Settings.{Settings}
use Rattle.gp_journal.specs.State.{Code, State, nobody, goroutine, is_live, is_behind, live, number_behind, unrecorded, first}
use Rattle.gp_journal.specs.May.{May}
use Rattle.gp_journal.specs.Effect.{recorded, after}
use Rattle.gp_journal.specs.Run.{AreLegal, after_all, last}
use Rattle.gp_journal.specs.Frozen.{rows_taken}
use Rattle.gp_journal.specs.JournalLaw.{has_close, UnrecordedAddUp}
use Rattle.gp_journal.proofs.Whole.{IsWhole, live_within}
use Rattle.gp_journal.proofs.Parts.{one_if}
use Rattle.gp_journal.proofs.Steps.{step_whole, behind_parts}
use Rattle.gp_journal.proofs.Rows.{Settled, IsQuiet, step_settled, not_behind}
use Rattle.gp_journal.proofs.Law.{first_whole, all_whole, front_legal, rest_legal, after_all-append, quiet_active, record_active, all_behind, none_opens, opened}

same_bit : (a b : Bool) → a ≡ b → one_if a ≡ one_if b
same_bit a b e = ap one_if e

-- where the same ones are behind, as many are
pub behind_same : (active : ℕ) (xs ys : List Goroutine) → Settled active xs ys → number_behind active ys ≡ number_behind active xs
behind_same active [] [] h = refl
behind_same active [] (y ∷ ys) h =
    let e = same_bit _ _ ((h 0).same) in
    omega (arith, sum_by-cons (λ x. cond (is_behind active x) 1 0) y ys, behind_same active [] ys (λ k. h (suc k)))
behind_same active (x ∷ xs) [] h =
    let e = same_bit _ _ ((h 0).same) in
    omega (arith, sum_by-cons (λ z. cond (is_behind active z) 1 0) x xs, behind_same active xs [] (λ k. h (suc k)))
behind_same active (x ∷ xs) (y ∷ ys) h =
    let e = same_bit _ _ ((h 0).same) in
    omega (
      arith,
      sum_by-cons (λ z. cond (is_behind active z) 1 0) x xs,
      sum_by-cons (λ z. cond (is_behind active z) 1 0) y ys,
      behind_same active xs ys (λ k. h (suc k)),
    )

-- one of those that were behind is recorded
pub behind_less : (active g : ℕ) (gs : List Goroutine) (y : Goroutine) → g < length gs → is_behind active (get_or gs g nobody) ≡ true →
    is_behind active y ≡ false → number_behind active (set gs g y) + 1 ≡ number_behind active gs
behind_less active g gs y within was isnt =
    let a = same_bit _ _ was in let b = same_bit _ _ isnt in
    omega (arith, sum_by-set (λ z. cond (is_behind active z) 1 0) gs g y nobody within)

-- where all that are live are behind, as many are
behind_all : (active : ℕ) (gs : List Goroutine) → ((k : ℕ) → is_behind active (get_or gs k nobody) ≡ is_live (get_or gs k nobody)) →
    number_behind active gs ≡ count_by is_live gs
behind_all active [] h = refl
behind_all active (x ∷ xs) h =
    let e = same_bit _ _ (h 0) in
    omega (
      arith,
      sum_by-cons (λ z. cond (is_behind active z) 1 0) x xs,
      sum_by-cons (λ z. cond (is_live z) 1 0) x xs,
      behind_all active xs (λ k. h (suc k)),
    )

module _ (code : Code) (settings : Settings) (s : State) (whole : IsWhole s) where
  -- As a profile is opened all live ones have to be recorded.
  pub unrecorded_open : (epoch room : ℕ) → May code settings s (Open epoch room) → unrecorded (after code settings s (Open epoch room)) ≡ live s
  unrecorded_open epoch room may =
      let t = after code settings s (Open epoch room) in
      let o = opened code settings s epoch room in
      ap (λ gs. number_behind t.active gs) o.same_goroutines ∙ ap (λ a. number_behind a s.goroutines) o.now_active
      ∙ behind_all epoch s.goroutines (all_behind settings epoch room s whole may)

  -- A Record leaves one fewer.
  pub unrecorded_record : (actor g : ℕ) → May code settings s (Record actor g) → unrecorded (after code settings s (Record actor g)) + 1 ≡ unrecorded s
  unfolding after
  unrecorded_record actor g may =
      let y = recorded s.active (goroutine s g) in
      let within = live_within s.goroutines g ((behind_parts s.active (goroutine s g) may.unrecorded).0) in
      behind_less s.active g s.goroutines y within may.unrecorded (not_behind s.active y (omega arith))

  -- Entries that open, record and close nothing leave as many.
  pub unrecorded_quiet : (entry : Entry) → May code settings s entry → IsQuiet entry → unrecorded (after code settings s entry) ≡ unrecorded s
  unrecorded_quiet entry may quiet =
      let t = after code settings s entry in
      ap (λ a. number_behind a t.goroutines) (quiet_active code settings s entry whole may quiet)
      ∙ behind_same s.active s.goroutines t.goroutines (step_settled code settings s entry whole may quiet)

-- The rows taken from a state on, and those that have still to be recorded then, are together those that have to be
-- recorded in that state.
abbrev AddUp : Code → Settings → State → List Entry → Type 0
AddUp code settings s entries = length (rows_taken code settings s entries) + unrecorded (after_all code settings s entries) ≡ unrecorded s

quiet_adds : (code : Code) (settings : Settings) (s : State) (entry : Entry) (entries : List Entry) → IsWhole s → 0 < s.active →
    May code settings s entry × AreLegal code settings (after code settings s entry) entries → IsQuiet entry →
    ((t : State) → IsWhole t → 0 < t.active → AreLegal code settings t entries → AddUp code settings t entries) →
    length (rows_taken code settings (after code settings s entry) entries) + unrecorded (after_all code settings (after code settings s entry) entries) ≡ unrecorded s
quiet_adds code settings s entry entries whole some legal quiet rest =
    let t = after code settings s entry in
    let same = quiet_active code settings s entry whole legal.0 quiet in
    rest t (step_whole code settings s entry whole legal.0) (subst (λ a. 0 < a) (sym same) some) legal.1
    ∙ unrecorded_quiet code settings s whole entry legal.0 quiet

all_add : (code : Code) (settings : Settings) (entries : List Entry) → has_close entries ≡ false → (s : State) → IsWhole s → 0 < s.active →
    AreLegal code settings s entries → AddUp code settings s entries
all_add code settings [] none s whole some legal = omega arith
all_add code settings (Close epoch ∷ entries) none s whole some legal = absurd (true≢false none)
all_add code settings (Open epoch room ∷ entries) none s whole some legal = absurd (none_opens settings s epoch room some legal.0)
all_add code settings (Record actor g ∷ entries) none s whole some legal =
    let t = after code settings s (Record actor g) in
    let now = step_whole code settings s (Record actor g) whole legal.0 in
    let more = all_add code settings entries none t now (record_active code settings s actor g some) legal.1 in
    let one = unrecorded_record code settings s whole actor g legal.0 in omega arith
all_add code settings (Start w g ∷ entries) none s whole some legal =
    quiet_adds code settings s (Start w g) entries whole some legal tt (all_add code settings entries none)
all_add code settings (Run w g n ∷ entries) none s whole some legal =
    quiet_adds code settings s (Run w g n) entries whole some legal tt (all_add code settings entries none)
all_add code settings (Op w g ∷ entries) none s whole some legal =
    quiet_adds code settings s (Op w g) entries whole some legal tt (all_add code settings entries none)
all_add code settings (Tick w g ∷ entries) none s whole some legal =
    quiet_adds code settings s (Tick w g) entries whole some legal tt (all_add code settings entries none)
all_add code settings (Park w g ∷ entries) none s whole some legal =
    quiet_adds code settings s (Park w g) entries whole some legal tt (all_add code settings entries none)
all_add code settings (Refuse room n ∷ entries) none s whole some legal =
    quiet_adds code settings s (Refuse room n) entries whole some legal tt (all_add code settings entries none)

pub unrecorded_add_up : UnrecordedAddUp
unrecorded_add_up code settings before epoch room during legal none =
    let s = last code settings before in
    let e = Open epoch room in
    let whole = all_whole code settings (first code settings) before (first_whole code settings) (front_legal code settings (first code settings) before (e ∷ during) legal) in
    let from_here = rest_legal code settings (first code settings) before (e ∷ during) legal in
    let t = after code settings s e in
    let o = opened code settings s epoch room in
    let some : 0 < t.active = let n = from_here.0.next_epoch in let a = o.now_active in omega arith in
    let more = all_add code settings during none t (step_whole code settings s e whole from_here.0) some from_here.1 in
    let at_open = after_all-append code settings (first code settings) before (e ∷ []) in
    let at_end = after_all-append code settings (first code settings) before (e ∷ during) in
    ap (λ u. length (rows_taken code settings u during) + unrecorded (last code settings (before ++ e ∷ during))) at_open
    ∙ ap (λ u. length (rows_taken code settings t during) + unrecorded u) at_end
    ∙ more ∙ unrecorded_open code settings s whole epoch room from_here.0
