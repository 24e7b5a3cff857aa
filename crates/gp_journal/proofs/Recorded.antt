-- How the records of the goroutine profiles grow, and that they are the frozen rows.
use Rattle.std.proofs.Common.{◌≡◌, ◌⊎◌, inl, inr, ℕ, ◌+◌, ◌-◌, ◌<◌, Bool, true, false, List, [], ◌∷◌, ◌++◌, length, get_or, refl, sym, ap, ◌∙◌, subst, arith, suc, true≢false, get_or-set_same, length-set}
use Rattle.std.proofs.lemmas.List.{get_or_push, length_push}
use Rattle.gp_stack.specs.declared.record.Record.{Record as Row}
use Rattle.gp_journal.specs.declared.entry.Entry.{Entry}
use Rattle.gp_journal.specs.declared.entry.Entry.TheVariants.{Open, Record, Close}
use Rattle.gp_journal.specs.declared.settings.Settings.{Settings}
use Rattle.gp_journal.specs.State.{Code, State, goroutine, first}
use Rattle.gp_journal.specs.May.{May}
use Rattle.gp_journal.specs.Effect.{after}
use Rattle.gp_journal.specs.Run.{AreLegal, IsLegal, after_all, last}
use Rattle.gp_journal.specs.Frozen.{row, frozen, rows_taken, sorted}
use Rattle.gp_journal.specs.JournalLaw.{has_close}
use Rattle.gp_journal.proofs.Whole.{IsWhole}
use Rattle.gp_journal.proofs.EachEntry.{step_epochs}
use Rattle.gp_journal.proofs.Steps.{step_whole, none_active, active_last}
use Rattle.gp_journal.proofs.Law.{first_whole, all_whole, front_legal, rest_legal, after_all-append, quiet_active, rows_are_frozen}
use Rattle.gp_journal.specs.Profiles.{records_from, records_of, last_rows, with_row}
use Rattle.gp_journal.specs.ProfilesLaw.{RecordsGrow, RecordsAreCounted, RecordsAreFrozen}

-- one legal entry more
pub appended : (code : Code) (settings : Settings) (s : State) (journal : List Entry) (entry : Entry) → AreLegal code settings s journal → May code settings (after_all code settings s journal) entry → AreLegal code settings s (journal ++ entry ∷ [])
appended code settings s [] entry legal may = (may, tt)
appended code settings s (x ∷ xs) entry legal may = (legal.0, appended code settings (after code settings s x) xs entry legal.1 may)

-- one row more, where there is one list, and where there are others before the last
one_list : (rows : List Row) (new : Row) → with_row (rows ∷ []) new ≡ (rows ++ new ∷ []) ∷ []
one_list rows new = refl

more_lists : (rows : List Row) (lists : List (List Row)) (new : Row) → 0 < length lists → with_row (rows ∷ lists) new ≡ rows ∷ with_row lists new
more_lists rows lists new some = let e : suc (length lists) - 1 ≡ suc (length lists - 1) = omega arith in rw e refl

-- the last of some lists
pub last_is : (lists : List (List Row)) (rows : List Row) → last_rows (lists ++ rows ∷ []) ≡ rows
last_is lists rows =
    get_or_push lists rows [] (length (lists ++ rows ∷ []) - 1) (omega (arith, length_push lists rows))

-- it gets one row more
pub with_row_last : (lists : List (List Row)) (rows : List Row) (new : Row) → with_row (lists ++ rows ∷ []) new ≡ lists ++ (rows ++ new ∷ []) ∷ []
with_row_last [] rows new = one_list rows new
with_row_last (x ∷ lists) rows new =
    more_lists x (lists ++ rows ∷ []) new (omega (arith, length_push lists rows)) ∙ ap (λ more. x ∷ more) (with_row_last lists rows new)

pub last_grown : (lists : List (List Row)) (new : Row) → 0 < length lists → last_rows (with_row lists new) ≡ last_rows lists ++ new ∷ []
last_grown lists new some =
    ap (λ n. get_or (with_row lists new) (n - 1) []) (length-set lists (length lists - 1) (last_rows lists ++ new ∷ []))
    ∙ get_or-set_same lists (length lists - 1) (last_rows lists ++ new ∷ []) [] (omega arith)

-- an entry that takes no row, and one that begins no list either
abbrev TakesNone : Entry → Type 0
TakesNone (Record actor g) = ⊥
TakesNone _ = Unit {0}

abbrev BeginsNone : Entry → Type 0
BeginsNone (Record actor g) = ⊥
BeginsNone (Open epoch room) = ⊥
BeginsNone _ = Unit {0}

takes_none : (entry : Entry) → BeginsNone entry → TakesNone entry
takes_none (Record actor g) none = none
takes_none entry none = tt

-- an entry that opens no profile
abbrev pub OpensNone : Entry → Type 0
OpensNone (Open epoch room) = ⊥
OpensNone _ = Unit {0}

-- From a state on, in which a profile is active, no list is begun, and it stays active.
record StillOpen (code : Code) (settings : Settings) (s : State) (entries : List Entry) : Type 0 where
  none : records_from code settings s entries ≡ []
  active : 0 < (after_all code settings s entries).active

-- There are lists from a state on, and a Record at the end gives the last one its row.
record Grows (code : Code) (settings : Settings) (s : State) (entries : List Entry) (actor g : ℕ) : Type 0 where
  some : 0 < length (records_from code settings s entries)
  more : records_from code settings s (entries ++ Record actor g ∷ []) ≡ with_row (records_from code settings s entries) (row code g (goroutine (after_all code settings s entries) g))

-- no profile is active, or the one that is will be closed
abbrev NoneLeft : State → List Entry → Type 0
NoneLeft s entries = (s.active ≡ 0) ⊎ (has_close entries ≡ true)

none_left : (s t : State) (entries : List Entry) → t.active ≡ s.active → NoneLeft s entries → NoneLeft t entries
none_left s t entries same (inl none) = inl (same ∙ none)
none_left s t entries same (inr closes) = inr closes

module _ (code : Code) (settings : Settings) where
  -- Rows taken, with one entry more.
  rows_kept : (s : State) (entries : List Entry) (entry : Entry) → TakesNone entry → rows_taken code settings s (entries ++ entry ∷ []) ≡ rows_taken code settings s entries
  rows_kept s [] (Record actor g) none = absurd none
  rows_kept s [] entry none = refl
  rows_kept s (Record actor g ∷ entries) entry none = ap (λ rows. row code g (goroutine s g) ∷ rows) (rows_kept (after code settings s (Record actor g)) entries entry none)
  rows_kept s (Close epoch ∷ entries) entry none = refl
  rows_kept s (x ∷ entries) entry none = rows_kept (after code settings s x) entries entry none

  -- A Close ends them.
  rows_closed : (s : State) (entries more : List Entry) → has_close entries ≡ true → rows_taken code settings s (entries ++ more) ≡ rows_taken code settings s entries
  rows_closed s [] more closes = absurd (true≢false (sym closes))
  rows_closed s (Record actor g ∷ entries) more closes = ap (λ rows. row code g (goroutine s g) ∷ rows) (rows_closed (after code settings s (Record actor g)) entries more closes)
  rows_closed s (Close epoch ∷ entries) more closes = refl
  rows_closed s (x ∷ entries) more closes = rows_closed (after code settings s x) entries more closes

  rows_more : (s : State) (entries : List Entry) (actor g : ℕ) → has_close entries ≡ false →
      rows_taken code settings s (entries ++ Record actor g ∷ []) ≡ rows_taken code settings s entries ++ row code g (goroutine (after_all code settings s entries) g) ∷ []
  rows_more s [] actor g open_yet = refl
  rows_more s (Record actor' g' ∷ entries) actor g open_yet = ap (λ rows. row code g' (goroutine s g') ∷ rows) (rows_more (after code settings s (Record actor' g')) entries actor g open_yet)
  rows_more s (Close epoch ∷ entries) actor g open_yet = absurd (true≢false open_yet)
  rows_more s (x ∷ entries) actor g open_yet = rows_more (after code settings s x) entries actor g open_yet

  -- The lists, with one entry more.
  lists_kept : (s : State) (entries : List Entry) (entry : Entry) → BeginsNone entry → records_from code settings s (entries ++ entry ∷ []) ≡ records_from code settings s entries
  lists_kept s [] (Record actor g) none = absurd none
  lists_kept s [] (Open epoch room) none = absurd none
  lists_kept s [] entry none = refl
  lists_kept s (Open epoch room ∷ entries) entry none =
      let t = after code settings s (Open epoch room) in
      ap (λ rows. rows ∷ records_from code settings t (entries ++ entry ∷ [])) (rows_kept t entries entry (takes_none entry none))
      ∙ ap (λ lists. rows_taken code settings t entries ∷ lists) (lists_kept t entries entry none)
  lists_kept s (x ∷ entries) entry none = lists_kept (after code settings s x) entries entry none

  lists_begun : (s : State) (entries : List Entry) (epoch room : ℕ) → records_from code settings s (entries ++ Open epoch room ∷ []) ≡ records_from code settings s entries ++ [] ∷ []
  lists_begun s [] epoch room = refl
  lists_begun s (Open epoch' room' ∷ entries) epoch room =
      let t = after code settings s (Open epoch' room') in
      ap (λ rows. rows ∷ records_from code settings t (entries ++ Open epoch room ∷ [])) (rows_kept t entries (Open epoch room) tt)
      ∙ ap (λ lists. rows_taken code settings t entries ∷ lists) (lists_begun t entries epoch room)
  lists_begun s (x ∷ entries) epoch room = lists_begun (after code settings s x) entries epoch room

  -- Where no list is begun, a Record begins none.
  none_begun : (s : State) (entries : List Entry) (actor g : ℕ) → records_from code settings s entries ≡ [] → records_from code settings s (entries ++ Record actor g ∷ []) ≡ []
  none_begun s [] actor g none = refl
  none_begun s (Open epoch room ∷ entries) actor g none = absurd (cc)
  none_begun s (x ∷ entries) actor g none = none_begun (after code settings s x) entries actor g none

  -- What an entry does to the active profile, and to the last epoch.
  pub opened_active : (s : State) (epoch room : ℕ) → (after code settings s (Open epoch room)).active ≡ epoch
  unfolding after
  opened_active s epoch room = refl

  pub opened_last : (s : State) (epoch room : ℕ) → (after code settings s (Open epoch room)).last_epoch ≡ epoch
  unfolding after
  opened_last s epoch room = refl

  pub recorded_active : (s : State) (actor g : ℕ) → (after code settings s (Record actor g)).active ≡ s.active
  unfolding after
  recorded_active s actor g = refl

  pub closed_active : (s : State) (epoch : ℕ) → (after code settings s (Close epoch)).active ≡ 0
  unfolding after
  closed_active s epoch = refl

  opened_some : (s : State) (epoch room : ℕ) → May code settings s (Open epoch room) → 0 < (after code settings s (Open epoch room)).active
  opened_some s epoch room may = let a = opened_active s epoch room in let n = may.next_epoch in omega arith

  pub keeps_last : (s : State) (entry : Entry) → IsWhole s → OpensNone entry → (after code settings s entry).last_epoch ≡ s.last_epoch
  unfolding after
  keeps_last s (Open epoch room) whole none = absurd none
  keeps_last s (Close epoch) whole none = refl
  keeps_last s entry whole none = (step_epochs code settings s entry whole tt).last_epoch

  -- There are as many lists as profiles were opened.
  counted_from : (s : State) (entries : List Entry) → IsWhole s → AreLegal code settings s entries → length (records_from code settings s entries) + s.last_epoch ≡ (after_all code settings s entries).last_epoch
  counted_from s [] whole legal = omega arith
  counted_from s (Open epoch room ∷ entries) whole legal =
      let rest = counted_from (after code settings s (Open epoch room)) entries (step_whole code settings s (Open epoch room) whole legal.0) legal.1 in
      let e = opened_last s epoch room in
      let n = legal.0.next_epoch in
      omega arith
  counted_from s (x ∷ entries) whole legal =
      let rest = counted_from (after code settings s x) entries (step_whole code settings s x whole legal.0) legal.1 in
      let e = keeps_last s x whole tt in
      omega arith

  -- While a profile is active and isn't closed, no other is opened.
  still_open : (s : State) (entries : List Entry) → IsWhole s → 0 < s.active → AreLegal code settings s entries → has_close entries ≡ false → StillOpen code settings s entries
  still_open s [] whole some legal open_yet = record { none = refl; active = some }
  still_open s (Open epoch room ∷ entries) whole some legal open_yet = let none = none_active settings s legal.0.is_asked in absurd (omega arith)
  still_open s (Close epoch ∷ entries) whole some legal open_yet = absurd (true≢false open_yet)
  still_open s (Record actor g ∷ entries) whole some legal open_yet =
      let rest = still_open (after code settings s (Record actor g)) entries (step_whole code settings s (Record actor g) whole legal.0) (subst (λ a. 0 < a) (sym (recorded_active s actor g)) some) legal.1 open_yet in
      record { none = rest.none; active = rest.active }
  still_open s (x ∷ entries) whole some legal open_yet =
      let rest = still_open (after code settings s x) entries (step_whole code settings s x whole legal.0) (subst (λ a. 0 < a) (sym (quiet_active code settings s x whole legal.0 tt)) some) legal.1 open_yet in
      record { none = rest.none; active = rest.active }

  -- The last list grows by the row of a Record at the end, which comes only while a profile is active.
  open_grows : (s : State) (epoch room : ℕ) (entries : List Entry) (actor g : ℕ) → IsWhole s → AreLegal code settings s (Open epoch room ∷ entries) →
      (has_close entries ≡ true → Grows code settings (after code settings s (Open epoch room)) entries actor g) → (b : Bool) → has_close entries ≡ b → Grows code settings s (Open epoch room ∷ entries) actor g
  open_grows s epoch room entries actor g whole legal rest false e =
      let t = after code settings s (Open epoch room) in
      let still = still_open t entries (step_whole code settings s (Open epoch room) whole legal.0) (opened_some s epoch room legal.0) legal.1 e in
      let rows = rows_taken code settings t entries in
      let new = row code g (goroutine (after_all code settings t entries) g) in
      record {
        some = omega arith;
        more = ap (λ lists. rows_taken code settings t (entries ++ Record actor g ∷ []) ∷ lists) (none_begun t entries actor g still.none)
            ∙ ap (λ taken. taken ∷ []) (rows_more t entries actor g e)
            ∙ sym (one_list rows new)
            ∙ ap (λ lists. with_row (rows ∷ lists) new) (sym still.none);
      }
  open_grows s epoch room entries actor g whole legal rest true e =
      let t = after code settings s (Open epoch room) in
      let rows = rows_taken code settings t entries in
      let later = rest e in
      record {
        some = omega arith;
        more = ap (λ taken. taken ∷ records_from code settings t (entries ++ Record actor g ∷ [])) (rows_closed t entries (Record actor g ∷ []) e)
            ∙ ap (λ lists. rows ∷ lists) later.more
            ∙ sym (more_lists rows (records_from code settings t entries) (row code g (goroutine (after_all code settings t entries) g)) later.some);
      }

  grows_from : (s : State) (entries : List Entry) (actor g : ℕ) → IsWhole s → AreLegal code settings s entries → NoneLeft s entries → 0 < (after_all code settings s entries).active → Grows code settings s entries actor g
  grows_from s [] actor g whole legal (inl none) some = absurd (omega arith)
  grows_from s [] actor g whole legal (inr closes) some = absurd (true≢false (sym closes))
  grows_from s (Open epoch room ∷ entries) actor g whole legal none some =
      let t = after code settings s (Open epoch room) in
      open_grows s epoch room entries actor g whole legal
      (λ closes. grows_from t entries actor g (step_whole code settings s (Open epoch room) whole legal.0) legal.1 (inr closes) some) (has_close entries) refl
  grows_from s (Close epoch ∷ entries) actor g whole legal none some =
      let rest = grows_from (after code settings s (Close epoch)) entries actor g (step_whole code settings s (Close epoch) whole legal.0) legal.1 (inl (closed_active s epoch)) some in
      record { some = rest.some; more = rest.more }
  grows_from s (Record actor' g' ∷ entries) actor g whole legal none some =
      let t = after code settings s (Record actor' g') in
      let rest = grows_from t entries actor g (step_whole code settings s (Record actor' g') whole legal.0) legal.1 (none_left s t entries (recorded_active s actor' g') none) some in
      record { some = rest.some; more = rest.more }
  grows_from s (x ∷ entries) actor g whole legal none some =
      let t = after code settings s x in
      let rest = grows_from t entries actor g (step_whole code settings s x whole legal.0) legal.1 (none_left s t entries (quiet_active code settings s x whole legal.0 tt) none) some in
      record { some = rest.some; more = rest.more }

  -- The list of an Open stands behind those of the Opens before it.
  place_of : (s : State) (before : List Entry) (epoch room : ℕ) (during : List Entry) →
      get_or (records_from code settings s (before ++ Open epoch room ∷ during)) (length (records_from code settings s before)) [] ≡ rows_taken code settings (after code settings (after_all code settings s before) (Open epoch room)) during
  place_of s [] epoch room during = refl
  place_of s (Open epoch' room' ∷ before) epoch room during = place_of (after code settings s (Open epoch' room')) before epoch room during
  place_of s (x ∷ before) epoch room during = place_of (after code settings s x) before epoch room during

pub records_grow : RecordsGrow
unfolding records_of
records_grow code settings journal (Open epoch room) legal may = lists_begun code settings (first code settings) journal epoch room
records_grow code settings journal (Record actor g) legal may =
    (grows_from code settings (first code settings) journal actor g (first_whole code settings) legal (inl refl) may.is_active).more
records_grow code settings journal entry legal may = lists_kept code settings (first code settings) journal entry tt

pub records_are_counted : RecordsAreCounted
unfolding records_of
records_are_counted code settings journal legal =
    let n = counted_from code settings (first code settings) journal (first_whole code settings) legal in omega arith

-- while a profile is active there are records to put a row into
pub some_records : (code : Code) (settings : Settings) (journal : List Entry) → IsLegal code settings journal → 0 < (last code settings journal).active → 0 < length (records_of code settings journal)
some_records code settings journal legal some =
    let n = records_are_counted code settings journal legal in
    let e = active_last (last code settings journal) (all_whole code settings (first code settings) journal (first_whole code settings) legal) some in
    omega arith

-- a profile that isn't active at the end was closed
closed : (code : Code) (settings : Settings) (s : State) (entries : List Entry) → IsWhole s → 0 < s.active → AreLegal code settings s entries → (after_all code settings s entries).active ≡ 0 → (b : Bool) → has_close entries ≡ b → b ≡ true
closed code settings s entries whole some legal none true e = refl
closed code settings s entries whole some legal none false e = let still = still_open code settings s entries whole some legal e in let a = still.active in absurd (omega arith)

frozen_at : (code : Code) (settings : Settings) (before : List Entry) (epoch room : ℕ) (during : List Entry) → IsLegal code settings (before ++ Open epoch room ∷ during) →
    (last code settings (before ++ Open epoch room ∷ during)).active ≡ 0 →
    sorted (get_or (records_of code settings (before ++ Open epoch room ∷ during)) (epoch - 1) []) ≡ frozen code (last code settings before)
unfolding records_of
frozen_at code settings before epoch room during legal none =
    let s = first code settings in
    let e = Open epoch room in
    let here = rest_legal code settings s before (e ∷ during) legal in
    let opened = after code settings (last code settings before) e in
    let front = front_legal code settings s before (e ∷ during) legal in
    let whole = all_whole code settings s before (first_whole code settings) front in
    let closes = closed code settings opened during (step_whole code settings (last code settings before) e whole here.0) (opened_some code settings (last code settings before) epoch room here.0) here.1
    (sym (ap (λ (t : State). t.active) (after_all-append code settings s before (e ∷ during))) ∙ none) (has_close during) refl in
    let place : epoch - 1 ≡ length (records_from code settings s before) = let n = here.0.next_epoch in let c = counted_from code settings s before (first_whole code settings) front in omega arith in
    ap (λ n. sorted (get_or (records_from code settings s (before ++ e ∷ during)) n [])) place
    ∙ ap sorted (place_of code settings s before epoch room during)
    ∙ ap (λ t. sorted (rows_taken code settings t during)) (sym (after_all-append code settings s before (e ∷ [])))
    ∙ rows_are_frozen code settings before epoch room during legal closes

pub records_are_frozen : RecordsAreFrozen
records_are_frozen code settings journal legal none before epoch room during split =
    ap (λ entries. sorted (get_or (records_of code settings entries) (epoch - 1) [])) split
    ∙ frozen_at code settings before epoch room during (subst (IsLegal code settings) split legal) (subst (λ entries. (last code settings entries).active ≡ 0) split none)
