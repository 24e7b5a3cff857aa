-- The records of the active profile, and the goroutines that have still to be recorded, are together those live at its Open.
use Rattle.std.proofs.Common.{◌≡◌, ℕ, ◌+◌, ◌-◌, ◌<◌, List, [], ◌∷◌, ◌++◌, length, get_or, refl, sym, ap, ◌∙◌, subst, arith, append_assoc, append-nil}
use Rattle.std.proofs.lemmas.List.{length_push}
use Rattle.gp_journal.specs.declared.entry.Entry.{Entry}
use Rattle.gp_journal.specs.declared.entry.Entry.TheVariants.{Start, Run, Op, Tick, Park, Open, Refuse, Record, Close}
use Rattle.gp_journal.specs.declared.settings.Settings.{Settings}
use Rattle.gp_journal.specs.Effect.{after}
use Rattle.gp_stack.specs.declared.record.Record.{Record as Row}
use Rattle.gp_journal.specs.Frozen.{row}
use Rattle.gp_journal.specs.May.{May}
use Rattle.gp_journal.specs.Profiles.{records_of, last_rows}
use Rattle.gp_journal.specs.Run.{IsLegal, after_all, last}
use Rattle.gp_journal.specs.State.{Code, State, goroutine, live, unrecorded, first}
use Rattle.gp_journal.proofs.Lemmas.{IsWhole, IsQuiet, first_whole, all_whole, after_all-append, front_legal, rest_legal, quiet_active, active_last, unrecorded_open, unrecorded_record, unrecorded_quiet, records_grow, records_are_counted, some_records, last_is, last_grown, closed_active}
use Rattle.gp_world.specs.Calls.{live_at_open_from, live_at_open}

-- how many were live at the last Open, with one entry more behind a state
abbrev live_behind : State → Entry → ℕ → ℕ
live_behind s (Open epoch room) n = live s
live_behind s entry n = n

live_at_open-push : (code : Code) (settings : Settings) (s : State) (n : ℕ) (journal : List Entry) (entry : Entry) →
    live_at_open_from code settings s n (journal ++ entry ∷ [])
    ≡ live_behind (after_all code settings s journal) entry (live_at_open_from code settings s n journal)
live_at_open-push code settings s n [] (Open epoch room) = refl
live_at_open-push code settings s n [] entry = refl
live_at_open-push code settings s n (Open epoch room ∷ journal) entry =
    live_at_open-push code settings (after code settings s (Open epoch room)) (live s) journal entry
live_at_open-push code settings s n (x ∷ journal) entry = live_at_open-push code settings (after code settings s x) n journal entry

-- Where a profile is active they add up.
abbrev AddUp : Code → Settings → List Entry → Type 0
AddUp code settings journal =
    0 < (last code settings journal).active →
    length (last_rows (records_of code settings journal)) + unrecorded (last code settings journal) ≡ live_at_open code settings journal

module _ (code : Code) (settings : Settings) (journal : List Entry) (legal : IsLegal code settings journal) where
  abbrev now : State
  now = last code settings journal

  is_whole : IsWhole now
  is_whole = all_whole code settings (first code settings) journal (first_whole code settings) legal

  after-push : (entry : Entry) → last code settings (journal ++ entry ∷ []) ≡ after code settings now entry
  after-push entry = after_all-append code settings (first code settings) journal (entry ∷ [])

  -- an entry that opens, records and closes nothing
  quiet_adds : (entry : Entry) → May code settings now entry → IsQuiet entry →
      records_of code settings (journal ++ entry ∷ []) ≡ records_of code settings journal →
      live_at_open code settings (journal ++ entry ∷ []) ≡ live_at_open code settings journal →
      AddUp code settings journal → AddUp code settings (journal ++ entry ∷ [])
  quiet_adds entry may quiet same_records same_live adds active =
      let e = after-push entry in
      let was : 0 < now.active = subst (λ a. 0 < a) (quiet_active code settings now entry is_whole may quiet) (subst (λ t. 0 < t.active) e active) in
      ap (λ rows. length (last_rows rows) + unrecorded (last code settings (journal ++ entry ∷ []))) same_records
      ∙ ap (λ t. length (last_rows (records_of code settings journal)) + unrecorded t) e
      ∙ ap (λ n. length (last_rows (records_of code settings journal)) + n) (unrecorded_quiet code settings now is_whole entry may quiet)
      ∙ adds was ∙ sym same_live

  adds_more : (entry : Entry) → May code settings now entry → AddUp code settings journal → AddUp code settings (journal ++ entry ∷ [])
  unfolding live_at_open
  adds_more (Open epoch room) may adds active =
      let grown = records_grow code settings journal (Open epoch room) legal may in
      let none = ap length (ap last_rows grown ∙ last_is (records_of code settings journal) []) in
      let all = ap unrecorded (after-push (Open epoch room)) ∙ unrecorded_open code settings now is_whole epoch room may in
      let n = live_at_open-push code settings (first code settings) 0 journal (Open epoch room) in
      omega arith
  adds_more (Record actor g) may adds active =
      let rows = records_of code settings journal in
      let new = row code g (goroutine now g) in
      let grown = records_grow code settings journal (Record actor g) legal may in
      let one = ap length (ap last_rows grown ∙ last_grown rows new (some_records code settings journal legal may.is_active)) in
      let more = length_push (last_rows rows) new in
      let fewer = unrecorded_record code settings now is_whole actor g may in
      let e = ap unrecorded (after-push (Record actor g)) in
      let n = live_at_open-push code settings (first code settings) 0 journal (Record actor g) in
      let was = adds may.is_active in
      omega arith
  adds_more (Close epoch) may adds active =
      let none = ap (λ t. t.active) (after-push (Close epoch)) ∙ closed_active code settings now epoch in
      absurd (omega arith)
  adds_more (Start w g) may adds active =
      quiet_adds (Start w g) may tt (records_grow code settings journal (Start w g) legal may)
      (live_at_open-push code settings (first code settings) 0 journal (Start w g)) adds active
  adds_more (Run w g n) may adds active =
      quiet_adds (Run w g n) may tt (records_grow code settings journal (Run w g n) legal may)
      (live_at_open-push code settings (first code settings) 0 journal (Run w g n)) adds active
  adds_more (Op w g) may adds active =
      quiet_adds (Op w g) may tt (records_grow code settings journal (Op w g) legal may)
      (live_at_open-push code settings (first code settings) 0 journal (Op w g)) adds active
  adds_more (Tick w g) may adds active =
      quiet_adds (Tick w g) may tt (records_grow code settings journal (Tick w g) legal may)
      (live_at_open-push code settings (first code settings) 0 journal (Tick w g)) adds active
  adds_more (Park w g) may adds active =
      quiet_adds (Park w g) may tt (records_grow code settings journal (Park w g) legal may)
      (live_at_open-push code settings (first code settings) 0 journal (Park w g)) adds active
  adds_more (Refuse room n) may adds active =
      quiet_adds (Refuse room n) may tt (records_grow code settings journal (Refuse room n) legal may)
      (live_at_open-push code settings (first code settings) 0 journal (Refuse room n)) adds active

-- entry by entry, from those that are before
adds_on : (code : Code) (settings : Settings) (before entries : List Entry) → IsLegal code settings (before ++ entries) →
    AddUp code settings before → AddUp code settings (before ++ entries)
adds_on code settings before [] legal adds = subst (AddUp code settings) (sym (append-nil before)) adds
adds_on code settings before (entry ∷ entries) legal adds =
    let together = append_assoc before (entry ∷ []) entries in
    let may = rest_legal code settings (first code settings) before (entry ∷ entries) legal in
    let so_far = front_legal code settings (first code settings) before (entry ∷ entries) legal in
    subst (AddUp code settings) together
    (adds_on code settings (before ++ entry ∷ []) entries (subst (IsLegal code settings) (sym together) legal)
    (adds_more code settings before so_far entry may.0 adds))

-- In a legal journal with an active profile they add up.
pub records_add_up : (code : Code) (settings : Settings) (journal : List Entry) → IsLegal code settings journal →
    0 < (last code settings journal).active →
    let epoch = (last code settings journal).active in
    length (get_or (records_of code settings journal) (epoch - 1) []) + unrecorded (last code settings journal) ≡ live_at_open code settings journal
records_add_up code settings journal legal some =
    let whole = all_whole code settings (first code settings) journal (first_whole code settings) legal in
    let newest = active_last (last code settings journal) whole some in
    let counted = records_are_counted code settings journal legal in
    ap (λ n. length (get_or (records_of code settings journal) (n - 1) []) + unrecorded (last code settings journal)) (newest ∙ sym counted)
    ∙ adds_on code settings [] journal legal (λ none. absurd (omega arith)) some

-- so they are as the world tells them
pub told_add_up : (code : Code) (settings : Settings) (journal : List Entry) → IsLegal code settings journal →
    0 < (last code settings journal).active → (epoch n : ℕ) (rows : List Row) → epoch ≡ (last code settings journal).active →
    rows ≡ get_or (records_of code settings journal) (epoch - 1) [] → n ≡ live_at_open code settings journal →
    length rows + unrecorded (last code settings journal) ≡ n
told_add_up code settings journal legal some epoch n rows active its opened =
    ap (λ taken. length taken + unrecorded (last code settings journal)) its
    ∙ ap (λ e. length (get_or (records_of code settings journal) (e - 1) []) + unrecorded (last code settings journal)) active
    ∙ records_add_up code settings journal legal some ∙ sym opened
