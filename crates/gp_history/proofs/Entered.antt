-- A history keeps what it keeps over each kind of entry.
use Rattle.std.proofs.Common.{◌≡◌, ◌+◌, ◌-◌, ◌<◌, ◌≤◌, ℕ, true, false, List, [], ◌∷◌, ◌++◌, length, refl, sym, ap, ◌∙◌, subst, arith, nat_lt, length-append}
use Rattle.std.proofs.lemmas.Bool.{lt-ltb}
use Rattle.std.proofs.lemmas.List.Sums.{count_by-le-length}
use Rattle.gp_isa.specs.declared.parts.Parts.{Parts}
use Rattle.gp_stack.specs.declared.record.Record.{Record as Row}
use Rattle.gp_journal.specs.declared.entry.Entry.{Entry}
use Rattle.gp_journal.specs.declared.entry.Entry.TheVariants.{Start, Run, Op, Tick, Park, Open, Refuse, Record, Close}
use Rattle.gp_journal.specs.declared.settings.Settings.{Settings}
use Rattle.gp_journal.specs.Settings.{AreInRange}
use Rattle.gp_journal.specs.State.{Code, State, code_of, goroutine, is_live, unrecorded, first}
use Rattle.gp_journal.specs.May.{May}
use Rattle.gp_journal.specs.Effect.{after}
use Rattle.gp_journal.specs.Run.{last}
use Rattle.gp_journal.specs.Frozen.{row}
use Rattle.gp_journal.proofs.Lemmas.{first_whole, all_whole, after_all-append, quiet_active, IsQuiet, none_active, Kept, kept_at, IsWhole, OpensNone, keeps_last, opened_active}
use Rattle.gp_journal.proofs.Lemmas.{opened_last, recorded_active, closed_active, records_grow, some_records, appended, some_request, last_is, last_grown, unrecorded_open, unrecorded_record, unrecorded_quiet}
use Rattle.gp_journal.specs.Profiles.{records_of, last_rows, grown, with_row}
use Rattle.gp_history.specs.Recorder.{Recording}
use Rattle.gp_history.specs.History.{most_rows}
use Rattle.gp_history.specs.kept.History.{IsHistory}

-- An entry by which no profile begins, grows or ends.
abbrev pub LeavesProfiles : Entry → Type 0
LeavesProfiles (Open epoch room) = ⊥
LeavesProfiles (Record actor g) = ⊥
LeavesProfiles (Close epoch) = ⊥
LeavesProfiles _ = Unit {0}

quiet : (entry : Entry) → LeavesProfiles entry → IsQuiet entry
quiet (Open epoch room) leaves = leaves
quiet (Record actor g) leaves = leaves
quiet (Close epoch) leaves = leaves
quiet (Start w g) leaves = tt
quiet (Run w g n) leaves = tt
quiet (Op w g) leaves = tt
quiet (Tick w g) leaves = tt
quiet (Park w g) leaves = tt
quiet (Refuse room n) leaves = tt

opens_none : (entry : Entry) → LeavesProfiles entry → OpensNone entry
opens_none (Open epoch room) leaves = leaves
opens_none entry leaves = tt

leaves_records : (code : Code) (s : State) (records : List (List Row)) (entry : Entry) → LeavesProfiles entry → grown code s records entry ≡ records
leaves_records code s records (Open epoch room) leaves = absurd leaves
leaves_records code s records (Record actor g) leaves = absurd leaves
leaves_records code s records entry leaves = refl

-- A history as it begins.
pub begun : (program : Parts) (settings : Settings) → AreInRange settings → IsHistory program settings [] (record { profiles = []; is_open = false; left = length settings.at; each = most_rows settings })
unfolding records_of
begun program settings range = record {
  in_range = range;
  legal = tt;
  its_profiles = refl;
  open_while = refl;
  places = omega arith;
  room_each = refl;
  room_left = λ some. omega arith;
}

module _ (program : Parts) (settings : Settings) (journal : List Entry) (recording : Recording) (it : IsHistory program settings journal recording) where
  abbrev code : Code
  code = code_of program

  abbrev now : State
  now = last code settings journal

  whole : IsWhole now
  whole = all_whole code settings (first code settings) journal (first_whole code settings) it.legal

  kept : Kept settings now
  kept = kept_at code settings journal it.in_range it.legal

  -- what is to be shown of the state after an entry
  next : (made : Entry) (then : Recording) → May code settings now made → then.profiles ≡ grown code now recording.profiles made →
      then.is_open ≡ nat_lt 0 (after code settings now made).active →
      (after code settings now made).last_epoch + then.left ≡ length settings.at →
      then.each ≡ most_rows settings →
      (0 < (after code settings now made).active → length (last_rows then.profiles) + unrecorded (after code settings now made) ≤ most_rows settings) →
      IsHistory program settings (journal ++ made ∷ []) then
  next made then may profiles opens places each room =
      let e = sym (after_all-append code settings (first code settings) journal (made ∷ [])) in
      record {
        in_range = it.in_range;
        legal = appended code settings (first code settings) journal made it.legal may;
        its_profiles = profiles ∙ ap (λ r. grown code now r made) it.its_profiles ∙ sym (records_grow code settings journal made it.legal may);
        open_while = opens ∙ ap (λ (t : State). nat_lt 0 t.active) e;
        places = subst (λ (t : State). t.last_epoch + then.left ≡ length settings.at) e places;
        room_each = each;
        room_left = subst (λ (t : State). 0 < t.active → length (last_rows then.profiles) + unrecorded t ≤ most_rows settings) e room;
      }

  -- by an entry by which no profile begins, grows or ends
  pub entered : (made : Entry) → May code settings now made → LeavesProfiles made → IsHistory program settings (journal ++ made ∷ []) recording
  entered made may leaves =
      let active = quiet_active code settings now made whole may (quiet made leaves) in
      let unchanged = unrecorded_quiet code settings now whole made may (quiet made leaves) in
      next made recording may (sym (leaves_records code now recording.profiles made leaves))
      (it.open_while ∙ ap (nat_lt 0) (sym active))
      (ap (λ n. n + recording.left) (keeps_last code settings now made whole (opens_none made leaves)) ∙ it.places)
      it.room_each
      (λ some. let few = it.room_left (subst (λ a. 0 < a) active some) in omega arith)

  -- Before an Open no profile is open, and there is room for one more.
  pub none_open : (epoch room : ℕ) → May code settings now (Open epoch room) → recording.is_open ≡ false
  none_open epoch room may = it.open_while ∙ ap (nat_lt 0) (none_active settings now may.is_asked)

  pub some_left : (epoch room : ℕ) → May code settings now (Open epoch room) → 0 < recording.left
  some_left epoch room may =
      let some = some_request settings now may.is_asked in
      let few = kept.numbered.epochs in
      let all = it.places in omega arith

  -- by an Open
  pub opened : (epoch room : ℕ) → May code settings now (Open epoch room) → IsHistory program settings (journal ++ Open epoch room ∷ []) (record recording { profiles = recording.profiles ++ [] ∷ []; is_open = true; left = recording.left - 1 })
  opened epoch room may =
      let active = opened_active code settings now epoch room in
      let end = opened_last code settings now epoch room in
      let n = may.next_epoch in
      next (Open epoch room) (record recording { profiles = recording.profiles ++ [] ∷ []; is_open = true; left = recording.left - 1 }) may refl
      (sym (lt-ltb 0 _ (omega arith)))
      (let some = some_left epoch room may in let all = it.places in omega arith)
      it.room_each
      (λ some.
      let none = ap length (last_is recording.profiles []) in
      let few = unrecorded_open code settings now whole epoch room may in
      let within = may.fits in
      let given = may.room_given in
      let born = kept.numbered.born_bound in
      omega (arith, count_by-le-length is_live now.goroutines))

  -- Before a Record a profile is open, and it has room for one more.
  pub is_open : (actor g : ℕ) → May code settings now (Record actor g) → recording.is_open ≡ true
  is_open actor g may = it.open_while ∙ lt-ltb 0 now.active may.is_active

  pub row_fits : (actor g : ℕ) → May code settings now (Record actor g) → length (last_rows recording.profiles) < recording.each
  row_fits actor g may =
      let less = unrecorded_record code settings now whole actor g may in
      let few = it.room_left may.is_active in
      let each = it.room_each in omega arith

  -- by a Record, with the row of its goroutine
  pub recorded : (actor g : ℕ) (copy : Row) → May code settings now (Record actor g) → copy ≡ row code g (goroutine now g) →
      IsHistory program settings (journal ++ Record actor g ∷ []) (record recording { profiles = with_row recording.profiles copy })
  recorded actor g copy may same =
      let active = recorded_active code settings now actor g in
      let some : 0 < length recording.profiles = let a = some_records code settings journal it.legal may.is_active in let b = ap length it.its_profiles in omega arith in
      let less = unrecorded_record code settings now whole actor g may in
      next (Record actor g) (record recording { profiles = with_row recording.profiles copy }) may (ap (with_row recording.profiles) same)
      (it.open_while ∙ ap (nat_lt 0) (sym active))
      (ap (λ n. n + recording.left) (keeps_last code settings now (Record actor g) whole tt) ∙ it.places)
      it.room_each
      (λ active_yet.
      let few = it.room_left may.is_active in
      let longer = ap length (last_grown recording.profiles copy some) in
      omega (arith, length-append (last_rows recording.profiles) (copy ∷ [])))

  -- by a Close
  pub closed : (epoch : ℕ) → May code settings now (Close epoch) → IsHistory program settings (journal ++ Close epoch ∷ []) (record recording { is_open = false })
  closed epoch may =
      let active = closed_active code settings now epoch in
      next (Close epoch) (record recording { is_open = false }) may refl
      (sym (ap (nat_lt 0) active))
      (ap (λ n. n + recording.left) (keeps_last code settings now (Close epoch) whole tt) ∙ it.places)
      it.room_each
      (λ some. absurd (omega arith))
