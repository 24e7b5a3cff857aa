-- A history keeps all of a run over each kind of entry.
use Rattle.std.proofs.Common.{◌≡◌, ◌-◌, ℕ, true, false, List, [], ◌∷◌, ◌++◌, length, refl, ◌∙◌}
use Rattle.gp_isa.specs.declared.frame.Frame.{Frame}
use Rattle.gp_isa.specs.declared.parts.Parts.{Parts}
use Rattle.gp_stack.specs.declared.record.Record.{Record as Row}
use Rattle.gp_events.specs.Fraction.{choice_after}
use Rattle.gp_journal.specs.declared.answer.Foreseen.{Foreseen}
use Rattle.gp_journal.specs.declared.entry.Entry.{Entry}
use Rattle.gp_journal.specs.declared.entry.Entry.TheVariants.{Op, Open, Record, Close}
use Rattle.gp_journal.specs.declared.settings.Settings.{Settings}
use Rattle.gp_journal.specs.Settings.{AreInRange}
use Rattle.gp_journal.specs.State.{Code, State, code_of, goroutine}
use Rattle.gp_journal.specs.May.{May}
use Rattle.gp_journal.specs.Answer.{foreseen}
use Rattle.gp_journal.specs.Frozen.{row}
use Rattle.gp_journal.specs.Run.{last}
use Rattle.gp_journal.specs.Waits.{cut_stack, ended_at, contention_at}
use Rattle.gp_journal.specs.Profiles.{with_row}
use Rattle.gp_history.specs.declared.op_event.OpEvent.{OpEvent}
use Rattle.gp_history.specs.declared.op_event.OpEvent.TheVariants.{Nothing}
use Rattle.gp_history.specs.Events.{event_of, frames_of}
use Rattle.gp_history.specs.Recorder.{Recording}
use Rattle.gp_history.specs.History.{IsPlain, most_rows}
use Rattle.gp_history.specs.kept.Waits.{KeptWaits, are_off, event_by, noted, MayNote}
use Rattle.gp_history.specs.kept.History.{IsHistory, KeepsRun}
use Rattle.gp_history.proofs.Entered as profiles
use Rattle.gp_history.proofs.Entered.{LeavesProfiles}
use Rattle.gp_history.proofs.Noted.{waits_begun, waits_stay, event_is, none_where_off, is_small, may_note, goes}

plain_leaves : (entry : Entry) → IsPlain entry → LeavesProfiles entry
plain_leaves (Open epoch room) plain = plain
plain_leaves (Record actor g) plain = plain
plain_leaves (Close epoch) plain = plain
plain_leaves entry plain = tt

plain_ends_none : (code : Code) (s : State) (entry : Entry) → IsPlain entry → ended_at code s entry ≡ []
plain_ends_none code s (Op w g) plain = absurd plain
plain_ends_none code s entry plain = refl

plain_hands_none : (code : Code) (s : State) (entry : Entry) → IsPlain entry → contention_at code s entry ≡ []
plain_hands_none code s (Op w g) plain = absurd plain
plain_hands_none code s entry plain = refl

-- a history as it begins
pub begun : (program : Parts) (settings : Settings) → AreInRange settings → KeepsRun program settings []
    (record { profiles = []; is_open = false; left = length settings.at; each = most_rows settings })
    (record { rate = settings.block; block = []; mutex = []; choice = choice_after settings.seed settings.mutex 0 })
begun program settings range = record { recorded = profiles.begun program settings range; waited = waits_begun program settings }

module _ (program : Parts) (settings : Settings) (journal : List Entry) (recording : Recording) (waits : KeptWaits) (it : KeepsRun program settings journal recording waits) where
  abbrev code : Code
  code = code_of program

  abbrev now : State
  now = last code settings journal

  -- by an entry that leaves no event
  stays : (made : Entry) (then : Recording) → ended_at code now made ≡ [] → contention_at code now made ≡ [] → IsHistory program settings (journal ++ made ∷ []) then →
      KeepsRun program settings (journal ++ made ∷ []) then waits
  stays made then none nobody recorded = record {
    recorded = recorded;
    waited = waits_stay program settings journal waits it.waited it.recorded.in_range it.recorded.legal made none nobody;
  }

  pub entered : (made : Entry) → May code settings now made → IsPlain made → KeepsRun program settings (journal ++ made ∷ []) recording waits
  entered made may plain =
      stays made recording (plain_ends_none code now made plain) (plain_hands_none code now made plain)
      (profiles.entered program settings journal recording it.recorded made may (plain_leaves made plain))

  pub opened : (epoch room : ℕ) → May code settings now (Open epoch room) →
      KeepsRun program settings (journal ++ Open epoch room ∷ []) (record recording { profiles = recording.profiles ++ [] ∷ []; is_open = true; left = recording.left - 1 }) waits
  opened epoch room may = stays (Open epoch room) _ refl refl (profiles.opened program settings journal recording it.recorded epoch room may)

  pub recorded : (actor g : ℕ) (copy : Row) → May code settings now (Record actor g) → copy ≡ row code g (goroutine now g) →
      KeepsRun program settings (journal ++ Record actor g ∷ []) (record recording { profiles = with_row recording.profiles copy }) waits
  recorded actor g copy may same = stays (Record actor g) _ refl refl (profiles.recorded program settings journal recording it.recorded actor g copy may same)

  pub closed : (epoch : ℕ) → May code settings now (Close epoch) →
      KeepsRun program settings (journal ++ Close epoch ∷ []) (record recording { is_open = false }) waits
  closed epoch may = stays (Close epoch) _ refl refl (profiles.closed program settings journal recording it.recorded epoch may)

  -- by an Op, with what it leaves
  pub may_come : (g : ℕ) (event : OpEvent) → event ≡ event_of program settings journal g → MayNote waits event
  may_come g event e =
      may_note program settings journal waits it.waited it.recorded.in_range it.recorded.legal event
      (is_small program settings journal waits it.waited it.recorded.in_range it.recorded.legal g event e)

  pub operated : (w g : ℕ) (event : OpEvent) (stack : List Frame) → May code settings now (Op w g) → event ≡ event_of program settings journal g → stack ≡ cut_stack (frames_of event) code (goroutine now g) →
      KeepsRun program settings (journal ++ Op w g ∷ []) recording (noted event stack waits)
  operated w g event stack may e cut = record {
    recorded = profiles.entered program settings journal recording it.recorded (Op w g) may tt;
    waited = goes program settings journal waits it.waited it.recorded.in_range it.recorded.legal g stack w event e cut;
  }

  -- What is found of an Op is what it leaves.
  pub found : (g : ℕ) (told : Foreseen) → told ≡ foreseen code now g → event_by waits told.wait told.contended ≡ event_of program settings journal g
  found g told e =
      (λ i. event_by waits (e i).wait (e i).contended)
      ∙ event_is program settings journal waits it.waited it.recorded.in_range it.recorded.legal (foreseen code now g).wait (foreseen code now g).contended

  pub found_off : are_off waits ≡ true → (g : ℕ) → Nothing ≡ event_of program settings journal g
  found_off off g = none_where_off program settings journal waits it.waited it.recorded.in_range it.recorded.legal off (foreseen code now g).wait (foreseen code now g).contended
