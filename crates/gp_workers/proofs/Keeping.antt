-- What a turn keeps: the book and the ring, and that the bodies fit.
use Rattle.std.proofs.Common.{◌≡◌, ◌++◌, ◌∷◌, [], ℕ, Bool, true, false, List, refl, sym, ap, ◌∙◌, subst, true≢false}
use Rattle.std.specs.Prelude.{Option, Some, None, if◌then◌else◌}
use Rattle.std.specs.List.{AllByRecursion}
use Rattle.std.proofs.lemmas.List.{append_assoc, append-nil}
use Rattle.gp_isa.specs.declared.parts.Parts.{Parts}
use Rattle.gp_stack.specs.declared.record.Record.{Record as Copy}
use Rattle.gp_journal.specs.declared.entry.Entry.{Entry}
use Rattle.gp_journal.specs.declared.entry.Entry.TheVariants.{Start, Run, Op, Tick, Park, Open, Refuse, Record, Close}
use Rattle.gp_journal.specs.declared.settings.Settings.{Settings}
use Rattle.gp_journal.specs.Bodies.{AreBodiesOf, progress_each}
use Rattle.gp_journal.specs.Effect.{after}
use Rattle.gp_journal.specs.May.{May, is_recorded}
use Rattle.gp_journal.specs.Reached.{IsReached}
use Rattle.gp_journal.specs.Run.{IsLegal, last}
use Rattle.gp_journal.specs.Settings.{AreInRange}
use Rattle.gp_journal.specs.State.{Code, State, code_of, first}
use Rattle.gp_journal.proofs.Law.{front_legal, rest_legal, after_all-append}
use Rattle.gp_journal.proofs.Following.{leaves_bodies, stays}
use Rattle.gp_world.specs.Calls.{may_not_start, over_by_record, entries_with, start_entries}
use Rattle.gp_world.specs.RingEnds.{IsOf}
use Rattle.gp_world.specs.Scene.{Scene}
use Rattle.gp_workers.specs.kept.Locked.{Fit, Keeps, Leaves}

-- an entry by which no body moves
abbrev pub is_still : Entry → Bool
is_still (Run w g n) = false
is_still (Op w g) = false
is_still (Tick w g) = false
is_still _ = true

abbrev pub AreStill : List Entry → Type 0
AreStill entries = AllByRecursion (λ entry. is_still entry ≡ true) entries

moves_none : (entry : Entry) → is_still entry ≡ true → leaves_bodies entry ≡ true
moves_none (Start w g) e = refl
moves_none (Run w g n) e = absurd (true≢false (sym e))
moves_none (Op w g) e = absurd (true≢false (sym e))
moves_none (Tick w g) e = absurd (true≢false (sym e))
moves_none (Park w g) e = refl
moves_none (Open epoch room) e = refl
moves_none (Refuse room n) e = refl
moves_none (Record actor g) e = refl
moves_none (Close epoch) e = refl

-- where the book and the ring stay
pub keeps_same : (old new : Scene) → new.book ≡ old.book → new.ring ≡ old.ring → Keeps old new
keeps_same old new book ring = record { same_book = book; still_of = λ it is. subst (λ end. IsOf end it) (sym ring) is }

module _ (program : Parts) (settings : Settings) (range : AreInRange settings) where
  abbrev pub IsLegalNow : List Entry → Type 0
  IsLegalNow journal = IsLegal (code_of program) settings journal

  module _ (journal : List Entry) (entry : Entry) (legal : IsLegalNow (journal ++ entry ∷ [])) where
    abbrev before : State
    before = last (code_of program) settings journal

    pub reached : IsReached (code_of program) settings before
    reached = record { journal = journal; legal = front_legal (code_of program) settings (first (code_of program) settings) journal (entry ∷ []) legal; its_last = refl }

    pub may : May (code_of program) settings before entry
    may = (rest_legal (code_of program) settings (first (code_of program) settings) journal (entry ∷ []) legal).0

    -- the state behind it
    pub state_is : last (code_of program) settings (journal ++ entry ∷ []) ≡ after (code_of program) settings before entry
    state_is = after_all-append (code_of program) settings (first (code_of program) settings) journal (entry ∷ [])

  pub leaves_same : (world : Scene) → Leaves program settings world world
  leaves_same world = record { keeps = keeps_same world world refl refl; still_fit = λ room bodies fit. fit }

  pub leaves_then : (old mid new : Scene) → Leaves program settings old mid → Leaves program settings mid new → Leaves program settings old new
  leaves_then old mid new one two = record {
    keeps = record { same_book = two.keeps.same_book ∙ one.keeps.same_book; still_of = λ ring is. two.keeps.still_of ring (one.keeps.still_of ring is) };
    still_fit = λ room bodies fit. two.still_fit room bodies (one.still_fit room bodies fit);
  }

  -- What a call changes that makes such entries.
  pub record Enters (old new : Scene) (entries : List Entry) : Type 0 where
    pub keeps : Keeps old new
    pub grown : new.journal ≡ old.journal ++ entries

  leaves_one : (old new : Scene) (entry : Entry) → is_still entry ≡ true → IsLegalNow (old.journal ++ entry ∷ []) → Enters old new (entry ∷ []) → Leaves program settings old new
  leaves_one old new entry still legal enters = record {
    keeps = enters.keeps;
    still_fit = λ room bodies fit. subst (λ j. Fit program settings j room bodies) (sym enters.grown) (record {
      in_range = fit.in_range;
      stand = fit.stand;
      its_bodies = subst (λ s. AreBodiesOf s (progress_each bodies)) (sym (state_is old.journal entry legal))
          (stays (code_of program) settings _ entry (progress_each bodies) (moves_none entry still) (reached old.journal entry legal) (may old.journal entry legal) fit.its_bodies);
      has_room = fit.has_room;
    });
  }

  -- Entries that move no body.
  pub leaves_all : (entries : List Entry) (old new : Scene) → AreStill entries → IsLegalNow (old.journal ++ entries) → Enters old new entries → Leaves program settings old new
  leaves_all [] old new still legal enters = record {
    keeps = enters.keeps;
    still_fit = λ room bodies fit. subst (λ j. Fit program settings j room bodies) (sym (enters.grown ∙ append-nil old.journal)) fit;
  }
  leaves_all (entry ∷ entries) old new still legal enters =
      leaves_then old mid new
      (leaves_one old mid entry still.0 (front_legal (code_of program) settings (first (code_of program) settings) (old.journal ++ entry ∷ []) entries regrouped)
      (record { keeps = keeps_same old mid refl refl; grown = refl }))
      (leaves_all entries mid new still.1 regrouped
      (record {
        keeps = record { same_book = enters.keeps.same_book; still_of = enters.keeps.still_of };
        grown = enters.grown ∙ sym (append_assoc old.journal (entry ∷ []) entries);
      }))
    where
      mid : Scene
      mid = record old { journal = old.journal ++ entry ∷ [] }

      regrouped : IsLegalNow ((old.journal ++ entry ∷ []) ++ entries)
      regrouped = subst IsLegalNow (sym (append_assoc old.journal (entry ∷ []) entries)) legal

-- Those of a start are such.
pub start_still : (code : Code) (settings : Settings) (s : State) (w g : ℕ) (copy : Option Copy) → AreStill (start_entries code settings s w g copy)
start_still code settings s w g copy = by (may_not_start settings s) (is_recorded s g)
  where
    recorded : (full : Bool) → AreStill (if full then Record w g ∷ [] else Record w g ∷ Start w g ∷ [])
    recorded true = (refl, tt)
    recorded false = (refl, (refl, tt))

    with_copy : (c : Option Copy) → AreStill (entries_with code settings s w g c)
    with_copy None = tt
    with_copy (Some c) = recorded (over_by_record code settings s w g)

    by : (not_now has : Bool) → AreStill (if not_now then [] else if has then Start w g ∷ [] else entries_with code settings s w g copy)
    by true has = tt
    by false true = (refl, tt)
    by false false = with_copy copy
