-- The entries of one turn, and how many more its actor has made by them.
use Rattle.std.proofs.Common.{◌≡◌, ◌+◌, ◌≤◌, ◌==◌, ◌++◌, ◌∷◌, [], ℕ, Bool, true, false, cond, not, List, length, count_by, refl, sym, ap, ◌∙◌, arith}
use Rattle.std.specs.Prelude.{Option, Some, None, if◌then◌else◌}
use Rattle.std.proofs.lemmas.List.{append-nil}
use Rattle.std.proofs.lemmas.List.Sums.{sum_by-append, sum_by-cons, count_by-le-length}
use Rattle.gp_stack.specs.declared.record.Record.{Record as Copy}
use Rattle.gp_journal.specs.declared.entry.Entry.{Entry}
use Rattle.gp_journal.specs.declared.entry.Entry.TheVariants.{Start, Record}
use Rattle.gp_journal.specs.declared.settings.Settings.{Settings}
use Rattle.gp_journal.specs.Actors.{actor_of, made_by}
use Rattle.gp_journal.specs.May.{is_recorded}
use Rattle.gp_journal.specs.State.{Code, State}
use Rattle.gp_profiler.specs.Calls.{with_entry}
use Rattle.gp_world.specs.Calls.{may_not_start, over_by_record, entries_with, start_entries}
use Rattle.gp_world.specs.Scene.{Scene}
use Rattle.gp_workers.specs.kept.Turns.{is_record, is_other, AreOfOneTurn, TakesOneTurn}

-- no entry, and any one
no_entry : AreOfOneTurn []
no_entry = record { one_record = omega arith; one_other = omega arith }

one_entry : (entry : Entry) → AreOfOneTurn (entry ∷ [])
one_entry entry = record { one_record = count_by-le-length is_record (entry ∷ []); one_other = count_by-le-length is_other (entry ∷ []) }

pub none_made : (old new : List Entry) → new ≡ old → TakesOneTurn old new
none_made old new same = record { made = []; grown = same ∙ sym (append-nil old); one_turn = no_entry }

pub one_made : (old new : List Entry) (entry : Entry) → new ≡ old ++ entry ∷ [] → TakesOneTurn old new
one_made old new entry grown = record { made = entry ∷ []; grown = grown; one_turn = one_entry entry }

-- A call of the profiler makes one or none.
pub entered_made : (old new : Scene) (made : Option Entry) → new ≡ with_entry old made → TakesOneTurn old.journal new.journal
entered_made old new None is = none_made old.journal new.journal (ap (λ (s : Scene). s.journal) is)
entered_made old new (Some entry) is = one_made old.journal new.journal entry (ap (λ (s : Scene). s.journal) is)

-- A start makes a Start, behind a Record or not.
start_made : (code : Code) (settings : Settings) (s : State) (w g : ℕ) (copy : Option Copy) → AreOfOneTurn (start_entries code settings s w g copy)
start_made code settings s w g copy = by (may_not_start settings s) (is_recorded s g)
  where
    recorded : (full : Bool) → AreOfOneTurn (if full then Record w g ∷ [] else Record w g ∷ Start w g ∷ [])
    recorded true = one_entry (Record w g)
    recorded false = record { one_record = omega arith; one_other = omega arith }

    with_copy : (c : Option Copy) → AreOfOneTurn (entries_with code settings s w g c)
    with_copy None = no_entry
    with_copy (Some c) = recorded (over_by_record code settings s w g)

    by : (not_now has : Bool) → AreOfOneTurn (if not_now then [] else if has then Start w g ∷ [] else entries_with code settings s w g copy)
    by true has = no_entry
    by false true = one_entry (Start w g)
    by false false = with_copy copy

pub start_taken : (code : Code) (settings : Settings) (s : State) (w g : ℕ) (copy : Option Copy) (old new : List Entry) → new ≡ old ++ start_entries code settings s w g copy → TakesOneTurn old new
start_taken code settings s w g copy old new grown = record { made = start_entries code settings s w g copy; grown = grown; one_turn = start_made code settings s w g copy }

-- ---- how many they are

one_more : (entry : Entry) (entries : List Entry) (b : Bool) → is_record entry ≡ b → count_by is_record entries + count_by is_other entries ≡ length entries →
    count_by is_record (entry ∷ entries) + count_by is_other (entry ∷ entries) ≡ length (entry ∷ entries)
one_more entry entries true e rest =
    let as_record = sum_by-cons (λ x. cond (is_record x) 1 0) entry entries ∙ ap (λ b. cond b 1 0 + count_by is_record entries) e in
    let as_other = sum_by-cons (λ x. cond (is_other x) 1 0) entry entries ∙ ap (λ b. cond (not b) 1 0 + count_by is_other entries) e in
    omega arith
one_more entry entries false e rest =
    let as_record = sum_by-cons (λ x. cond (is_record x) 1 0) entry entries ∙ ap (λ b. cond b 1 0 + count_by is_record entries) e in
    let as_other = sum_by-cons (λ x. cond (is_other x) 1 0) entry entries ∙ ap (λ b. cond (not b) 1 0 + count_by is_other entries) e in
    omega arith

all_counted : (entries : List Entry) → count_by is_record entries + count_by is_other entries ≡ length entries
all_counted [] = refl
all_counted (entry ∷ entries) = one_more entry entries (is_record entry) refl (all_counted entries)

pub few_made : (settings : Settings) (actor was now : ℕ) (old new : List Entry) → TakesOneTurn old new → was ≡ made_by settings actor old → now ≡ made_by settings actor new → now ≤ was + 2
few_made settings actor was now old new turn before behind =
    let all = sum_by-append (λ entry. cond (actor_of settings.workers entry == actor) 1 0) old turn.made in
    let same : made_by settings actor new ≡ made_by settings actor (old ++ turn.made) = ap (made_by settings actor) turn.grown in
    let most = count_by-le-length (λ entry. actor_of settings.workers entry == actor) turn.made in
    let each = all_counted turn.made in
    let one = turn.one_turn.one_record in
    let other = turn.one_turn.one_other in
    omega arith
