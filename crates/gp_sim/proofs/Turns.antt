-- The choice's run, turn by turn.
use Rattle.std.proofs.Common.{◌≡◌, Bool, true, false, true≢false, ◌+◌, ◌-◌, ◌*◌, ◌<◌, ◌≤◌, ℕ, zero, suc, List, [], ◌∷◌, ◌++◌, map, length, drop, Option, Some, None, is_some, refl, sym, ap, ◌∙◌, subst, arith, length-append, length-drop}
use Rattle.std.specs.List.{All}
use Rattle.std.proofs.lemmas.List.Elements.{All-nil, All-cons}
use Rattle.gp_isa.specs.declared.parts.Parts.{Parts}
use Rattle.gp_journal.specs.declared.entry.Entry.{Entry}
use Rattle.gp_journal.specs.declared.settings.Settings.{Settings}
use Rattle.gp_journal.specs.Settings.{AreInRange}
use Rattle.gp_journal.specs.State.{Code, code_of, first}
use Rattle.gp_journal.specs.Run.{IsLegal, last, IsFinished}
use Rattle.gp_journal.specs.NumberLaws.{most_entries}
use Rattle.gp_journal.specs.Reached.{IsReached}
use Rattle.gp_journal.proofs.Lemmas.{entries_are_bounded, appended}
use Rattle.gp_ring.specs.Records.{Offer, RingRecord, Sample, Loss, Covers}
use Rattle.gp_ring.specs.PlainRing.{has_more, looked, records_taken, unread_records, pending_records, closed}
use Rattle.gp_cpu.specs.Samples.{samples_of_journal}
use Rattle.gp_samples.specs.RunRing.{taken_to_end}
use Rattle.gp_samples.specs.RunRingLaw.{AllRead}
use Rattle.gp_samples.proofs.Offers.{samples_number}
use Rattle.gp_samples.proofs.ReadOut.{more_takes}
use Rattle.gp_samples.proofs.Keeping.{begun_keeps, entry_keeps, read_keeps, readable, all_read}
use Rattle.gp_sim.specs.Choice.{SoFar, begun, actions, acts_of, chosen, next_turn, after_act, after_turn, after_turns, behind_turn, most_turns, sim_run, sim_journal, sim_records}
use Rattle.gp_sim.specs.declared.numbers.Act.{Act}
use Rattle.gp_sim.specs.declared.numbers.Act.TheVariants.{Make, Read}
use Rattle.gp_sim.specs.declared.numbers.Turn.{Turn}
use Rattle.gp_sim.specs.ChoiceLaw.{MayAct, SimIsFinished, SimIsCovered, SimBeginsWithHead}
use Rattle.gp_sim.specs.kept.Simulation.{TakesTurn, KeepsItsRing, after_turn_if}
use Rattle.gp_sim.specs.kept.Turns.{IsPartOfSim}
use Rattle.gp_sim.proofs.Enabled.{chosen_may, chosen_among}
use Rattle.gp_sim.proofs.Complete.{none_turns}

-- A turn takes at most one number.
takes_one : (settings : Settings) (taken : ℕ) (acts : List Act) (turn : Turn) → chosen settings taken acts ≡ Some turn → turn.taken ≤ taken + 1
takes_one settings taken [] turn e = absurd (cc)
takes_one settings taken (only ∷ []) turn e = let same : taken ≡ turn.taken = cc in omega arith
takes_one settings taken (one ∷ other ∷ more) turn e = let same : taken + 1 ≡ turn.taken = cc in omega arith

-- The reader acts only where it has something to read.
abbrev ReadsMore : Bool → Act → Type 0
ReadsMore reads (Make entry) = Unit {0}
ReadsMore reads Read = reads ≡ true

made_all : (reads : Bool) (entries : List Entry) (rest : List Act) → All (ReadsMore reads) rest → All (ReadsMore reads) (map Make entries ++ rest)
made_all reads [] rest all = all
made_all reads (entry ∷ entries) rest all = All-cons (ReadsMore reads) (Make entry) (map Make entries ++ rest) tt (made_all reads entries rest all)

acts_read : (reads : Bool) (entries : List Entry) → All (ReadsMore reads) (acts_of entries reads)
acts_read reads [] = All-nil (ReadsMore reads)
acts_read true (entry ∷ entries) = made_all true (entry ∷ entries) (Read ∷ []) (All-cons (ReadsMore true) Read [] refl (All-nil (ReadsMore true)))
acts_read false (entry ∷ entries) = made_all false (entry ∷ entries) [] (All-nil (ReadsMore false))

-- Records that cover offers are no more than these.
pub covers_few : (records : List RingRecord) (offers : List Offer) → Covers records offers → length records ≤ length offers
covers_few [] offers covers = omega arith
covers_few (Sample sample ∷ records) [] covers = absurd covers
covers_few (Sample sample ∷ records) (offer ∷ offers) covers = let rest = covers_few records offers covers.1 in omega arith
covers_few (Loss count time ∷ records) offers covers =
    let some = covers.0 in
    let within = covers.1 in
    let rest = covers_few records (drop count offers) covers.3 in
    let left = length-drop count offers in omega arith

front_few : (a b c : List RingRecord) → length a ≤ length (a ++ b ++ c)
front_few a b c = omega (arith, length-append (a ++ b) c, length-append a b)

-- where none is chosen the run is as it was
none_come : (code : Code) (settings : Settings) (n : ℕ) (run : SoFar) → next_turn code settings run ≡ None → after_turns code settings n run ≡ run
none_come code settings zero run e = refl
none_come code settings (suc n) run e = ap (λ o. behind_turn run o (λ turn. after_turns code settings n (after_turn code settings run turn))) e

-- where one is, it comes first
one_comes : (code : Code) (settings : Settings) (n m : ℕ) (run : SoFar) (turn : Turn) → n ≡ suc m → next_turn code settings run ≡ Some turn →
    after_turns code settings n run ≡ after_turns code settings m (after_turn code settings run turn)
one_comes code settings n m run turn left e =
    ap (λ k. after_turns code settings k run) left ∙ ap (λ o. behind_turn run o (λ t. after_turns code settings m (after_turn code settings run t))) e

module _ (program : Parts) (settings : Settings) (range : AreInRange settings) where
  -- It begins with no entry.
  pub begins : IsPartOfSim program settings 0 (begun program settings)
  unfolding sim_run
  begins = record {
    legal = tt;
    ring = begun_keeps program settings range;
    taken_bound = omega arith;
    turns_bound = omega arith;
    entries_bound = omega arith;
    continues = let all : most_turns settings ≡ most_turns settings - 0 = omega arith in ap (λ n. after_turns (code_of program) settings n (begun program settings)) all;
  }

  -- The turns are fewer than the most.
  pub turns_few : (turns : ℕ) (run : SoFar) → IsPartOfSim program settings turns run → turns < most_turns settings
  turns_few turns run part =
      let follows = part.ring.follows in
      let taken = covers_few (run.records ++ unread_records run.ring ++ pending_records run.ring) (samples_of_journal (code_of program) settings run.journal) follows.covered in
      let number = samples_number program settings run.journal in
      let entries = entries_are_bounded (code_of program) settings run.journal range part.legal in
      let bound = part.turns_bound in
      let front = front_few run.records (unread_records run.ring) (pending_records run.ring) in
      omega arith

  module _ (turns : ℕ) (run : SoFar) (part : IsPartOfSim program settings turns run) where
    reached : IsReached (code_of program) settings (last (code_of program) settings run.journal)
    reached = record { journal = run.journal; legal = part.legal; its_last = refl }

    abbrev turn_is : Turn → Type 0
    turn_is turn = next_turn (code_of program) settings run ≡ Some turn

    -- what a turn does may be done
    pub turn_may : (turn : Turn) → turn_is turn → MayAct (code_of program) settings (last (code_of program) settings run.journal) turn.act
    turn_may turn e = chosen_may (code_of program) settings (last (code_of program) settings run.journal) reached range (has_more run.ring) run.taken turn e

    turn_reads : (turn : Turn) → turn_is turn → ReadsMore (has_more run.ring) turn.act
    turn_reads turn e =
        chosen_among (ReadsMore (has_more run.ring)) settings run.taken (acts_of (actions (code_of program) settings (last (code_of program) settings run.journal)) (has_more run.ring)) turn
        (acts_read (has_more run.ring) (actions (code_of program) settings (last (code_of program) settings run.journal))) e

    -- what an act leaves
    record Leaves (next : SoFar) : Type 0 where
      legal : IsLegal (code_of program) settings next.journal
      ring : KeepsItsRing program settings next
      more : length run.journal + length run.records + 1 ≤ length next.journal + length next.records
      one : length next.journal ≤ length run.journal + 1

    leaves : (act : Act) (taken : ℕ) → MayAct (code_of program) settings (last (code_of program) settings run.journal) act → ReadsMore (has_more run.ring) act →
        Leaves (record (after_act (code_of program) settings run act) { taken = taken })
    leaves (Make entry) taken may reads =
        record {
          legal = appended (code_of program) settings (first (code_of program) settings) run.journal entry part.legal may;
          ring = entry_keeps program settings range run.journal run.records run.ring part.ring entry;
          more = omega (arith, length-append run.journal (entry ∷ []));
          one = omega (arith, length-append run.journal (entry ∷ []));
        }
    leaves Read taken may reads =
        let some = more_takes run.ring (readable program settings range run.journal run.records run.ring part.ring) reads in
        record {
          legal = part.legal;
          ring = read_keeps program settings range run.journal run.records run.ring part.ring;
          more = omega (arith, length-append run.records (records_taken (looked run.ring)));
          one = omega arith;
        }

    -- It goes on by a turn.
    pub goes_on : (turn : Turn) → turn_is turn → IsPartOfSim program settings (turns + 1) (after_turn (code_of program) settings run turn)
    goes_on turn e =
        let left = leaves turn.act turn.taken (turn_may turn e) (turn_reads turn e) in
        let few = turns_few turns run part in
        let bound = part.turns_bound in
        let more = left.more in
        let one = left.one in
        record {
          legal = left.legal;
          ring = left.ring;
          taken_bound =
              let one = takes_one settings run.taken (acts_of (actions (code_of program) settings (last (code_of program) settings run.journal)) (has_more run.ring)) turn e in
              let before = part.taken_bound in omega arith;
          turns_bound = omega arith;
          entries_bound = let before = part.entries_bound in omega arith;
          continues = part.continues ∙ one_comes (code_of program) settings (most_turns settings - turns) (most_turns settings - (turns + 1)) run turn (omega arith) e;
        }

    -- It ends where none is chosen, and is finished then.
    pub ends : next_turn (code_of program) settings run ≡ None → (sim_run program settings ≡ run) × IsFinished (code_of program) settings run.journal
    ends e = (
      part.continues ∙ none_come (code_of program) settings (most_turns settings - turns) run e,
      record { legal = part.legal; complete = none_turns (code_of program) settings (last (code_of program) settings run.journal) reached range (has_more run.ring) run.taken e },
    )

  -- It comes to its end within the turns that are left.
  record IsWhole (turns : ℕ) (run : SoFar) : Type 0 where
    pub part : IsPartOfSim program settings turns run
    pub none : next_turn (code_of program) settings run ≡ None

  abbrev HasEnd : Type 0
  HasEnd = (turns : ℕ) × (run : SoFar) × IsWhole turns run

  ended_by : (turns : ℕ) (run : SoFar) → IsPartOfSim program settings turns run → (o : Option Turn) → next_turn (code_of program) settings run ≡ o →
      ((turn : Turn) → next_turn (code_of program) settings run ≡ Some turn → HasEnd) → HasEnd
  ended_by turns run part None e later = (turns, run, record { part = part; none = e })
  ended_by turns run part (Some turn) e later = later turn e

  comes_to_end : (n turns : ℕ) (run : SoFar) → IsPartOfSim program settings turns run → most_turns settings ≤ turns + n → HasEnd
  comes_to_end zero turns run part enough = let few = turns_few turns run part in absurd (omega arith)
  comes_to_end (suc n) turns run part enough =
      ended_by turns run part (next_turn (code_of program) settings run) refl
      (λ turn e. comes_to_end n (turns + 1) (after_turn (code_of program) settings run turn) (goes_on turns run part turn e) (omega arith))

  -- what holds of the run at its end holds of the choice's
  at_end : (P : SoFar → Type 0) → ((turns : ℕ) (run : SoFar) → IsWhole turns run → P run) → P (sim_run program settings)
  at_end P holds = by (comes_to_end (most_turns settings) 0 (begun program settings) begins (omega arith))
    where
      by : HasEnd → P (sim_run program settings)
      by (turns, run, whole) = subst P (sym (ends turns run whole.part whole.none).0) (holds turns run whole)

-- The choice's journal is finished.
pub sim_is_finished : SimIsFinished
sim_is_finished program settings range =
    at_end program settings range (λ run. IsFinished (code_of program) settings run.journal) (λ turns run whole. (ends program settings range turns run whole.part whole.none).1)

-- what a run has read once its ring is read to its end
pub read_whole : (program : Parts) (settings : Settings) → AreInRange settings → (turns : ℕ) (run : SoFar) → IsPartOfSim program settings turns run →
    AllRead program settings run.journal (run.records ++ taken_to_end 3 (closed run.ring))
read_whole program settings range turns run part = all_read program settings range run.journal run.records run.ring part.ring

-- the entries and the turns of a run, those to the end of its ring too
pub entries_at_end : (program : Parts) (settings : Settings) → AreInRange settings → (turns : ℕ) (run : SoFar) → IsPartOfSim program settings turns run → length run.journal ≤ most_entries settings
entries_at_end program settings range turns run part = entries_are_bounded (code_of program) settings run.journal range part.legal

pub turns_at_end : (program : Parts) (settings : Settings) → AreInRange settings → (turns : ℕ) (run : SoFar) → IsPartOfSim program settings turns run →
    turns + length (taken_to_end 3 (closed run.ring)) + 1 ≤ 2 * most_entries settings + 2
turns_at_end program settings range turns run part =
    let all = read_whole program settings range turns run part in
    let taken = covers_few (run.records ++ taken_to_end 3 (closed run.ring)) (samples_of_journal (code_of program) settings run.journal) all.covered in
    let number = samples_number program settings run.journal in
    let entries = entries_are_bounded (code_of program) settings run.journal range part.legal in
    let bound = part.turns_bound in
    omega (arith, length-append run.records (taken_to_end 3 (closed run.ring)))

sim_all_read : (program : Parts) (settings : Settings) → AreInRange settings → AllRead program settings (sim_journal program settings) (sim_records program settings)
sim_all_read program settings range =
    at_end program settings range (λ run. AllRead program settings run.journal (run.records ++ taken_to_end 3 (closed run.ring))) (λ turns run whole. read_whole program settings range turns run whole.part)

pub sim_is_covered : SimIsCovered
sim_is_covered program settings range = (sim_all_read program settings range).covered

pub sim_begins_with_head : SimBeginsWithHead
sim_begins_with_head program settings range = (sim_all_read program settings range).begins

-- ---- a turn of a simulation

-- one that there is
pub record WentOn (program : Parts) (settings : Settings) (turns : ℕ) (now : SoFar) : Type 0 where
  pub part : IsPartOfSim program settings (turns + 1) now
  pub few : turns < most_turns settings

-- and none
pub record IsAtEnd (program : Parts) (settings : Settings) (before now : SoFar) : Type 0 where
  pub same : now ≡ before
  pub all : sim_run program settings ≡ before
  pub finished : IsFinished (code_of program) settings before.journal

module _ (program : Parts) (settings : Settings) (turns : ℕ) (before now : SoFar) (made : Bool) (range : AreInRange settings) (part : IsPartOfSim program settings turns before) (takes : TakesTurn (code_of program) settings made before now) where
  pub took_turn : made ≡ true → WentOn program settings turns now
  took_turn yes_made = by (next_turn (code_of program) settings before) refl takes.told takes.after
    where
      by : (o : Option Turn) → next_turn (code_of program) settings before ≡ o → made ≡ is_some o → now ≡ after_turn_if (code_of program) settings before o → WentOn program settings turns now
      by None e told after = absurd (true≢false (sym yes_made ∙ told))
      by (Some turn) e told after = record {
        part = subst (IsPartOfSim program settings (turns + 1)) (sym after) (goes_on program settings range turns before part turn e);
        few = turns_few program settings range turns before part;
      }

  pub took_none : made ≡ false → IsAtEnd program settings before now
  took_none none_made = by (next_turn (code_of program) settings before) refl takes.told takes.after
    where
      by : (o : Option Turn) → next_turn (code_of program) settings before ≡ o → made ≡ is_some o → now ≡ after_turn_if (code_of program) settings before o → IsAtEnd program settings before now
      by None e told after =
          let done = ends program settings range turns before part e in
          record { same = after; all = done.0; finished = done.1 }
      by (Some turn) e told after = absurd (true≢false (sym told ∙ none_made))
