-- A simulation goes on by one entry.
use Rattle.std.proofs.Common.{◌≡◌, ◌<◌, ◌≤◌, ℕ, Bool, true, List, [], ◌∷◌, ◌++◌, length, get_or, Some, refl, sym, ap, ◌∙◌, subst, arith, unwrap_or, length-set, length-append}
use Rattle.gp_isa.specs.declared.parts.Parts.{Parts}
use Rattle.gp_isa.specs.Checked.{main_of}
use Rattle.gp_isa.specs.Trace.{trace}
use Rattle.gp_stack.specs.declared.statement.Operation.TheVariants as operation
use Rattle.gp_stack.specs.Body.{Progress, IsAtShared}
use Rattle.gp_stack.specs.declared.record.Record.{Record as Row}
use Rattle.gp_stack.specs.Goroutine.{next_point, labels_of, local_ahead}
use Rattle.gp_stack.specs.Peek.{operation_of}
use Rattle.gp_stack.specs.Record.{record_of}
use Rattle.gp_journal.specs.declared.answer.Applied.{Applied}
use Rattle.gp_journal.specs.declared.answer.Applied.TheVariants.{Plain, Passed, Born, Blocked, Fault}
use Rattle.gp_journal.specs.declared.answer.SharedPoint.{SharedPoint}
use Rattle.gp_journal.specs.declared.entry.Entry.{Entry}
use Rattle.gp_journal.specs.declared.entry.Entry.TheVariants.{Start, Run, Op, Tick, Park, Open, Refuse, Record, Close}
use Rattle.gp_journal.specs.declared.settings.Settings.{Settings}
use Rattle.gp_journal.specs.State.{Code, State, code_of, goroutine, worker, first}
use Rattle.gp_journal.specs.Settings.{AreInRange}
use Rattle.gp_journal.specs.Frozen.{row}
use Rattle.gp_journal.specs.May.{May}
use Rattle.gp_journal.specs.Effect.{after}
use Rattle.gp_journal.specs.Answer.{op_answer}
use Rattle.gp_journal.specs.Run.{last}
use Rattle.gp_journal.specs.NumberLaws.{most_entries}
use Rattle.gp_journal.specs.Reached.{IsReached}
use Rattle.gp_journal.specs.Shown.{IsPointOf}
use Rattle.gp_journal.proofs.Lemmas.{after_all-append, behind_parts, leaves_bodies, first_bodies, stays, follows_run, op_bears, has_body, runner_live, run_ahead, op_at_shared, point_is, row_is, bodies_follow, bodies_gain, nobody_born, appended, entries_are_bounded}
use Rattle.gp_journal.specs.Bodies.{nowhere, standing, AreBodiesOf, further, moved_on, followed, gained}
use Rattle.gp_machine.specs.declared.at_point.AtPoint.{AtPoint}
use Rattle.gp_machine.specs.declared.at_point.AtPoint.TheVariants.{Bears}
use Rattle.gp_machine.specs.AtPoint.{at_point}
use Rattle.gp_history.specs.History.{IsPlain}
use Rattle.gp_sim.specs.kept.Bodies.{gone_on, joined}
use Rattle.gp_sim.specs.kept.Simulation.{IsSimulation, IsQuiet, BearsNobody}

pub quiet_stays : (entry : Entry) → IsQuiet entry → leaves_bodies entry ≡ true
quiet_stays (Start w g) quiet = refl
quiet_stays (Run w g n) quiet = absurd quiet
quiet_stays (Op w g) quiet = absurd quiet
quiet_stays (Tick w g) quiet = absurd quiet
quiet_stays (Park w g) quiet = refl
quiet_stays (Open epoch room) quiet = absurd quiet
quiet_stays (Refuse room n) quiet = refl
quiet_stays (Record actor g) quiet = absurd quiet
quiet_stays (Close epoch) quiet = absurd quiet

pub quiet_plain : (entry : Entry) → IsQuiet entry → IsPlain entry
quiet_plain (Start w g) quiet = tt
quiet_plain (Run w g n) quiet = tt
quiet_plain (Op w g) quiet = quiet
quiet_plain (Tick w g) quiet = absurd quiet
quiet_plain (Park w g) quiet = tt
quiet_plain (Open epoch room) quiet = quiet
quiet_plain (Refuse room n) quiet = tt
quiet_plain (Record actor g) quiet = quiet
quiet_plain (Close epoch) quiet = quiet

-- what is told of a point is what the answer tells
pub gone_on_is : (g : ℕ) (answer : Applied) (bodies : List Progress) → gone_on g (at_point answer) bodies ≡ followed g answer bodies
gone_on_is g (Plain died) bodies = refl
gone_on_is g (Passed woke event died) bodies = refl
gone_on_is g (Born h died) bodies = refl
gone_on_is g Blocked bodies = refl
gone_on_is g (Fault cause) bodies = refl

pub joined_is : (answer : Applied) (place : Progress) (bodies : List Progress) → joined (at_point answer) place bodies ≡ gained answer place bodies
joined_is (Plain died) place bodies = refl
joined_is (Passed woke event died) place bodies = refl
joined_is (Born h died) place bodies = refl
joined_is Blocked place bodies = refl
joined_is (Fault cause) place bodies = refl

born_by : (P : Type 0) (answer : Applied) → at_point answer ≡ Bears → ((h : ℕ) (died : Bool) → answer ≡ Born h died → P) → P
born_by P (Plain died) e by = absurd (cc)
born_by P (Passed woke event died) e by = absurd (cc)
born_by P (Born h died) e by = by h died refl
born_by P Blocked e by = absurd (cc)
born_by P (Fault cause) e by = absurd (cc)

module _ (code : Code) (settings : Settings) (journal : List Entry) (bodies : List Progress) (it : IsSimulation code settings journal bodies) where
  pub reached : IsReached code settings (last code settings journal)
  reached = record { journal = journal; legal = it.legal; its_last = refl }

  -- by any entry
  pub by_entry : (made : Entry) (bodies' : List Progress) → May code settings (last code settings journal) made → AreBodiesOf (after code settings (last code settings journal) made) bodies' →
      IsSimulation code settings (journal ++ made ∷ []) bodies'
  by_entry made bodies' may bodied = record {
    in_range = it.in_range;
    legal = appended code settings (first code settings) journal made it.legal may;
    its_bodies = subst (λ s. AreBodiesOf s bodies') (sym (after_all-append code settings (first code settings) journal (made ∷ []))) bodied;
  }

  -- by one that moves no body
  pub by_still : (made : Entry) → leaves_bodies made ≡ true → May code settings (last code settings journal) made → IsSimulation code settings (journal ++ made ∷ []) bodies
  by_still made still may = by_entry made bodies may (stays code settings (last code settings journal) made bodies still reached may it.its_bodies)

-- What its bodies tell where an entry may come.
module _ (program : Parts) (settings : Settings) (journal : List Entry) (bodies : List Progress) (it : IsSimulation (code_of program) settings journal bodies) where
  abbrev now : State
  now = last (code_of program) settings journal

  here : IsReached (code_of program) settings now
  here = reached (code_of program) settings journal bodies it

  pub runner_has_body : (w g : ℕ) → (worker now w).runs ≡ Some g → g < length bodies
  runner_has_body w g runs = has_body program settings now here it.in_range bodies it.its_bodies g (runner_live program settings now here it.in_range bodies it.its_bodies w g runs)

  pub points_ahead : (w g n : ℕ) → May (code_of program) settings now (Run w g n) → n ≤ local_ahead (trace program (get_or bodies g nowhere).start) (get_or bodies g nowhere).count
  points_ahead w g n may = run_ahead program settings now here it.in_range bodies it.its_bodies w g n may

  pub at_shared : (w g : ℕ) → May (code_of program) settings now (Op w g) → IsAtShared (trace program (get_or bodies g nowhere).start) (get_or bodies g nowhere).count
  at_shared w g may = op_at_shared program settings now here it.in_range bodies it.its_bodies w g may

  pub runner_stands : (w g : ℕ) → (worker now w).runs ≡ Some g → get_or bodies g nowhere ≡ standing (goroutine now g)
  runner_stands w g runs = it.its_bodies.live g (runner_live program settings now here it.in_range bodies it.its_bodies w g runs)

  -- the point that a body shows is the goroutine's
  pub point_told : (w g : ℕ) (point : SharedPoint) → May (code_of program) settings now (Op w g) →
      operation_of (next_point (trace program (get_or bodies g nowhere).start) (get_or bodies g nowhere).count).instruction ≡ Some point.operation →
      point.labels ≡ labels_of (trace program (get_or bodies g nowhere).start) (get_or bodies g nowhere).set (get_or bodies g nowhere).count → IsPointOf (code_of program) now g point
  point_told w g point may shown labels = point_is program settings now here it.in_range bodies it.its_bodies w g point may shown labels

  -- who is recorded has a body, whose record is the row
  pub recorded_has_body : (actor g : ℕ) → May (code_of program) settings now (Record actor g) → g < length bodies
  recorded_has_body actor g may = has_body program settings now here it.in_range bodies it.its_bodies g ((behind_parts now.active (goroutine now g) may.unrecorded).0)

  pub recorded_row : (actor g : ℕ) (copy : Row) → May (code_of program) settings now (Record actor g) → copy ≡ record_of program g (get_or bodies g nowhere) → copy ≡ row (code_of program) g (goroutine now g)
  recorded_row actor g copy may e = row_is program settings now here it.in_range bodies it.its_bodies g copy ((behind_parts now.active (goroutine now g) may.unrecorded).0) e

  -- there is room for an entry that may come
  pub entry_fits : (made : Entry) → May (code_of program) settings now made → length journal < most_entries settings
  entry_fits made may =
      let few = entries_are_bounded (code_of program) settings (journal ++ made ∷ []) it.in_range (appended (code_of program) settings (first (code_of program) settings) journal made it.legal may) in
      omega (arith, length-append journal (made ∷ []))

  pub ran : (w g n : ℕ) → May (code_of program) settings now (Run w g n) → IsSimulation (code_of program) settings (journal ++ Run w g n ∷ []) (moved_on bodies g n)
  ran w g n may = by_entry (code_of program) settings journal bodies it (Run w g n) (moved_on bodies g n) may (follows_run (code_of program) settings now w g n bodies it.its_bodies)

  -- an Op at which nobody can be born
  pub operated : (w g : ℕ) (point : SharedPoint) (answer : Applied) → May (code_of program) settings now (Op w g) → IsPointOf (code_of program) now g point → BearsNobody settings now point → answer ≡ op_answer (code_of program) settings g now →
      IsSimulation (code_of program) settings (journal ++ Op w g ∷ []) (followed g answer bodies)
  operated w g point answer may is nobody e =
      by_entry (code_of program) settings journal bodies it (Op w g) (followed g answer bodies) may
      (bodies_follow program settings now here it.in_range bodies it.its_bodies w g answer may e (nobody_born program settings now here it.in_range bodies it.its_bodies g point answer is e nobody))

  -- a spawn, by a body that stands ready
  pub spawned : (w g f : ℕ) (point : SharedPoint) (answer : Applied) (born : Progress) → May (code_of program) settings now (Op w g) → IsPointOf (code_of program) now g point → point.operation ≡ operation.Spawn f →
      answer ≡ op_answer (code_of program) settings g now →
      born ≡ record { start = f; set = point.labels; count = 0 } → IsSimulation (code_of program) settings (journal ++ Op w g ∷ []) (gained answer born (followed g answer bodies))
  spawned w g f point answer born may is spawn e ready = by_entry (code_of program) settings journal bodies it (Op w g) _ may (by answer e)
    where
      nobody : (a : Applied) → a ≡ op_answer (code_of program) settings g now → ((h : ℕ) (died : Bool) → a ≡ Born h died → ⊥) → AreBodiesOf (after (code_of program) settings now (Op w g)) (followed g a bodies)
      nobody a same none = bodies_follow program settings now here it.in_range bodies it.its_bodies w g a may same none

      by : (a : Applied) → a ≡ op_answer (code_of program) settings g now → AreBodiesOf (after (code_of program) settings now (Op w g)) (gained a born (followed g a bodies))
      by (Born h died) same = rw ready (bodies_gain program settings now here it.in_range bodies it.its_bodies w g f h died point (Born h died) may is spawn same refl)
      by (Plain died) same = nobody (Plain died) same (λ h d born_there. absurd (cc))
      by (Passed woke event died) same = nobody (Passed woke event died) same (λ h d born_there. absurd (cc))
      by Blocked same = nobody Blocked same (λ h d born_there. absurd (cc))
      by (Fault cause) same = nobody (Fault cause) same (λ h d born_there. absurd (cc))

  -- whoever is born has a cell
  cell_left : (g h : ℕ) (died : Bool) (answer : Applied) → answer ≡ op_answer (code_of program) settings g now → answer ≡ Born h died → length (followed g answer bodies) < settings.cells
  cell_left g h died answer e born =
      let by = op_bears (code_of program) settings now g h died (sym e ∙ born) in
      let each = it.its_bodies.each in
      let some = by.has_cell in
      let same = ap (λ a. length (followed g a bodies)) born in
      omega (arith, length-set bodies g (further 1 (get_or bodies g nowhere)))

  pub cell_left_by : (g : ℕ) (at : AtPoint) → at ≡ at_point (op_answer (code_of program) settings g now) → at ≡ Bears → length (followed g (op_answer (code_of program) settings g now) bodies) < settings.cells
  cell_left_by g at told bears =
      born_by (length (followed g (op_answer (code_of program) settings g now) bodies) < settings.cells) (op_answer (code_of program) settings g now) (sym told ∙ bears)
      (λ h died is. cell_left g h died (op_answer (code_of program) settings g now) refl is)

-- a simulation as it begins
pub begun : (program : Parts) (settings : Settings) (main : ℕ) (bodies : List Progress) → AreInRange settings → main_of program ≡ Some main → bodies ≡ record { start = main; set = 0; count = 0 } ∷ [] →
    IsSimulation (code_of program) settings [] bodies
begun program settings main bodies range is_main are = rw are (record {
  in_range = range;
  legal = tt;
  its_bodies = subst (λ n. AreBodiesOf (first (code_of program) settings) (record { start = n; set = 0; count = 0 } ∷ [])) (ap (λ o. unwrap_or o 0) is_main) (first_bodies (code_of program) settings);
})
