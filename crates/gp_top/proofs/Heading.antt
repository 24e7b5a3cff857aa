-- The headline of a run from its parts, and what the status tells of it.
use Rattle.std.proofs.Common.{◌≡◌, ◌≢◌, ◌≤◌, ◌⊎◌, ℕ, arith, List, [], ◌∷◌, ◌++◌, codes, Option, None, Some, IfSome, IsSomeAnd, inl, inr, refl, sym, ap, subst, ◌∙◌}
use Rattle.std.proofs.lemmas.Bool.Decides.{eqb_tells}
use Rattle.gp_isa.specs.declared.parts.Parts.{Parts}
use Rattle.gp_journal.specs.Due as machine
use Rattle.gp_journal.specs.Run.{state_of}
use Rattle.gp_journal.specs.declared.entry.Ended.{Ended}
use Rattle.gp_journal.specs.declared.entry.Ended.TheVariants as ended
use Rattle.gp_journal.specs.declared.settings.Settings.{Settings}
use Rattle.gp_text.specs.Reading.{program_of, Gives}
use Rattle.gp_gen.specs.Generated.{generated}
use Rattle.gp_words.specs.declared.jobs.Job.{Job}
use Rattle.gp_words.specs.declared.jobs.Job.TheVariants.{Run, Sim, Gen, Dump}
use Rattle.gp_words.specs.Read.{Read as Reading, Names}
use Rattle.gp_io.specs.Outside.{Rose}
use Rattle.gp_build.specs.Meant.{meaning_of}
use Rattle.gp_report.specs.Dump.{dump_text}
use Rattle.gp_report.specs.declared.report.Report.{Report}
use Rattle.gp_text.specs.Text.{text_of}
use Rattle.gp_top.specs.Files.{Output, TextFile}
use Rattle.gp_top.specs.Putting.{Told, ArePut, Sunk}
use Rattle.gp_top.specs.Report.{refusals, IsReport, IsChosen, Order, ByNumbers, ByThreads, IsInOrder}
use Rattle.gp_top.specs.Status.{status_of_end, status_of, status_of_run}
use Rattle.gp_top.specs.Task.{Task, read_task, generated_task, generated_file}
use Rattle.gp_top.specs.Asked.{file_job, IsAccepted, IsAsked, OfFile, OfNumbers}
use Rattle.gp_top.specs.Top.{IsTold, ComesTo, AllPut, PutFails, OutOfMemory, IsRun, IsRefusal, PutsNoMore, PutsNothing, PutsProgram, EndsWithoutReport, Refusal, Dumped, ProgramFails, NoMemory}
use Rattle.gp_top.specs.kept.Steps.{CameTo, IsDump, IsAfterRun}
use Rattle.gp_top.proofs.Asking.{one_job, one_kind, file_not_numbers, file_not_text, text_not_numbers}
use Rattle.gp_top.proofs.Putting.{all_first, both_put, then_fails, then_first, count_rose}

-- ---- statuses

-- the status that tells how a run ended is 0, or one of 5 to 8
ends_at : (refused : List (ℕ × ℕ)) (e : Ended) → (status_of_end refused e ≡ 0) ⊎ ((5 ≤ status_of_end refused e) × (status_of_end refused e ≤ 8))
ends_at refused (ended.Fault cause) = inr (omega arith, omega arith)
ends_at refused ended.Full = inr (omega arith, omega arith)
ends_at refused ended.Deadlock = inr (omega arith, omega arith)
ends_at [] ended.Main = inl refl
ends_at (one ∷ more) ended.Main = inr (omega arith, omega arith)

abbrev pub IsEnding : ℕ → Type 0
IsEnding status = (status ≡ 0) ⊎ ((5 ≤ status) × (status ≤ 8))

pub ending_of : (report : Report) → IsEnding (status_of report)
ending_of report = ends_at report.refused report.ended

after_ending : (status : ℕ) → IsEnding status → IsAfterRun status
after_ending status (inl zero) = ((λ e. absurd (omega arith)), ((λ e. absurd (omega arith)), (λ e. absurd (omega arith))))
after_ending status (inr later) = ((λ e. absurd (omega (arith, later.0))), ((λ e. absurd (omega (arith, later.0))), (λ e. absurd (omega (arith, later.0)))))

after_put_fault : (status : ℕ) → status ≡ 4 → IsAfterRun status
after_put_fault status four = ((λ e. absurd (omega arith)), ((λ e. absurd (omega arith)), (λ e. absurd (omega arith))))

after_memory : (status : ℕ) → status ≡ 9 → IsAfterRun status
after_memory status nine = ((λ e. absurd (omega arith)), ((λ e. absurd (omega arith)), (λ e. absurd (omega arith))))

no_put_fault : (status : ℕ) → IsEnding status → status ≡ 4 → ⊥
no_put_fault status (inl zero) four = omega arith
no_put_fault status (inr later) four = omega (arith, later.0)

no_refusal : {A : Type 0} (status : ℕ) → IsAfterRun status → IsRefusal status → A
no_refusal status after (inl one) = absurd (after.0 one)
no_refusal status after (inr (inl two)) = absurd (after.1.0 two)
no_refusal status after (inr (inr three)) = absurd (after.1.1 three)

-- the status of a report is that of its run, where numbers choose
status_is : (program : Parts) (settings : Settings) (report : Report) → IsReport program settings report → IsChosen program settings report → status_of report ≡ status_of_run program settings
status_is program settings report is chosen =
    ap (λ refused. status_of_end refused report.ended) is.refused_are
    ∙ (ap (status_of_end (refusals report.journal)) is.ended_is
    ∙ ap (λ journal. status_of_end (refusals journal) (machine.ended (state_of program settings journal))) chosen.journal_is)

-- so it is for a task of that order
task_status : (task : Task) (program : Parts) (settings : Settings) (report : Report) → task.program ≡ program → task.settings ≡ settings → task.order ≡ ByNumbers
    → IsReport task.program task.settings report → IsInOrder task.order task.program task.settings report → status_of report ≡ status_of_run program settings
task_status task program settings report one two order is chosen =
    status_is task.program task.settings report is (subst (λ o. IsInOrder o task.program task.settings report) order chosen)
    ∙ (ap (λ p. status_of_run p task.settings) one ∙ ap (status_of_run program) two)

-- ---- texts

module _ (text : List ℕ) (ending : ℕ) (before after : Sunk) (status : ℕ) where
  told_fault : IsEnding ending → IsTold text ending before after status → status ≡ 4 → Rose before.1 after.1
  told_fault is (inl told) four = absurd (no_put_fault ending is (sym told.0 ∙ four))
  told_fault is (inr failed) four = failed.1.1

  told_well : IsTold text ending before after status → status ≢ 4 → (status ≡ ending) × (after.1 ≡ before.1)
  told_well (inl told) other = (told.0, told.1.1)
  told_well (inr failed) other = absurd (other failed.0)

  pub told_memory : IsEnding ending → IsTold text ending before after status → status ≡ 9 → ⊥
  told_memory is (inl told) nine = not_memory ending is (sym told.0 ∙ nine) where
    not_memory : (e : ℕ) → IsEnding e → e ≡ 9 → ⊥
    not_memory e (inl zero) n = omega arith
    not_memory e (inr later) n = omega (arith, later.1)
  told_memory is (inr failed) nine = omega (arith, failed.0)

  told_after : IsEnding ending → IsTold text ending before after status → IsAfterRun status
  told_after is (inl told) = subst IsAfterRun (sym told.0) (after_ending ending is)
  told_after is (inr failed) = after_put_fault status failed.0

  told_whole : IsTold text ending before after status → (Rose before.1 after.1 → ⊥) → status ≡ ending
  told_whole (inl told) none = told.0
  told_whole (inr failed) none = absurd (none failed.1.1)

-- ---- files and summary

module _ (outputs : List Output) (summary : List ℕ) (ending : ℕ) (before after : Told) (sink_before sink_after : Sunk) (status : ℕ) where
  abbrev Comes : Type 0
  Comes = ComesTo outputs summary ending before after sink_before sink_after status

  comes_fault : IsEnding ending → Comes → status ≡ 4 → Rose before.2 after.2 ⊎ Rose sink_before.1 sink_after.1
  comes_fault is (AllPut put told) four = inr (told_fault summary ending sink_before sink_after status is told four)
  comes_fault is (PutFails e fails same) four = inl (count_rose outputs before after fails)
  comes_fault is (OutOfMemory nine first same) four = absurd (omega arith)

  comes_put_well : Comes → status ≢ 4 → after.2 ≡ before.2
  comes_put_well (AllPut put told) other = put.well
  comes_put_well (PutFails four fails same) other = absurd (other four)
  comes_put_well (OutOfMemory nine first same) other = first.put.well

  comes_write_well : Comes → status ≢ 4 → sink_after.1 ≡ sink_before.1
  comes_write_well (AllPut put told) other = (told_well summary ending sink_before sink_after status told other).1
  comes_write_well (PutFails four fails same) other = absurd (other four)
  comes_write_well (OutOfMemory nine first same) other = ap (λ (s : Sunk). s.1) same

  comes_ended : Comes → status ≢ 4 → status ≢ 9 → status ≡ ending
  comes_ended (AllPut put told) other enough = (told_well summary ending sink_before sink_after status told other).0
  comes_ended (PutFails four fails same) other enough = absurd (other four)
  comes_ended (OutOfMemory nine first same) other enough = absurd (enough nine)

  pub comes_after : IsEnding ending → Comes → IsAfterRun status
  comes_after is (AllPut put told) = told_after summary ending sink_before sink_after status is told
  comes_after is (PutFails four fails same) = after_put_fault status four
  comes_after is (OutOfMemory nine first same) = after_memory status nine

  comes_whole : Comes → (Rose before.2 after.2 → ⊥) → (Rose sink_before.1 sink_after.1 → ⊥) → (status ≡ ending) ⊎ (status ≡ 9)
  comes_whole (AllPut put told) stored written = inl (told_whole summary ending sink_before sink_after status told written)
  comes_whole (PutFails four fails same) stored written = absurd (stored (count_rose outputs before after fails))
  comes_whole (OutOfMemory nine first same) stored written = inr nine

  -- where all files were put, and then the summary was written or not, or memory ran out
  pub comes_of : ArePut outputs before after → (status ≢ 9 → IsTold summary ending sink_before sink_after status) → (status ≡ 9 → sink_after ≡ sink_before) → Comes
  comes_of put told same = elim (eqb_tells status 9) [
    | inl nine ↦ OutOfMemory nine.1 (all_first outputs before after put) (same nine.1)
    | inr other ↦ AllPut put (told other.1)
  ]

-- files behind others that were put
pub comes_behind : (front outputs : List Output) (summary : List ℕ) (ending : ℕ) (before mid after : Told) (sink_before sink_after : Sunk) (status : ℕ)
    → ArePut front before mid → ComesTo outputs summary ending mid after sink_before sink_after status → ComesTo (front ++ outputs) summary ending before after sink_before sink_after status
comes_behind front outputs summary ending before mid after sink_before sink_after status first (AllPut put told) = AllPut (both_put front outputs before mid after first put) told
comes_behind front outputs summary ending before mid after sink_before sink_after status first (PutFails four fails same) = PutFails four (then_fails front outputs before mid after first fails) same
comes_behind front outputs summary ending before mid after sink_before sink_after status first (OutOfMemory nine some same) = OutOfMemory nine (then_first front outputs before mid after first some) same

-- the run of a generated program, behind the put of its text
module _ (n q : ℕ) (settings : Settings) (before mid after : Told) (sink_before sink_after : Sunk) (status : ℕ) where
  behind_text : (report : Report) → ArePut (generated_file n q ∷ []) before mid → CameTo (read_task ByNumbers (codes "gen.gp") settings (generated n q)) mid after sink_before sink_after status report
      → CameTo (generated_task n q settings) before after sink_before sink_after status report
  behind_text report put came = record {
    reported = came.reported;
    in_order = came.in_order;
    comes_to = comes_behind (generated_file n q ∷ []) _ _ _ before mid after sink_before sink_after status put came.comes_to;
  }

  all_behind_text : (report : Option Report) → ArePut (generated_file n q ∷ []) before mid
      → IfSome report (λ r. CameTo (read_task ByNumbers (codes "gen.gp") settings (generated n q)) mid after sink_before sink_after status r)
      → IfSome report (λ r. CameTo (generated_task n q settings) before after sink_before sink_after status r)
  all_behind_text None put came = tt
  all_behind_text (Some report) put came = behind_text report put came

  pub generated_came : (program : Parts) (text : List ℕ) (report : Option Report) → program ≡ generated n q → text ≡ text_of (generated n q)
      → ArePut (TextFile (codes "gen.gp") text ∷ []) before mid
      → IfSome report (λ r. CameTo (read_task ByNumbers (codes "gen.gp") settings program) mid after sink_before sink_after status r)
      → IfSome report (λ r. CameTo (generated_task n q settings) before after sink_before sink_after status r)
  generated_came program text report one two put came =
      all_behind_text report (subst (λ (t : List ℕ). ArePut (TextFile (codes "gen.gp") t ∷ []) before mid) two put)
      (subst (λ (p : Parts). IfSome report (λ r. CameTo (read_task ByNumbers (codes "gen.gp") settings p) mid after sink_before sink_after status r)) one came)

-- ---- runs

module _ (asked : Reading Job) (held : Option (List ℕ)) (before after : Told) (sink_before sink_after : Sunk) (status : ℕ) where
  abbrev Runs : Report → Type 0
  Runs report = IsRun asked held before after sink_before sink_after status report

  -- a run of a program that was read, and one of a generated program
  file_run : (order : Order) (file : List ℕ) (settings : Settings) (program : Parts) (report : Report) → asked ≡ Names (file_job order file settings) → IsAccepted held program
      → CameTo (read_task order file settings program) before after sink_before sink_after status report → Runs report
  file_run order file settings program report job accepted came = record {
    task = read_task order file settings program;
    is_asked = OfFile order file settings program job accepted refl;
    reported = came.reported;
    in_order = came.in_order;
    comes_to = came.comes_to;
  }

  numbers_run : (n q : ℕ) (settings : Settings) (report : Report) → asked ≡ Names (Gen n q settings)
      → CameTo (generated_task n q settings) before after sink_before sink_after status report → Runs report
  numbers_run n q settings report job came = record {
    task = generated_task n q settings;
    is_asked = OfNumbers n q settings job refl;
    reported = came.reported;
    in_order = came.in_order;
    comes_to = came.comes_to;
  }

  pub file_runs : (order : Order) (file : List ℕ) (settings : Settings) (report : Option Report) → asked ≡ Names (file_job order file settings)
      → IfSome report (λ r. (program : Parts) × IsAccepted held program × CameTo (read_task order file settings program) before after sink_before sink_after status r) → IfSome report Runs
  file_runs order file settings None job came = tt
  file_runs order file settings (Some report) job came = file_run order file settings came.0 report job came.1 came.2

  pub numbers_runs : (n q : ℕ) (settings : Settings) (report : Option Report) → asked ≡ Names (Gen n q settings)
      → IfSome report (λ r. CameTo (generated_task n q settings) before after sink_before sink_after status r) → IfSome report Runs
  numbers_runs n q settings None job came = tt
  numbers_runs n q settings (Some report) job came = numbers_run n q settings report job came

  -- what a run and its status tell
  run_fault : (report : Report) → Runs report → status ≡ 4 → Rose before.2 after.2 ⊎ Rose sink_before.1 sink_after.1
  run_fault report run four = comes_fault _ _ _ before after sink_before sink_after status (ending_of report) run.comes_to four

  run_put_well : (report : Report) → Runs report → status ≢ 4 → after.2 ≡ before.2
  run_put_well report run other = comes_put_well _ _ _ before after sink_before sink_after status run.comes_to other

  run_write_well : (report : Report) → Runs report → status ≢ 4 → sink_after.1 ≡ sink_before.1
  run_write_well report run other = comes_write_well _ _ _ before after sink_before sink_after status run.comes_to other

  run_ended : (report : Report) → Runs report → status ≢ 4 → status ≢ 9 → status ≡ status_of report
  run_ended report run other enough = comes_ended _ _ _ before after sink_before sink_after status run.comes_to other enough

  -- bytes give one program
  program_same : (bytes : List ℕ) (made program : Parts) → IsAccepted held made → held ≡ Some bytes → program_of bytes ≡ Gives program → made ≡ program
  program_same bytes made program accepted is gives = go held accepted is where
    go : (h : Option (List ℕ)) → IsAccepted h made → h ≡ Some bytes → made ≡ program
    go None given same = absurd cc
    go (Some all) given same =
        let one : all ≡ bytes = cc in
        let e : Gives made ≡ Gives program = sym given.gives ∙ (ap program_of (given.all ∙ one) ∙ gives) in cc

  -- so words and file tell the status
  asked_status : (report : Report) (task : Task) (file bytes : List ℕ) (settings : Settings) (program : Parts) → IsAsked asked held task → IsReport task.program task.settings report
      → IsInOrder task.order task.program task.settings report → asked ≡ Names (Sim file settings) → held ≡ Some bytes → program_of bytes ≡ Gives program → status_of report ≡ status_of_run program settings
  asked_status report task file bytes settings program (OfFile ByNumbers name mine made job accepted is) reported in_order sim told gives =
      let same : Sim name mine ≡ Sim file settings = one_job asked (Sim name mine) (Sim file settings) job sim in
      let one : mine ≡ settings = cc in
      let two = program_same bytes made program accepted told gives in
      task_status task program settings report (ap (λ (t : Task). t.program) is ∙ two) (ap (λ (t : Task). t.settings) is ∙ one) (ap (λ (t : Task). t.order) is) reported in_order
  asked_status report task file bytes settings program (OfFile ByThreads name mine made job accepted is) reported in_order sim told gives =
      absurd (omega (arith, one_kind asked (Run name mine) (Sim file settings) job sim))
  asked_status report task file bytes settings program (OfNumbers n q mine job is) reported in_order sim told gives =
      absurd (omega (arith, one_kind asked (Gen n q mine) (Sim file settings) job sim))

  numbers_status : (report : Report) (task : Task) (n q : ℕ) (settings : Settings) → IsAsked asked held task → IsReport task.program task.settings report
      → IsInOrder task.order task.program task.settings report → asked ≡ Names (Gen n q settings) → status_of report ≡ status_of_run (generated n q) settings
  numbers_status report task n q settings (OfFile order name mine made job accepted is) reported in_order gen = absurd (file_not_numbers asked order name mine settings n q job gen)
  numbers_status report task n q settings (OfNumbers m p mine job is) reported in_order gen =
      let same : Gen m p mine ≡ Gen n q settings = one_job asked (Gen m p mine) (Gen n q settings) job gen in
      let one : generated m p ≡ generated n q = cc in
      let two : mine ≡ settings = cc in
      task_status task (generated n q) settings report (ap (λ (t : Task). t.program) is ∙ one) (ap (λ (t : Task). t.settings) is ∙ two) (ap (λ (t : Task). t.order) is) reported in_order

  run_of_no_dump : (report : Report) (file : List ℕ) → Runs report → asked ≡ Names (Dump file) → ⊥
  run_of_no_dump report file run dump = go run.is_asked where
    go : IsAsked asked held run.task → ⊥
    go (OfFile order name mine made job accepted is) = file_not_text asked order name file mine job dump
    go (OfNumbers n q mine job is) = text_not_numbers asked file mine n q dump job

  -- ---- without a report

  abbrev Bare : Type 0
  Bare = EndsWithoutReport asked held before after sink_before sink_after status

  bare_fault : IsAfterRun status → Bare → status ≡ 4 → Rose before.2 after.2 ⊎ Rose sink_before.1 sink_after.1
  bare_fault behind (Refusal refusal same) four = no_refusal status behind refusal
  bare_fault behind (Dumped dump same) four = inr (told_fault _ 0 sink_before sink_after status (inl refl) dump.told four)
  bare_fault behind (ProgramFails n q ask is fails same) four = inl (count_rose _ before after fails)
  bare_fault behind (NoMemory nine put same) four = absurd (omega arith)

  no_more_faults : PutsNoMore asked before after → after.2 ≡ before.2
  no_more_faults (PutsNothing same) = ap (λ (t : Told). t.2) same
  no_more_faults (PutsProgram n q ask put) = put.well

  bare_put_well : Bare → status ≢ 4 → after.2 ≡ before.2
  bare_put_well (Refusal refusal same) other = ap (λ (t : Told). t.2) same
  bare_put_well (Dumped dump same) other = ap (λ (t : Told). t.2) same
  bare_put_well (ProgramFails n q ask four fails same) other = absurd (other four)
  bare_put_well (NoMemory nine put same) other = no_more_faults put

  bare_write_well : IsAfterRun status → Bare → status ≢ 4 → sink_after.1 ≡ sink_before.1
  bare_write_well behind (Refusal refusal same) other = no_refusal status behind refusal
  bare_write_well behind (Dumped dump same) other = (told_well _ 0 sink_before sink_after status dump.told other).1
  bare_write_well behind (ProgramFails n q ask four fails same) other = absurd (other four)
  bare_write_well behind (NoMemory nine put same) other = ap (λ (s : Sunk). s.1) same

  -- it's none of a run's statuses
  bare_early : IsAfterRun status → Bare → 5 ≤ status → status ≤ 8 → ⊥
  bare_early behind (Refusal refusal same) least most = no_refusal status behind refusal
  bare_early behind (Dumped dump same) least most = go dump.told where
    go : IsTold (dump_text (meaning_of dump.profile)) 0 sink_before sink_after status → ⊥
    go (inl told) = omega (arith, told.0)
    go (inr failed) = omega (arith, failed.0)
  bare_early behind (ProgramFails n q ask four fails same) least most = omega arith
  bare_early behind (NoMemory nine put same) least most = omega arith

  -- with right words for a run of a file's program it's want of memory
  bare_file : IsAfterRun status → Bare → (order : Order) (file : List ℕ) (settings : Settings) → asked ≡ Names (file_job order file settings) → status ≡ 9
  bare_file behind (Refusal refusal same) order file settings run = no_refusal status behind refusal
  bare_file behind (Dumped dump same) order file settings run = absurd (file_not_text asked order file dump.file settings run dump.job)
  bare_file behind (ProgramFails n q ask four fails same) order file settings run = absurd (file_not_numbers asked order file settings ask.settings n q run ask.job)
  bare_file behind (NoMemory nine put same) order file settings run = nine

  bare_numbers : IsAfterRun status → Bare → (n q : ℕ) (settings : Settings) → asked ≡ Names (Gen n q settings) → (Rose before.2 after.2 → ⊥) → status ≡ 9
  bare_numbers behind (Refusal refusal same) n q settings gen none = no_refusal status behind refusal
  bare_numbers behind (Dumped dump same) n q settings gen none = absurd (text_not_numbers asked dump.file settings n q dump.job gen)
  bare_numbers behind (ProgramFails m p ask four fails same) n q settings gen none = absurd (none (count_rose _ before after fails))
  bare_numbers behind (NoMemory nine put same) n q settings gen none = nine

  bare_dump : IsAfterRun status → Bare → (file : List ℕ) → asked ≡ Names (Dump file) → (Rose sink_before.1 sink_after.1 → ⊥) → (status ≡ 0) ⊎ (status ≡ 9)
  bare_dump behind (Refusal refusal same) file text none = no_refusal status behind refusal
  bare_dump behind (Dumped dump same) file text none = inl (told_whole _ 0 sink_before sink_after status dump.told none)
  bare_dump behind (ProgramFails n q ask four fails same) file text none = absurd (text_not_numbers asked file ask.settings n q text ask.job)
  bare_dump behind (NoMemory nine put same) file text none = inr nine

  -- ---- with a report or without

  module _ (report : Option Report) (run : IfSome report Runs) (bare : report ≡ None → Bare) (behind : IsAfterRun status) where
    pub fault_told : status ≡ 4 → Rose before.2 after.2 ⊎ Rose sink_before.1 sink_after.1
    fault_told four = go report run bare where
      go : (r : Option Report) → IfSome r Runs → (r ≡ None → Bare) → Rose before.2 after.2 ⊎ Rose sink_before.1 sink_after.1
      go (Some r) is none = run_fault r is four
      go None is none = bare_fault behind (none refl) four

    pub put_well : status ≢ 4 → after.2 ≡ before.2
    put_well other = go report run bare where
      go : (r : Option Report) → IfSome r Runs → (r ≡ None → Bare) → after.2 ≡ before.2
      go (Some r) is none = run_put_well r is other
      go None is none = bare_put_well (none refl) other

    pub write_well : status ≢ 4 → sink_after.1 ≡ sink_before.1
    write_well other = go report run bare where
      go : (r : Option Report) → IfSome r Runs → (r ≡ None → Bare) → sink_after.1 ≡ sink_before.1
      go (Some r) is none = run_write_well r is other
      go None is none = bare_write_well behind (none refl) other

    pub reported : 5 ≤ status → status ≤ 8 → IsSomeAnd report (λ r. status ≡ status_of r)
    reported least most = go report run bare where
      go : (r : Option Report) → IfSome r Runs → (r ≡ None → Bare) → IsSomeAnd r (λ r. status ≡ status_of r)
      go (Some r) is none = run_ended r is (λ four. omega arith) (λ nine. omega arith)
      go None is none = absurd (bare_early behind (none refl) least most)

    -- a run of a file's program, whoever chooses its order
    pub run_complete : (order : Order) (file : List ℕ) (settings : Settings) → asked ≡ Names (file_job order file settings)
        → (Rose before.2 after.2 → ⊥) → (Rose sink_before.1 sink_after.1 → ⊥) → IsSomeAnd report (λ r. status ≡ status_of r) ⊎ (status ≡ 9)
    run_complete order file settings named stored written = go report run bare where
      go : (r : Option Report) → IfSome r Runs → (r ≡ None → Bare) → IsSomeAnd r (λ r. status ≡ status_of r) ⊎ (status ≡ 9)
      go (Some r) is none = comes_whole _ _ _ before after sink_before sink_after status is.comes_to stored written
      go None is none = inr (bare_file behind (none refl) order file settings named)

    -- where numbers choose it the program and the options tell the status
    pub file_complete : (file bytes : List ℕ) (settings : Settings) (program : Parts) → asked ≡ Names (Sim file settings) → held ≡ Some bytes → program_of bytes ≡ Gives program
        → (Rose before.2 after.2 → ⊥) → (Rose sink_before.1 sink_after.1 → ⊥) → (status ≡ status_of_run program settings) ⊎ (status ≡ 9)
    file_complete file bytes settings program named told gives stored written = go report run bare where
      go : (r : Option Report) → IfSome r Runs → (r ≡ None → Bare) → (status ≡ status_of_run program settings) ⊎ (status ≡ 9)
      go (Some r) is none =
          subst (λ (e : ℕ). (status ≡ e) ⊎ (status ≡ 9)) (asked_status r is.task file bytes settings program is.is_asked is.reported is.in_order named told gives)
          (comes_whole _ _ _ before after sink_before sink_after status is.comes_to stored written)
      go None is none = inr (bare_file behind (none refl) ByNumbers file settings named)

    pub numbers_complete : (n q : ℕ) (settings : Settings) → asked ≡ Names (Gen n q settings)
        → (Rose before.2 after.2 → ⊥) → (Rose sink_before.1 sink_after.1 → ⊥) → (status ≡ status_of_run (generated n q) settings) ⊎ (status ≡ 9)
    numbers_complete n q settings named stored written = go report run bare where
      go : (r : Option Report) → IfSome r Runs → (r ≡ None → Bare) → (status ≡ status_of_run (generated n q) settings) ⊎ (status ≡ 9)
      go (Some r) is none =
          subst (λ (e : ℕ). (status ≡ e) ⊎ (status ≡ 9)) (numbers_status r is.task n q settings is.is_asked is.reported is.in_order named)
          (comes_whole _ _ _ before after sink_before sink_after status is.comes_to stored written)
      go None is none = inr (bare_numbers behind (none refl) n q settings named stored)

    pub dump_complete : (file : List ℕ) → asked ≡ Names (Dump file) → (Rose sink_before.1 sink_after.1 → ⊥) → (status ≡ 0) ⊎ (status ≡ 9)
    dump_complete file named written = go report run bare where
      go : (r : Option Report) → IfSome r Runs → (r ≡ None → Bare) → (status ≡ 0) ⊎ (status ≡ 9)
      go (Some r) is none = absurd (run_of_no_dump r file is named)
      go None is none = bare_dump behind (none refl) file named written

  -- a run tells how it ended
  pub all_ended : (report : Option Report) → IfSome report Runs → IfSome report (λ r. status ≢ 4 → status ≢ 9 → status ≡ status_of r)
  all_ended None run = tt
  all_ended (Some report) run = run_ended report run

-- the text of a profile was written
pub dumped_bare : (asked : Reading Job) (held : Option (List ℕ)) (before : Told) (sink_before sink_after : Sunk) (told status : ℕ) → status ≡ told → (file : List ℕ) → asked ≡ Names (Dump file)
    → IsDump held sink_before sink_after told → EndsWithoutReport asked held before before sink_before sink_after status
dumped_bare asked held before sink_before sink_after told status is file job dump =
    Dumped
    (record {
      file = file;
      job = job;
      profile = dump.profile;
      accepted = dump.accepted;
      told = subst (λ (s : ℕ). IsTold (dump_text (meaning_of dump.profile)) 0 sink_before sink_after s) (sym is) dump.told;
    })
    refl
