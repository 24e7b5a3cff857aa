-- What the status of a fault tells.
use Rattle.std.proofs.Common.{IfSome, ◌≡◌, ◌≢◌, ◌<◌, ◌≤◌, ℕ, List, length, Option, None, Some, inl, inr, ◌⊎◌, sym, ap, ◌∙◌, subst, arith, Result, Ok, Err, OnOk, OnErr}
use Rattle.gp_io.specs.Outside.{Appends, AppendsSome, Rose}
use Rattle.gp_isa.specs.declared.parts.Parts.{Parts}
use Rattle.gp_journal.specs.declared.settings.Settings.{Settings}
use Rattle.gp_report.specs.Fault.{fault_line}
use Rattle.gp_report.specs.declared.refusal.Fault.{Fault}
use Rattle.gp_report.specs.declared.refusal.Fault.TheVariants.{Usage, Line, At, Long, Read}
use Rattle.gp_text.specs.Reading.{program_of, Gives}
use Rattle.gp_text.specs.declared.cause.Cause.{Cause}
use Rattle.gp_words.specs.Read.{Read as Reading, Names}
use Rattle.gp_words.specs.declared.jobs.Job.{Job}
use Rattle.gp_words.specs.declared.jobs.Job.TheVariants.{Gen, Dump}
use Rattle.gp_wire.specs.Reading as reading
use Rattle.gp_wire.specs.declared.cause.Cause.{Cause as WireCause}
use Rattle.gp_wire.specs.declared.profile.Profile.{Profile}
use Rattle.gp_top.specs.Exit.{exit_of}
use Rattle.gp_top.specs.Report.{Order, ByNumbers, ByThreads}
use Rattle.gp_top.specs.Asked.{file_job, limit_of, GiveNoJob, HaveJob, GiveNoProgram, GiveNoProfile, IsTooLong, IsFaulty, IsFaultyProfile, IsBad, IsRefused, IsReadFor, IsReadTo, IsReadWhole}
use Rattle.gp_top.specs.Putting.{Sunk}
use Rattle.gp_top.specs.Top.{IsRefusal, IsWritten, TellsUsage, TellsRefused, TellsLong, TellsLine, TellsAt}
use Rattle.gp_top.specs.kept.Steps.{AskToRead, HeldTooMuch, FaultTells}
use Rattle.gp_top.proofs.Asking.{file_not_numbers, file_not_text, text_not_numbers}

-- how a line was written, by the answer of its write
pub is_written : {T E : Type 0} (r : Result T E) (line : List ℕ) (before after : Sunk) → OnOk r (Appends before.0 line after.0) → OnErr r (AppendsSome before.0 line after.0)
    → OnOk r (after.1 ≡ before.1) → OnErr r (Rose before.1 after.1) → IsWritten line before after
is_written (Ok t) line before after whole prefix well failed = inl (whole, well)
is_written (Err e) line before after whole prefix well failed = inr (prefix, failed)

-- a line to a sink that is as it was before
pub written_since : {O : Type 0} (written : O → Option (List ℕ)) (faults : O → ℕ) (before mid after : O) (status : ℕ) (line : List ℕ) → mid ≡ before
    → (status ≢ 9 → IsWritten line (written mid, faults mid) (written after, faults after)) → status ≢ 9 → IsWritten line (written before, faults before) (written after, faults after)
written_since written faults before mid after status line same is other =
    subst (λ o. IsWritten line (written o, faults o) (written after, faults after)) same (is other)

-- no fault has the status of want of memory
pub no_memory : (what : Fault) → exit_of what ≡ 9 → ⊥
no_memory (Usage place cause) nine = omega arith
no_memory (Line line cause) nine = omega arith
no_memory (At at cause) nine = omega arith
no_memory Long nine = omega arith
no_memory Read nine = omega arith

-- the status is the fault's where it isn't want of memory
decided : (what : Fault) (status : ℕ) → (status ≡ exit_of what) ⊎ (status ≡ 9) → status ≢ 9 → status ≡ exit_of what
decided what status (inl is) other = is
decided what status (inr is) other = absurd (other is)

refused_line : (held : Option (List ℕ)) (line : ℕ) (cause : Cause) → IsFaulty held line cause → IfSome held (λ all. GiveNoProgram all ⊎ (1048576 < length all))
refused_line None line cause faulty = tt
refused_line (Some all) line cause faulty = inl (record { line = line; cause = cause; refuses = faulty.1 })

refused_profile : (held : Option (List ℕ)) (at : ℕ) (cause : WireCause) → IsFaultyProfile held at cause → IfSome held (λ all. GiveNoProfile all ⊎ (67108864 < length all))
refused_profile None at cause faulty = tt
refused_profile (Some all) at cause faulty = inl (record { at = at; cause = cause; refuses = faulty.1 })

refused_long : (P : List ℕ → Type 0) (limit : ℕ) (held : Option (List ℕ)) → IsTooLong limit held → IfSome held (λ all. P all ⊎ (limit < length all))
refused_long P limit None long = tt
refused_long P limit (Some all) long = inr long

-- a program of bytes that aren't too many is not refused
accepted_line : (held : Option (List ℕ)) (bytes : List ℕ) (program : Parts) (line : ℕ) (cause : Cause) → held ≡ Some bytes → program_of bytes ≡ Gives program → IsFaulty held line cause → ⊥
accepted_line None bytes program line cause is gives faulty = absurd cc
accepted_line (Some all) bytes program line cause is gives faulty =
    let same : all ≡ bytes = cc in
    let e = sym faulty.1 ∙ (ap program_of same ∙ gives) in absurd cc

accepted_long : (limit : ℕ) (held : Option (List ℕ)) (bytes : List ℕ) → held ≡ Some bytes → length bytes ≤ limit → IsTooLong limit held → ⊥
accepted_long limit None bytes is few long = absurd cc
accepted_long limit (Some all) bytes is few long =
    let same : all ≡ bytes = cc in
    omega (arith, ap length same)

-- and neither is a profile
accepted_profile : (held : Option (List ℕ)) (bytes : List ℕ) (profile : Profile) (at : ℕ) (cause : WireCause) → held ≡ Some bytes → reading.value_of bytes ≡ reading.Gives profile
    → IsFaultyProfile held at cause → ⊥
accepted_profile None bytes profile at cause is gives faulty = absurd cc
accepted_profile (Some all) bytes profile at cause is gives faulty =
    let same : all ≡ bytes = cc in
    let e = sym faulty.1 ∙ (ap reading.value_of same ∙ gives) in absurd cc

module _ (status : ℕ) where
  -- statuses of faults
  pub is_refusal : (what : Fault) → status ≡ exit_of what → IsRefusal status
  is_refusal (Usage place cause) is = inl is
  is_refusal (Line line cause) is = inr (inl is)
  is_refusal (At at cause) is = inr (inl is)
  is_refusal Long is = inr (inl is)
  is_refusal Read is = inr (inr is)

  pub no_put_fault : (what : Fault) → (status ≡ exit_of what) ⊎ (status ≡ 9) → status ≡ 4 → ⊥
  no_put_fault (Usage place cause) (inl is) four = omega arith
  no_put_fault (Line line cause) (inl is) four = omega arith
  no_put_fault (At at cause) (inl is) four = omega arith
  no_put_fault Long (inl is) four = omega arith
  no_put_fault Read (inl is) four = omega arith
  no_put_fault what (inr is) four = omega arith

-- what a run of a file's program reads, whoever chooses its order
file_bad : (order : Order) (file : List ℕ) (settings : Settings) (held : Option (List ℕ)) → IfSome held (λ all. GiveNoProgram all ⊎ (1048576 < length all)) → IsBad (file_job order file settings) held
file_bad ByNumbers file settings held bad = bad
file_bad ByThreads file settings held bad = bad

file_whole : (order : Order) (file : List ℕ) (settings : Settings) (held left : Option (List ℕ)) → IsReadTo 1048576 held left → IsReadFor (file_job order file settings) held left
file_whole ByNumbers file settings held left whole = whole
file_whole ByThreads file settings held left whole = whole

file_long : (order : Order) (file : List ℕ) (settings : Settings) (held : Option (List ℕ)) → IsTooLong 1048576 held → IsTooLong (limit_of (file_job order file settings)) held
file_long ByNumbers file settings held long = long
file_long ByThreads file settings held long = long

module _ {S : Type 0} (left : S → Option (List ℕ)) (faults : S → ℕ) (asked : Reading Job) (old new : S) (status : ℕ) where
  -- what is read
  read_job : AskToRead asked → HaveJob asked
  read_job (inl run) = record { job = file_job run.0 run.1 run.2; names = run.3 }
  read_job (inr text) = record { job = Dump text.0; names = text.1 }

  -- where it's too much
  long_job : HeldTooMuch left faults asked old new → HaveJob asked
  long_job (inl run) = read_job (inl run.0)
  long_job (inr text) = read_job (inr text.0)

  long_refused : HeldTooMuch left faults asked old new → IsRefused asked (left old)
  long_refused (inl run) =
      record { job = file_job run.0.0 run.0.1 run.0.2; names = run.0.3; bad = file_bad run.0.0 run.0.1 run.0.2 (left old) (refused_long GiveNoProgram 1048576 (left old) run.1.0) }
  long_refused (inr text) = record { job = Dump text.0.0; names = text.0.1; bad = refused_long GiveNoProfile 67108864 (left old) text.1.0 }

  long_whole : HeldTooMuch left faults asked old new → IsReadWhole asked (left old) (left new)
  long_whole (inl run) = record { job = file_job run.0.0 run.0.1 run.0.2; names = run.0.3; whole = file_whole run.0.0 run.0.1 run.0.2 (left old) (left new) run.1.1.0 }
  long_whole (inr text) = record { job = Dump text.0.0; names = text.0.1; whole = text.1.1.0 }

  long_well : HeldTooMuch left faults asked old new → faults new ≡ faults old
  long_well (inl run) = run.1.1.1
  long_well (inr text) = text.1.1.1

  long_told : {before after : Sunk} → HeldTooMuch left faults asked old new → IsWritten (fault_line Long) before after → TellsRefused asked (left old) before after
  long_told (inl run) written = TellsLong (file_job run.0.0 run.0.1 run.0.2) run.0.3 (file_long run.0.0 run.0.1 run.0.2 (left old) run.1.0) written
  long_told (inr text) written = TellsLong (Dump text.0.0) text.0.1 text.1.0 written

  -- status 1
  usage_at : (what : Fault) → status ≡ exit_of what → FaultTells left faults asked old new what → status ≡ 1 → GiveNoJob asked × (new ≡ old)
  usage_at (Usage place cause) is tells one = (record { place = place; cause = cause; faults = tells.0 }, tells.1)
  usage_at (Line line cause) is tells one = absurd (omega arith)
  usage_at (At at cause) is tells one = absurd (omega arith)
  usage_at Long is tells one = absurd (omega arith)
  usage_at Read is tells one = absurd (omega arith)

  pub usage : (what : Fault) → (status ≡ exit_of what) ⊎ (status ≡ 9) → FaultTells left faults asked old new what → status ≡ 1 → GiveNoJob asked × (new ≡ old)
  usage what is tells one = usage_at what (decided what status is (λ nine. absurd (omega arith))) tells one

  job_at : (what : Fault) → status ≡ exit_of what → FaultTells left faults asked old new what → status ≢ 1 → HaveJob asked
  job_at (Usage place cause) is tells other = absurd (other is)
  job_at (Line line cause) is tells other = record { job = file_job tells.0.0 tells.0.1 tells.0.2; names = tells.0.3 }
  job_at (At at cause) is tells other = record { job = Dump tells.0.0; names = tells.0.1 }
  job_at Long is tells other = long_job tells
  job_at Read is tells other = read_job tells.0

  pub have_job : (what : Fault) → (status ≡ exit_of what) ⊎ (status ≡ 9) → FaultTells left faults asked old new what → status ≢ 1 → status ≢ 9 → HaveJob asked
  have_job what is tells other enough = job_at what (decided what status is enough) tells other

  -- status 2
  refused_at : (what : Fault) → status ≡ exit_of what → FaultTells left faults asked old new what → status ≡ 2 → IsRefused asked (left old)
  refused_at (Usage place cause) is tells two = absurd (omega arith)
  refused_at (Line line number) is tells two =
      record { job = file_job tells.0.0 tells.0.1 tells.0.2; names = tells.0.3; bad = file_bad tells.0.0 tells.0.1 tells.0.2 (left old) (refused_line (left old) line tells.1.0.0 tells.1.0.2) }
  refused_at (At at number) is tells two =
      record { job = Dump tells.0.0; names = tells.0.1; bad = refused_profile (left old) at tells.1.0.0 tells.1.0.2 }
  refused_at Long is tells two = long_refused tells
  refused_at Read is tells two = absurd (omega arith)

  pub refused : (what : Fault) → (status ≡ exit_of what) ⊎ (status ≡ 9) → FaultTells left faults asked old new what → status ≡ 2 → IsRefused asked (left old)
  refused what is tells two = refused_at what (decided what status is (λ nine. absurd (omega arith))) tells two

  -- what was read
  whole_at : (what : Fault) → status ≡ exit_of what → FaultTells left faults asked old new what → status ≢ 1 → status ≢ 3 → IsReadWhole asked (left old) (left new)
  whole_at (Usage place cause) is tells other behind = absurd (other is)
  whole_at (Line line number) is tells other behind =
      record { job = file_job tells.0.0 tells.0.1 tells.0.2; names = tells.0.3; whole = file_whole tells.0.0 tells.0.1 tells.0.2 (left old) (left new) tells.1.1.0 }
  whole_at (At at number) is tells other behind = record { job = Dump tells.0.0; names = tells.0.1; whole = tells.1.1.0 }
  whole_at Long is tells other behind = long_whole tells
  whole_at Read is tells other behind = absurd (behind is)

  pub whole : (what : Fault) → (status ≡ exit_of what) ⊎ (status ≡ 9) → FaultTells left faults asked old new what → status ≢ 1 → status ≢ 3 → status ≢ 9
      → IsReadWhole asked (left old) (left new)
  whole what is tells other behind enough = whole_at what (decided what status is enough) tells other behind

  -- status 3
  fault_at : (what : Fault) → status ≡ exit_of what → FaultTells left faults asked old new what → status ≡ 3 → Rose (faults old) (faults new)
  fault_at (Usage place cause) is tells three = absurd (omega arith)
  fault_at (Line line cause) is tells three = absurd (omega arith)
  fault_at (At at cause) is tells three = absurd (omega arith)
  fault_at Long is tells three = absurd (omega arith)
  fault_at Read is tells three = tells.1

  pub read_fault : (what : Fault) → (status ≡ exit_of what) ⊎ (status ≡ 9) → FaultTells left faults asked old new what → status ≡ 3 → Rose (faults old) (faults new)
  read_fault what is tells three = fault_at what (decided what status is (λ nine. absurd (omega arith))) tells three

  well_at : (what : Fault) → status ≡ exit_of what → FaultTells left faults asked old new what → status ≢ 3 → faults new ≡ faults old
  well_at (Usage place cause) is tells other = ap faults tells.1
  well_at (Line line cause) is tells other = tells.1.1.1
  well_at (At at cause) is tells other = tells.1.1.1
  well_at Long is tells other = long_well tells
  well_at Read is tells other = absurd (other is)

  pub read_well : (what : Fault) → (status ≡ exit_of what) ⊎ (status ≡ 9) → FaultTells left faults asked old new what → status ≢ 3 → status ≢ 9 → faults new ≡ faults old
  read_well what is tells other enough = well_at what (decided what status is enough) tells other

  module _ (before after : Sunk) where
    -- lines
    usage_line_at : (what : Fault) → status ≡ exit_of what → FaultTells left faults asked old new what → IsWritten (fault_line what) before after → status ≡ 1 → TellsUsage asked before after
    usage_line_at (Usage place cause) is tells written one = record { place = place; cause = cause; faults = tells.0; written = written }
    usage_line_at (Line line cause) is tells written one = absurd (omega arith)
    usage_line_at (At at cause) is tells written one = absurd (omega arith)
    usage_line_at Long is tells written one = absurd (omega arith)
    usage_line_at Read is tells written one = absurd (omega arith)

    pub usage_line : (what : Fault) → (status ≡ exit_of what) ⊎ (status ≡ 9) → FaultTells left faults asked old new what → (status ≢ 9 → IsWritten (fault_line what) before after)
        → status ≡ 1 → TellsUsage asked before after
    usage_line what is tells written one =
        let other : status ≢ 9 = λ nine. absurd (omega arith) in
        usage_line_at what (decided what status is other) tells (written other) one

    refused_line_at : (what : Fault) → status ≡ exit_of what → FaultTells left faults asked old new what → IsWritten (fault_line what) before after → status ≡ 2
        → TellsRefused asked (left old) before after
    refused_line_at (Usage place cause) is tells written two = absurd (omega arith)
    refused_line_at (Line line number) is tells written two =
        TellsLine tells.0.0 tells.0.1 tells.0.2 tells.0.3 line tells.1.0.0 tells.1.0.2 (subst (λ (n : ℕ). IsWritten (fault_line (Line line n)) before after) tells.1.0.1 written)
    refused_line_at (At at number) is tells written two =
        TellsAt tells.0.0 tells.0.1 at tells.1.0.0 tells.1.0.2 (subst (λ (n : ℕ). IsWritten (fault_line (At at n)) before after) tells.1.0.1 written)
    refused_line_at Long is tells written two = long_told tells written
    refused_line_at Read is tells written two = absurd (omega arith)

    pub refused_told : (what : Fault) → (status ≡ exit_of what) ⊎ (status ≡ 9) → FaultTells left faults asked old new what → (status ≢ 9 → IsWritten (fault_line what) before after)
        → status ≡ 2 → TellsRefused asked (left old) before after
    refused_told what is tells written two =
        let other : status ≢ 9 = λ nine. absurd (omega arith) in
        refused_line_at what (decided what status is other) tells (written other) two

    read_line_at : (what : Fault) → status ≡ exit_of what → IsWritten (fault_line what) before after → status ≡ 3 → IsWritten (fault_line Read) before after
    read_line_at (Usage place cause) is written three = absurd (omega arith)
    read_line_at (Line line cause) is written three = absurd (omega arith)
    read_line_at (At at cause) is written three = absurd (omega arith)
    read_line_at Long is written three = absurd (omega arith)
    read_line_at Read is written three = written

    pub read_line : (what : Fault) → (status ≡ exit_of what) ⊎ (status ≡ 9) → (status ≢ 9 → IsWritten (fault_line what) before after) → status ≡ 3 → IsWritten (fault_line Read) before after
    read_line what is written three =
        let other : status ≢ 9 = λ nine. absurd (omega arith) in
        read_line_at what (decided what status is other) (written other) three

  no_read : (n q : ℕ) (settings : Settings) → asked ≡ Names (Gen n q settings) → AskToRead asked → ⊥
  no_read n q settings job (inl run) = file_not_numbers asked run.0 run.1 run.2 settings n q run.3 job
  no_read n q settings job (inr text) = text_not_numbers asked text.0 settings n q text.1 job

  -- no fault comes of right words and a right file without a read that fails
  module _ (order : Order) (file bytes : List ℕ) (settings : Settings) (program : Parts) (job : asked ≡ Names (file_job order file settings)) (held : left old ≡ Some bytes)
      (few : length bytes ≤ 1048576) (gives : program_of bytes ≡ Gives program) (well : Rose (faults old) (faults new) → ⊥) where
    long_run : HeldTooMuch left faults asked old new → ⊥
    long_run (inl run) = accepted_long 1048576 (left old) bytes held few run.1.0
    long_run (inr text) = file_not_text asked order file text.0.0 settings job text.0.1

    pub no_fault : (what : Fault) → FaultTells left faults asked old new what → ⊥
    no_fault (Usage place cause) tells = let e = sym tells.0 ∙ job in absurd cc
    no_fault (Line line number) tells = accepted_line (left old) bytes program line tells.1.0.0 held gives tells.1.0.2
    no_fault (At at number) tells = file_not_text asked order file tells.0.0 settings job tells.0.1
    no_fault Long tells = long_run tells
    no_fault Read tells = well tells.1

  -- nor of right words for a generated program
  module _ (n q : ℕ) (settings : Settings) (job : asked ≡ Names (Gen n q settings)) where
    long_gen : HeldTooMuch left faults asked old new → ⊥
    long_gen (inl run) = no_read n q settings job (inl run.0)
    long_gen (inr text) = no_read n q settings job (inr text.0)

    pub no_fault_of_numbers : (what : Fault) → FaultTells left faults asked old new what → ⊥
    no_fault_of_numbers (Usage place cause) tells = let e = sym tells.0 ∙ job in absurd cc
    no_fault_of_numbers (Line line number) tells = no_read n q settings job (inl tells.0)
    no_fault_of_numbers (At at number) tells = no_read n q settings job (inr tells.0)
    no_fault_of_numbers Long tells = long_gen tells
    no_fault_of_numbers Read tells = no_read n q settings job tells.0

  -- nor of right words and a right profile
  module _ (file bytes : List ℕ) (profile : Profile) (job : asked ≡ Names (Dump file)) (held : left old ≡ Some bytes) (few : length bytes ≤ 67108864)
      (gives : reading.value_of bytes ≡ reading.Gives profile) (well : Rose (faults old) (faults new) → ⊥) where
    long_text : HeldTooMuch left faults asked old new → ⊥
    long_text (inl run) = file_not_text asked run.0.0 run.0.1 file run.0.2 run.0.3 job
    long_text (inr text) = accepted_long 67108864 (left old) bytes held few text.1.0

    pub no_fault_of_profile : (what : Fault) → FaultTells left faults asked old new what → ⊥
    no_fault_of_profile (Usage place cause) tells = let e = sym tells.0 ∙ job in absurd cc
    no_fault_of_profile (Line line number) tells = file_not_text asked tells.0.0 tells.0.1 file tells.0.2 tells.0.3 job
    no_fault_of_profile (At at number) tells = accepted_profile (left old) bytes profile at tells.1.0.0 held gives tells.1.0.2
    no_fault_of_profile Long tells = long_text tells
    no_fault_of_profile Read tells = well tells.1
