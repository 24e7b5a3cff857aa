-- What the words ask for, and what was read for it.
use Rattle.std.specs.Prelude.{◌≡◌, ◌<◌, ◌≤◌, ◌+◌, ◌⊎◌, ℕ, Bool, false, List, [], ◌∷◌, codes, length, drop}
use Rattle.std.specs.Prelude.{Option, Some, IfSome, if◌then◌else◌}
use Rattle.std.specs.Str.{bytes_eq}
use Rattle.gp_isa.specs.Limits.{file_bytes}
use Rattle.gp_isa.specs.declared.parts.Parts.{Parts}
use Rattle.gp_journal.specs.declared.settings.Settings.{Settings}
use Rattle.gp_text.specs.declared.cause.Cause.{Cause}
use Rattle.gp_text.specs.Reading.{program_of, Gives, Refuses}
use Rattle.gp_wire.specs.Reading as reading
use Rattle.gp_wire.specs.declared.cause.Cause.{Cause as WireCause}
use Rattle.gp_wire.specs.declared.profile.Profile.{Profile}
use Rattle.gp_words.specs.Causes.{bad_command}
use Rattle.gp_words.specs.declared.jobs.Job.{Job}
use Rattle.gp_words.specs.declared.jobs.Job.TheVariants.{Run, Sim, Gen, Dump}
use Rattle.gp_words.specs.Job.{job_of}
use Rattle.gp_words.specs.Read.{Read as Reading, Names, Faults}
use Rattle.gp_top.specs.Report.{Order, ByNumbers, ByThreads}
use Rattle.gp_top.specs.Task.{Task, read_task, generated_task}

-- ---- words

-- `top` does whatever job words name (`job_of`); `plain_top`, which has no threads, doesn't do runs on them (`asked_of`).
-- Behind that both promise the same, so the definitions from here on take what the words ask for, whichever of the two it is.

-- whether words begin with `run`
abbrev pub is_run : List (List ℕ) → Bool
is_run [] = false
is_run (command ∷ words) = bytes_eq command (codes "run")

-- what words ask for without threads: those that begin with `run` are at fault at that word, whatever follows
unfoldable pub asked_of : List (List ℕ) → Reading Job
asked_of words = if is_run words then Faults 0 bad_command else job_of words

-- They ask for no job.
pub record GiveNoJob (asked : Reading Job) : Type 0 where
  pub place : ℕ
  pub cause : ℕ
  pub faults : asked ≡ Faults place cause

-- They ask for one.
pub record HaveJob (asked : Reading Job) : Type 0 where
  pub job : Job
  pub names : asked ≡ Names job

-- the job of a run of a file's program under options, in the order that numbers choose, or on threads
abbrev pub file_job : Order → List ℕ → Settings → Job
file_job ByNumbers file settings = Sim file settings
file_job ByThreads file settings = Run file settings

-- ---- bytes that were read

-- the most bytes that are read of a profile
abbrev pub profile_bytes : ℕ
profile_bytes = 67108864

-- the most bytes that are read for a job: of a profile, which `dump` reads, or of a program
abbrev pub limit_of : Job → ℕ
limit_of (Dump file) = profile_bytes
limit_of job = file_bytes

-- The source was read to its end, or to one byte past a limit.
abbrev pub IsReadTo : ℕ → Option (List ℕ) → Option (List ℕ) → Type 0
IsReadTo limit held left = IfSome held (λ all. left ≡ Some (drop (limit + 1) all))

-- So it was for a job, but nothing is read where the program is generated.
abbrev pub IsReadFor : Job → Option (List ℕ) → Option (List ℕ) → Type 0
IsReadFor (Gen n q settings) held left = left ≡ held
IsReadFor job held left = IsReadTo (limit_of job) held left

-- A job is asked for, and what is read for it was read.
pub record IsReadWhole (asked : Reading Job) (held left : Option (List ℕ)) : Type 0 where
  pub job : Job
  pub names : asked ≡ Names job
  pub whole : IsReadFor job held left

-- The bytes are all that the source held, where that is told.
abbrev pub AreAll : Option (List ℕ) → List ℕ → Type 0
AreAll held bytes = IfSome held (λ all. bytes ≡ all)

-- The bytes that the source held, not more than the limit, give a program.
pub record IsAccepted (held : Option (List ℕ)) (program : Parts) : Type 0 where
  pub bytes : List ℕ
  pub all : AreAll held bytes
  pub few : length bytes ≤ file_bytes
  pub gives : program_of bytes ≡ Gives program

-- The bytes that the source held, not more than the limit, give a profile.
pub record IsProfile (held : Option (List ℕ)) (profile : Profile) : Type 0 where
  pub bytes : List ℕ
  pub all : AreAll held bytes
  pub few : length bytes ≤ profile_bytes
  pub gives : reading.value_of bytes ≡ reading.Gives profile

-- The bytes that the source held are what a job reads.
abbrev pub IsGood : Job → Option (List ℕ) → Type 0
IsGood (Dump file) held = (profile : Profile) × IsProfile held profile
IsGood (Gen n q settings) held = Unit {0}
IsGood job held = (program : Parts) × IsAccepted held program

-- A job is asked for, and the bytes that the source held are what it reads.
pub record HaveGood (asked : Reading Job) (held : Option (List ℕ)) : Type 0 where
  pub job : Job
  pub names : asked ≡ Names job
  pub good : IsGood job held

-- ---- bytes that are refused

-- The bytes are no program.
pub record GiveNoProgram (bytes : List ℕ) : Type 0 where
  pub line : ℕ
  pub cause : Cause
  pub refuses : program_of bytes ≡ Refuses line cause

-- The bytes are no profile.
pub record GiveNoProfile (bytes : List ℕ) : Type 0 where
  pub at : ℕ
  pub cause : WireCause
  pub refuses : reading.value_of bytes ≡ reading.Refuses at cause

-- The bytes that the source held aren't what a job reads, or are more than its limit.
abbrev pub IsBad : Job → Option (List ℕ) → Type 0
IsBad (Dump file) held = IfSome held (λ all. GiveNoProfile all ⊎ (profile_bytes < length all))
IsBad (Gen n q settings) held = ⊥
IsBad job held = IfSome held (λ all. GiveNoProgram all ⊎ (file_bytes < length all))

-- A job is asked for, and what it reads is bad.
pub record IsRefused (asked : Reading Job) (held : Option (List ℕ)) : Type 0 where
  pub job : Job
  pub names : asked ≡ Names job
  pub bad : IsBad job held

-- The bytes that the source held are more than a limit.
abbrev pub IsTooLong : ℕ → Option (List ℕ) → Type 0
IsTooLong limit held = IfSome held (λ all. limit < length all)

-- They are not more than the limit of a program, and as one they have a first fault in a line, or as a whole.
abbrev pub IsFaulty : Option (List ℕ) → ℕ → Cause → Type 0
IsFaulty held line cause = IfSome held (λ all. (length all ≤ file_bytes) × (program_of all ≡ Refuses line cause))

-- They are not more than the limit of a profile, and as one they have a first fault at a place in them.
abbrev pub IsFaultyProfile : Option (List ℕ) → ℕ → WireCause → Type 0
IsFaultyProfile held at cause = IfSome held (λ all. (length all ≤ profile_bytes) × (reading.value_of all ≡ reading.Refuses at cause))

-- ---- what is to be run

-- A run of a file's program under options is asked for, and the bytes read are all that the source held and give that program;
-- or one of the generated program of two numbers, under options.
pub data IsAsked (asked : Reading Job) (held : Option (List ℕ)) (task : Task) : Type 0 where
  OfFile : (order : Order) (file : List ℕ) (settings : Settings) (program : Parts) → asked ≡ Names (file_job order file settings)
      → IsAccepted held program → task ≡ read_task order file settings program → IsAsked asked held task
  OfNumbers : (n q : ℕ) (settings : Settings) → asked ≡ Names (Gen n q settings)
      → task ≡ generated_task n q settings → IsAsked asked held task
