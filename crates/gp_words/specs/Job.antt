-- The job that command words name.
use Rattle.std.specs.Prelude.{◌≤◌, ◌<◌, ◌^◌, ◌-◌, ℕ, List, [], ◌∷◌, codes, if◌then◌else◌}
use Rattle.std.specs.Str.{bytes_eq}
use Rattle.gp_journal.specs.Settings.{AreInRange}
use Rattle.gp_journal.specs.declared.settings.Settings.{Settings}
use Rattle.gp_words.specs.Causes.{bad_command, missing, extra}
use Rattle.gp_words.specs.declared.command.Command.{Command}
use Rattle.gp_words.specs.declared.command.Command.TheVariants as command
use Rattle.gp_words.specs.declared.jobs.Job.{Job}
use Rattle.gp_words.specs.declared.jobs.Job.TheVariants.{Run, Sim, Gen, Dump}
use Rattle.gp_words.specs.Words.{IsFileWord, is_file_word}
use Rattle.gp_words.specs.Numbers.{number_in}
use Rattle.gp_words.specs.Read.{Read, Names, Faults, and_then, value_or_fault}
use Rattle.gp_words.specs.Settings.{settings_said}

-- the most turns of a generated program
abbrev pub most_turns : ℕ
most_turns = 63

-- what the words after `run` and `sim` say: a file, and options
unfoldable pub filed_of : Command → List (List ℕ) → Read (List ℕ × Settings)
filed_of command [] = Faults 1 missing
filed_of command (file ∷ words) =
    if is_file_word file then and_then (settings_said command words) (λ settings. Names (file, settings)) else Faults 1 extra

abbrev pub run_of : List (List ℕ) → Read Job
run_of words = and_then (filed_of command.Run words) (λ said. Names (Run said.0 said.1))

abbrev pub sim_of : List (List ℕ) → Read Job
sim_of words = and_then (filed_of command.Sim words) (λ said. Names (Sim said.0 said.1))

-- what the words after `gen` and its first number say: a second number, and options
unfoldable pub gen_with : ℕ → List (List ℕ) → Read Job
gen_with n [] = Faults 2 missing
gen_with n (word ∷ words) =
    and_then (value_or_fault 2 (number_in 1 most_turns word)) (λ q.
    and_then (settings_said command.Gen words) (λ settings. Names (Gen n q settings)))

-- what the words after `gen` say
unfoldable pub gen_of : List (List ℕ) → Read Job
gen_of [] = Faults 1 missing
gen_of (word ∷ words) = and_then (value_or_fault 1 (number_in 0 (2 ^ 64 - 1) word)) (λ n. gen_with n words)

-- what the words after `dump` say: a profile's file, and nothing else
unfoldable pub dump_of : List (List ℕ) → Read Job
dump_of [] = Faults 1 missing
dump_of (file ∷ []) = if is_file_word file then Names (Dump file) else Faults 1 extra
dump_of (file ∷ more ∷ words) = if is_file_word file then Faults 2 extra else Faults 1 extra

-- what a command and the words after it say
unfoldable pub said_by : List ℕ → List (List ℕ) → Read Job
said_by command words =
    if bytes_eq command (codes "run") then run_of words else (
    if bytes_eq command (codes "sim") then sim_of words else (
    if bytes_eq command (codes "gen") then gen_of words else (
    if bytes_eq command (codes "dump") then dump_of words else Faults 0 bad_command)))

-- what command words say
unfoldable pub job_of : List (List ℕ) → Read Job
job_of [] = Faults 0 bad_command
job_of (command ∷ words) = said_by command words

-- Where a job has a file, a word for a file names it.
abbrev pub HasFileWord : Job → Type 0
HasFileWord (Run file settings) = IsFileWord file
HasFileWord (Sim file settings) = IsFileWord file
HasFileWord (Gen n q settings) = Unit {0}
HasFileWord (Dump file) = IsFileWord file

-- A job's settings lie in their ranges, and so do the numbers of a generated program.
abbrev pub HasRange : Job → Type 0
HasRange (Run file settings) = AreInRange settings
HasRange (Sim file settings) = AreInRange settings
HasRange (Gen n q settings) = (n < 2 ^ 64) × ((1 ≤ q) × ((q ≤ most_turns) × AreInRange settings))
HasRange (Dump file) = Unit {0}
