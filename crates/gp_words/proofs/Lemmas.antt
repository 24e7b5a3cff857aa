-- What proofs of other crates take: which command a job is of.
use Rattle.std.proofs.Common.{◌≡◌, ◌-◌, ◌^◌, ℕ, List, [], ◌∷◌, Bool, true, false, cond, codes, refl, sym, ap, ◌∙◌, arith}
use Rattle.std.specs.Str.{bytes_eq}
use Rattle.gp_words.specs.Causes.{bad_command, extra}
use Rattle.gp_words.specs.declared.command.Command.TheVariants as command
use Rattle.gp_words.specs.declared.jobs.Job.{Job}
use Rattle.gp_words.specs.declared.jobs.Job.TheVariants.{Run, Sim, Gen, Dump}
use Rattle.gp_words.specs.Words.{is_file_word}
use Rattle.gp_words.specs.Numbers.{number_in}
use Rattle.gp_words.specs.Read.{Read, Names, Faults, and_then, value_or_fault}
use Rattle.gp_words.specs.Settings.{settings_said}
use Rattle.gp_words.specs.Job.{filed_of, run_of, sim_of, gen_with, gen_of, dump_of, said_by, job_of}

-- a job's command, by number
abbrev pub kind : Job → ℕ
kind (Run file settings) = 0
kind (Sim file settings) = 1
kind (Gen n q settings) = 2
kind (Dump file) = 3

-- what words name is of a kind where all that may follow is
of_kind : {A : Type 0} (k : ℕ) (read : Read A) (rest : A → Read Job) → ((a : A) (job : Job) → rest a ≡ Names job → kind job ≡ k) → (job : Job) → and_then read rest ≡ Names job → kind job ≡ k
of_kind k (Names a) rest each job e = each a job e
of_kind k (Faults place cause) rest each job e = absurd cc

named : (this job : Job) → Names this ≡ Names job → kind job ≡ kind this
named this job e = let same : this ≡ job = cc in ap kind (sym same)

run_kind : (words : List (List ℕ)) (job : Job) → run_of words ≡ Names job → kind job ≡ 0
run_kind words job e = of_kind 0 (filed_of command.Run words) (λ said. Names (Run said.0 said.1)) (λ said j q. named (Run said.0 said.1) j q) job e

sim_kind : (words : List (List ℕ)) (job : Job) → sim_of words ≡ Names job → kind job ≡ 1
sim_kind words job e = of_kind 1 (filed_of command.Sim words) (λ said. Names (Sim said.0 said.1)) (λ said j q. named (Sim said.0 said.1) j q) job e

gen_with_kind : (n : ℕ) (words : List (List ℕ)) (job : Job) → gen_with n words ≡ Names job → kind job ≡ 2
unfolding gen_with
gen_with_kind n [] job e = absurd cc
gen_with_kind n (word ∷ words) job e =
    of_kind 2 (value_or_fault 2 (number_in 1 63 word)) (λ q. and_then (settings_said command.Gen words) (λ settings. Names (Gen n q settings)))
    (λ q j p. of_kind 2 (settings_said command.Gen words) (λ settings. Names (Gen n q settings)) (λ settings i r. named (Gen n q settings) i r) j p) job e

gen_kind : (words : List (List ℕ)) (job : Job) → gen_of words ≡ Names job → kind job ≡ 2
unfolding gen_of
gen_kind [] job e = absurd cc
gen_kind (word ∷ words) job e = of_kind 2 (value_or_fault 1 (number_in 0 (2 ^ 64 - 1) word)) (λ n. gen_with n words) (λ n j p. gen_with_kind n words j p) job e

dump_kind : (words : List (List ℕ)) (job : Job) → dump_of words ≡ Names job → kind job ≡ 3
unfolding dump_of
dump_kind [] job e = absurd cc
dump_kind (file ∷ []) job e = go (is_file_word file) e where
  go : (b : Bool) → cond b (Names (Dump file)) (Faults 1 extra) ≡ Names job → kind job ≡ 3
  go true p = named (Dump file) job p
  go false p = absurd cc
dump_kind (file ∷ more ∷ words) job e = go (is_file_word file) e where
  go : (b : Bool) → cond b (Faults 2 extra) (Faults 1 extra) ≡ Names job → kind job ≡ 3
  go true p = absurd cc
  go false p = absurd cc

-- a run on threads is named by `run` alone
pub by_run : (word : List ℕ) (words : List (List ℕ)) (job : Job) → said_by word words ≡ Names job → kind job ≡ 0 → bytes_eq word (codes "run") ≡ true
unfolding said_by
by_run word words job e is = go (bytes_eq word (codes "run")) (bytes_eq word (codes "sim")) (bytes_eq word (codes "gen")) (bytes_eq word (codes "dump")) e where
  go : (a b c d : Bool) → cond a (run_of words) (cond b (sim_of words) (cond c (gen_of words) (cond d (dump_of words) (Faults 0 bad_command)))) ≡ Names job → a ≡ true
  go true b c d p = refl
  go false true c d p = absurd (omega (arith, sim_kind words job p))
  go false false true d p = absurd (omega (arith, gen_kind words job p))
  go false false false true p = absurd (omega (arith, dump_kind words job p))
  go false false false false p = absurd cc

-- and `run` names nothing else
pub run_names : (word : List ℕ) (words : List (List ℕ)) (job : Job) → bytes_eq word (codes "run") ≡ true → said_by word words ≡ Names job → kind job ≡ 0
unfolding said_by
run_names word words job is e =
    run_kind words job (sym (ap (λ b. cond b (run_of words) (cond (bytes_eq word (codes "sim")) (sim_of words) (cond (bytes_eq word (codes "gen")) (gen_of words) (cond (bytes_eq word (codes "dump")) (dump_of words) (Faults 0 bad_command))))) is) ∙ e)
