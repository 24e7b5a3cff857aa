-- Which words ask for a job that is done here: those that name one, but for a run on threads.
use Rattle.std.proofs.Common.{◌≡◌, ◌≤◌, ℕ, List, [], ◌∷◌, Bool, true, false, cond, codes, refl, sym, ap, ◌∙◌, arith}
use Rattle.std.specs.Str.{bytes_eq}
use Rattle.gp_journal.specs.declared.settings.Settings.{Settings}
use Rattle.gp_words.specs.Causes.{bad_command}
use Rattle.gp_words.specs.declared.jobs.Job.{Job}
use Rattle.gp_words.specs.declared.jobs.Job.TheVariants.{Run, Sim, Gen, Dump}
use Rattle.gp_words.specs.Read.{Read as Reading, Names, Faults}
use Rattle.gp_words.specs.Job.{job_of}
use Rattle.gp_words.proofs.Lemmas.{kind, by_run, run_names}
use Rattle.gp_top.specs.Report.{Order, ByNumbers, ByThreads}
use Rattle.gp_top.specs.Asked.{is_run, asked_of, file_job}

pub asked_other : (words : List (List ℕ)) → is_run words ≡ false → asked_of words ≡ job_of words
unfolding asked_of
asked_other words other = ap (λ b. cond b (Faults 0 bad_command) (job_of words)) other

pub asked_run : (words : List (List ℕ)) → is_run words ≡ true → asked_of words ≡ Faults 0 bad_command
unfolding asked_of
asked_run words run = ap (λ b. cond b (Faults 0 bad_command) (job_of words)) run

-- what words ask for they name, and they don't begin with `run`
asked_is : (words : List (List ℕ)) (job : Job) → asked_of words ≡ Names job → (is_run words ≡ false) × (job_of words ≡ Names job)
unfolding asked_of
asked_is words job e = go (is_run words) refl e where
  go : (b : Bool) → is_run words ≡ b → cond b (Faults 0 bad_command) (job_of words) ≡ Names job → (is_run words ≡ false) × (job_of words ≡ Names job)
  go true is p = absurd cc
  go false is p = (is, p)

pub asked_names : (words : List (List ℕ)) (job : Job) → asked_of words ≡ Names job → job_of words ≡ Names job
asked_names words job e = (asked_is words job e).1

-- so it is no run on threads
pub run_by : (words : List (List ℕ)) (job : Job) → job_of words ≡ Names job → kind job ≡ 0 → is_run words ≡ true
unfolding job_of
run_by [] job e is = absurd cc
run_by (word ∷ words) job e is = by_run word words job e is

pub never_run : (words : List (List ℕ)) (file : List ℕ) (settings : Settings) → asked_of words ≡ Names (Run file settings) → ⊥
never_run words file settings e =
    let is = asked_is words (Run file settings) e in
    let other : true ≡ false = sym (run_by words (Run file settings) is.1 refl) ∙ is.0 in
    absurd cc

-- and what else words name they ask for
other_by : (words : List (List ℕ)) (job : Job) → job_of words ≡ Names job → (kind job ≡ 0 → ⊥) → is_run words ≡ false
unfolding job_of
other_by [] job e other = refl
other_by (word ∷ words) job e other = go (bytes_eq word (codes "run")) refl where
  go : (b : Bool) → bytes_eq word (codes "run") ≡ b → b ≡ false
  go true is = absurd (other (run_names word words job is e))
  go false is = refl

pub asked_as : (words : List (List ℕ)) (job : Job) → job_of words ≡ Names job → (kind job ≡ 0 → ⊥) → asked_of words ≡ Names job
asked_as words job e other = asked_other words (other_by words job e other) ∙ e

pub asked_sim : (words : List (List ℕ)) (file : List ℕ) (settings : Settings) → job_of words ≡ Names (Sim file settings) → asked_of words ≡ Names (Sim file settings)
asked_sim words file settings e = asked_as words (Sim file settings) e (λ is. absurd (omega arith))

pub asked_gen : (words : List (List ℕ)) (n q : ℕ) (settings : Settings) → job_of words ≡ Names (Gen n q settings) → asked_of words ≡ Names (Gen n q settings)
asked_gen words n q settings e = asked_as words (Gen n q settings) e (λ is. absurd (omega arith))

pub asked_dump : (words : List (List ℕ)) (file : List ℕ) → job_of words ≡ Names (Dump file) → asked_of words ≡ Names (Dump file)
asked_dump words file e = asked_as words (Dump file) e (λ is. absurd (omega arith))

-- words that begin with `run` name a run on threads alone
pub run_alone : (words : List (List ℕ)) (job : Job) → is_run words ≡ true → job_of words ≡ Names job → kind job ≡ 0
unfolding job_of
run_alone [] job run e = absurd cc
run_alone (word ∷ words) job run e = run_names word words job run e

pub none_other : (job : Job) → kind job ≡ 0 → ((file : List ℕ) (settings : Settings) → job ≡ Run file settings → ⊥) → ⊥
none_other (Run file settings) is isnt = isnt file settings refl
none_other (Sim file settings) is isnt = omega arith
none_other (Gen n q settings) is isnt = omega arith
none_other (Dump file) is isnt = omega arith

-- one job is asked for
pub one_job : (asked : Reading Job) (one other : Job) → asked ≡ Names one → asked ≡ Names other → one ≡ other
one_job asked one other a b = let e : Names one ≡ Names other = sym a ∙ b in cc

pub one_kind : (asked : Reading Job) (one other : Job) → asked ≡ Names one → asked ≡ Names other → kind one ≡ kind other
one_kind asked one other a b = ap kind (one_job asked one other a b)

-- a run of a file's program isn't one of a generated program, and no text of a profile
pub file_kind : (order : Order) (file : List ℕ) (settings : Settings) → kind (file_job order file settings) ≤ 1
file_kind ByNumbers file settings = omega arith
file_kind ByThreads file settings = omega arith

pub file_not_numbers : (asked : Reading Job) (order : Order) (file : List ℕ) (settings other : Settings) (n q : ℕ) → asked ≡ Names (file_job order file settings) → asked ≡ Names (Gen n q other) → ⊥
file_not_numbers asked order file settings other n q a b =
    omega (arith, one_kind asked (file_job order file settings) (Gen n q other) a b, file_kind order file settings)

pub file_not_text : (asked : Reading Job) (order : Order) (file name : List ℕ) (settings : Settings) → asked ≡ Names (file_job order file settings) → asked ≡ Names (Dump name) → ⊥
file_not_text asked order file name settings a b =
    omega (arith, one_kind asked (file_job order file settings) (Dump name) a b, file_kind order file settings)

pub text_not_numbers : (asked : Reading Job) (name : List ℕ) (settings : Settings) (n q : ℕ) → asked ≡ Names (Dump name) → asked ≡ Names (Gen n q settings) → ⊥
text_not_numbers asked name settings n q a b = omega (arith, one_kind asked (Dump name) (Gen n q settings) a b)
