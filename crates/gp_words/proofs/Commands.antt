-- What commands say.
use Rattle.std.proofs.Common.{◌≡◌, ◌^◌, ◌-◌, ℕ, List, [], ◌∷◌, length, true, false, cond, Result, Ok, Err, IfOk, IfErr, String, codes, sym, ap, subst, ◌∙◌, refl, arith, eqb}
use Rattle.std.specs.Global.{Global}
use Rattle.std.proofs.lemmas.Bool.{not-true, eqb-false}
use Rattle.gp_words.specs.Causes.{bad_command, missing, extra}
use Rattle.gp_words.specs.declared.command.Command.{Command}
use Rattle.gp_words.specs.declared.command.Command.TheVariants as command
use Rattle.gp_words.specs.declared.error.WordError.{WordError}
use Rattle.gp_words.specs.declared.jobs.Job.{Job}
use Rattle.gp_words.specs.declared.jobs.Job.TheVariants.{Gen, Dump}
use Rattle.gp_words.specs.Words.{texts, is_file_word, IsFileWord}
use Rattle.gp_words.specs.Numbers.{number_in}
use Rattle.gp_words.specs.Read.{Read, Names, Faults, and_then, value_or_fault, IsFault, Reads}
use Rattle.gp_words.specs.Settings.{settings_said}
use Rattle.gp_words.specs.Job.{filed_of, run_of, sim_of, gen_with, gen_of, dump_of, said_by, job_of}
use Rattle.gp_words.proofs.Texts.{differ}

pub is_file : (word : List ℕ) → is_file_word word ≡ true → IsFileWord word
is_file [] e = absurd cc
is_file (b ∷ bytes) e = eqb-false b 45 (not-true (eqb b 45) e)

-- after `run` and `sim`: no word
pub filed_none : (command : Command) (words : List (String Global)) → length words ≡ 0 → filed_of command (texts words) ≡ Faults 1 missing
unfolding filed_of
filed_none command [] none = refl
filed_none command (word ∷ words) none = absurd (omega arith)

-- a word that is no file's
pub filed_no_file : (command : Command) (file : List ℕ) (words : List (List ℕ)) → is_file_word file ≡ false → filed_of command (file ∷ words) ≡ Faults 1 extra
unfolding filed_of
filed_no_file command file words e = ap (λ b. cond b (and_then (settings_said command words) (λ settings. Names (file, settings))) (Faults 1 extra)) e

-- a file, and options
pub filed_file : (command : Command) (file : List ℕ) (words : List (List ℕ)) → is_file_word file ≡ true
    → filed_of command (file ∷ words) ≡ and_then (settings_said command words) (λ settings. Names (file, settings))
unfolding filed_of
filed_file command file words e = ap (λ b. cond b (and_then (settings_said command words) (λ settings. Names (file, settings))) (Faults 1 extra)) e

-- after `gen`
pub gen_with_none : (n : ℕ) (words : List (String Global)) → length words ≡ 0 → gen_with n (texts words) ≡ Faults 2 missing
unfolding gen_with
gen_with_none n [] none = refl
gen_with_none n (word ∷ words) none = absurd (omega arith)

pub gen_with_word : (n : ℕ) (word : List ℕ) (words : List (List ℕ))
    → gen_with n (word ∷ words) ≡ and_then (value_or_fault 2 (number_in 1 63 word)) (λ q. and_then (settings_said command.Gen words) (λ settings. Names (Gen n q settings)))
unfolding gen_with
gen_with_word n word words = refl

pub gen_none : (words : List (String Global)) → length words ≡ 0 → gen_of (texts words) ≡ Faults 1 missing
unfolding gen_of
gen_none [] none = refl
gen_none (word ∷ words) none = absurd (omega arith)

pub gen_word : (word : List ℕ) (words : List (List ℕ)) → gen_of (word ∷ words) ≡ and_then (value_or_fault 1 (number_in 0 (2 ^ 64 - 1) word)) (λ n. gen_with n words)
unfolding gen_of
gen_word word words = refl

-- after `dump`
pub dump_none : (words : List (String Global)) → length words ≡ 0 → dump_of (texts words) ≡ Faults 1 missing
unfolding dump_of
dump_none [] none = refl
dump_none (word ∷ words) none = absurd (omega arith)

pub dump_no_file : (file : List ℕ) (words : List (List ℕ)) → is_file_word file ≡ false → dump_of (file ∷ words) ≡ Faults 1 extra
unfolding dump_of
dump_no_file file [] e = ap (λ b. cond b (Names (Dump file)) (Faults 1 extra)) e
dump_no_file file (word ∷ words) e = ap (λ b. cond b (Faults 2 extra) (Faults 1 extra)) e

pub dump_more : (file : List ℕ) (words : List (String Global)) → is_file_word file ≡ true → (length words ≡ 0 → ⊥) → dump_of (file ∷ texts words) ≡ Faults 2 extra
unfolding dump_of
dump_more file [] e some = absurd (some refl)
dump_more file (word ∷ words) e some = ap (λ b. cond b (Faults 2 extra) (Faults 1 extra)) e

pub dump_file : (file : List ℕ) (words : List (String Global)) → is_file_word file ≡ true → length words ≡ 0 → dump_of (file ∷ texts words) ≡ Names (Dump file)
unfolding dump_of
dump_file file [] e none = ap (λ b. cond b (Names (Dump file)) (Faults 1 extra)) e
dump_file file (word ∷ words) e none = absurd (omega arith)

-- commands, and the words after them
module _ (word : List ℕ) (words : List (List ℕ)) where
  pub said_run : word ≡ codes "run" → said_by word words ≡ run_of words
  unfolding said_by
  said_run is = ap (λ c. said_by c words) is

  pub said_sim : word ≡ codes "sim" → said_by word words ≡ sim_of words
  unfolding said_by
  said_sim is = ap (λ c. said_by c words) is

  pub said_gen : word ≡ codes "gen" → said_by word words ≡ gen_of words
  unfolding said_by
  said_gen is = ap (λ c. said_by c words) is

  pub said_dump : word ≡ codes "dump" → said_by word words ≡ dump_of words
  unfolding said_by
  said_dump is = ap (λ c. said_by c words) is

  -- a word that is no command
  pub said_unknown : (word ≡ codes "run" → ⊥) → (word ≡ codes "sim" → ⊥) → (word ≡ codes "gen" → ⊥) → (word ≡ codes "dump" → ⊥) → said_by word words ≡ Faults 0 bad_command
  unfolding said_by
  said_unknown a b c d = simp (differ word (codes "run") a, differ word (codes "sim") b, differ word (codes "gen") c, differ word (codes "dump") d)

-- no word
pub job_none : (words : List (String Global)) → length words ≡ 0 → job_of (texts words) ≡ Faults 0 bad_command
unfolding job_of
job_none [] none = refl
job_none (word ∷ words) none = absurd (omega arith)

pub job_words : (word : List ℕ) (words : List (List ℕ)) → job_of (word ∷ words) ≡ said_by word words
unfolding job_of
job_words word words = refl

-- an answer is what the words say: its job, its fault
pub reads_ok : (r : Result Job WordError) (read other : Read Job) → read ≡ other → Reads r other → IfOk r (λ job. read ≡ Names job)
reads_ok (Ok job) read other same h = same ∙ h
reads_ok (Err error) read other same h = tt

pub reads_fault : (r : Result Job WordError) (read other : Read Job) → read ≡ other → Reads r other → IfErr r (λ error. IsFault error read)
reads_fault (Ok job) read other same h = tt
reads_fault (Err error) read other same h = subst (IsFault error) (sym same) h
