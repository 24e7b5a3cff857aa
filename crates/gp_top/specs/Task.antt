-- What is run.
use Rattle.std.specs.Prelude.{ℕ, List, [], ◌∷◌, ◌++◌, codes}
use Rattle.gp_isa.specs.declared.parts.Parts.{Parts}
use Rattle.gp_journal.specs.declared.settings.Settings.{Settings}
use Rattle.gp_text.specs.Text.{text_of}
use Rattle.gp_gen.specs.Generated.{generated}
use Rattle.gp_report.specs.declared.report.Report.{Report}
use Rattle.gp_top.specs.Report.{Order, ByNumbers}
use Rattle.gp_top.specs.Files.{Output, TextFile, files_of, summary_of}

-- A program, the options under which it's run and how the order of its entries comes about, the name that profiles give as its
-- file, and what is put before the run.
pub record Task : Type 0 where
  pub program : Parts
  pub settings : Settings
  pub order : Order
  pub file : List ℕ
  pub before_run : List Output

-- A program that was read from a file.
abbrev pub read_task : Order → List ℕ → Settings → Parts → Task
read_task order file settings program = record {
  program = program;
  settings = settings;
  order = order;
  file = file;
  before_run = [];
}

-- the file of a generated program, with its text
abbrev pub generated_file : ℕ → ℕ → Output
generated_file n q = TextFile (codes "gen.gp") (text_of (generated n q))

-- A program that is generated, whose text is put first. Numbers choose the order of its entries.
abbrev pub generated_task : ℕ → ℕ → Settings → Task
generated_task n q settings = record {
  program = generated n q;
  settings = settings;
  order = ByNumbers;
  file = codes "gen.gp";
  before_run = generated_file n q ∷ [];
}

-- all files of a task, by the report of its run, in the order in which they're put
abbrev pub task_files : Task → Report → List Output
task_files task report = task.before_run ++ files_of task.program task.settings task.file report

-- the summary of its run
abbrev pub task_summary : Task → Report → List ℕ
task_summary task report = summary_of task.program task.settings report
