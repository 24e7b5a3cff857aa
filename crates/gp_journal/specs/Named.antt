-- What stands for the program and the options of a run that nobody has named.
use Rattle.std.specs.Prelude.{[]}
use Rattle.gp_isa.specs.declared.parts.Parts.{Parts}
use Rattle.gp_journal.specs.declared.settings.Settings.{Settings}

abbrev pub no_program : Parts
no_program = record { functions = []; channels = []; mutexes = []; labels = [] }

abbrev pub no_settings : Settings
no_settings = record {
  workers = 0;
  at = [];
  room = 0;
  hz = 0;
  block = 0;
  mutex = 0;
  seed = 0;
  cells = 0;
  entries = 0;
  ring = 0;
  tags = 0;
  picks = [];
}
