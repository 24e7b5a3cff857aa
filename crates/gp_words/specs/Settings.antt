-- The settings of the options taken.
use Rattle.std.specs.Prelude.{ℕ, List, [], ◌∷◌, Option, Some, None, unwrap_or, if◌then◌else◌}
use Rattle.std.specs.List.{filter_map}
use Rattle.gp_journal.specs.declared.settings.Request.{Request}
use Rattle.gp_journal.specs.declared.settings.Settings.{Settings}
use Rattle.gp_words.specs.declared.command.Command.{Command}
use Rattle.gp_words.specs.declared.setting.Setting.{Setting}
use Rattle.gp_words.specs.declared.setting.Setting.TheVariants.{Workers, Room, Hz, Block, Mutex, Seed, Cells, Entries, Ring, Tags}
use Rattle.gp_words.specs.declared.choice.Choice.{Choice}
use Rattle.gp_words.specs.declared.choice.Value.{Value}
use Rattle.gp_words.specs.declared.choice.Value.TheVariants.{Number, Instant, List as Listed}
use Rattle.gp_words.specs.Table.{same}
use Rattle.gp_words.specs.Options.{options_of}
use Rattle.gp_words.specs.Read.{Read, Names, and_then}

-- the number of a value, if it's one
abbrev pub number_value : Value → Option ℕ
number_value (Number n) = Some n
number_value (Instant request) = None
number_value (Listed ns) = None

-- the instant of a value, if it's one
abbrev pub instant_value : Value → Option Request
instant_value (Number n) = None
instant_value (Instant request) = Some request
instant_value (Listed ns) = None

-- the list of a value, if it's one
abbrev pub list_value : Value → Option (List ℕ)
list_value (Number n) = None
list_value (Instant request) = None
list_value (Listed ns) = Some ns

-- the value, or else another
abbrev pub or_else : {A : Type 0} → Option A → Option A → Option A
or_else (Some a) other = Some a
or_else None other = other

-- the number that a setting was given
abbrev pub number_of : Setting → List Choice → Option ℕ
number_of setting [] = None
number_of setting (choice ∷ taken) =
    if same choice.setting setting then or_else (number_value choice.value) (number_of setting taken) else number_of setting taken

-- the instants given, in their order
abbrev pub instants_of : List Choice → List Request
instants_of taken = filter_map (λ choice. instant_value choice.value) taken

-- the list given, else the empty one
abbrev pub list_of : List Choice → List ℕ
list_of [] = []
list_of (choice ∷ taken) = unwrap_or (list_value choice.value) (list_of taken)

-- the number that a setting was given, else the usual one
abbrev pub number_or : ℕ → Setting → List Choice → ℕ
number_or usual setting taken = unwrap_or (number_of setting taken) usual

-- the settings: what was given, else the usual values, and the room for all cells
unfoldable pub settings_of : List Choice → Settings
settings_of taken = record {
  workers = number_or 2 Workers taken;
  at = instants_of taken;
  room = number_or (number_or 1024 Cells taken) Room taken;
  hz = number_or 100 Hz taken;
  block = number_or 0 Block taken;
  mutex = number_or 0 Mutex taken;
  seed = number_or 42 Seed taken;
  cells = number_or 1024 Cells taken;
  entries = number_or 262144 Entries taken;
  ring = number_or 131072 Ring taken;
  tags = number_or 16384 Tags taken;
  picks = list_of taken;
}

-- the settings that the option words of a command say
abbrev pub settings_said : Command → List (List ℕ) → Read Settings
settings_said command words = and_then (options_of command [] words) (λ taken. Names (settings_of taken))
