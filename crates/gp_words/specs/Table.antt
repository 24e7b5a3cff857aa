-- The table of options: their words, what they set and which commands take them; the values of what is set, and how often it
-- may be given.
use Rattle.std.specs.Prelude.{◌==◌, ◌^◌, ◌-◌, ◌&&◌, ℕ, Bool, true, false, List, [], ◌∷◌, Option, Some, None, codes, if◌then◌else◌}
use Rattle.std.specs.Str.{bytes_eq}
use Rattle.gp_isa.specs.Limits.{most_workers, most_requests, most_room, instructions_per_second, most_block_rate, most_mutex_fraction}
use Rattle.gp_isa.specs.Limits.{most_cells, least_entries, most_entries, least_ring_words, most_ring_words, most_tags}
use Rattle.gp_words.specs.declared.command.Command.{Command}
use Rattle.gp_words.specs.declared.command.Command.TheVariants.{Run, Sim, Gen}
use Rattle.gp_words.specs.declared.setting.Setting.{Setting}
use Rattle.gp_words.specs.declared.setting.Setting.TheVariants.{Workers, At, Room, Hz, Block, Mutex, Seed, Cells, Entries, Ring, Tags}
use Rattle.gp_words.specs.declared.setting.Setting.TheVariants.{Picks}
use Rattle.gp_words.specs.declared.setting.Values.{Values}
use Rattle.gp_words.specs.declared.setting.Values.TheVariants.{Numbers, Divisors, Instants, Lists}

-- A row of the table: the option's word, what it sets, and whether `run` takes it. `sim` and `gen` take each.
pub record OptionRow : Type 0 where
  pub word : List ℕ
  pub setting : Setting
  pub in_run : Bool

-- the table of the options that can be given
abbrev pub table : List OptionRow
table =
    record { word = codes "--workers"; setting = Workers; in_run = true }
    ∷ record { word = codes "--at"; setting = At; in_run = true }
    ∷ record { word = codes "--room"; setting = Room; in_run = true }
    ∷ record { word = codes "--hz"; setting = Hz; in_run = true }
    ∷ record { word = codes "--block"; setting = Block; in_run = true }
    ∷ record { word = codes "--mutex"; setting = Mutex; in_run = true }
    ∷ record { word = codes "--seed"; setting = Seed; in_run = true }
    ∷ record { word = codes "--cells"; setting = Cells; in_run = true }
    ∷ record { word = codes "--entries"; setting = Entries; in_run = true }
    ∷ record { word = codes "--ring"; setting = Ring; in_run = true }
    ∷ record { word = codes "--tags"; setting = Tags; in_run = true }
    ∷ record { word = codes "--picks"; setting = Picks; in_run = false }
    ∷ []

-- whether a command takes the option of a row
abbrev pub takes : Command → OptionRow → Bool
takes Run row = row.in_run
takes Sim row = true
takes Gen row = true

-- what the option of a word sets, among those of rows that a command takes
abbrev pub setting_among : List OptionRow → Command → List ℕ → Option Setting
setting_among [] command word = None
setting_among (row ∷ rows) command word =
    if bytes_eq row.word word && takes command row then Some row.setting else setting_among rows command word

-- what the option of a word sets
unfoldable pub setting_of : Command → List ℕ → Option Setting
setting_of command word = setting_among table command word

-- the values of what is set
abbrev pub values_of : Setting → Values
values_of Workers = Numbers 1 most_workers
values_of At = Instants
values_of Room = Numbers 0 most_room
values_of Hz = Divisors instructions_per_second
values_of Block = Numbers 0 most_block_rate
values_of Mutex = Numbers 0 most_mutex_fraction
values_of Seed = Numbers 0 (2 ^ 64 - 1)
values_of Cells = Numbers 1 most_cells
values_of Entries = Numbers least_entries most_entries
values_of Ring = Numbers least_ring_words most_ring_words
values_of Tags = Numbers 1 most_tags
values_of Picks = Lists

-- what is set, by number
abbrev pub number_of_setting : Setting → ℕ
number_of_setting Workers = 0
number_of_setting At = 1
number_of_setting Room = 2
number_of_setting Hz = 3
number_of_setting Block = 4
number_of_setting Mutex = 5
number_of_setting Seed = 6
number_of_setting Cells = 7
number_of_setting Entries = 8
number_of_setting Ring = 9
number_of_setting Tags = 10
number_of_setting Picks = 11

-- whether two options set the same
abbrev pub same : Setting → Setting → Bool
same a b = number_of_setting a == number_of_setting b

-- how often it may be given: instants up to 8 times, all else once
abbrev pub most_times : Setting → ℕ
most_times setting = if same setting At then most_requests else 1
