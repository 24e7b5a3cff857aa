-- The options of a command: each is a word and its value.
use Rattle.std.specs.Prelude.{◌+◌, ◌*◌, ℕ, List, [], ◌∷◌, ◌++◌, length, Option, Some, None, option_map, count_by, codes, nat_lt}
use Rattle.std.specs.Prelude.{if◌then◌else◌}
use Rattle.std.specs.Str.{bytes_eq}
use Rattle.gp_isa.specs.Limits.{most_instant}
use Rattle.gp_journal.specs.declared.settings.Request.TheVariants.{Clock, End}
use Rattle.gp_words.specs.Causes.{missing, unknown_option, twice}
use Rattle.gp_words.specs.declared.command.Command.{Command}
use Rattle.gp_words.specs.declared.command.Command.TheVariants.{Run, Sim, Gen}
use Rattle.gp_words.specs.declared.setting.Setting.{Setting}
use Rattle.gp_words.specs.declared.setting.Values.{Values}
use Rattle.gp_words.specs.declared.setting.Values.TheVariants.{Numbers, Divisors, Instants, Lists}
use Rattle.gp_words.specs.declared.choice.Choice.{Choice}
use Rattle.gp_words.specs.declared.choice.Value.{Value}
use Rattle.gp_words.specs.declared.choice.Value.TheVariants.{Number, Instant, List as Listed}
use Rattle.gp_words.specs.Numbers.{number_in, divisor_in, picks_of}
use Rattle.gp_words.specs.Table.{setting_of, values_of, most_times, same}
use Rattle.gp_words.specs.Read.{Read, Names, Faults, and_then, value_or_fault}

-- the value that a word writes, where it's one of these values
unfoldable pub value_of : Values → List ℕ → Option Value
value_of (Numbers least most) word = option_map Number (number_in least most word)
value_of (Divisors whole) word = option_map Number (divisor_in whole word)
value_of Instants word =
    if bytes_eq word (codes "end") then Some (Instant End) else option_map (λ n. Instant (Clock n)) (number_in 0 most_instant word)
value_of Lists word = option_map Listed (picks_of word)

-- how often a setting was chosen
abbrev pub times : Setting → List Choice → ℕ
times setting taken = count_by (λ choice. same choice.setting setting) taken

-- the place of a command's first option
abbrev pub first_option : Command → ℕ
first_option Run = 2
first_option Sim = 2
first_option Gen = 3

-- the place of the option behind those taken: each has two words
abbrev pub place_behind : Command → List Choice → ℕ
place_behind command taken = first_option command + 2 * length taken

-- the choice of a setting, with the word at the value's place
abbrev pub choice_of_setting : ℕ → Setting → Option (List ℕ) → Read Choice
choice_of_setting place setting None = Faults place missing
choice_of_setting place setting (Some word) =
    and_then (value_or_fault place (value_of (values_of setting) word)) (λ value. Names (record { setting = setting; value = value }))

-- the choice of an option at a place that sets something, or nothing, behind the options taken
abbrev pub choice_of_named : ℕ → List Choice → Option Setting → Option (List ℕ) → Read Choice
choice_of_named place taken None value = Faults place unknown_option
choice_of_named place taken (Some setting) value =
    if nat_lt (times setting taken) (most_times setting) then choice_of_setting (place + 1) setting value else Faults place twice

-- the choice of an option: its word, and its value's where there is one; behind the options taken
unfoldable pub choice_of : Command → List Choice → List ℕ → Option (List ℕ) → Read Choice
choice_of command taken word value = choice_of_named (place_behind command taken) taken (setting_of command word) value

-- the options of words, two words each, behind the options taken
unfoldable pub options_of : Command → List Choice → List (List ℕ) → Read (List Choice)
options_of command taken [] = Names taken
options_of command taken (word ∷ []) = and_then (choice_of command taken word None) (λ choice. Names (taken ++ choice ∷ []))
options_of command taken (word ∷ value ∷ words) =
    and_then (choice_of command taken word (Some value)) (λ choice. options_of command (taken ++ choice ∷ []) words)
