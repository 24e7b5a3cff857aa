-- What is so of the options taken, while they are read: each has a value of the table, and none was given too often.
use Rattle.std.specs.Prelude.{◌≡◌, ◌≤◌, ◌<◌, ◌^◌, ◌%◌, List, length, All}
use Rattle.gp_isa.specs.Limits.{most_picks}
use Rattle.gp_journal.specs.Settings.{IsInstant}
use Rattle.gp_words.specs.declared.setting.Setting.{Setting}
use Rattle.gp_words.specs.declared.setting.Values.{Values}
use Rattle.gp_words.specs.declared.setting.Values.TheVariants.{Numbers, Divisors, Instants, Lists}
use Rattle.gp_words.specs.declared.choice.Choice.{Choice}
use Rattle.gp_words.specs.declared.choice.Value.{Value}
use Rattle.gp_words.specs.declared.choice.Value.TheVariants.{Number, Instant, List as Listed}
use Rattle.gp_words.specs.Table.{values_of, most_times}
use Rattle.gp_words.specs.Options.{times}

-- A value is one of these values.
abbrev pub IsOneOf : Values → Value → Type 0
IsOneOf (Numbers least most) (Number n) = (least ≤ n) × (n ≤ most)
IsOneOf (Numbers least most) (Instant request) = ⊥
IsOneOf (Numbers least most) (Listed ns) = ⊥
IsOneOf (Divisors whole) (Number n) = (1 ≤ n) × ((n ≤ whole) × (whole % n ≡ 0))
IsOneOf (Divisors whole) (Instant request) = ⊥
IsOneOf (Divisors whole) (Listed ns) = ⊥
IsOneOf Instants (Number n) = ⊥
IsOneOf Instants (Instant request) = IsInstant request
IsOneOf Instants (Listed ns) = ⊥
IsOneOf Lists (Number n) = ⊥
IsOneOf Lists (Instant request) = ⊥
IsOneOf Lists (Listed ns) = (length ns ≤ most_picks) × All (λ n. n < 2 ^ 32) ns

-- A choice's value is one of its setting's values.
abbrev pub IsInTable : Choice → Type 0
IsInTable choice = IsOneOf (values_of choice.setting) choice.value

-- The options taken lie in the table, and none was given too often.
pub record IsSound (taken : List Choice) : Type 0 where
  pub in_table : All IsInTable taken
  pub at_most : (setting : Setting) → times setting taken ≤ most_times setting
