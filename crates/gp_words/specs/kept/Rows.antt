-- The rows of the code's table, as the definitions have them.
use Rattle.gp_words.specs.declared.table.Row.{Row}
use Rattle.gp_words.specs.Table.{OptionRow}

abbrev pub option_row : Row → OptionRow
option_row row = record { word = row.word.now; setting = row.setting; in_run = row.in_run }
