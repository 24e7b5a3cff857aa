use Rattle.std.proofs.Common.{◌≡◌, map, drop}
use Rattle.gp_words.specs.Table.{setting_among}
use Rattle.gp_words.specs.kept.Rows.{option_row}
use Rattle.gp_words.proofs.table.setting_among.Given as goal

abbrev pub invariant-loop-row : goal.invariant-loop-row
invariant-loop-row l = setting_among (map option_row (drop l.row-index l.rows)) l.command l.word ≡ setting_among (map option_row l.rows) l.command l.word
