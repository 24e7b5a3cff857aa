use Rattle.gp_roster.proofs.LiveRows.{live_rows_are_live}
use Rattle.gp_roster.proofs.RowsFollow.{rows_follow, rows_are_told, newborns_are_last}
use Rattle.gp_roster.proofs.laws.law_rows.Goals as goal

pub returns-clause-live : goal.returns-clause-live
returns-clause-live c = live_rows_are_live

pub returns-clause-told : goal.returns-clause-told
returns-clause-told c = rows_are_told

pub returns-clause-follow : goal.returns-clause-follow
returns-clause-follow c = rows_follow

pub returns-clause-newborns : goal.returns-clause-newborns
returns-clause-newborns c = newborns_are_last
