use Rattle.std.proofs.Common.{refl}
use Rattle.gp_cells.specs.kept.Views.{going_on}
use Rattle.gp_cells.proofs.Keeping.{splits}
use Rattle.gp_cells.proofs.steps.cut_off.Goals as goal

pub split_seat-pass-requires : goal.split_seat-pass-requires
split_seat-pass-requires g c =
    let v = c.args.seat.now.me.0 in
    (c.requires.table, c.requires.some, splits g.R.Run.program g.K.Roster.roster c.args.seat.now.id v v (going_on v) refl refl refl refl)
