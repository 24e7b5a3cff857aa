use Rattle.std.proofs.Common.{arith}
use Rattle.gp_cells.proofs.Keeping.{settles}
use Rattle.gp_cells.proofs.steps.settle.Goals as goal

pub store-requires : goal.store-requires
store-requires g c =
    let f = c.requires.fills in (
      c.requires.table,
      c.requires.cell,
      settles g.R.Run.program g.K.Roster.roster c.args.words.now.table_id.slots c.args.seat.now.id c.args.seat.now.me c.args.g c.args.word f.0 c.requires.holds.0 c.requires.holds.1 f.1
          (omega (arith, c.requires.size, c.requires.cell)) f.2,
    )
