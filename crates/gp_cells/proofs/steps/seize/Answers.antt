use Rattle.std.proofs.Common.{arith}
use Rattle.gp_cells.proofs.Keeping.{seizes}
use Rattle.gp_cells.proofs.steps.seize.Goals as goal

pub compare_exchange-requires : goal.compare_exchange-requires
compare_exchange-requires g c = (
  c.requires.table,
  c.requires.cell,
  seizes g.R.Run.program g.K.Roster.roster c.args.words.now.table_id.slots c.args.seat.now.id c.args.seat.now.me c.args.g c.args.from c.args.to c.requires.free c.requires.bare
      (omega (arith, c.requires.size, c.requires.cell)) c.requires.from c.requires.to,
)
