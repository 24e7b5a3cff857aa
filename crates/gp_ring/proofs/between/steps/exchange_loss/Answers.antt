use Rattle.std.proofs.Common.{arith}
use Rattle.gp_ring.proofs.RingReads.{exchanges_loss}
use Rattle.gp_ring.proofs.between.steps.exchange_loss.Goals as goal

pub compare_exchange-requires : goal.compare_exchange-requires
compare_exchange-requires c =
    let r = c.requires in
    (r.table, omega (arith, c.requires.size), exchanges_loss _ _ _ c.args.overflow c.args.word r.reads r.present r.pending r.has_seen r.is_timed r.none_ahead r.count r.change)
