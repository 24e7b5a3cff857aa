use Rattle.std.proofs.Common.{arith}
use Rattle.gp_ring.proofs.RingSteps.{exchanges_flush}
use Rattle.gp_ring.proofs.between.steps.exchange_flush.Goals as goal

pub compare_exchange-requires : goal.compare_exchange-requires
compare_exchange-requires c =
    let r = c.requires in
    (r.table, omega (arith, c.requires.size), exchanges_flush _ _ _ c.args.overflow c.args.word r.writes r.is_open r.draft r.tag_draft r.present r.pending r.count r.change)
