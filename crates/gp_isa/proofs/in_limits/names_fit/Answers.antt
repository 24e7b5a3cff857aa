use Rattle.std.proofs.Common.{◌∙◌, sym, arith, true≢false}
use Rattle.gp_isa.proofs.Names.{no_names, names_more, long_name, old_name}
use Rattle.gp_isa.proofs.in_limits.names_fit.Goals as goal
use Rattle.gp_isa.proofs.in_limits.names_fit.Goals.{then-len-gt-NAME_BYTES-via-then-len-gt-NAME_BYTES, then-len-gt-NAME_BYTES-via-else-len-gt-NAME_BYTES+then-has_name}

pub loop-at-init : goal.loop-at-init
loop-at-init g c = no_names

pub returns-then-len-gt-NAME_BYTES : goal.returns-then-len-gt-NAME_BYTES
returns-then-len-gt-NAME_BYTES g c = (
  λ never. absurd (true≢false (sym never)),
  λ names. absurd (elim c.then-len-gt-NAME_BYTES.branch [
    | then-len-gt-NAME_BYTES-via-then-len-gt-NAME_BYTES w ↦
        long_name g.N.Named.name_of c.args.items.now c.loop-at.at c.index-items-at.result c.name-name.result.now c.loop-at-test.true
        c.index-items-at.is c.name-name.ensures (omega arith) names
    | then-len-gt-NAME_BYTES-via-else-len-gt-NAME_BYTES+then-has_name w ↦
        old_name g.N.Named.name_of c.args.items.now c.loop-at.at c.index-items-at.result c.name-name.result.now c.loop-at-test.true
        c.index-items-at.is c.name-name.ensures (sym w.has_name.ensures ∙ w.if-has_name.true) names
  ]),
)

pub loop-at-preserved : goal.loop-at-preserved
loop-at-preserved g c =
    names_more g.N.Named.name_of c.args.items.now c.loop-at.at c.index-items-at.result c.name-name.result.now c.loop-at-test.true
    c.index-items-at.is c.name-name.ensures c.loop-at.invariant (omega arith) (sym c.has_name.ensures ∙ c.if-has_name.false)
