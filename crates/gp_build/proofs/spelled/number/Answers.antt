use Rattle.std.proofs.Common.{◌≡◌, ◌<◌, length, get_or, sym, ◌∙◌, subst, rules}
use Rattle.gp_build.specs.kept.Spelled.{IsNumber}
use Rattle.gp_build.proofs.Spelling.{number_found, number_met}
use Rattle.gp_build.proofs.spelled.number.Goals as goal
use Rattle.gp_build.proofs.spelled.number.Goals.{in-Some+else-eq, in_default}

pub returns-then-eq-clause-number : goal.returns-then-eq-clause-number
returns-then-eq-clause-number c =
    let within : c.args.near < length c.args.table.now.keys = search rules in
    let read : c.in-Some.met.now ≡ get_or c.args.table.now.keys c.args.near c.in-Some.met.now = search rules in
    number_met c.args.table.now.keys c.args.near c.args.frames.now c.in-Some.met.now within read (sym c.eq.ensures ∙ c.if-eq.true)

pub returns-clause-number : goal.returns-clause-number
returns-clause-number c =
    let block : c.match-get.block ≡ c.args.frames.now = elim c.match-get.branch [ in-Some+else-eq w ↦ w.block-is | in_default w ↦ w.block-is ] in
    let stored = c.in_ok-n.ensures.stored in
    subst (IsNumber c.insert_full.new.self.keys c.in_ok-n.n) block
    (number_found c.insert_full.new.self.keys c.in_ok-n.n c.match-get.block stored.0 stored.1 stored.2)
