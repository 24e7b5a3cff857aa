use Rattle.std.proofs.Common.{◌<◌, ◌^◌, rules, arith}
use Rattle.gp_machine.proofs.IdSets.{word_within, least_none, least_some}
use Rattle.gp_machine.proofs.id_set.IdSet.least.Goals as goal

pub returns-then-self-eq0 : goal.returns-then-self-eq0
returns-then-self-eq0 c = least_none c.self.invariant c.self.view_is c.if-self-eq0.true

pub index-requires : goal.index-requires
index-requires c =
    let fits : c.self.inside.some < 2 ^ 128 = search rules in
    omega (arith, word_within c.self.invariant c.self.view_is c.if-self-eq0.false fits, c.self.inside.words.ok.0)

pub returns : goal.returns
returns c =
    let fits : c.self.inside.some < 2 ^ 128 = search rules in
    let word_fits : c.index.result.now < 2 ^ 128 = search rules in
    least_some c.self.invariant c.self.view_is c.if-self-eq0.false fits c.index.ensures word_fits
