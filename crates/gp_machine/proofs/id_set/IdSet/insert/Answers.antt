use Rattle.std.proofs.Common.{arith}
use Rattle.gp_machine.proofs.IdSets.{word_there, word_few, ids_inserted, kept_inserted}
use Rattle.gp_machine.proofs.id_set.IdSet.insert.Goals as goal

pub index_mut-requires : goal.index_mut-requires
index_mut-requires c =
    omega (arith, word_there c.args.id c.self.invariant c.self.view_is c.requires, c.self.inside.words.ok.0)

pub overflow_shl-self : goal.overflow_shl-self
overflow_shl-self c = word_few c.args.id c.self.invariant c.self.view_is c.requires

pub invariant_of-self : goal.invariant_of-self
invariant_of-self c = kept_inserted c.args.id c.self.invariant c.self.view_is c.requires c.index_mut.ensures.value

pub returns : goal.returns
returns c = ids_inserted c.args.id c.self.invariant c.self.view_is c.requires c.index_mut.ensures.value
