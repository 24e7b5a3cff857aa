use Rattle.std.proofs.Common.{arith}
use Rattle.gp_machine.proofs.IdSets.{word_there, word_few, ids_removed, kept_emptied, kept_removed}
use Rattle.gp_machine.proofs.id_set.IdSet.remove.Goals as goal

pub index_mut-word-requires : goal.index_mut-word-requires
index_mut-word-requires c =
    omega (arith, word_there c.args.id c.self.invariant c.self.view_is c.requires, c.self.inside.words.ok.0)

pub overflow_shl-self : goal.overflow_shl-self
overflow_shl-self c = word_few c.args.id c.self.invariant c.self.view_is c.requires

pub invariant_of-self : goal.invariant_of-self
invariant_of-self c =
    kept_emptied c.args.id c.self.invariant c.self.view_is c.requires c.index_mut-word.ensures.value c.if-word-eq0.true

pub invariant_of-self-else-word-eq0 : goal.invariant_of-self-else-word-eq0
invariant_of-self-else-word-eq0 c =
    kept_removed c.args.id c.self.invariant c.self.view_is c.requires c.index_mut-word.ensures.value c.if-word-eq0.false

pub returns-then-word-eq0 : goal.returns-then-word-eq0
returns-then-word-eq0 c =
    ids_removed c.args.id c.self.invariant c.self.view_is c.requires c.index_mut-word.ensures.value

pub returns-else-word-eq0 : goal.returns-else-word-eq0
returns-else-word-eq0 c =
    ids_removed c.args.id c.self.invariant c.self.view_is c.requires c.index_mut-word.ensures.value
