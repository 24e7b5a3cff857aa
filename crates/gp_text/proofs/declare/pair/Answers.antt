use Rattle.std.proofs.Common.{sym, subst}
use Rattle.std.specs.Str.{IsUtf8}
use Rattle.gp_text.proofs.WordCuts.{pair_texts}
use Rattle.gp_text.proofs.declare.pair.Goals as goal

pub copied-requires : goal.copied-requires
copied-requires c = subst IsUtf8 (sym c.cut_pair.ensures.key) (pair_texts c.args.word.now c.requires).0

pub copied-requires-2 : goal.copied-requires-2
copied-requires-2 c = subst IsUtf8 (sym c.cut_pair.ensures.value) (pair_texts c.args.word.now c.requires).1
