use Rattle.std.proofs.Common.{sym, refl}
use Rattle.std.proofs.lemmas.List.{take_rest}
use Rattle.gp_text.proofs.WordCuts.{cut_some, cut_none, none_behind}
use Rattle.gp_text.proofs.words.cut.Goals as goal

pub returns-in-Some : goal.returns-in-Some
returns-in-Some c = cut_some c.args.bytes.now _ _ c.in-Some.end c.requires.some c.requires.word (sym c.in-Some.ensures.place) refl (take_rest c.args.bytes.now c.in-Some.end)

pub returns-in-None : goal.returns-in-None
returns-in-None c = cut_none c.args.bytes.now _ _ c.requires.some c.requires.word (sym c.in-None.ensures.place) refl (none_behind c.args.bytes.now)
