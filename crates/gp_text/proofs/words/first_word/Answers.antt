use Rattle.std.proofs.Common.{sym, ◌∙◌}
use Rattle.std.proofs.lemmas.List.{take_rest}
use Rattle.gp_text.proofs.WordCuts.{begins, words_behind, no_words}
use Rattle.gp_text.proofs.words.first_word.Goals as goal

pub cut-requires-clause-word : goal.cut-requires-clause-word
cut-requires-clause-word c = (begins c.args.bytes.now _ c.in-Some.start (sym c.in-Some.ensures.place) c.in-Some.ensures.within (take_rest c.args.bytes.now c.in-Some.start)).1

pub returns-in-Some : goal.returns-in-Some
returns-in-Some c = words_behind c.args.bytes.now _ c.in-Some.start (sym c.in-Some.ensures.place) (take_rest c.args.bytes.now c.in-Some.start) ∙ c.cut.ensures

pub returns-in-None : goal.returns-in-None
returns-in-None c = no_words c.args.bytes.now (sym c.in-None.ensures.place)
