use Rattle.gp_events.proofs.Words.{choices_are_numbered, first_words}
use Rattle.gp_events.proofs.laws.law_fraction.Goals as goal

pub returns-clause-numbered : goal.returns-clause-numbered
returns-clause-numbered c = choices_are_numbered

pub returns-clause-words : goal.returns-clause-words
returns-clause-words c = first_words
