use Rattle.gp_stack.proofs.place.Place.ahead_in.Goals as goal

pub returns-clause-ahead : goal.returns-clause-ahead
returns-clause-ahead c = rw (← c.requires.statements) c.statement_at.ensures.ahead
