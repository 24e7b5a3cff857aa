use Rattle.std.proofs.Common.{◌+◌, ◌*◌, take, flat_map}
use Rattle.gp_text.specs.Page.{texts, PutsAll}
use Rattle.gp_text.proofs.Puts.{statement_items}
use Rattle.gp_text.proofs.printing.+print.Given as goal

abbrev pub invariant-put_body-loop-statement : goal.invariant-put_body-loop-statement
invariant-put_body-loop-statement l = PutsAll (texts l.initial.page) (texts l.page) (flat_map (statement_items l.parts l.deep) (take l.statement-index l.body))

-- A statement's items come before those of the body that it stands in.
abbrev pub decreases-put_body : goal.decreases-put_body
decreases-put_body l = 2 * l.deep + 1

abbrev pub decreases-put_action : goal.decreases-put_action
decreases-put_action l = 2 * l.deep
