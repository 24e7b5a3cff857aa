-- What a body is held by.
use Rattle.gp_cells.specs.declared.held.Held.{Held}
use Rattle.gp_cells.specs.Hold.{Hold}

-- how a body is held that a claim or a take handed out
abbrev pub hold_of : Held → Hold
hold_of held = held.hand
