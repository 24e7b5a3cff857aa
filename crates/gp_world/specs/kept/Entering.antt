-- What the calls ask for that make one entry.
use Rattle.std.specs.Prelude.{◌≡◌, ◌<◌, ℕ, List, [], ◌∷◌, ◌++◌, Option, Some, None}
use Rattle.gp_isa.specs.declared.parts.Parts.{Parts}
use Rattle.gp_stack.specs.Body.{HasRoom}
use Rattle.gp_stack.specs.declared.body.Body.{Body}
use Rattle.gp_journal.specs.declared.answer.Applied.{Applied}
use Rattle.gp_journal.specs.declared.answer.Applied.TheVariants.{Born}
use Rattle.gp_journal.specs.declared.entry.Entry.{Entry}
use Rattle.gp_journal.specs.declared.entry.Entry.TheVariants.{Start, Run, Park}
use Rattle.gp_journal.specs.Standing.{times}
use Rattle.gp_machine.specs.Queue.{Line}
use Rattle.gp_tally.specs.declared.row.Row.{Row}
use Rattle.gp_world.specs.Rows.{has_picked, runs_one}

-- An entry is for a worker with such a row to make: it starts whom it has picked; all others are of one that runs somebody.
abbrev pub IsMine : Entry → Row → Type 0
IsMine (Start w g) row = (row.a ≡ has_picked) × (row.b ≡ g)
IsMine _ row = row.a ≡ runs_one

-- one by which nobody is sampled or comes to a shared point, and no profile begins, grows or ends, of a worker
abbrev pub IsQuiet : Entry → Type 0
IsQuiet (Start w g) = Unit {0}
IsQuiet (Run w g n) = Unit {0}
IsQuiet (Park w g) = Unit {0}
IsQuiet _ = ⊥

-- Who joins a line has a place in it, and doesn't stand there.
abbrev pub MayJoin : Line → List ℕ → Type 0
MayJoin line [] = Unit {0}
MayJoin line (g ∷ others) = (g < line.cells) × (times g line.items ≡ 0)

-- Where somebody is born, the last of some bodies is handed out, if there is one.
abbrev pub HandsOut : Applied → List Body → List Body → Option Body → Type 0
HandsOut (Born g died) before now (Some body) = before ≡ now ++ body ∷ []
HandsOut (Born g died) before now None = before ≡ []
HandsOut _ before now spare = now ≡ before

-- where somebody is born, a body for them comes with the answer
abbrev pub IsSpare : Parts → Applied → Option Body → Type 0
IsSpare program (Born g died) (Some body) = HasRoom program body
IsSpare program (Born g died) None = ⊥
IsSpare program _ _ = Unit {0}
