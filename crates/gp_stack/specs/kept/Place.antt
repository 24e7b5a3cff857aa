-- Places in a trace, and the moves between them that pass no point.
use Rattle.std.specs.Prelude.{◌≡◌, ◌+◌, ◌-◌, ◌*◌, ◌≤◌, ℕ, zero, suc, List, [], ◌∷◌, length, reverse, vec_capacity}
use Rattle.gp_isa.specs.declared.block.Block.{Block}
use Rattle.gp_isa.specs.declared.parts.Parts.{Parts}
use Rattle.gp_isa.specs.Block.{IsBlock}
use Rattle.gp_isa.specs.Limits.{most_loops}
use Rattle.gp_isa.specs.Size.{depth_of}
use Rattle.gp_isa.specs.Nesting.{loops_in, nesting_of}
use Rattle.gp_isa.specs.declared.statement.What.TheOpen.{Work, Call, Loop}
use Rattle.gp_isa.specs.Statement.{Action}
use Rattle.gp_stack.specs.declared.level.Level.{Level}
use Rattle.gp_stack.specs.declared.place.Place.{Place}
use Rattle.gp_stack.specs.kept.Level.{body_at}
use Rattle.gp_stack.specs.kept.Ahead.{Does}

-- the levels of a place, the innermost first
abbrev pub levels : Place → List Level
levels place = place.top ∷ reverse place.outer.items

-- the innermost level goes on to the next statement
abbrev pub stepped : List Level → List Level
stepped [] = []
stepped (level ∷ outer) = record level { at = level.at + 1 } ∷ outer

abbrev pub turned : ℕ → Level → List Level → List Level
turned zero level outer = outer
turned (suc n) level outer = record level { at = 0; turns = n } ∷ outer

-- at the end of the innermost level it begins its next turn, or is left
abbrev pub left_behind : List Level → List Level
left_behind [] = []
left_behind (level ∷ outer) = turned level.turns level outer

-- A loop of n turns over a body of so many statements is begun at its end, where loops may still be entered; else
-- it is passed by.
abbrev pub looped : ℕ → ℕ → ℕ → Level → List Level → List Level
looped zero n len level outer = stepped (level ∷ outer)
looped (suc loops) n len level outer =
    record { at = len; turns = n; calls = level.calls; function = level.function; loops = loops } ∷ stepped (level ∷ outer)

-- a function called is begun, where calls are still followed; else it is passed by
abbrev pub called : ℕ → ℕ → Level → List Level → List Level
called zero f level outer = stepped (level ∷ outer)
called (suc calls) f level outer =
    record { at = 0; turns = 0; calls = calls; function = f; loops = most_loops } ∷ stepped (level ∷ outer)

-- How many levels may still be entered from a level: those of the loops of its body, and for each call that is followed
-- that of the function called and of its loops.
abbrev pub levels_from : Parts → Level → List Level → ℕ
levels_from parts level outer = (nesting_of parts + 1) * level.calls + loops_in (suc level.loops) (body_at parts level outer)

-- How many levels stand around another one at most, the innermost one apart.
abbrev pub room : Parts → ℕ
room parts = (nesting_of parts + 1) * (depth_of parts - 1) + nesting_of parts

-- Each level leaves room for those that may still be entered from it.
abbrev pub Fit : Parts → ℕ → List Level → Type 0
Fit parts most [] = Unit {0}
Fit parts most (level ∷ outer) = (length outer + levels_from parts level outer ≤ most) × (level.loops ≤ most_loops) × Fit parts most outer

-- a place has the room that a program wants
pub record IsIn (parts : Parts) (place : Place) : Type 0 where
  pub fit : Fit parts (room parts) (levels place)
  pub reserved : room parts ≤ vec_capacity place.outer

-- what was looked up of a level are its statements, and what the program keeps of them
pub record IsHere (parts : Parts) (level : Level) (outer : List Level) (block : Block) : Type 0 where
  pub statements : block.statements.now ≡ body_at parts level outer
  pub kept : IsBlock parts block

-- a statement that begins with a point
abbrev pub IsPoint : Action → Type 0
IsPoint (Work n) = 1 ≤ n
IsPoint (Call f) = ⊥
IsPoint (Loop n body end) = ⊥
IsPoint _ = Unit {0}

pub data IsSettled (parts : Parts) (level : Level) (outer : List Level) : Type 0 where
  AtPoint : (a : Action) → Does (body_at parts level outer) level.at a → IsPoint a → IsSettled parts level outer
  AtEnd : length (body_at parts level outer) ≤ level.at → level.turns ≡ 0 → outer ≡ [] → IsSettled parts level outer
