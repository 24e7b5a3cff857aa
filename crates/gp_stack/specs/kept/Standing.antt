-- That a body stands where its goroutine stands in a program.
use Rattle.std.specs.Prelude.{◌≡◌, ◌<◌, ◌≤◌, ◌^◌, ℕ, List, length, drop, reverse, vec_capacity}
use Rattle.gp_isa.specs.declared.parts.Parts.{Parts}
use Rattle.gp_isa.specs.declared.statement.Stmt.{Stmt}
use Rattle.gp_isa.specs.declared.statement.What.TheOpen.{Work}
use Rattle.gp_isa.specs.Statement.{Action}
use Rattle.gp_isa.specs.Trace.{trace}
use Rattle.gp_stack.specs.declared.body.Body.{Body}
use Rattle.gp_stack.specs.declared.level.Level.{Level}
use Rattle.gp_stack.specs.declared.place.Place.{Place}
use Rattle.gp_stack.specs.Goroutine.{labels_of}
use Rattle.gp_stack.specs.kept.Level.{body_at, left}
use Rattle.gp_stack.specs.kept.Place.{levels, room, IsIn, IsSettled}
use Rattle.gp_stack.specs.kept.Ahead.{Does}

-- a body has room for the frames of a program
pub record HasRoom (parts : Parts) (body : Body) : Type 0 where
  pub reserved : room parts ≤ vec_capacity body.place.outer

-- so many points of a statement may be passed while it is still the next one
abbrev pub IsPartOf : ℕ → Action → Type 0
IsPartOf passed (Work n) = passed < n
IsPartOf passed _ = passed ≡ 0

-- the levels around the innermost one, the innermost of them first
abbrev pub around : Place → List Level
around place = reverse place.outer.items

-- the statements of the innermost level
abbrev pub body_here : Parts → Place → List Stmt
body_here parts place = body_at parts place.top (around place)

-- A body stands in a program: what its levels leave is the trace of its function without the points that it has
-- passed, and its labels are those of the definition.
pub record StandsIn (parts : Parts) (body : Body) : Type 0 where
  pub place : IsIn parts body.place
  pub settled : IsSettled parts body.place.top (around body.place)
  pub part : (a : Action) → Does (body_here parts body.place) body.place.top.at a → IsPartOf body.passed a
  pub left : drop body.passed (left parts (levels body.place)) ≡ drop body.count (trace parts body.start)
  pub within : body.count ≤ length (trace parts body.start)
  pub short : length (trace parts body.start) < 2 ^ 64
  pub labels : body.labels ≡ labels_of (trace parts body.start) body.set body.count
