-- Points of work that are passed many at once.
use Rattle.std.specs.Prelude.{◌≡◌, ◌≤◌, ◌<◌, ℕ, true, List, ◌++◌, length}
use Rattle.gp_isa.specs.Size.{is_work, all_pass}
use Rattle.gp_isa.specs.Trace.{Point}
use Rattle.gp_isa.specs.declared.parts.Parts.{Parts}
use Rattle.gp_isa.specs.Block.{between}
use Rattle.gp_stack.specs.declared.level.Level.{Level}
use Rattle.gp_stack.specs.kept.Level.{points_of_statements, body_at, left}

-- Some points begin with so many points of work, and then come the others.
pub record WorkBefore (whole rest : List Point) (n : ℕ) : Type 0 where
  pub points : List Point
  pub split : whole ≡ points ++ rest
  pub count : length points ≡ n
  pub work : all_pass is_work points ≡ true

-- From some levels to others so many points of work are passed.
abbrev pub Passes : Parts → List Level → List Level → ℕ → Type 0
Passes parts before after n = WorkBefore (left parts before) (left parts after) n

-- so many points, all of them work
pub record AreWork (points : List Point) (n : ℕ) : Type 0 where
  pub count : length points ≡ n
  pub work : all_pass is_work points ≡ true

-- A level is at its end, its body still comes again, and has so many points, all of them work.
pub record IsWorkTurn (parts : Parts) (level : Level) (outer : List Level) (n : ℕ) : Type 0 where
  pub over : length (body_at parts level outer) ≤ level.at
  pub again : 0 < level.turns
  pub some : 0 < n
  pub work : AreWork (points_of_statements parts level (body_at parts level outer)) n

-- The statements of a level from its next one on, up to another one, have so many points, all of them work.
pub record IsWorkRun (parts : Parts) (level : Level) (outer : List Level) (to n : ℕ) : Type 0 where
  pub some : level.at < to
  pub within : to ≤ length (body_at parts level outer)
  pub work : AreWork (points_of_statements parts level (between level.at to (body_at parts level outer))) n
