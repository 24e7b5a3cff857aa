-- What is told of many statements of a body at once.
use Rattle.std.specs.Prelude.{◌≡◌, ◌<◌, ◌≤◌, ◌+◌, ◌-◌, ℕ, suc, Bool, true, List, length, take, drop}
use Rattle.gp_isa.specs.declared.block.Block.{Block}
use Rattle.gp_isa.specs.declared.block.Run.{Run}
use Rattle.gp_isa.specs.declared.parts.Parts.{Parts}
use Rattle.gp_isa.specs.declared.statement.Stmt.{Stmt}
use Rattle.gp_isa.specs.Size.{most_frames, all_pass}
use Rattle.gp_isa.specs.Trace.{Instruction, points_of_body, trace}
use Rattle.gp_isa.specs.kept.Blocks.{no_base, HasBlock}

-- What a block has of its statements is true in a program.
abbrev pub IsBlock : Parts → Block → Type 0
IsBlock parts block = block.base < no_base → HasBlock (trace parts) block.table.now (suc block.loops) block.base block.statements.now

-- the statements of a body from one on, up to another one
abbrev pub between : ℕ → ℕ → List Stmt → List Stmt
between at to body = take (to - at) (drop at body)

-- Statements of a body have so many points, which all pass a test, and their stacks have one frame more than `calls` at
-- most, in whatever function they stand.
pub record IsRun (parts : Parts) (test : Instruction → Bool) (body : List Stmt) (loops calls at : ℕ) (run : Run) : Type 0 where
  pub points : (f : ℕ) → length (points_of_body (trace parts) f (suc loops) (between at run.to body)) ≡ run.points
  pub pass : (f : ℕ) → all_pass test (points_of_body (trace parts) f (suc loops) (between at run.to body)) ≡ true
  pub frames : (f : ℕ) → most_frames (points_of_body (trace parts) f (suc loops) (between at run.to body)) ≤ calls + 1
