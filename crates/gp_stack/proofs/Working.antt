-- Statements whose points all are work.
use Rattle.std.proofs.Common.{◌≡◌, ◌<◌, ◌≤◌, ◌-◌, ℕ, List, length, sym, arith, subst, Option, Some, None, IfSome}
use Rattle.std.proofs.lemmas.List.{take_all}
use Rattle.gp_isa.specs.declared.block.Run.{Run}
use Rattle.gp_isa.specs.declared.parts.Parts.{Parts}
use Rattle.gp_isa.specs.declared.statement.Stmt.{Stmt}
use Rattle.gp_isa.specs.Block.{IsRun, between}
use Rattle.gp_isa.specs.Calls.{IsProgram}
use Rattle.gp_isa.specs.Size.{is_work}
use Rattle.gp_stack.specs.declared.level.Level.{Level}
use Rattle.gp_stack.specs.kept.Level.{points_of_statements, body_at}
use Rattle.gp_stack.specs.kept.Looks.{points_of_all}
use Rattle.gp_stack.specs.kept.Passing.{AreWork, IsWorkRun}
use Rattle.gp_stack.proofs.Looking.{run_whole}

-- what is told twice
pub told_both : {X : Type 0} (r : Option X) (P Q R : X → Type 0) → ((x : X) → P x → Q x → R x) → IfSome r P → IfSome r Q → IfSome r R
told_both None P Q R both p q = p
told_both (Some x) P Q R both p q = both x p q

pub run_work : (parts : Parts) → IsProgram parts → (level : Level) (body : List Stmt) (at : ℕ) (run : Run) → IsRun parts is_work body level.loops level.calls at run → AreWork (points_of_statements parts level (between at run.to body)) run.points
unfolding points_of_all
run_work parts program level body at run is =
    subst (λ points. AreWork points run.points) (sym (run_whole parts program is_work body level.loops level.calls at run is level.function))
    (record { count = is.points level.function; work = is.pass level.function })

-- the statements at a place
pub work_stands : (parts : Parts) → IsProgram parts → (level : Level) (outer : List Level) (body : List Stmt) (run : Run) → body ≡ body_at parts level outer → (level.at < run.to) × (run.to ≤ length body) →
    IsRun parts is_work body level.loops level.calls level.at run → IsWorkRun parts level outer run.to run.points
work_stands parts program level outer body run same within is = record {
  some = within.0;
  within = subst (λ (b : List Stmt). run.to ≤ length b) same within.1;
  work = subst (λ (b : List Stmt). AreWork (points_of_statements parts level (between level.at run.to b)) run.points) same (run_work parts program level body level.at run is);
}

-- a whole body
pub work_whole : (parts : Parts) → IsProgram parts → (level : Level) (body : List Stmt) (run : Run) → length body ≤ run.to → IsRun parts is_work body level.loops level.calls 0 run → AreWork (points_of_statements parts level body) run.points
work_whole parts program level body run whole is =
    subst (λ (b : List Stmt). AreWork (points_of_statements parts level b) run.points) (take_all (run.to - 0) body (omega arith)) (run_work parts program level body 0 run is)
