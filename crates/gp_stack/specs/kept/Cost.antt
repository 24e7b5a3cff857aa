-- How many statements and turns are still crossed: what falls with each move that passes no point.
use Rattle.std.specs.Prelude.{◌+◌, ◌*◌, ℕ, zero, suc, List, [], ◌∷◌, drop}
use Rattle.gp_isa.specs.declared.parts.Parts.{Parts}
use Rattle.gp_isa.specs.declared.statement.Stmt.{Stmt}
use Rattle.gp_isa.specs.declared.statement.What.TheOpen.{Call, Loop}
use Rattle.gp_isa.specs.Statement.{Action, action_of}
use Rattle.gp_isa.specs.Limits.{most_loops}
use Rattle.gp_isa.specs.Trace.{body_of}
use Rattle.gp_stack.specs.declared.level.Level.{Level}
use Rattle.gp_stack.specs.kept.Level.{body_at}

abbrev pub cost_of : (ℕ → ℕ) → (List Stmt → ℕ) → Action → ℕ
cost_of calls inner (Loop n body end) = n * (1 + inner body) + 3
cost_of calls inner (Call f) = calls f + 3
cost_of calls inner _ = 1

abbrev pub total : (Stmt → ℕ) → List Stmt → ℕ
total cost [] = 0
total cost (s ∷ body) = cost s + total cost body

unfoldable pub cost_of_body : (ℕ → ℕ) → ℕ → List Stmt → ℕ
cost_of_body calls zero body = total (λ s. cost_of calls (λ _. 0) (action_of s)) body
cost_of_body calls (suc deep) body = total (λ s. cost_of calls (cost_of_body calls deep) (action_of s)) body

unfoldable pub cost_of_call : Parts → ℕ → ℕ → ℕ
cost_of_call parts zero f = 0
cost_of_call parts (suc depth) f = cost_of_body (cost_of_call parts depth) most_loops (body_of parts f)

unfoldable pub cost_here : Parts → Level → List Stmt → ℕ
cost_here parts level body =
    cost_of_body (cost_of_call parts level.calls) level.loops (drop level.at body)
    + level.turns * (1 + cost_of_body (cost_of_call parts level.calls) level.loops body) + 1

unfoldable pub cost : Parts → List Level → ℕ
cost parts [] = 0
cost parts (level ∷ outer) = cost_here parts level (body_at parts level outer) + cost parts outer
