-- What a program has beside parts in their limits: the function `main`, and no empty body.
use Rattle.std.specs.Prelude.{ℕ, zero, suc, Bool, true, false, ◌||◌, List, [], ◌∷◌, Option, codes, position}
use Rattle.std.specs.List.{list_any}
use Rattle.std.specs.Str.{bytes_eq}
use Rattle.gp_isa.specs.declared.parts.Parts.{Parts}
use Rattle.gp_isa.specs.declared.statement.Stmt.{Stmt}
use Rattle.gp_isa.specs.declared.statement.What.TheOpen.{Loop}
use Rattle.gp_isa.specs.Statement.{Action, action_of, most_bodies}

-- the number of the function `main`, where there is one
abbrev pub main_of : Parts → Option ℕ
main_of parts = position (λ f. bytes_eq f.name (codes "main")) parts.functions

abbrev pub is_nil : List Stmt → Bool
is_nil [] = true
is_nil (s ∷ body) = false

-- whether a statement is a loop whose body `lacks` a statement
abbrev pub loop_lacks : (List Stmt → Bool) → Action → Bool
loop_lacks lacks (Loop n body end) = lacks body
loop_lacks lacks _ = false

-- whether a body, or that of a loop in it, has no statement, where bodies stand at most `deep` inside each other
abbrev pub lacks_statement : ℕ → List Stmt → Bool
lacks_statement zero body = false
lacks_statement (suc deep) body = is_nil body || list_any (λ s. loop_lacks (lacks_statement deep) (action_of s)) body

-- the first function in which it or one of its loops has no statement
abbrev pub first_empty : Parts → Option ℕ
first_empty parts = position (λ f. lacks_statement most_bodies f.body) parts.functions
