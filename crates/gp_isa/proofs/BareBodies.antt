-- A body of which one statement is a loop that lacks a statement lacks one too.
use Rattle.std.proofs.Common.{◌≡◌, ℕ, suc, ◌<◌, ◌||◌, ◌==◌, Bool, true, false, List, [], ◌∷◌, length, get_or, refl, sym, ap, ap₂, ◌∙◌, subst, true≢false}
use Rattle.std.specs.List.{list_any}
use Rattle.std.proofs.lemmas.Bool.{or_right}
use Rattle.std.proofs.lemmas.List.Folds.{list_any_at}
use Rattle.gp_isa.specs.declared.statement.Stmt.{Stmt}
use Rattle.gp_isa.specs.declared.statement.What.TheOpen.{Work, Call, Loop, Send, Recv, Lock, Unlock, Spawn, Labels}
use Rattle.gp_isa.specs.Statement.{Action, action, action_of}
use Rattle.gp_isa.specs.declared.statement.What.{What}
use Rattle.gp_isa.specs.declared.statement.What.TheVariants as what
use Rattle.gp_isa.proofs.Actions.{action-loop}
use Rattle.gp_isa.specs.Checked.{is_nil, loop_lacks, lacks_statement}

pub lacks_at : (deep : ℕ) (body : List Stmt) (i : ℕ) (s : Stmt) → i < length body → s ≡ get_or body i s →
    loop_lacks (lacks_statement deep) (action_of s) ≡ true → lacks_statement (suc deep) body ≡ true
lacks_at deep body i s within here lacks =
    or_right (is_nil body) (list_any (λ t. loop_lacks (lacks_statement deep) (action_of t)) body)
    (list_any_at (λ t. loop_lacks (lacks_statement deep) (action_of t)) body i s within
    (subst (λ t. loop_lacks (lacks_statement deep) (action_of t) ≡ true) here lacks))

none_lacks : (a : Action) → loop_lacks (λ _. false) a ≡ false
none_lacks (Work n) = refl
none_lacks (Call f) = refl
none_lacks (Loop n body end) = refl
none_lacks (Send c) = refl
none_lacks (Recv c) = refl
none_lacks (Lock m) = refl
none_lacks (Unlock m) = refl
none_lacks (Spawn f) = refl
none_lacks (Labels s) = refl

any_lacks : (body : List Stmt) → list_any (λ t. loop_lacks (λ _. false) (action_of t)) body ≡ false
any_lacks [] = refl
any_lacks (s ∷ body) = ap₂ (λ a b. a || b) (none_lacks (action_of s)) (any_lacks body)

-- where no loop may stand, a body lacks a statement only if it is empty
pub lacks_where_flat : (deep : ℕ) (body : List Stmt) → deep ≡ 0 → (length body == 0) ≡ false → lacks_statement (suc deep) body ≡ false
lacks_where_flat deep [] flat some = absurd (true≢false some)
lacks_where_flat deep (s ∷ body) flat some =
    subst (λ d. list_any (λ t. loop_lacks (lacks_statement d) (action_of t)) (s ∷ body) ≡ false) (sym flat) (any_lacks (s ∷ body))

pub loop_lacks-loop : (lacks : List Stmt → Bool) (w : What) (n : ℕ) (body : List Stmt) (end : ℕ) → w ≡ what.Loop n body end → loop_lacks lacks (action w) ≡ lacks body
loop_lacks-loop lacks w n body end is = ap (λ w. loop_lacks lacks (action w)) is ∙ ap (loop_lacks lacks) (action-loop n body end)
