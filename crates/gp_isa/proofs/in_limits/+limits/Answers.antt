use Rattle.std.proofs.Common.{◌≡◌, ◌≤◌, ◌-◌, ◌↔◌, ℕ, suc, Bool, List, IsTrue, sym, ap, ◌∙◌, subst, arith}
use Rattle.std.proofs.lemmas.List.Elements.{All-more}
use Rattle.gp_isa.specs.declared.statement.Stmt.{Stmt}
use Rattle.gp_isa.specs.declared.parts.Parts.{Parts}
use Rattle.gp_isa.specs.declared.statement.What.{What}
use Rattle.gp_isa.specs.declared.statement.What.TheOpen.{Loop}
use Rattle.gp_isa.specs.declared.statement.What.TheVariants as what
use Rattle.gp_isa.specs.Statement.{action, action_of}
use Rattle.gp_isa.specs.InLimits.{IsAction, AreStatements}
use Rattle.gp_isa.proofs.Actions.{action-loop}
use Rattle.gp_isa.proofs.in_limits.+limits.Goals as goal

-- a loop fits where its body does
loop_fits : (parts : Parts) (deep n : ℕ) (body : List Stmt) (end : ℕ) (w : What) → w ≡ what.Loop n body end → (n ≡ 0 → ⊥) → (deep ≡ 0 → ⊥) →
    (b : Bool) → (IsTrue b ↔ AreStatements parts (suc (deep - 1)) body) → IsTrue b ↔ IsAction parts (AreStatements parts deep) (action w)
loop_fits parts deep n body end w is some inside b fits =
    let one : suc (deep - 1) ≡ deep = omega arith in
    let counts : 1 ≤ n = omega arith in
    let whole : action w ≡ Loop n body end = ap action is ∙ action-loop n body end in (
      λ yes. subst (IsAction parts (AreStatements parts deep)) (sym whole) (counts, subst (λ d. AreStatements parts d body) one (fits.0 yes)),
      λ all. fits.1 (subst (λ d. AreStatements parts d body) (sym one) ((subst (IsAction parts (AreStatements parts deep)) whole all).1)),
    )

pub statements_fit-loop-statement-preserved : goal.statements_fit-loop-statement-preserved
statements_fit-loop-statement-preserved t c =
    let Fits : Stmt → Type 0 = λ s. IsAction c.args.parts.now (AreStatements c.args.parts.now c.args.deep) (action_of s) in
    All-more Fits c.args.body.now c.loop-statement.statement-index c.statement-item.result c.loop-statement-test.true
    c.loop-statement.invariant (subst Fits c.statement-item.is (c.action_fits.ensures.0 c.if-not-action_fits.false))

pub action_fits-returns-else-deep-eq0 : goal.action_fits-returns-else-deep-eq0
action_fits-returns-else-deep-eq0 t c =
    loop_fits c.args.parts.now c.args.deep c.in-Loop.n c.in-Loop.body c.in-Loop.end c.args.what.now c.in-Loop.is c.if-n-eq0.false c.if-deep-eq0.false c.statements_fit.result
    (subst (λ body. IsTrue c.statements_fit.result ↔ AreStatements c.args.parts.now (suc (c.args.deep - 1)) body) (c.as_slice.ensures ∙ c.get.ensures) c.statements_fit.ensures)
