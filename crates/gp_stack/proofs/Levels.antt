-- Statements at places of a body.
use Rattle.std.proofs.Common.{◌≡◌, ◌-◌, ◌==◌, ℕ, zero, suc, true, false, List, [], ◌∷◌, ◌++◌, Some, length, drop, reverse, refl, ap, sym, ◌∙◌, arith}
use Rattle.std.proofs.lemmas.List.{reverse-append}
use Rattle.std.specs.Prelude.{slice_get}
use Rattle.gp_isa.specs.declared.parts.Parts.{Parts}
use Rattle.gp_isa.specs.declared.statement.Stmt.{Stmt, out-Stmt}
use Rattle.gp_isa.specs.declared.statement.What.{What}
use Rattle.gp_isa.specs.Statement.{Action, action}
use Rattle.gp_isa.specs.Trace.{body_of}
use Rattle.gp_stack.specs.declared.level.Level.{Level}
use Rattle.gp_stack.specs.kept.Level.{is_base, body_inside, loop_body, body_at}
use Rattle.gp_stack.specs.kept.Ahead.{Does}

-- the statement that was found, and what it does
pub does_what : (body : List Stmt) (at : ℕ) (s : Stmt) (w : What) (a : Action) → Some s ≡ slice_get body at → (out-Stmt s).what ≡ w → action w ≡ a → Does body at a
does_what body at s w a found is opened = record { statement = s; stands = sym found; does = ap action is ∙ opened }

-- the body of the loop that a statement is
pub inside_does : (body : List Stmt) (at : ℕ) (a : Action) → Does body at a → body_inside body at ≡ loop_body a
inside_does body at a d = rw (body_inside, d.stands, d.does) refl

-- what is left of a body begins with the statement there
pub drop_at : {X : Type 0} (xs : List X) (at : ℕ) (x : X) → slice_get xs at ≡ Some x → drop at xs ≡ x ∷ drop (suc at) xs
drop_at [] at x found = cc
drop_at (y ∷ xs) zero x found = cc
drop_at (y ∷ xs) (suc at) x found = drop_at xs at x found

-- the last level of those around is the innermost
pub reverse_last : {X : Type 0} (xs ys : List X) (x : X) → xs ≡ ys ++ x ∷ [] → reverse xs ≡ x ∷ reverse ys
reverse_last xs ys x e = ap reverse e ∙ reverse-append ys (x ∷ [])

eqb_refl : (n m : ℕ) → n ≡ m → (n == m) ≡ true
eqb_refl n m e = grind arith

eqb_not : (n m : ℕ) → (n ≡ m → ⊥) → (n == m) ≡ false
eqb_not n m e = grind arith

pub base_true : (level : Level) → level.loops ≡ 8 → is_base level ≡ true
base_true level e = eqb_refl level.loops 8 e

pub base_false : (level : Level) → (level.loops ≡ 8 → ⊥) → is_base level ≡ false
base_false level e = eqb_not level.loops 8 e

pub body_outermost : (parts : Parts) (level : Level) (outer : List Level) → length outer ≡ 0 → body_of parts level.function ≡ body_at parts level (reverse outer)
unfolding body_at
body_outermost parts level [] e = refl
body_outermost parts level (o ∷ outer) e = absurd (omega arith)

based : (parts : Parts) (level : Level) (levels : List Level) → is_base level ≡ true → body_of parts level.function ≡ body_at parts level levels
unfolding body_at
based parts level [] e = refl
based parts level (o ∷ levels) e = rw e refl

pub body_base : (parts : Parts) (level : Level) (outer : List Level) → level.loops ≡ 8 → body_of parts level.function ≡ body_at parts level (reverse outer)
body_base parts level outer e = based parts level (reverse outer) (base_true level e)

-- the body of a loop is found in that around it
pub looped : (parts : Parts) (level around : Level) (levels : List Level) → is_base level ≡ false → body_inside (body_at parts around levels) (around.at - 1) ≡ body_at parts level (around ∷ levels)
unfolding body_at
looped parts level around levels e = rw e refl

pub body_loop : (parts : Parts) (level around : Level) (outer inner : List Level) → outer ≡ inner ++ around ∷ [] → (level.loops ≡ 8 → ⊥) → body_inside (body_at parts around (reverse inner)) (around.at - 1) ≡ body_at parts level (reverse outer)
body_loop parts level around outer inner split e =
    rw (reverse_last outer inner around split) (looped parts level around (reverse inner) (base_false level e))
