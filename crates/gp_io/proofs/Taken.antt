-- Pieces that are taken one after another from the front of what was left.
use Rattle.std.proofs.Common.{◌≡◌, ℕ, ◌-◌, ◌≤◌, List, ◌++◌, length, Option, None, Some, subst, arith, length-append, append_assoc}
use Rattle.std.proofs.lemmas.Grind.{common_steps}
use Rattle.gp_io.specs.Outside.{Takes, TakesAtMost}

-- two pieces in a row are one piece
pub Takes-append : (a b c : Option (List ℕ)) (xs ys : List ℕ) → Takes a xs b → Takes b ys c → Takes a (xs ++ ys) c
Takes-append None b c xs ys first next = tt
Takes-append (Some held) b c xs ys first next =
    let more = subst (λ (left : Option (List ℕ)). Takes left ys c) first.2 next in
    (more.0, grind (arith, common_steps, append_assoc xs ys more.0, first.1, more.1), more.2)

-- after a piece of n bytes, at most the others
pub TakesAtMost-after : (most n : ℕ) (a b c : Option (List ℕ)) (xs : List ℕ) → length xs ≡ n → n ≤ most → Takes a xs b → TakesAtMost (most - n) b c → TakesAtMost most a c
TakesAtMost-after most n a b c xs long within first next =
    (xs ++ next.0, omega (arith, length-append xs next.0), Takes-append a b c xs next.0 first next.2)
