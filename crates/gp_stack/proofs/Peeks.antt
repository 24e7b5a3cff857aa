-- Looks at points, one piece after another.
use Rattle.std.proofs.Common.{◌≡◌, ◌^◌, ◌⊎◌, inl, inr, ◌<◌, ◌≤◌, ◌+◌, ◌-◌, ℕ, zero, suc, min, Bool, true, false, cond, List, [], ◌∷◌, ◌++◌, length, drop, map, replicate, Option, Some, None, refl, ap, ap₂, sym, ◌∙◌, arith, true≢false}
use Rattle.std.proofs.lemmas.Bool.{and_parts, cases_lt}
use Rattle.std.specs.List.{prefix_len}
use Rattle.gp_isa.specs.Size.{all_pass}
use Rattle.gp_isa.specs.declared.frame.Frame.{Frame}
use Rattle.gp_isa.specs.Trace.{Instruction, Local as LocalPoint, Labels, Send, Recv, Lock, Unlock, Spawn, Point, is_local}
use Rattle.gp_stack.specs.declared.peek.Peek.{Peek}
use Rattle.gp_stack.specs.declared.peek.Then.TheVariants.{Local, Over}
use Rattle.gp_stack.specs.declared.statement.Operation.{Operation}
use Rattle.gp_stack.specs.kept.Level.{called_from}
use Rattle.gp_stack.specs.Peek.{operation_of, then_is, first_of}
use Rattle.gp_stack.specs.kept.Looks.{steps, one_local, peek_of}

-- so many local points, and then what another look finds
abbrev pub plus : ℕ → Peek → Peek
plus n peek = record { local = n + peek.local; then = peek.then }

one_more : (n : ℕ) (peek other : Peek) → peek ≡ plus n other → record { local = peek.local + 1; then = peek.then } ≡ plus (n + 1) other
one_more n peek other e =
    let local : peek.local + 1 ≡ n + 1 + other.local = let l : peek.local ≡ n + other.local = ap (λ p. p.local) e in omega arith in
    let then' : peek.then ≡ other.then = ap (λ p. p.then) e in
    cc

none_more : (peek : Peek) → peek ≡ plus 0 peek
none_more peek = let local : peek.local ≡ 0 + peek.local = omega arith in ap (λ n. record { local = n; then = peek.then }) local

-- behind points that all are local the look goes on
pub peek_on : (xs ys : List (Option Operation)) (limit : ℕ) → (peek_of xs limit).then ≡ Over → peek_of (xs ++ ys) limit ≡ plus (peek_of xs limit).local (peek_of ys (limit - (peek_of xs limit).local))
peek_on [] ys limit over = let same : limit - 0 ≡ limit = omega arith in rw same (none_more (peek_of ys limit))
peek_on (None ∷ xs) ys zero over = cc
peek_on (None ∷ xs) ys (suc limit) over =
    let same : suc limit - ((peek_of xs limit).local + 1) ≡ limit - (peek_of xs limit).local = omega arith in
    rw same (one_more (peek_of xs limit).local (peek_of (xs ++ ys) limit) (peek_of ys (limit - (peek_of xs limit).local)) (peek_on xs ys limit over))
peek_on (Some o ∷ xs) ys limit over = cc

-- and ends at the first that isn't, or at the limit
pub peek_stop : (xs ys : List (Option Operation)) (limit : ℕ) → ((peek_of xs limit).then ≡ Over → ⊥) → peek_of (xs ++ ys) limit ≡ peek_of xs limit
peek_stop [] ys limit more = absurd (more refl)
peek_stop (None ∷ xs) ys zero more = refl
peek_stop (None ∷ xs) ys (suc limit) more = rw (peek_stop xs ys limit more) refl
peek_stop (Some o ∷ xs) ys limit more = refl

pub peek_le : (xs : List (Option Operation)) (limit : ℕ) → (peek_of xs limit).local ≤ limit
peek_le [] limit = omega arith
peek_le (None ∷ xs) zero = omega arith
peek_le (None ∷ xs) (suc limit) = let h : (peek_of xs limit).local ≤ limit = peek_le xs limit in omega arith
peek_le (Some o ∷ xs) limit = omega arith

pub peek_few : (xs : List (Option Operation)) (limit : ℕ) (seen : Peek) → seen ≡ peek_of xs limit → seen.local ≤ limit
peek_few xs limit seen is = rw is (peek_le xs limit)

kinds : (P : Bool → Option Operation → Type 0) → P true None → ((o : Operation) → P false (Some o)) → (i : Instruction) → P (is_local i) (operation_of i)
kinds P l s LocalPoint = l
kinds P l s (Labels set) = l
kinds P l s (Send c) = s _
kinds P l s (Recv c) = s _
kinds P l s (Lock m) = s _
kinds P l s (Unlock m) = s _
kinds P l s (Spawn f) = s _

-- a look that comes to the end has found local points alone
pub peek_all : (xs : List (Option Operation)) (limit : ℕ) → (peek_of xs limit).then ≡ Over → xs ≡ replicate (peek_of xs limit).local None
peek_all [] limit over = refl
peek_all (None ∷ xs) zero over = cc
peek_all (None ∷ xs) (suc limit) over =
    let one : (peek_of xs limit).local + 1 ≡ suc (peek_of xs limit).local = omega arith in rw one (ap (λ ys. None ∷ ys) (peek_all xs limit over))
peek_all (Some o ∷ xs) limit over = cc

-- local points are shown as such
pub steps_local : (points : List Point) → all_pass is_local points ≡ true → steps points ≡ replicate (length points) None
steps_local [] all = refl
steps_local (p ∷ points) all =
    let both : (is_local p.instruction ≡ true) × (all_pass is_local points ≡ true) = and_parts (is_local p.instruction) (all_pass is_local points) all in
    ap₂ (λ o os. o ∷ os) (kinds (λ b o. b ≡ true → o ≡ None) (λ e. refl) (λ o e. absurd (true≢false (sym e))) p.instruction both.0) (steps_local points both.1)

pub work_more : (n limit : ℕ) → limit < n → record { local = limit; then = Local } ≡ peek_of (replicate n None) limit
work_more zero limit more = absurd (omega arith)
work_more (suc n) zero more = refl
work_more (suc n) (suc limit) more =
    rw (← work_more n limit (omega arith)) (ap (λ l. record { local = l; then = Local }) (omega arith))

-- more than a number of 64 bits is more than the limit
pub past_limit : (n limit : ℕ) → (n < 2 ^ 64 → ⊥) → limit < 2 ^ 64 → limit < n
past_limit n limit past few = at (cases_lt n (2 ^ 64))
  where
    at : (n < 2 ^ 64) ⊎ (2 ^ 64 ≤ n) → limit < n
    at (inl fits) = absurd (past fits)
    at (inr more) = omega arith

pub work_all : (n limit : ℕ) → n ≤ limit → record { local = n; then = Over } ≡ peek_of (replicate n None) limit
work_all zero limit few = refl
work_all (suc n) zero few = absurd (omega arith)
work_all (suc n) (suc limit) few =
    rw (← work_all n limit (omega arith)) (ap (λ l. record { local = l; then = Over }) (omega arith))

pub steps_called : (frames : List Frame) (points : List Point) → steps (map (called_from frames) points) ≡ steps points
steps_called frames [] = refl
steps_called frames (p ∷ points) = ap (λ xs. operation_of p.instruction ∷ xs) (steps_called frames points)

-- what is found so far: so many local points, and then it goes on with the rest
pub record Sees (xs : List (Option Operation)) (limit : ℕ) (n : ℕ) (rest : List (Option Operation)) : Type 0 where
  pub finds : peek_of xs limit ≡ plus n (peek_of rest (limit - n))
  pub few : n ≤ limit

pub sees_none : (xs : List (Option Operation)) (limit : ℕ) → Sees xs limit 0 xs
sees_none xs limit = record { finds = let same : limit - 0 ≡ limit = omega arith in rw same (none_more (peek_of xs limit)); few = omega arith }

pub sees_on : (xs rest ys zs : List (Option Operation)) (limit n : ℕ) (seen : Peek) → Sees xs limit n rest → rest ≡ ys ++ zs → seen ≡ peek_of ys (limit - n) → seen.then ≡ Over → Sees xs limit (n + seen.local) zs
sees_on xs rest ys zs limit n seen sees split is over =
    let found : peek_of rest (limit - n) ≡ plus seen.local (peek_of zs (limit - n - seen.local)) = rw (split, is) (peek_on ys zs (limit - n) (sym (ap (λ p. p.then) is) ∙ over)) in
    let few : seen.local ≤ limit - n = rw is (peek_le ys (limit - n)) in
    let same : limit - n - seen.local ≡ limit - (n + seen.local) = omega arith in
    let here : n ≤ limit = sees.few in
    record {
      finds = sees.finds ∙ (ap (plus n) (found ∙ ap (λ l. plus seen.local (peek_of zs l)) same) ∙ ap (λ l. record { local = l; then = (peek_of zs (limit - (n + seen.local))).then }) (omega arith));
      few = omega arith;
    }

pub sees_stop : (xs rest ys zs : List (Option Operation)) (limit n : ℕ) (seen : Peek) → Sees xs limit n rest → rest ≡ ys ++ zs → seen ≡ peek_of ys (limit - n) → (seen.then ≡ Over → ⊥) → plus n seen ≡ peek_of xs limit
sees_stop xs rest ys zs limit n seen sees split is more =
    let found : peek_of rest (limit - n) ≡ seen = rw (split, is) (peek_stop ys zs (limit - n) (λ e. more (ap (λ p. p.then) is ∙ e))) in
    sym (sees.finds ∙ ap (plus n) found)

pub sees_end : (xs : List (Option Operation)) (limit n : ℕ) → Sees xs limit n [] → record { local = n; then = Over } ≡ peek_of xs limit
sees_end xs limit n sees = sym (sees.finds ∙ ap (λ l. record { local = l; then = Over }) (omega arith))

-- what a look finds, told by the points
pub peek_local : (points : List Point) (limit : ℕ) → (peek_of (steps points) limit).local ≡ min limit (prefix_len (λ point. is_local point.instruction) points)
peek_local [] limit = omega arith
peek_local (p ∷ points) limit =
    kinds (λ b o. (peek_of (o ∷ steps points) limit).local ≡ min limit (cond b (1 + prefix_len (λ point. is_local point.instruction) points) 0))
    (at_local limit (λ l. peek_local points l)) (λ o. omega arith) p.instruction
  where
    at_local : (l : ℕ) → ((k : ℕ) → (peek_of (steps points) k).local ≡ min k (prefix_len (λ point. is_local point.instruction) points)) →
        (one_local l (peek_of (steps points))).local ≡ min l (1 + prefix_len (λ point. is_local point.instruction) points)
    at_local zero r = omega arith
    at_local (suc k) r = let h : (peek_of (steps points) k).local ≡ min k (prefix_len (λ point. is_local point.instruction) points) = r k in omega arith

pub peek_then : (points : List Point) (limit : ℕ) → (peek_of (steps points) limit).then ≡ first_of (drop (peek_of (steps points) limit).local points)
peek_then [] limit = refl
peek_then (p ∷ points) limit =
    kinds (λ b o. operation_of p.instruction ≡ o → (peek_of (o ∷ steps points) limit).then ≡ first_of (drop (peek_of (o ∷ steps points) limit).local (p ∷ points)))
    (λ e. at_local limit e (λ l. peek_then points l)) (λ o e. ap then_is (sym e)) p.instruction refl
  where
    at_local : (l : ℕ) → operation_of p.instruction ≡ None → ((k : ℕ) → (peek_of (steps points) k).then ≡ first_of (drop (peek_of (steps points) k).local points)) →
        (one_local l (peek_of (steps points))).then ≡ first_of (drop (one_local l (peek_of (steps points))).local (p ∷ points))
    at_local zero e r = ap then_is (sym e)
    at_local (suc k) e r = let same : (peek_of (steps points) k).local + 1 ≡ suc (peek_of (steps points) k).local = omega arith in rw same (r k)
