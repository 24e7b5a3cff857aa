-- Packed numbers, from those behind the first one.
use Rattle.std.proofs.Common.{◌≡◌, true, false, eqb, ℕ, zero, suc, ◌<◌, ◌≤◌, List, [], ◌∷◌, ◌++◌, length, Some, Result, Ok, Err, map, refl, sym, ap, ◌∙◌, append_assoc, arith}
use Rattle.std.specs.Result.{result_err}
use Rattle.std.proofs.lemmas.Bool.{eqb-true}
use Rattle.std.proofs.lemmas.List.{append-nil, map_push}
use Rattle.gp_wire.specs.declared.cause.Cause.{Cause}
use Rattle.gp_wire.specs.Front.{◌>>=◌, number_at}
use Rattle.gp_wire.specs.Packed.{packed_within, packed_at}
use Rattle.gp_wire.proofs.FrontLemmas.{done, groups_at-shorter}

bind-same : {A B : Type 0} (r : Result A Cause) (f g : A → Result B Cause) → ((x : A) → r ≡ Ok x → f x ≡ g x) → (r >>= f) ≡ (r >>= g)
bind-same (Ok x) f g h = h x refl
bind-same (Err why) f g h = refl

abbrev behind : (List ℕ → Result (List ℕ) Cause) → ℕ × List ℕ → Result (List ℕ) Cause
behind others n = others n.1 >>= λ ns. Ok (n.0 ∷ ns)

packed_within-enough : (m n : ℕ) (bytes : List ℕ) → length bytes ≤ m → length bytes ≤ n → packed_within m bytes ≡ packed_within n bytes
unfolding packed_within
packed_within-enough zero zero bytes l k = refl
packed_within-enough zero (suc n) [] l k = refl
packed_within-enough zero (suc n) (b ∷ bytes) l k = absurd (omega arith)
packed_within-enough (suc m) zero [] l k = refl
packed_within-enough (suc m) zero (b ∷ bytes) l k = absurd (omega arith)
packed_within-enough (suc m) (suc n) [] l k = refl
packed_within-enough (suc m) (suc n) (b ∷ bytes) l k =
    bind-same (number_at (b ∷ bytes)) (behind (packed_within m)) (behind (packed_within n)) (λ x e.
    let shorter = groups_at-shorter 9 (b ∷ bytes) x e in
    ap (λ (r : Result (List ℕ) Cause). r >>= λ ns. Ok (x.0 ∷ ns)) (packed_within-enough m n x.1 (omega arith) (omega arith)))

pub packed_at-nil : packed_at [] ≡ Ok []
unfolding packed_at packed_within
packed_at-nil = refl

pub packed_at-step : (bytes : List ℕ) → 0 < length bytes → packed_at bytes ≡ (number_at bytes >>= λ n. packed_at n.1 >>= λ ns. Ok (n.0 ∷ ns))
unfolding packed_at packed_within
packed_at-step [] some = absurd (omega arith)
packed_at-step (b ∷ bytes) some =
    bind-same (number_at (b ∷ bytes)) (behind (packed_within (length bytes))) (behind (λ rest. packed_within (length rest) rest)) (λ x e.
    let shorter = groups_at-shorter 9 (b ∷ bytes) x e in
    ap (λ (r : Result (List ℕ) Cause). r >>= λ ns. Ok (x.0 ∷ ns)) (packed_within-enough (length bytes) (length x.1) x.1 (omega arith) (omega arith)))

-- the numbers before, and those of the rest
abbrev pub with_front : List ℕ → Result (List ℕ) Cause → Result (List ℕ) Cause
with_front front rest = rest >>= λ ns. Ok (front ++ ns)

regroup : (front : List ℕ) (n : ℕ) (rest : Result (List ℕ) Cause) → with_front front (rest >>= λ ns. Ok (n ∷ ns)) ≡ with_front (front ++ n ∷ []) rest
regroup front n (Ok ns) = ap done (sym (append_assoc front (n ∷ []) ns))
regroup front n (Err why) = refl

-- one number more
pub packed_more : (front bytes rest : List ℕ) (n : ℕ) (whole : Result (List ℕ) Cause) → 0 < length bytes → number_at bytes ≡ Ok (n, rest)
    → with_front front (packed_at bytes) ≡ whole → with_front (front ++ n ∷ []) (packed_at rest) ≡ whole
packed_more front bytes rest n whole some e so_far =
    let one : with_front front (packed_at bytes) ≡ with_front (front ++ n ∷ []) (packed_at rest) = rw (packed_at-step bytes some, e) (regroup front n (packed_at rest)) in
    sym one ∙ so_far

-- a number that can't be read
pub packed_stops : (front bytes : List ℕ) (why : Cause) (whole : Result (List ℕ) Cause) → 0 < length bytes → number_at bytes ≡ Err why
    → with_front front (packed_at bytes) ≡ whole → result_err whole ≡ Some why
packed_stops front bytes why whole some e so_far =
    let one : with_front front (packed_at bytes) ≡ Err why = rw (packed_at-step bytes some, e) refl in
    rw (← so_far, one) refl

-- no bytes are left
pub packed_ends : (front bytes : List ℕ) (whole : Result (List ℕ) Cause) → length bytes ≡ 0 → with_front front (packed_at bytes) ≡ whole → whole ≡ Ok front
packed_ends front [] whole none so_far =
    let one : with_front front (packed_at []) ≡ Ok front = rw packed_at-nil (ap done (append-nil front)) in
    sym so_far ∙ one
packed_ends front (b ∷ bytes) whole none so_far = absurd (omega arith)

starts : (r : Result (List ℕ) Cause) → with_front [] r ≡ r
starts (Ok ns) = refl
starts (Err why) = refl

pub packed_starts : (bytes : List ℕ) → with_front [] (packed_at bytes) ≡ packed_at bytes
packed_starts bytes = starts (packed_at bytes)

-- ---- whether bytes are left

pub some_left : {A : Type 0} (xs : List A) → false ≡ eqb (length xs) 0 → 0 < length xs
some_left [] e = absurd cc
some_left (x ∷ xs) e = omega arith

pub none_left : {A : Type 0} (xs : List A) → true ≡ eqb (length xs) 0 → length xs ≡ 0
none_left xs e = eqb-true (length xs) 0 (sym e)

-- one more of what stands for numbers
pub pushed_word : {T : Type 0} (f : ℕ → T) (new mid old : List T) (seen : List ℕ) (w : ℕ) (r : T) → new ≡ mid ++ r ∷ [] → r ≡ f w → mid ≡ old ++ map f seen
    → new ≡ old ++ map f (seen ++ w ∷ [])
pushed_word f new mid old seen w r e1 e2 e3 =
    e1 ∙ ap (λ x. mid ++ x ∷ []) e2 ∙ ap (λ m. m ++ f w ∷ []) e3
    ∙ append_assoc old (map f seen) (f w ∷ []) ∙ ap (λ x. old ++ x) (sym (map_push f seen w))
