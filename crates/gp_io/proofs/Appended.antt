-- Pieces that are appended one after another.
use Rattle.std.proofs.Common.{◌≡◌, ℕ, ◌+◌, ◌-◌, ◌≤◌, List, [], ◌++◌, length, take, drop, Option, None, Some, sym, ap, subst, ◌∙◌, append_assoc, append-nil, arith, length-drop}
use Rattle.std.proofs.lemmas.List.{take_all}
use Rattle.std.proofs.Math.Seq.{take-add}
use Rattle.gp_io.specs.Outside.{Appends, AppendsSome}

-- nothing yet
pub Appends-nil : (a : Option (List ℕ)) → Appends a [] a
Appends-nil None = tt
Appends-nil (Some held) = ap (λ (l : List ℕ). Some l) (sym (append-nil held))

-- two pieces in a row are one piece
pub Appends-append : (a b c : Option (List ℕ)) (xs ys : List ℕ) → Appends a xs b → Appends b ys c → Appends a (xs ++ ys) c
Appends-append None b c xs ys first next = tt
Appends-append (Some held) None c xs ys first next = absurd cc
Appends-append (Some held) (Some mid) c xs ys first next =
    let e : mid ≡ held ++ xs = cc in
    next ∙ ap (λ (l : List ℕ). Some (l ++ ys)) e ∙ ap (λ (l : List ℕ). Some l) (append_assoc held xs ys)

-- the rest of a piece, as it is written
rest_is : (piece : List ℕ) (at : ℕ) → take (length piece - at) (drop at piece) ≡ drop at piece
rest_is piece at = take_all (length piece - at) (drop at piece) (omega (arith, length-drop at piece))

module _ (a b c : Option (List ℕ)) (piece : List ℕ) (at : ℕ) where
  -- the first bytes, and n of the rest
  pub more : (n : ℕ) → Appends a (take at piece) b → Appends b (take n (take (length piece - at) (drop at piece))) c → Appends a (take (at + n) piece) c
  more n first next =
      let rest = subst (λ (l : List ℕ). Appends b (take n l) c) (rest_is piece at) next in
      subst (λ (l : List ℕ). Appends a l c) (sym (take-add at n piece)) (Appends-append a b c (take at piece) (take n (drop at piece)) first rest)

  -- the first bytes, and some of the rest
  pub some_more : Appends a (take at piece) b → AppendsSome b (take (length piece - at) (drop at piece)) c → AppendsSome a piece c
  some_more first next = (at + next.0, more next.0 first next.1)

-- all bytes
pub all_of : (a b : Option (List ℕ)) (piece : List ℕ) (at : ℕ) → length piece ≤ at → Appends a (take at piece) b → Appends a piece b
all_of a b piece at past so_far = subst (λ (l : List ℕ). Appends a l b) (take_all at piece past) so_far
