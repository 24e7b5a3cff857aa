-- Calls of the system that are made one after another.
use Rattle.std.proofs.Common.{◌≡◌, ℕ, List, [], ◌∷◌, ◌++◌, map, Option, None, Some, sym, ap, subst, ◌∙◌, append_assoc, ◌⊎◌, inl, inr}
use Rattle.std.proofs.lemmas.List.{append-nil, map-append}
use Rattle.std.specs.Prelude.{OnErr, Result, Ok, Err}
use Rattle.gp_io.specs.OfSystem.{Call, Made, Taken, Written, Cut, NotRenamed, Removed, Makes, PutsInVain, CutShort, KeepsName}

pub Makes-append : (a b c : Option (List Call)) (xs ys : List Call) → Makes a xs b → Makes b ys c → Makes a (xs ++ ys) c
Makes-append None b c xs ys first next = tt
Makes-append (Some held) None c xs ys first next = absurd cc
Makes-append (Some held) (Some mid) c xs ys first next =
    let e : mid ≡ held ++ xs = cc in
    next ∙ ap (λ (l : List Call). Some (l ++ ys)) e ∙ ap (λ (l : List Call). Some l) (append_assoc held xs ys)

pub no_call : (a : Option (List Call)) → Makes a [] a
no_call None = tt
no_call (Some held) = ap (λ (l : List Call). Some l) (sym (append-nil held))

-- one name more that is taken
pub one_more_taken : (a b c : Option (List Call)) (names : List (List ℕ)) (name : List ℕ) → Makes a (map Taken names) b → Makes b (Taken name ∷ []) c → Makes a (map Taken (names ++ name ∷ [])) c
one_more_taken a b c names name first next = rw (map-append Taken names (name ∷ [])) (Makes-append a b c (map Taken names) (Taken name ∷ []) first next)

-- the calls behind the one that makes the file
pub behind : (a b c : Option (List Call)) (names : List (List ℕ)) (call : Call) (calls : List Call) → Makes a (map Taken names ++ call ∷ []) b → Makes b calls c → Makes a (map Taken names ++ call ∷ calls) c
behind a b c names call calls first next =
    let whole = Makes-append a b c (map Taken names ++ call ∷ []) calls first next in
    subst (λ (l : List Call). Makes a l c) (append_assoc (map Taken names) (call ∷ []) calls) whole

-- a file that was made and is removed
pub in_vain : (a b c d : Option (List Call)) (names : List (List ℕ)) (beside name bytes : List ℕ) → Makes a (map Taken names ++ Made beside ∷ []) b
    → Makes b (Cut bytes ∷ []) c ⊎ Makes b (Written bytes ∷ NotRenamed beside name ∷ []) c → Makes c (Removed beside ∷ []) d → PutsInVain name bytes a d
in_vain a b c d names beside name bytes made (inl cut) removed =
    CutShort names beside (behind a b d names (Made beside) (Cut bytes ∷ Removed beside ∷ []) made (Makes-append b c d (Cut bytes ∷ []) (Removed beside ∷ []) cut removed))
in_vain a b c d names beside name bytes made (inr kept) removed =
    KeepsName names beside (behind a b d names (Made beside) (Written bytes ∷ NotRenamed beside name ∷ Removed beside ∷ []) made (Makes-append b c d (Written bytes ∷ NotRenamed beside name ∷ []) (Removed beside ∷ []) kept removed))

-- what holds is told of an error too
pub on_err : {T E : Type 0} (r : Result T E) (P : Type 0) → P → OnErr r P
on_err (Ok t) P p = tt
on_err (Err e) P p = p

pub on_err_in_vain : {T E : Type 0} (r : Result T E) (a b c d : Option (List Call)) (names : List (List ℕ)) (beside name bytes : List ℕ) → Makes a (map Taken names ++ Made beside ∷ []) b
    → OnErr r (Makes b (Cut bytes ∷ []) c ⊎ Makes b (Written bytes ∷ NotRenamed beside name ∷ []) c) → Makes c (Removed beside ∷ []) d → OnErr r (PutsInVain name bytes a d)
on_err_in_vain (Ok t) a b c d names beside name bytes made calls removed = tt
on_err_in_vain (Err e) a b c d names beside name bytes made calls removed = in_vain a b c d names beside name bytes made calls removed
