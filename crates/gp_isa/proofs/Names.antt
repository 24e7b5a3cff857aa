-- Names of one space, taken one after another.
use Rattle.std.proofs.Common.{◌≡◌, ℕ, ◌+◌, ◌<◌, ◌≤◌, Bool, true, false, ◌||◌, List, [], ◌∷◌, ◌++◌, length, map, take, get_or, sym, refl, ap, ◌∙◌, subst, arith, true≢false}
use Rattle.std.specs.List.{Any, IsDistinct, list_any}
use Rattle.std.specs.Str.{bytes_eq}
use Rattle.std.proofs.lemmas.List.{get_or-map, length-map, map-append, length-take-le, get_or-take, take_more}
use Rattle.std.proofs.lemmas.List.Elements.{All-nil, All-push}
use Rattle.std.proofs.lemmas.List.Folds.{Any-from_list_any}
use Rattle.std.proofs.lemmas.Map.Keys.{IsDistinct-push, apart_from_distinct}
use Rattle.std.proofs.lemmas.Cmp.{nat_list_eq_equiv}
use Rattle.gp_isa.specs.InLimits.{AreNames}

pub no_names : AreNames []
unfolding IsDistinct
no_names = record { short = All-nil (λ name. length name ≤ 64); distinct = tt }

module _ {X : Type 0} (name_of : X → List ℕ) where
  list_any-map : (test : List ℕ → Bool) (xs : List X) → list_any test (map name_of xs) ≡ list_any (λ x. test (name_of x)) xs
  list_any-map test [] = refl
  list_any-map test (x ∷ xs) = ap (λ b. test (name_of x) || b) (list_any-map test xs)

  -- one name more
  pub names_more : (xs : List X) (i : ℕ) (x : X) (name : List ℕ) → i < length xs → x ≡ get_or xs i x → name ≡ name_of x → AreNames (map name_of (take i xs)) →
      length name ≤ 64 → list_any (λ y. bytes_eq name (name_of y)) (take i xs) ≡ false → AreNames (map name_of (take (i + 1) xs))
  names_more xs i x name within here its names short new = subst AreNames (sym longer) (record {
    short = All-push (λ other. length other ≤ 64) (map name_of (take i xs)) name names.short short;
    distinct = IsDistinct-push nat_list_eq_equiv (map name_of (take i xs)) name names.distinct (list_any-map (bytes_eq name) (take i xs) ∙ new);
  })
    where
      longer : map name_of (take (i + 1) xs) ≡ map name_of (take i xs) ++ name ∷ []
      longer =
          ap (map name_of) (take_more xs i x within ∙ ap (λ y. take i xs ++ y ∷ []) (sym here)) ∙
          map-append name_of (take i xs) (x ∷ []) ∙ ap (λ other. map name_of (take i xs) ++ other ∷ []) (sym its)

  module _ (xs : List X) (i : ℕ) (x : X) (name : List ℕ) (within : i < length xs) (here : x ≡ get_or xs i x) (its : name ≡ name_of x) where
    inside : i < length (map name_of xs)
    inside = omega (arith, length-map xs name_of)

    named : get_or (map name_of xs) i [] ≡ name
    named = get_or-map name_of xs i x [] within ∙ ap name_of (sym here) ∙ sym its

    pub long_name : 64 < length name → AreNames (map name_of xs) → ⊥
    long_name long names = omega (arith, names.short i [] inside, ap (λ (other : List ℕ). length other) named)

    -- a name that one before it has
    pub old_name : list_any (λ y. bytes_eq name (name_of y)) (take i xs) ≡ true → AreNames (map name_of xs) → ⊥
    old_name twice names = at (Any-from_list_any (λ y. bytes_eq name (name_of y)) (take i xs) twice)
      where
        at : Any (λ y. bytes_eq name (name_of y) ≡ true) (take i xs) → ⊥
        at (k, y, early, there, same) =
            let before : k < i = omega (arith, early, length-take-le i xs (omega arith)) in
            let first : get_or (map name_of xs) k [] ≡ name_of y =
            get_or-map name_of xs k y [] (omega arith) ∙ ap name_of (sym (get_or-take i xs k y before) ∙ there) in
            let apart : bytes_eq (name_of y) name ≡ false =
            sym (ap (λ other. bytes_eq other name) first) ∙ sym (ap (λ other. bytes_eq (get_or (map name_of xs) k []) other) named) ∙
            apart_from_distinct bytes_eq (map name_of xs) k i [] names.distinct before inside in
            true≢false (sym same ∙ nat_list_eq_equiv.symm name (name_of y) ∙ apart)
