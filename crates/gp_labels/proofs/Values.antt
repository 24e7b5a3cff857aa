-- The value of a key, and a map by key as it is filled.
use Rattle.std.proofs.Common.{◌≡◌, ◌⊎◌, inl, inr, ℕ, Bool, true, false, List, [], ◌∷◌, refl, sym, ap, ◌∙◌, Ordering}
use Rattle.std.specs.Prelude.{fold, map, String, string_bytes}
use Rattle.std.specs.Global.{Global}
use Rattle.std.specs.declared.cmp.Ordering.TheVariants.{Less, Equal}
use Rattle.std.specs.Ordering.{is_eq}
use Rattle.std.specs.Str.{bytes_eq}
use Rattle.std.specs.String.{string_cmp}
use Rattle.std.specs.BTreeMap.{insert_entry}
use Rattle.std.proofs.lemmas.Cmp.{nat_list_cmp_total, tied_itself}
use Rattle.std.proofs.lemmas.Slice.Eq.{bytes_eq-Decides}
use Rattle.std.proofs.lemmas.Map.Text.{is_eq-slice_cmp}
use Rattle.gp_isa.specs.declared.parts.Pair.{Pair}
use Rattle.gp_labels.specs.LabelSet.{with_pair, canonical_of, value_of, later, last_value}
use Rattle.gp_labels.specs.Entry.{pair_of_entry}
use Rattle.gp_labels.proofs.Puts.{key_cmp, IsLess, IsEqual, IsGreater, ordered, turned}

-- an entry is put as its pair is
pub put_entry : (entries : List (String Global × String Global)) (key value : String Global) →
    map pair_of_entry (insert_entry string_cmp entries key value) ≡ with_pair (map pair_of_entry entries) (record { key = string_bytes key; value = string_bytes value })
put_entry [] key value = refl
put_entry (e ∷ entries) key value = elim (ordered (key_cmp (string_bytes key) (string_bytes e.0))) [
  | IsLess is ↦ rw is refl
  | IsEqual is ↦ rw is refl
  | IsGreater is ↦ rw is (ap (λ l. pair_of_entry e ∷ l) (put_entry entries key value))
]

told : (b : Bool) → (b ≡ true) ⊎ (b ≡ false)
told true = inl refl
told false = inr refl

same_key : (a b : List ℕ) → bytes_eq a b ≡ true → a ≡ b
same_key a b h = (bytes_eq-Decides a b).0 h

equal_key : (a : List ℕ) → bytes_eq a a ≡ true
equal_key a = (bytes_eq-Decides a a).1 refl

apart : (a b : List ℕ) (o : Ordering) → key_cmp a b ≡ o → (o ≡ Equal → ⊥) → bytes_eq a b ≡ false
apart a b o is other = elim (told (bytes_eq a b)) [
  | inl t ↦ absurd (other (sym is ∙ ap (λ k. key_cmp a k) (sym (same_key a b t)) ∙ tied_itself nat_list_cmp_total a))
  | inr f ↦ f
]

-- two keys that are one text as the order says, and as `==` says
key_from_equal : (a b : List ℕ) → key_cmp a b ≡ Equal → a ≡ b
key_from_equal a b e = same_key a b (sym (is_eq-slice_cmp a b) ∙ ap is_eq e)

-- the value of a key among pairs that one more was put to
put_value : (key : List ℕ) (qs : List Pair) (p : Pair) → value_of key (with_pair qs p) ≡ later key (value_of key qs) p
put_value key [] p = refl
put_value key (q ∷ qs) p = elim (ordered (key_cmp p.key q.key)) [
  | IsLess e ↦ rw e refl
  | IsEqual e ↦
      let same : bytes_eq key p.key ≡ bytes_eq key q.key = ap (bytes_eq key) (key_from_equal p.key q.key e) in
      elim (told (bytes_eq key q.key)) [
        | inl t ↦ rw (e, same, t) refl
        | inr f ↦ rw (e, same, f) refl
      ]
  | IsGreater e ↦ elim (told (bytes_eq key q.key)) [
    | inl t ↦
        let other : bytes_eq key p.key ≡ false = ap (λ k. bytes_eq k p.key) (same_key key q.key t) ∙ apart q.key p.key Less (turned p.key q.key e) (λ x. absurd cc) in
        rw (e, t, other) refl
    | inr f ↦ rw (e, f) (put_value key qs p)
  ]
]

fold_value : (key : List ℕ) (set pairs : List Pair) → value_of key (fold with_pair set pairs) ≡ fold (later key) (value_of key set) pairs
fold_value key set [] = refl
fold_value key set (p ∷ pairs) = fold_value key (with_pair set p) pairs ∙ ap (λ found. fold (later key) found pairs) (put_value key set p)

pub canonical-value : (key : List ℕ) (pairs : List Pair) → value_of key (canonical_of pairs) ≡ last_value key pairs
unfolding canonical_of
canonical-value key pairs = fold_value key [] pairs
