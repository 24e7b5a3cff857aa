-- Names in the order in which they were added, read through the references that are kept.
use Rattle.std.proofs.Common.{◌≡◌, inl, inr, ℕ, ◌+◌, Bool, true, false, not, ◌||◌, cond, List, [], ◌∷◌, ◌++◌, refl, sym, ap, ◌∙◌}
use Rattle.std.specs.Prelude.{map, position}
use Rattle.std.specs.List.{list_any, position_or_len}
use Rattle.std.proofs.lemmas.List.{length-map, map-append}
use Rattle.std.specs.Str.{bytes_eq}
use Rattle.gp_text.proofs.Told.{told}
use Rattle.gp_text.specs.Fault.{is_among}
use Rattle.gp_text.specs.Names.{with_name}

or_len-map : {A B : Type 0} (p : B → Bool) (f : A → B) (xs : List A) → position_or_len p (map f xs) ≡ position_or_len (λ x. p (f x)) xs
or_len-map p f [] = refl
or_len-map p f (x ∷ xs) = ap (λ n. cond (not (p (f x))) (1 + n) 0) (or_len-map p f xs)

pub position-map : {A B : Type 0} (p : B → Bool) (f : A → B) (xs : List A) → position p (map f xs) ≡ position (λ x. p (f x)) xs
position-map p f xs = rw (or_len-map p f xs, length-map xs f) refl

pub list_any-map : {A B : Type 0} (p : B → Bool) (f : A → B) (xs : List A) → list_any p (map f xs) ≡ list_any (λ x. p (f x)) xs
list_any-map p f [] = refl
list_any-map p f (x ∷ xs) = ap (λ b. p (f x) || b) (list_any-map p f xs)

-- the place of a name, and whether it is there, among names that are kept by reference
pub placed : {X : Type 0} (f : X → List ℕ) (name : List ℕ) (keys : List X) (now : List (List ℕ)) → map f keys ≡ now → position (λ k. bytes_eq name (f k)) keys ≡ position (bytes_eq name) now
placed f name keys now view = sym (position-map (bytes_eq name) f keys) ∙ ap (λ (names : List (List ℕ)). position (bytes_eq name) names) view

pub known : {X : Type 0} (f : X → List ℕ) (name : List ℕ) (keys : List X) (now : List (List ℕ)) → map f keys ≡ now → list_any (λ k. bytes_eq name (f k)) keys ≡ is_among name now
known f name keys now view = sym (list_any-map (bytes_eq name) f keys) ∙ ap (λ (names : List (List ℕ)). list_any (bytes_eq name) names) view

-- one more name
pub added : {X : Type 0} (f : X → List ℕ) (value : X) (old new : List X) (now : List (List ℕ)) → map f old ≡ now → new ≡ cond (list_any (λ k. bytes_eq (f value) (f k)) old) old (old ++ value ∷ []) → map f new ≡ with_name now (f value)
added f value old new now view is = elim (told (list_any (λ k. bytes_eq (f value) (f k)) old)) [
  | inl t ↦
      let same : new ≡ old = rw t at is in
      let among : is_among (f value) now ≡ true = sym (known f (f value) old now view) ∙ t in
      rw among (ap (map f) same ∙ view)
  | inr n ↦
      let more : new ≡ old ++ value ∷ [] = rw n at is in
      let among : is_among (f value) now ≡ false = sym (known f (f value) old now view) ∙ n in
      rw among (ap (map f) more ∙ map-append f old (value ∷ []) ∙ ap (λ (names : List (List ℕ)). names ++ f value ∷ []) view)
]
