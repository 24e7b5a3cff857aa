-- What statements call, and the marks that tell it.
use Rattle.std.proofs.Common.{◌≡◌, ℕ, zero, suc, ◌+◌, ◌-◌, ◌<◌, ◌⊎◌, Bool, true, false, ◌||◌, ◌==◌, List, [], ◌∷◌, ◌++◌, length, take, get_or, set, flat_map, refl, sym, ap, ◌∙◌, subst, inl, inr, arith, get_or-set_other, eq-eqb, length-append}
use Rattle.std.specs.List.{All}
use Rattle.std.proofs.lemmas.Bool.{cases_eq, ne_eqb, or_left, or_right}
use Rattle.std.proofs.lemmas.List.{take_more, flat_map_more, get_or_append_left, get_or-append-add}
use Rattle.std.proofs.lemmas.Grind.{get_or-set_at}
use Rattle.std.proofs.lemmas.List.Folds.{list_any-append}
use Rattle.gp_isa.specs.declared.statement.Stmt.{Stmt}
use Rattle.gp_isa.specs.declared.statement.What.{What}
use Rattle.gp_isa.specs.declared.statement.What.TheVariants as what
use Rattle.gp_isa.specs.Statement.{action, action_of}
use Rattle.gp_isa.proofs.Actions.{action-call, action-loop}
use Rattle.gp_isa.specs.Calls.{calls_of, calls_in}
use Rattle.gp_isa.specs.kept.Ways.{is_among, marked, AddsMarks}

module _ {X : Type 0} (P : ℕ → Type 0) (g : X → List ℕ) where
  all_left : (xs ys : List ℕ) → All P (xs ++ ys) → All P xs
  all_left xs ys all = λ k d within. subst P (get_or_append_left xs ys d k within) (all k d (omega (arith, length-append xs ys)))

  all_right : (xs ys : List ℕ) → All P (xs ++ ys) → All P ys
  all_right xs ys all = λ k d within. subst P (get_or-append-add xs ys k d) (all (length xs + k) d (omega (arith, length-append xs ys)))

  -- what holds of all numbers that elements give holds of those that one gives
  pub all_at : (xs : List X) (i : ℕ) (x : X) → i < length xs → x ≡ get_or xs i x → All P (flat_map g xs) → All P (g x)
  all_at [] i x within here all = absurd (omega arith)
  all_at (y ∷ xs) zero x within here all = subst (λ z. All P (g z)) (sym here) (all_left (g y) (flat_map g xs) all)
  all_at (y ∷ xs) (suc i) x within here all = all_at xs i x (omega arith) here (all_right (g y) (flat_map g xs) all)

abbrev pub calls_of_statement : ℕ → Stmt → List ℕ
calls_of_statement deep s = calls_of (calls_in deep) (action_of s)

pub calls_in-some : (deep : ℕ) (body : List Stmt) → 0 < deep → calls_in deep body ≡ calls_in (suc (deep - 1)) body
calls_in-some deep body some = let one : deep ≡ suc (deep - 1) = omega arith in ap (λ d. calls_in d body) one

pub calls_of-call : (inner : List Stmt → List ℕ) (w : What) (f : ℕ) → w ≡ what.Call f → calls_of inner (action w) ≡ f ∷ []
calls_of-call inner w f is = ap (λ w. calls_of inner (action w)) is ∙ ap (calls_of inner) (action-call f)

pub calls_of-loop : (inner : List Stmt → List ℕ) (w : What) (n : ℕ) (body : List Stmt) (end : ℕ) → w ≡ what.Loop n body end → calls_of inner (action w) ≡ inner body
calls_of-loop inner w n body end is = ap (λ w. calls_of inner (action w)) is ∙ ap (calls_of inner) (action-loop n body end)

or_none : (b : Bool) → b ≡ (b || false)
or_none true = refl
or_none false = refl

or_assoc : (a b c : Bool) → ((a || b) || c) ≡ (a || (b || c))
or_assoc true b c = refl
or_assoc false b c = refl

pub AddsMarks-none : (row : List Bool) → AddsMarks row row []
AddsMarks-none row = record { each = λ h. or_none (marked row h) }

pub AddsMarks-more : (old new newer : List Bool) (called more : List ℕ) → AddsMarks old new called → AddsMarks new newer more → AddsMarks old newer (called ++ more)
AddsMarks-more old new newer called more first second = record {
  each = λ h. second.each h ∙ ap (λ b. b || is_among h more) (first.each h) ∙ or_assoc (marked old h) (is_among h called) (is_among h more) ∙
      ap (λ b. marked old h || b) (sym (list_any-append (λ g. h == g) called more));
}

pub AddsMarks-one : (row : List Bool) (f : ℕ) → f < length row → AddsMarks row (set row f true) (f ∷ [])
AddsMarks-one row f within = record { each = λ h. at h (cases_eq h f) }
  where
    at : (h : ℕ) → (h ≡ f) ⊎ (h ≡ f → ⊥) → marked (set row f true) h ≡ (marked row h || ((h == f) || false))
    at h (inl same) = get_or-set_at row f h true false same within ∙ sym (or_right (marked row h) ((h == f) || false) (or_left (h == f) false (eq-eqb h f same)))
    at h (inr other) = get_or-set_other row f h true false other ∙ or_none (marked row h) ∙ ap (λ b. marked row h || (b || false)) (sym (ne_eqb h f other))

-- the calls of one statement more
pub calls_in-more : (deep : ℕ) (body : List Stmt) (i : ℕ) (s : Stmt) → i < length body → s ≡ get_or body i s →
    flat_map (calls_of_statement deep) (take (i + 1) body) ≡ flat_map (calls_of_statement deep) (take i body) ++ calls_of_statement deep s
calls_in-more deep body i s within here =
    ap (flat_map (calls_of_statement deep)) (take_more body i s within ∙ ap (λ t. take i body ++ t ∷ []) (sym here)) ∙
    sym (flat_map_more (calls_of_statement deep) [] (take i body) s)
