-- A table with the size of each function's points, and how it is filled.
use Rattle.std.proofs.Common.{◌≡◌, ℕ, zero, suc, ◌+◌, ◌-◌, ◌^◌, ◌<◌, ◌≤◌, ◌⊎◌, true, ◌==◌, cond, List, [], length, get_or, set, replicate, None, refl, sym, ap, ◌∙◌, subst, inl, inr, arith, eq-eqb, get_or-set_other}
use Rattle.std.specs.List.{All}
use Rattle.std.proofs.lemmas.Bool.{cases_lt, cases_eq, ne_eqb}
use Rattle.std.proofs.lemmas.Grind.{get_or-set_at}
use Rattle.std.proofs.lemmas.List.{get_or_default, get_or_past, length-replicate, length-set}
use Rattle.gp_isa.specs.Statement.{most_bodies}
use Rattle.gp_isa.specs.declared.parts.Function.{Function}
use Rattle.gp_isa.specs.declared.parts.Parts.{Parts}
use Rattle.gp_isa.specs.declared.size.Size.{Size}
use Rattle.gp_isa.specs.declared.statement.Stmt.{Stmt}
use Rattle.gp_isa.specs.Calls.{callees, first_recursive}
use Rattle.gp_isa.specs.InLimits.{AreInLimits}
use Rattle.gp_isa.specs.Size.{most_frames}
use Rattle.gp_isa.specs.Trace.{Point, points_of_body, body_of, trace}
use Rattle.gp_isa.specs.kept.Sizes.{size_of, no_size, AreSizes, AreSomeSizes}
use Rattle.gp_isa.specs.kept.Walks.{Done}
use Rattle.gp_isa.specs.kept.Ways.{is_among}
use Rattle.gp_isa.proofs.Bodies.{body_of-within}
use Rattle.gp_isa.proofs.Depth.{same_points, calls_followed, no_trace}
use Rattle.gp_isa.proofs.Frames.{most_frames-trace}
use Rattle.gp_isa.proofs.Named.{among_there}

abbrev none : Size
none = no_size

-- the statements of a function that is looked up
pub body_there : (parts : Parts) (functions : List Function) (i : ℕ) (function : Function) (body : List Stmt) →
    functions ≡ parts.functions → i < length functions → function ≡ get_or functions i function → body ≡ function.body → body ≡ body_of parts i
body_there parts functions i function body same within here its =
    its ∙ sym (body_of-within parts i function (subst (λ fs. i < length fs) same within) (subst (λ fs. function ≡ get_or fs i function) same here))

-- a table of no sizes
no_sizes : (n f : ℕ) → get_or (replicate n none) f none ≡ none
no_sizes zero f = refl
no_sizes (suc n) zero = refl
no_sizes (suc n) (suc f) = no_sizes n f

pub some_sizes-none : (parts : Parts) (sizes : List Size) (done : ℕ → Type 0) → sizes ≡ replicate (length parts.functions) none → ((f : ℕ) → done f → ⊥) → AreSomeSizes parts sizes done
some_sizes-none parts sizes done is never = record {
  calls = λ _. [];
  count = ap length is ∙ length-replicate (length parts.functions) none;
  are = record { each = λ f. ap (λ (ss : List Size). get_or ss f none) is ∙ no_sizes (length parts.functions) f };
  whole = λ f within d. absurd (never f d);
  few = λ f. omega arith;
}

-- less is told of a table
pub some_sizes-less : (parts : Parts) (sizes : List Size) (done less : ℕ → Type 0) → AreSomeSizes parts sizes done →
    ((f : ℕ) → f < length parts.functions → less f → done f) → AreSomeSizes parts sizes less
some_sizes-less parts sizes done less are told = record {
  calls = are.calls;
  count = are.count;
  are = are.are;
  whole = λ f within l. are.whole f within (told f within l);
  few = are.few;
}

pub some_sizes-frames : (parts : Parts) (sizes : List Size) (done : ℕ → Type 0) → length parts.functions ≤ 256 → AreSomeSizes parts sizes done → All (λ s. s.frames < 2 ^ 32 - 1) sizes
some_sizes-frames parts sizes done few are k d within =
    omega (arith, ap (λ (s : Size). s.frames) (get_or_default sizes k d none within ∙ are.are.each k), are.few k)

-- a size more, where those of the functions called are there
module _ (parts : Parts) (limits : AreInLimits parts) (acyclic : first_recursive parts ≡ None) (sizes : List Size) (done : ℕ → Type 0) (are : AreSomeSizes parts sizes done) (f : ℕ) where
  abbrev points_with : ℕ → List Point
  points_with k = cond (k == f) (trace parts f) (are.calls k)

  with_here : (k : ℕ) → k ≡ f → points_with k ≡ trace parts f
  with_here k same = ap (λ b. cond b (trace parts f) (are.calls k)) (eq-eqb k f same)

  with_others : (k : ℕ) → (k ≡ f → ⊥) → points_with k ≡ are.calls k
  with_others k other = ap (λ b. cond b (trace parts f) (are.calls k)) (ne_eqb k f other)

  size_is : (a : Size) → ((h : ℕ) → is_among h (callees parts f) ≡ true → done h) → a ≡ size_of (points_of_body are.calls f most_bodies (body_of parts f)) → a ≡ size_of (trace parts f)
  size_is a called is =
      is ∙ ap size_of (same_points are.calls (trace parts) f most_bodies (body_of parts f) (λ h calls. are.whole h (among_there parts limits f h calls) (called h calls)) ∙ sym (calls_followed parts acyclic f))

  pub some_sizes-more : (a : Size) → f < length parts.functions → ((h : ℕ) → is_among h (callees parts f) ≡ true → done h) →
      a ≡ size_of (points_of_body are.calls f most_bodies (body_of parts f)) → AreSomeSizes parts (set sizes f a) (λ k. done k ⊎ (k ≡ f))
  some_sizes-more a there called is = record {
    calls = points_with;
    count = length-set sizes f a ∙ are.count;
    are = record { each = λ k. each k (cases_eq k f) };
    whole = λ k within d. whole k within d (cases_eq k f);
    few = λ k. few k (cases_eq k f);
  }
    where
      each : (k : ℕ) → (k ≡ f) ⊎ (k ≡ f → ⊥) → get_or (set sizes f a) k none ≡ size_of (points_with k)
      each k (inl same) = get_or-set_at sizes f k a none same (omega (arith, are.count)) ∙ size_is a called is ∙ ap size_of (sym (with_here k same))
      each k (inr other) = get_or-set_other sizes f k a none other ∙ are.are.each k ∙ ap size_of (sym (with_others k other))

      whole : (k : ℕ) → k < length parts.functions → done k ⊎ (k ≡ f) → (k ≡ f) ⊎ (k ≡ f → ⊥) → points_with k ≡ trace parts k
      whole k within d (inl same) = with_here k same ∙ ap (trace parts) (sym same)
      whole k within (inl d) (inr other) = with_others k other ∙ are.whole k within d
      whole k within (inr same) (inr other) = absurd (other same)

      few : (k : ℕ) → (k ≡ f) ⊎ (k ≡ f → ⊥) → most_frames (points_with k) ≤ length parts.functions + 1
      few k (inl same) = subst (λ points. most_frames points ≤ length parts.functions + 1) (sym (with_here k same)) (most_frames-trace parts f)
      few k (inr other) = subst (λ points. most_frames points ≤ length parts.functions + 1) (sym (with_others k other)) (are.few k)

pub whole_sizes : (parts : Parts) → first_recursive parts ≡ None → (sizes : List Size) (done : ℕ → Type 0) → AreSomeSizes parts sizes done → ((f : ℕ) → done f) → AreSizes sizes (trace parts)
whole_sizes parts acyclic sizes done are all = record { each = λ f. at f (cases_lt f (length parts.functions)) }
  where
    at : (f : ℕ) → (f < length parts.functions) ⊎ (length parts.functions ≤ f) → get_or sizes f none ≡ size_of (trace parts f)
    at f (inl within) = are.are.each f ∙ ap size_of (are.whole f within (all f))
    at f (inr past) = get_or_past sizes f none (omega (arith, are.count)) ∙ ap size_of (sym (no_trace parts acyclic f past))

-- while the functions of a rank are done one after another
pub done_before : (ranks : List ℕ) (rank f k : ℕ) → Done ranks rank (f + 1) k → Done ranks rank f k ⊎ (k ≡ f)
done_before ranks rank f k (inl lower) = inl (inl lower)
done_before ranks rank f k (inr (same, below)) = at (cases_lt k f)
  where
    at : (k < f) ⊎ (f ≤ k) → Done ranks rank f k ⊎ (k ≡ f)
    at (inl less) = inl (inr (same, less))
    at (inr more) = inr (omega arith)

pub done_other : (ranks : List ℕ) (rank f k : ℕ) → (get_or ranks f 0 ≡ rank → ⊥) → Done ranks rank (f + 1) k → Done ranks rank f k
done_other ranks rank f k other (inl lower) = inl lower
done_other ranks rank f k other (inr (same, below)) = at (cases_lt k f)
  where
    at : (k < f) ⊎ (f ≤ k) → Done ranks rank f k
    at (inl less) = inr (same, less)
    at (inr more) = let here : k ≡ f = omega arith in absurd (other (subst (λ j. get_or ranks j 0 ≡ rank) here same))
