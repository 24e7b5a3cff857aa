-- Stacks have no more frames than the program is deep.
use Rattle.std.proofs.Common.{◌≡◌, ◌⊎◌, inl, inr, ◌<◌, ◌≤◌, ℕ, zero, suc, List, [], ◌∷◌, length, get_or, Option, Some, None, slice_get, refl, ap, arith}
use Rattle.std.specs.Prelude.{max}
use Rattle.std.proofs.lemmas.Bool.{cases_lt}
use Rattle.std.proofs.lemmas.Option.{slice_get_within}
use Rattle.gp_isa.specs.declared.parts.Parts.{Parts}
use Rattle.gp_isa.specs.declared.parts.Function.{Function}
use Rattle.gp_isa.specs.declared.statement.Stmt.{Stmt}
use Rattle.gp_isa.specs.Statement.{most_bodies}
use Rattle.gp_isa.specs.Size.{most_frames, most_frames_below, depth_of}
use Rattle.gp_isa.specs.Trace.{Point, trace, trace_within, body_of, points_of, points_of_body}
use Rattle.gp_stack.specs.Goroutine.{no_point, next_point, stack_of}

below_most : (traces : ℕ → List Point) (n f : ℕ) → f < n → most_frames (traces f) ≤ most_frames_below traces n
below_most traces zero f within = absurd (omega arith)
below_most traces (suc n) f within = at (cases_lt f n) (below_most traces n f)
  where
    at : (f < n) ⊎ (n ≤ f) → (f < n → most_frames (traces f) ≤ most_frames_below traces n) → most_frames (traces f) ≤ max (most_frames_below traces n) (most_frames (traces n))
    at (inl less) rest = let h : most_frames (traces f) ≤ most_frames_below traces n = rest less in omega arith
    at (inr more) rest =
        let same : f ≡ n = omega arith in
        let h : most_frames (traces f) ≡ most_frames (traces n) = ap (λ g. most_frames (traces g)) same in omega arith

-- a stack of some points has no more than their most
frames_of : (points : List Point) (count : ℕ) → length (get_or points count no_point).stack ≤ most_frames points
frames_of [] count = omega arith
frames_of (point ∷ points) zero = omega arith
frames_of (point ∷ points) (suc count) = let rest = frames_of points count in omega arith

-- past the functions there are no points
no_body : (parts : Parts) (f : ℕ) (found : Option Function) → slice_get parts.functions f ≡ found → length parts.functions ≤ f → body_of parts f ≡ []
no_body parts f None e past = ap (λ (o : Option Function). elim o as (λ _. List Stmt) [ Some function ↦ function.body | None ↦ [] ]) e
no_body parts f (Some function) e past = let within = slice_get_within parts.functions f function e in absurd (omega arith)

no_points : (parts : Parts) (calls : ℕ → List Point) (f : ℕ) → length parts.functions ≤ f → points_of parts calls f ≡ []
no_points parts calls f past = ap (points_of_body calls f most_bodies) (no_body parts f (slice_get parts.functions f) refl past)

within_none : (parts : Parts) (depth f : ℕ) → length parts.functions ≤ f → trace_within parts depth f ≡ []
unfolding trace_within
within_none parts zero f past = no_points parts (λ _. []) f past
within_none parts (suc depth) f past = no_points parts (trace_within parts depth) f past

trace_none : (parts : Parts) (f : ℕ) → length parts.functions ≤ f → trace parts f ≡ []
unfolding trace
trace_none parts f past = within_none parts (length parts.functions) f past

-- the stack of whoever runs a function of a program
pub stack_short : (parts : Parts) (f count : ℕ) → length (stack_of (trace parts f) count) ≤ depth_of parts
unfolding stack_of next_point
stack_short parts f count = by (cases_lt f (length parts.functions))
  where
    by : (f < length parts.functions) ⊎ (length parts.functions ≤ f) → length (get_or (trace parts f) count no_point).stack ≤ depth_of parts
    by (inl within) = let few = below_most (trace parts) (length parts.functions) f within in let one = frames_of (trace parts f) count in omega arith
    by (inr past) =
        let none : length (get_or (trace parts f) count no_point).stack ≡ 0 = ap (λ (points : List Point). length (get_or points count no_point).stack) (trace_none parts f past) in
        omega arith
