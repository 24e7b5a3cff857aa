-- Each call followed deeper adds one frame at most.
use Rattle.std.proofs.Common.{ℕ, zero, suc, ◌+◌, ◌≤◌, List, [], ◌∷◌, length, map, replicate, flat_map, arith}
use Rattle.gp_isa.specs.declared.parts.Parts.{Parts}
use Rattle.gp_isa.specs.declared.statement.Stmt.{Stmt}
use Rattle.gp_isa.specs.declared.statement.What.TheOpen.{Work, Call, Loop, Send, Recv, Lock, Unlock, Spawn, Labels}
use Rattle.gp_isa.specs.Statement.{Action, action_of, line_of, most_bodies}
use Rattle.gp_isa.specs.Trace.{Point, Local, point_at, called_at, repeated, points_at, points_of_body, body_of, trace_within, trace}
use Rattle.gp_isa.specs.Size.{most_frames}
use Rattle.gp_isa.proofs.Sizes.{most_frames-append, most_frames-called, most_frames-repeated, most_frames-work}

module _ (calls : ℕ → List Point) (bound : ℕ) (few : (h : ℕ) → most_frames (calls h) ≤ bound) (f : ℕ) where
  called_few : (line : ℕ) (points : List Point) → most_frames points ≤ bound → most_frames (map (called_at f line) points) ≤ bound + 1
  called_few line [] few = omega arith
  called_few line (p ∷ points) few = omega (arith, most_frames-called f line p points)

  module _ (inner : List Stmt → List Point) (inner_few : (body : List Stmt) → most_frames (inner body) ≤ bound + 1) where
    repeated_few : (n : ℕ) (body : List Stmt) → most_frames (repeated n (inner body)) ≤ bound + 1
    repeated_few zero body = omega arith
    repeated_few (suc n) body = omega (arith, most_frames-repeated n (inner body), inner_few body)

    work_few : (n line : ℕ) → most_frames (replicate n (point_at f line Local)) ≤ bound + 1
    work_few zero line = omega arith
    work_few (suc n) line = omega (arith, most_frames-work n f line)

    action_few : (line : ℕ) (a : Action) → most_frames (points_at calls inner f line a) ≤ bound + 1
    action_few line (Work n) = work_few n line
    action_few line (Call h) = called_few line (calls h) (few h)
    action_few line (Loop n body end) = repeated_few n body
    action_few line (Send c) = omega arith
    action_few line (Recv c) = omega arith
    action_few line (Lock m) = omega arith
    action_few line (Unlock m) = omega arith
    action_few line (Spawn h) = omega arith
    action_few line (Labels s) = omega arith

    body_few : (body : List Stmt) → most_frames (flat_map (λ s. points_at calls inner f (line_of s) (action_of s)) body) ≤ bound + 1
    body_few [] = omega arith
    body_few (s ∷ body) =
        omega (
          arith,
          most_frames-append (points_at calls inner f (line_of s) (action_of s)) (flat_map (λ s. points_at calls inner f (line_of s) (action_of s)) body),
          action_few (line_of s) (action_of s),
          body_few body,
        )

  nested_few : (deep : ℕ) (body : List Stmt) → most_frames (points_of_body calls f deep body) ≤ bound + 1
  nested_few zero body = omega arith
  nested_few (suc deep) body = body_few (points_of_body calls f deep) (nested_few deep) body

pub most_frames-trace_within : (parts : Parts) (depth f : ℕ) → most_frames (trace_within parts depth f) ≤ depth + 1
unfolding trace_within
most_frames-trace_within parts zero f = nested_few (λ _. []) 0 (λ _. omega arith) f most_bodies (body_of parts f)
most_frames-trace_within parts (suc depth) f =
    omega (arith, nested_few (trace_within parts depth) (depth + 1) (most_frames-trace_within parts depth) f most_bodies (body_of parts f))

pub most_frames-trace : (parts : Parts) (f : ℕ) → most_frames (trace parts f) ≤ length parts.functions + 1
unfolding trace
most_frames-trace parts f = most_frames-trace_within parts (length parts.functions) f
