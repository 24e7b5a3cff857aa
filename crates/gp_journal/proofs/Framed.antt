-- The frames of a trace's points name functions that are there.
use Rattle.std.proofs.Common.{◌⊎◌, ℕ, zero, suc, ◌<◌, ◌≤◌, List, [], ◌∷◌, length, map, flat_map, sym, subst, inl, inr}
use Rattle.std.specs.Prelude.{All}
use Rattle.std.proofs.lemmas.Bool.{cases_lt}
use Rattle.std.proofs.lemmas.List.Elements.{All-nil, All-cons, All-append, All-map, All-replicate}
use Rattle.gp_isa.specs.declared.frame.Frame.{Frame}
use Rattle.gp_isa.specs.declared.parts.Parts.{Parts}
use Rattle.gp_isa.specs.declared.statement.Stmt.{Stmt}
use Rattle.gp_isa.specs.declared.statement.What.TheOpen.{Work, Call, Loop, Send, Recv, Lock, Unlock, Spawn, Labels}
use Rattle.gp_isa.specs.Statement.{Action, action_of, line_of, most_bodies}
use Rattle.gp_isa.specs.Trace.{Instruction, Local, Point, point_at, called_at, repeated, points_at, points_of_body, body_of, trace_within, trace}
use Rattle.gp_isa.proofs.NamedThere.{trace_within-past}

module _ (parts : Parts) where
  abbrev pub IsThere : Frame → Type 0
  IsThere frame = frame.function < length parts.functions

  -- so it is in the stack of a point, and of each point of a list
  abbrev pub IsFramed : Point → Type 0
  IsFramed point = All IsThere point.stack

  abbrev pub AreFramed : List Point → Type 0
  AreFramed points = All IsFramed points

  turns : (n : ℕ) (points : List Point) → AreFramed points → AreFramed (repeated n points)
  turns zero points framed = All-nil IsFramed
  turns (suc n) points framed = All-append IsFramed points (repeated n points) framed (turns n points framed)

  module _ (calls : ℕ → List Point) (called : (h : ℕ) → AreFramed (calls h)) (f : ℕ) (there : f < length parts.functions) where
    one_frame : (line : ℕ) → All IsThere (record { function = f; line = line } ∷ [])
    one_frame line = All-cons IsThere (record { function = f; line = line }) [] there (All-nil IsThere)

    one_point : (line : ℕ) (instruction : Instruction) → AreFramed (point_at f line instruction ∷ [])
    one_point line instruction = All-cons IsFramed (point_at f line instruction) [] (one_frame line) (All-nil IsFramed)

    -- a call adds its frame last
    call_framed : (line : ℕ) (points : List Point) → AreFramed points → AreFramed (map (called_at f line) points)
    call_framed line points framed =
        All-map IsFramed (called_at f line) points (λ k d below. All-append IsThere _ (record { function = f; line = line } ∷ []) (framed k d below) (one_frame line))

    module _ (inner : List Stmt → List Point) (looped : (body : List Stmt) → AreFramed (inner body)) where
      action_framed : (line : ℕ) (a : Action) → AreFramed (points_at calls inner f line a)
      action_framed line (Work n) = All-replicate IsFramed n (point_at f line Local) (one_frame line)
      action_framed line (Call h) = call_framed line (calls h) (called h)
      action_framed line (Loop n body end) = turns n (inner body) (looped body)
      action_framed line (Send c) = one_point line _
      action_framed line (Recv c) = one_point line _
      action_framed line (Lock m) = one_point line _
      action_framed line (Unlock m) = one_point line _
      action_framed line (Spawn h) = one_point line _
      action_framed line (Labels s) = one_point line _

      body_framed : (body : List Stmt) → AreFramed (flat_map (λ s. points_at calls inner f (line_of s) (action_of s)) body)
      body_framed [] = All-nil IsFramed
      body_framed (s ∷ body) =
          All-append IsFramed (points_at calls inner f (line_of s) (action_of s)) (flat_map (λ t. points_at calls inner f (line_of t) (action_of t)) body)
          (action_framed (line_of s) (action_of s)) (body_framed body)

    nested_framed : (deep : ℕ) (body : List Stmt) → AreFramed (points_of_body calls f deep body)
    nested_framed zero body = All-nil IsFramed
    nested_framed (suc deep) body = body_framed (points_of_body calls f deep) (nested_framed deep) body

  within_framed : (depth f : ℕ) → (f < length parts.functions) ⊎ (length parts.functions ≤ f) → AreFramed (trace_within parts depth f)
  unfolding trace_within
  within_framed zero f (inl there) = nested_framed (λ _. []) (λ h. All-nil IsFramed) f there most_bodies (body_of parts f)
  within_framed (suc depth) f (inl there) =
      nested_framed (trace_within parts depth) (λ h. within_framed depth h (cases_lt h (length parts.functions))) f there most_bodies (body_of parts f)
  within_framed depth f (inr past) = subst AreFramed (sym (trace_within-past parts depth f past)) (All-nil IsFramed)

  pub trace_framed : (f : ℕ) → AreFramed (trace parts f)
  unfolding trace
  trace_framed f = within_framed (length parts.functions) f (cases_lt f (length parts.functions))
