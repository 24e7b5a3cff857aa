-- What the points of a trace name is there.
use Rattle.std.proofs.Common.{◌≡◌, ℕ, zero, suc, ◌≤◌, List, [], ◌∷◌, length, Option, Some, None, flat_map, ap}
use Rattle.std.specs.Prelude.{slice_get, All}
use Rattle.std.proofs.lemmas.Option.{slice_get_past}
use Rattle.std.proofs.lemmas.List.Elements.{All-nil, All-cons, All-head, All-tail, All-append, All-map, All-replicate}
use Rattle.gp_isa.specs.declared.parts.Function.{Function}
use Rattle.gp_isa.specs.declared.parts.Parts.{Parts}
use Rattle.gp_isa.specs.declared.statement.Stmt.{Stmt}
use Rattle.gp_isa.specs.declared.statement.What.TheOpen.{Work, Call, Loop, Send, Recv, Lock, Unlock, Spawn, Labels}
use Rattle.gp_isa.specs.InLimits.{IsAction, AreStatements, AreInLimits}
use Rattle.gp_isa.specs.Statement.{Action, action_of, line_of, most_bodies}
use Rattle.gp_isa.specs.Trace.{Instruction, Local, Point, point_at, called_at, repeated, points_at, points_of_body, body_of, trace_within, trace}
use Rattle.gp_isa.specs.Names.{IsThere, AreThere, TracesNameWhatIsThere}

module _ (parts : Parts) where
  abbrev Names : Point → Type 0
  Names point = IsThere parts point.instruction

  one_point : (f line : ℕ) (instruction : Instruction) → IsThere parts instruction → AreThere parts (point_at f line instruction ∷ [])
  one_point f line instruction there = All-cons Names (point_at f line instruction) [] there (All-nil Names)

  turns : (n : ℕ) (points : List Point) → AreThere parts points → AreThere parts (repeated n points)
  turns zero points there = All-nil Names
  turns (suc n) points there = All-append Names points (repeated n points) there (turns n points there)

  module _ (calls : ℕ → List Point) (called : (h : ℕ) → AreThere parts (calls h)) (f : ℕ) where
    module _ (inner : List Stmt → List Point) (Within : List Stmt → Type 0) (looped : (body : List Stmt) → Within body → AreThere parts (inner body)) where
      action_names : (line : ℕ) (a : Action) → IsAction parts Within a → AreThere parts (points_at calls inner f line a)
      action_names line (Work n) is = All-replicate Names n (point_at f line Local) tt
      action_names line (Call h) is = All-map Names (called_at f line) (calls h) (called h)
      action_names line (Loop n body end) is = turns n (inner body) (looped body is.1)
      action_names line (Send c) is = one_point f line _ is
      action_names line (Recv c) is = one_point f line _ is
      action_names line (Lock m) is = one_point f line _ is
      action_names line (Unlock m) is = one_point f line _ is
      action_names line (Spawn h) is = one_point f line _ is
      action_names line (Labels s) is = one_point f line _ is.1

      abbrev IsStatement : Stmt → Type 0
      IsStatement s = IsAction parts Within (action_of s)

      body_names : (body : List Stmt) → All IsStatement body → AreThere parts (flat_map (λ s. points_at calls inner f (line_of s) (action_of s)) body)
      body_names [] are = All-nil Names
      body_names (s ∷ body) are =
          All-append Names (points_at calls inner f (line_of s) (action_of s)) (flat_map (λ t. points_at calls inner f (line_of t) (action_of t)) body)
          (action_names (line_of s) (action_of s) (All-head IsStatement s body are)) (body_names body (All-tail IsStatement s body are))

    nested_names : (deep : ℕ) (body : List Stmt) → AreStatements parts deep body → AreThere parts (points_of_body calls f deep body)
    nested_names zero body are = absurd are
    nested_names (suc deep) body are = body_names (points_of_body calls f deep) (AreStatements parts deep) (nested_names deep) body are

-- a function that isn't there has no statements
no_body : (parts : Parts) (f : ℕ) → length parts.functions ≤ f → body_of parts f ≡ []
no_body parts f past = ap (λ (o : Option Function). elim o as (λ _. List Stmt) [ Some function ↦ function.body | None ↦ [] ]) (slice_get_past parts.functions f past)

pub trace_within-past : (parts : Parts) (depth f : ℕ) → length parts.functions ≤ f → trace_within parts depth f ≡ []
unfolding trace_within
trace_within-past parts zero f past = ap (points_of_body (λ _. []) f most_bodies) (no_body parts f past)
trace_within-past parts (suc depth) f past = ap (points_of_body (trace_within parts depth) f most_bodies) (no_body parts f past)

-- There is no trace where there is no such function.
pub trace-past : (parts : Parts) (f : ℕ) → length parts.functions ≤ f → trace parts f ≡ []
unfolding trace
trace-past parts f past = trace_within-past parts (length parts.functions) f past

abbrev HasStatements : Parts → Function → Type 0
HasStatements parts function = AreStatements parts most_bodies function.body

statements_of : (parts : Parts) (functions : List Function) (f : ℕ) → All (HasStatements parts) functions →
    AreStatements parts most_bodies (elim (slice_get functions f) as (λ _. List Stmt) [ Some function ↦ function.body | None ↦ [] ])
statements_of parts [] f all = All-nil _
statements_of parts (function ∷ functions) zero all = All-head (HasStatements parts) function functions all
statements_of parts (function ∷ functions) (suc f) all = statements_of parts functions f (All-tail (HasStatements parts) function functions all)

pub trace_within-names : (parts : Parts) (depth f : ℕ) → AreInLimits parts → AreThere parts (trace_within parts depth f)
unfolding trace_within
trace_within-names parts zero f limits = nested_names parts (λ _. []) (λ h. All-nil _) f most_bodies (body_of parts f) (statements_of parts parts.functions f limits.statements)
trace_within-names parts (suc depth) f limits =
    nested_names parts (trace_within parts depth) (λ h. trace_within-names parts depth h limits) f most_bodies (body_of parts f) (statements_of parts parts.functions f limits.statements)

pub traces_name_what_is_there : TracesNameWhatIsThere
unfolding trace
traces_name_what_is_there parts f limits = trace_within-names parts (length parts.functions) f limits
