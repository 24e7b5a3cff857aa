-- Calls followed as deep as the program's stacks are give the whole trace.
use Rattle.std.proofs.Common.{◌≡◌, ◌<◌, ◌≤◌, ◌+◌, ◌-◌, ◌⊎◌, max, ℕ, zero, suc, List, [], ◌∷◌, ◌++◌, length, map, refl, ap, sym, ◌∙◌, inl, inr, arith, subst}
use Rattle.std.proofs.lemmas.Bool.{cases_lt}
use Rattle.std.proofs.lemmas.List.{length-append}
use Rattle.std.specs.List.{flat_map}
use Rattle.gp_isa.specs.declared.parts.Parts.{Parts}
use Rattle.gp_isa.specs.declared.statement.Stmt.{Stmt}
use Rattle.gp_isa.specs.declared.statement.What.TheOpen.{Work, Call, Loop, Send, Recv, Lock, Unlock, Spawn, Labels}
use Rattle.gp_isa.specs.Statement.{Action, action_of, line_of, most_bodies}
use Rattle.gp_isa.specs.Trace.{Point, called_at, repeated, points_at, points_of_body, body_of, trace_within, trace}
use Rattle.gp_isa.specs.Calls.{IsProgram}
use Rattle.gp_isa.specs.Size.{most_frames, most_frames_below, depth_of}
use Rattle.gp_isa.proofs.Sizes.{most_frames-append, most_frames-repeated}
use Rattle.gp_isa.proofs.Frames.{most_frames-trace_within}
use Rattle.gp_isa.proofs.Depth.{traces_follow_calls}
use Rattle.gp_stack.specs.kept.Level.{points_of_call}
use Rattle.gp_stack.proofs.Moves.{trace_call}

-- points of which each has a frame
abbrev Framed : List Point → Type 0
Framed [] = Unit {0}
Framed (p ∷ points) = (0 < length p.stack) × Framed points

framed_append : (xs ys : List Point) → Framed xs → Framed ys → Framed (xs ++ ys)
framed_append [] ys f g = g
framed_append (x ∷ xs) ys f g = (f.0, framed_append xs ys f.1 g)

framed_work : (n f line : ℕ) → Framed (points_at (λ _. []) (λ _. []) f line (Work n))
framed_work zero f line = tt
framed_work (suc n) f line = (omega arith, framed_work n f line)

framed_called : (f line : ℕ) (points : List Point) → Framed (map (called_at f line) points)
framed_called f line [] = tt
framed_called f line (p ∷ points) = (omega (arith, length-append p.stack (record { function = f; line = line } ∷ [])), framed_called f line points)

framed_repeated : (n : ℕ) (points : List Point) → Framed points → Framed (repeated n points)
framed_repeated zero points f = tt
framed_repeated (suc n) points f = framed_append points (repeated n points) f (framed_repeated n points f)

framed_at : (calls : ℕ → List Point) (inner : List Stmt → List Point) → ((b : List Stmt) → Framed (inner b)) → (f line : ℕ) (a : Action) → Framed (points_at calls inner f line a)
framed_at calls inner each f line (Work n) = framed_work n f line
framed_at calls inner each f line (Labels s) = (omega arith, tt)
framed_at calls inner each f line (Loop n body end) = framed_repeated n (inner body) (each body)
framed_at calls inner each f line (Call h) = framed_called f line (calls h)
framed_at calls inner each f line (Send c) = (omega arith, tt)
framed_at calls inner each f line (Recv c) = (omega arith, tt)
framed_at calls inner each f line (Lock m) = (omega arith, tt)
framed_at calls inner each f line (Unlock m) = (omega arith, tt)
framed_at calls inner each f line (Spawn h) = (omega arith, tt)

framed_list : (calls : ℕ → List Point) (inner : List Stmt → List Point) → ((b : List Stmt) → Framed (inner b)) → (f : ℕ) (body : List Stmt) → Framed (flat_map (λ s. points_at calls inner f (line_of s) (action_of s)) body)
framed_list calls inner each f [] = tt
framed_list calls inner each f (s ∷ body) =
    framed_append (points_at calls inner f (line_of s) (action_of s)) (flat_map (λ s. points_at calls inner f (line_of s) (action_of s)) body) (framed_at calls inner each f (line_of s) (action_of s)) (framed_list calls inner each f body)

framed_body : (calls : ℕ → List Point) (f deep : ℕ) (body : List Stmt) → Framed (points_of_body calls f deep body)
framed_body calls f zero body = tt
framed_body calls f (suc deep) body = framed_list calls (points_of_body calls f deep) (framed_body calls f deep) f body

no_frames : (points : List Point) → Framed points → most_frames points ≤ 0 → points ≡ []
no_frames [] framed few = refl
no_frames (p ∷ points) framed few = absurd (omega (arith, framed.0))

-- Two ways to follow calls that agree on functions with few frames agree on points with one frame more.
abbrev Agree : (ℕ → List Point) → (ℕ → List Point) → ℕ → Type 0
Agree calls whole most = (h : ℕ) → most_frames (whole h) ≤ most → calls h ≡ whole h

abbrev AgreeInside : (List Stmt → List Point) → (List Stmt → List Point) → ℕ → Type 0
AgreeInside inner whole most = (b : List Stmt) → most_frames (whole b) ≤ most + 1 → inner b ≡ whole b

called_few : (f line most : ℕ) (points : List Point) → most_frames (map (called_at f line) points) ≤ most + 1 → most_frames points ≤ most
called_few f line most [] few = omega arith
called_few f line most (p ∷ points) few =
    let more : length (p.stack ++ record { function = f; line = line } ∷ []) ≡ length p.stack + 1 = length-append p.stack (record { function = f; line = line } ∷ []) in
    let rest : most_frames points ≤ most = called_few f line most points (omega arith) in
    omega arith

repeated_few : (n most : ℕ) (points : List Point) → most_frames (repeated (suc n) points) ≤ most → most_frames points ≤ most
repeated_few n most points few = omega (arith, most_frames-repeated n points)

agree_loop : (n most : ℕ) (points whole : List Point) → (most_frames whole ≤ most + 1 → points ≡ whole) → most_frames (repeated n whole) ≤ most + 1 → repeated n points ≡ repeated n whole
agree_loop zero most points whole same few = refl
agree_loop (suc n) most points whole same few = ap (repeated (suc n)) (same (repeated_few n (most + 1) whole few))

agree_at : (calls whole : ℕ → List Point) (most : ℕ) → Agree calls whole most → (inner inside : List Stmt → List Point) → AgreeInside inner inside most → (f line : ℕ) (a : Action) → most_frames (points_at whole inside f line a) ≤ most + 1 →
    points_at calls inner f line a ≡ points_at whole inside f line a
agree_at calls whole most agree inner inside loops f line (Work n) few = refl
agree_at calls whole most agree inner inside loops f line (Labels s) few = refl
agree_at calls whole most agree inner inside loops f line (Loop n body end) few = agree_loop n most (inner body) (inside body) (loops body) few
agree_at calls whole most agree inner inside loops f line (Call h) few = ap (map (called_at f line)) (agree h (called_few f line most (whole h) few))
agree_at calls whole most agree inner inside loops f line (Send c) few = refl
agree_at calls whole most agree inner inside loops f line (Recv c) few = refl
agree_at calls whole most agree inner inside loops f line (Lock m) few = refl
agree_at calls whole most agree inner inside loops f line (Unlock m) few = refl
agree_at calls whole most agree inner inside loops f line (Spawn h) few = refl

agree_list : (calls whole : ℕ → List Point) (most : ℕ) → Agree calls whole most → (inner inside : List Stmt → List Point) → AgreeInside inner inside most → (f : ℕ) (body : List Stmt) →
    most_frames (flat_map (λ s. points_at whole inside f (line_of s) (action_of s)) body) ≤ most + 1 → flat_map (λ s. points_at calls inner f (line_of s) (action_of s)) body ≡ flat_map (λ s. points_at whole inside f (line_of s) (action_of s)) body
agree_list calls whole most agree inner inside loops f [] few = refl
agree_list calls whole most agree inner inside loops f (s ∷ body) few =
    let first : List Point = points_at whole inside f (line_of s) (action_of s) in
    let others : List Point = flat_map (λ s. points_at whole inside f (line_of s) (action_of s)) body in
    let both : max (most_frames first) (most_frames others) ≤ most + 1 = subst (λ n. n ≤ most + 1) (most_frames-append first others) few in
    ap (λ xs. xs ++ flat_map (λ s. points_at calls inner f (line_of s) (action_of s)) body) (agree_at calls whole most agree inner inside loops f (line_of s) (action_of s) (omega arith)) ∙
    ap (λ xs. first ++ xs) (agree_list calls whole most agree inner inside loops f body (omega arith))

pub agree_body : (calls whole : ℕ → List Point) (most : ℕ) → Agree calls whole most → (f deep : ℕ) (body : List Stmt) → most_frames (points_of_body whole f deep body) ≤ most + 1 → points_of_body calls f deep body ≡ points_of_body whole f deep body
agree_body calls whole most agree f zero body few = refl
agree_body calls whole most agree f (suc deep) body few = agree_list calls whole most agree (points_of_body calls f deep) (points_of_body whole f deep) (agree_body calls whole most agree f deep) f body few

-- calls followed as deep as a trace has frames give it whole
pub deep_enough : (parts : Parts) → IsProgram parts → (k : ℕ) → Agree (points_of_call parts k) (trace parts) k
deep_enough parts program zero f few =
    let whole : trace parts f ≡ points_of_body (trace parts) f most_bodies (body_of parts f) = traces_follow_calls parts f program in
    sym (no_frames (trace parts f) (subst Framed (sym whole) (framed_body (trace parts) f most_bodies (body_of parts f))) few)
deep_enough parts program (suc k) f few =
    let whole : trace parts f ≡ points_of_body (trace parts) f most_bodies (body_of parts f) = traces_follow_calls parts f program in
    trace_call parts k f ∙ (agree_body (points_of_call parts k) (trace parts) k (deep_enough parts program k) f most_bodies (body_of parts f) (subst (λ xs. most_frames xs ≤ k + 1) whole (omega arith)) ∙ sym whole)

below_most : (traces : ℕ → List Point) (n f : ℕ) → f < n → most_frames (traces f) ≤ most_frames_below traces n
below_most traces zero f within = absurd (omega arith)
below_most traces (suc n) f within = at (cases_lt f n) (below_most traces n f)
  where
    at : (f < n) ⊎ (n ≤ f) → (f < n → most_frames (traces f) ≤ most_frames_below traces n) → most_frames (traces f) ≤ max (most_frames_below traces n) (most_frames (traces n))
    at (inl less) rest = let h : most_frames (traces f) ≤ most_frames_below traces n = rest less in omega arith
    at (inr more) rest =
        let same : f ≡ n = omega arith in
        let h : most_frames (traces f) ≡ most_frames (traces n) = ap (λ g. most_frames (traces g)) same in omega arith

-- the trace of a function, with one call less followed than the program's stacks have frames
pub whole_within : (parts : Parts) → IsProgram parts → (f : ℕ) → f < length parts.functions → trace_within parts (depth_of parts - 1) f ≡ trace parts f
whole_within parts program f within =
    let few : most_frames (trace parts f) ≤ depth_of parts = below_most (trace parts) (length parts.functions) f within in
    deep_enough parts program (suc (depth_of parts - 1)) f (omega arith)

most_below : (traces : ℕ → List Point) (n most : ℕ) → ((f : ℕ) → most_frames (traces f) ≤ most) → most_frames_below traces n ≤ most
most_below traces zero most few = omega arith
most_below traces (suc n) most few =
    let h : most_frames_below traces n ≤ most = most_below traces n most few in
    let g : most_frames (traces n) ≤ most = few n in omega arith

-- stacks have no more frames than there are functions, but one
pub depth_few : (parts : Parts) → depth_of parts ≤ length parts.functions + 1
unfolding trace
depth_few parts = most_below (trace parts) (length parts.functions) (length parts.functions + 1) (λ f. most_frames-trace_within parts (length parts.functions) f)
