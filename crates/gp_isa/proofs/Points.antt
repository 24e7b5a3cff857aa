-- The points of a statement, by what it is.
use Rattle.std.proofs.Common.{◌≡◌, ℕ, suc, ◌-◌, ◌+◌, ◌<◌, List, [], ◌∷◌, ◌++◌, length, take, get_or, flat_map, sym, ap, ◌∙◌, arith}
use Rattle.std.proofs.lemmas.List.{take_more, flat_map_more}
use Rattle.gp_isa.specs.declared.size.Size.{Size}
use Rattle.gp_isa.specs.declared.statement.Stmt.{Stmt}
use Rattle.gp_isa.specs.declared.statement.What.{What}
use Rattle.gp_isa.specs.declared.statement.What.TheVariants as what
use Rattle.gp_isa.specs.Statement.{action, action_of, line_of}
use Rattle.gp_isa.proofs.Actions.{action-loop, action-send, action-recv, action-lock, action-unlock, action-spawn, action-labels}
use Rattle.gp_isa.specs.Trace.{Point, Instruction, Labels, Send, Recv, Lock, Unlock, Spawn, point_at, repeated, points_at, points_of_body}
use Rattle.gp_isa.specs.kept.Sizes.{size_of}

module _ (calls : ℕ → List Point) (f : ℕ) where
  pub points_of_body-none : (deep : ℕ) (body : List Stmt) → deep ≡ 0 → points_of_body calls f deep body ≡ []
  points_of_body-none deep body none = ap (λ d. points_of_body calls f d body) none

  pub points_of_body-some : (deep : ℕ) (body : List Stmt) → (deep ≡ 0 → ⊥) → points_of_body calls f deep body ≡ points_of_body calls f (suc (deep - 1)) body
  points_of_body-some deep body some = let one : deep ≡ suc (deep - 1) = omega arith in ap (λ d. points_of_body calls f d body) one

  abbrev pub points_of_statement : ℕ → Stmt → List Point
  points_of_statement deep s = points_at calls (points_of_body calls f deep) f (line_of s) (action_of s)

  -- the points of one statement more
  pub points_of_body-more : (deep : ℕ) (body : List Stmt) (i : ℕ) (s : Stmt) → i < length body → s ≡ get_or body i s →
      flat_map (points_of_statement deep) (take (i + 1) body) ≡ flat_map (points_of_statement deep) (take i body) ++ points_of_statement deep s
  points_of_body-more deep body i s within here =
      ap (flat_map (points_of_statement deep)) (take_more body i s within ∙ ap (λ t. take i body ++ t ∷ []) (sym here)) ∙
      sym (flat_map_more (points_of_statement deep) [] (take i body) s)

  module _ (inner : List Stmt → List Point) (line : ℕ) where
    pub points_at-loop : (w : What) (n : ℕ) (body : List Stmt) (end : ℕ) → w ≡ what.Loop n body end →
        points_at calls inner f line (action w) ≡ repeated n (inner body)
    points_at-loop w n body end is = ap (λ w. points_at calls inner f line (action w)) is ∙ ap (points_at calls inner f line) (action-loop n body end)

    pub size_of-labels : (w : What) (a : Size) (set : ℕ) → a ≡ size_of (point_at f line (Labels set) ∷ []) → w ≡ what.Labels set → a ≡ size_of (points_at calls inner f line (action w))
    size_of-labels w a set one is = one ∙ sym (ap (λ w. size_of (points_at calls inner f line (action w))) is ∙ ap (λ t. size_of (points_at calls inner f line t)) (action-labels set))

    -- the others have one shared point
    pub size_of-shared : (w v : What) (a : Size) (instruction : Instruction) → a ≡ size_of (point_at f line instruction ∷ []) → w ≡ v → points_at calls inner f line (action v) ≡ point_at f line instruction ∷ [] →
        a ≡ size_of (points_at calls inner f line (action w))
    size_of-shared w v a instruction one is its = one ∙ sym (ap (λ w. size_of (points_at calls inner f line (action w))) is ∙ ap size_of its)

    pub one_send : (x : ℕ) → points_at calls inner f line (action (what.Send x)) ≡ point_at f line (Send x) ∷ []
    one_send x = ap (points_at calls inner f line) (action-send x)

    pub one_recv : (x : ℕ) → points_at calls inner f line (action (what.Recv x)) ≡ point_at f line (Recv x) ∷ []
    one_recv x = ap (points_at calls inner f line) (action-recv x)

    pub one_lock : (x : ℕ) → points_at calls inner f line (action (what.Lock x)) ≡ point_at f line (Lock x) ∷ []
    one_lock x = ap (points_at calls inner f line) (action-lock x)

    pub one_unlock : (x : ℕ) → points_at calls inner f line (action (what.Unlock x)) ≡ point_at f line (Unlock x) ∷ []
    one_unlock x = ap (points_at calls inner f line) (action-unlock x)

    pub one_spawn : (x : ℕ) → points_at calls inner f line (action (what.Spawn x)) ≡ point_at f line (Spawn x) ∷ []
    one_spawn x = ap (points_at calls inner f line) (action-spawn x)
