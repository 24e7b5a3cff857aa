-- What the entries of a body tell of many of its statements.
use Rattle.std.proofs.Common.{◌≡◌, ℕ, zero, suc, ◌+◌, ◌-◌, ◌<◌, ◌≤◌, Bool, true, min, List, [], ◌∷◌, ◌++◌, length, take, drop, get_or, refl, sym, ap, ◌∙◌, subst, arith, length-append}
use Rattle.std.proofs.lemmas.Bool.{and_parts, and_from}
use Rattle.std.proofs.lemmas.List.{append_assoc, drop-drop, take-append-drop}
use Rattle.gp_isa.specs.declared.parts.Parts.{Parts}
use Rattle.gp_isa.specs.declared.suffix.Suffix.{Suffix}
use Rattle.gp_isa.specs.declared.statement.Stmt.{Stmt}
use Rattle.gp_isa.specs.Block.{IsRun, between}
use Rattle.gp_isa.specs.Limits.{most_points}
use Rattle.gp_isa.specs.Size.{most_frames, all_pass}
use Rattle.gp_isa.specs.Trace.{Instruction, Point, points_of_body, trace}
use Rattle.gp_isa.specs.kept.Blocks.{IsSuffix, IsEntry, HasBlock}
use Rattle.gp_isa.proofs.Points.{points_of_statement}
use Rattle.gp_isa.proofs.Sizes.{all_pass-append, most_frames-append}

-- the entry at a place of a table
pub entry_at : (calls : ℕ → List Point) (table : List Suffix) (deep base at place : ℕ) (body : List Stmt) (d : Suffix) → HasBlock calls table (suc deep) base body → at < length body → place ≡ at + base →
    IsEntry calls (HasBlock calls table deep) (suc deep) (get_or table place d) body at
unfolding HasBlock
entry_at calls table deep base at place body d has within there =
    subst (λ k. IsEntry calls (HasBlock calls table deep) (suc deep) (get_or table k d) body at) (omega (arith, there)) (has.1 at d within)

module _ (calls : ℕ → List Point) (f deep : ℕ) where
  abbrev points_in : List Stmt → List Point
  points_in body = points_of_body calls f (suc deep) body

  pub body_append : (xs ys : List Stmt) → points_in (xs ++ ys) ≡ points_in xs ++ points_in ys
  body_append [] ys = refl
  body_append (x ∷ xs) ys =
      ap (λ points. points_of_statement calls f deep x ++ points) (body_append xs ys) ∙ sym (append_assoc (points_of_statement calls f deep x) (points_in xs) (points_in ys))

  pub body_between : (body : List Stmt) (at to : ℕ) → at ≤ to → points_in (drop at body) ≡ points_in (between at to body) ++ points_in (drop to body)
  body_between body at to before =
      let rest : drop (to - at) (drop at body) ≡ drop to body = drop-drop (to - at) at body ∙ ap (λ n. drop n body) (omega arith) in
      ap points_in (sym (take-append-drop (to - at) (drop at body)) ∙ ap (λ ys. between at to body ++ ys) rest) ∙ body_append (between at to body) (drop to body)

  pub pass_less : (test : Instruction → Bool) (xs : List Stmt) (j k : ℕ) → j ≤ k → all_pass test (points_in (take k xs)) ≡ true → all_pass test (points_in (take j xs)) ≡ true
  pass_less test xs zero k less all = refl
  pass_less test [] (suc j) k less all = refl
  pass_less test (x ∷ xs) (suc j) zero less all = absurd (omega arith)
  pass_less test (x ∷ xs) (suc j) (suc k) less all =
      let both : (all_pass test (points_of_statement calls f deep x) ≡ true) × (all_pass test (points_in (take k xs)) ≡ true) =
      and_parts (all_pass test (points_of_statement calls f deep x)) (all_pass test (points_in (take k xs))) (sym (all_pass-append test (points_of_statement calls f deep x) (points_in (take k xs))) ∙ all) in
      all_pass-append test (points_of_statement calls f deep x) (points_in (take j xs)) ∙
      and_from (all_pass test (points_of_statement calls f deep x)) (all_pass test (points_in (take j xs))) both.0 (pass_less test xs j k (omega arith) both.1)

pub run_is : (parts : Parts) (test : Instruction → Bool) (body : List Stmt) (here loops calls at to run points behind : ℕ) (suffix : Suffix) → loops ≡ here → IsSuffix (trace parts) (suc here) suffix (drop at body) →
    (suffix.points ≤ most_points) × (suffix.frames ≤ calls + 1) → ((f : ℕ) → all_pass test (points_of_body (trace parts) f (suc here) (take run (drop at body))) ≡ true) → at ≤ to → to - at ≤ run →
    ((f : ℕ) → behind ≡ min (length (points_of_body (trace parts) f (suc here) (drop to body))) (most_points + 1)) → points ≡ suffix.points - behind → IsRun parts test body loops calls at (record { to = to; points = points })
run_is parts test body here loops calls at to run points behind suffix same is few pass before fits past count = record {
  points = λ f. rw same (omega (arith, count, few.0, is.points f, past f, ap length (split f), length-append (points_of_body (trace parts) f (suc here) (between at to body)) (points_of_body (trace parts) f (suc here) (drop to body))));
  pass = λ f. rw same (pass_less (trace parts) f here test (drop at body) (to - at) run fits (pass f));
  frames = λ f. rw same (omega (
    arith,
    few.1,
    is.frames f,
    ap most_frames (split f),
    most_frames-append (points_of_body (trace parts) f (suc here) (between at to body)) (points_of_body (trace parts) f (suc here) (drop to body)),
  ));
}
  where
    split : (f : ℕ) → points_of_body (trace parts) f (suc here) (drop at body) ≡ points_of_body (trace parts) f (suc here) (between at to body) ++ points_of_body (trace parts) f (suc here) (drop to body)
    split f = body_between (trace parts) f here body at to before
