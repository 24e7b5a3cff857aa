-- Tables of what is kept of statements, and how they grow.
use Rattle.std.proofs.Common.{◌≡◌, ℕ, zero, suc, ◌+◌, ◌-◌, ◌^◌, ◌<◌, ◌≤◌, ◌⊎◌, ◌≢◌, Bool, true, true≢false, max, min, List, [], ◌∷◌, ◌++◌, length, take, drop, get_or, set, replicate, Some, None, refl, sym, ap, ◌∙◌, subst, inl, inr, arith, length-append, length-drop, add-one, get_or-set_other}
use Rattle.std.proofs.lemmas.Bool.{cases_eq, and_from}
use Rattle.std.proofs.lemmas.Grind.{get_or-set_at, flat_map-append}
use Rattle.std.proofs.lemmas.List.{append_assoc, append-nil, get_or_append_left, get_or-append-add, get_or-drop, get_or-set_same, set-append_right, drop_at, drop_more, drop-drop, drop-append-le, drop-set-lt, take-append-drop, length-take-le}
use Rattle.std.proofs.lemmas.Option.{slice_get_read}
use Rattle.gp_isa.specs.declared.parts.Parts.{Parts}
use Rattle.gp_isa.specs.declared.size.Size.{Size}
use Rattle.gp_isa.specs.declared.suffix.Suffix.{Suffix}
use Rattle.gp_isa.specs.declared.statement.Stmt.{Stmt}
use Rattle.gp_isa.specs.declared.statement.What.{What}
use Rattle.gp_isa.specs.declared.statement.What.TheVariants as what
use Rattle.gp_isa.specs.Limits.{most_points}
use Rattle.gp_isa.specs.Calls.{calls_of, calls_in}
use Rattle.gp_isa.specs.Size.{most_frames, is_work, all_pass}
use Rattle.gp_isa.specs.declared.statement.What.TheOpen.{Work, Call, Loop, Send, Recv, Lock, Unlock, Spawn, Labels}
use Rattle.gp_isa.specs.Statement.{Action, action, action_of, most_bodies, loop_body, body_inside}
use Rattle.gp_isa.specs.Trace.{Instruction, Point, is_local, points_of_body, body_of, trace}
use Rattle.gp_isa.specs.kept.Sizes.{size_of}
use Rattle.gp_isa.specs.kept.Blocks.{no_base, IsSuffix, IsEntry, HasBlock, AddsBlock, Grows, AreBlocks}
use Rattle.gp_isa.proofs.Actions.{action-loop}
use Rattle.gp_isa.proofs.Depth.{In, in_front, in_back, Agrees, same_points}
use Rattle.gp_isa.proofs.Points.{points_of_statement}
use Rattle.gp_isa.proofs.Sizes.{all_pass-append, most_frames-append}

-- Some of a body's statements, and those of a loop in it, call no others.
take_calls : (deep n : ℕ) (body : List Stmt) (h : ℕ) → In h (calls_in (suc deep) (take n body)) → In h (calls_in (suc deep) body)
take_calls deep n body h e =
    subst (λ (b : List Stmt). In h (calls_in (suc deep) b)) (take-append-drop n body)
    (subst (In h) (sym (flat_map-append (λ s. calls_of (calls_in deep) (action_of s)) (take n body) (drop n body)))
    (in_front h (calls_in (suc deep) (take n body)) (calls_in (suc deep) (drop n body)) e))

drop_calls : (deep n : ℕ) (body : List Stmt) (h : ℕ) → In h (calls_in (suc deep) (drop n body)) → In h (calls_in (suc deep) body)
drop_calls deep n body h e =
    subst (λ (b : List Stmt). In h (calls_in (suc deep) b)) (take-append-drop n body)
    (subst (In h) (sym (flat_map-append (λ s. calls_of (calls_in deep) (action_of s)) (take n body) (drop n body)))
    (in_back h (calls_in (suc deep) (take n body)) (calls_in (suc deep) (drop n body)) e))

none_called : (deep h : ℕ) → In h (calls_in deep []) → ⊥
none_called zero h e = true≢false (sym e)
none_called (suc deep) h e = true≢false (sym e)

loop_calls : (deep h : ℕ) (a : Action) → In h (calls_in deep (loop_body a)) → In h (calls_of (calls_in deep) a)
loop_calls deep h (Loop n body end) e = e
loop_calls deep h (Work n) e = absurd (none_called deep h e)
loop_calls deep h (Call g) e = absurd (none_called deep h e)
loop_calls deep h (Send c) e = absurd (none_called deep h e)
loop_calls deep h (Recv c) e = absurd (none_called deep h e)
loop_calls deep h (Lock m) e = absurd (none_called deep h e)
loop_calls deep h (Unlock m) e = absurd (none_called deep h e)
loop_calls deep h (Spawn g) e = absurd (none_called deep h e)
loop_calls deep h (Labels s) e = absurd (none_called deep h e)

inside_calls : (deep : ℕ) (body : List Stmt) (at h : ℕ) → In h (calls_in deep (body_inside body at)) → In h (calls_in (suc deep) body)
inside_calls deep [] at h e = absurd (none_called deep h e)
inside_calls deep (s ∷ body) zero h e = in_front h (calls_of (calls_in deep) (action_of s)) (calls_in (suc deep) body) (loop_calls deep h (action_of s) e)
inside_calls deep (s ∷ body) (suc at) h e = in_back h (calls_of (calls_in deep) (action_of s)) (calls_in (suc deep) body) (inside_calls deep body at h e)

module _ (calls : ℕ → List Point) where
  -- how many of the first statements pass, with one more before them
  pass_before : (test : Instruction → Bool) (f deep : ℕ) (s : Stmt) (body : List Stmt) (passes : Bool) (run n : ℕ) → (n ≡ 0) ⊎ ((passes ≡ true) × (n ≡ run + 1)) →
      passes ≡ all_pass test (points_of_statement calls f deep s) → all_pass test (points_of_body calls f (suc deep) (take run body)) ≡ true → all_pass test (points_of_body calls f (suc deep) (take n (s ∷ body))) ≡ true
  pass_before test f deep s body passes run n (inl none) here behind = rw none refl
  pass_before test f deep s body passes run n (inr (passing, one)) here behind =
      rw (one, add-one run)
      (all_pass-append test (points_of_statement calls f deep s) (points_of_body calls f (suc deep) (take run body)) ∙
      and_from (all_pass test (points_of_statement calls f deep s)) (all_pass test (points_of_body calls f (suc deep) (take run body))) (sym here ∙ passing) behind)

  pub suffix_before : (deep : ℕ) (s : Stmt) (body : List Stmt) (behind : Suffix) (here : Size) (points frames local work inner : ℕ) → IsSuffix calls (suc deep) behind body →
      ((f : ℕ) → here ≡ size_of (points_of_statement calls f deep s)) → points ≡ min (min (here.points + behind.points) (2 ^ 64 - 1)) (most_points + 1) → frames ≡ max here.frames behind.frames →
      (local ≡ 0) ⊎ ((here.local ≡ true) × (local ≡ behind.local + 1)) → (work ≡ 0) ⊎ ((here.work ≡ true) × (work ≡ behind.work + 1)) →
      IsSuffix calls (suc deep) (record { points = points; frames = frames; local = local; work = work; inner = inner }) (s ∷ body)
  suffix_before deep s body behind here points frames local work inner is of en em el ew = record {
    points = λ f. omega (
      arith,
      en,
      ap (λ (z : Size). z.points) (of f),
      is.points f,
      length-append (points_of_statement calls f deep s) (points_of_body calls f (suc deep) body),
    );
    frames = λ f. omega (
      arith,
      em,
      ap (λ (z : Size). z.frames) (of f),
      is.frames f,
      most_frames-append (points_of_statement calls f deep s) (points_of_body calls f (suc deep) body),
    );
    local = λ f. pass_before is_local f deep s body here.local behind.local local el (ap (λ (z : Size). z.local) (of f)) (is.local f);
    work = λ f. pass_before is_work f deep s body here.work behind.work work ew (ap (λ (z : Size). z.work) (of f)) (is.work f);
  }

  -- more entries leave those that are there
  pub block_more : (table more : List Suffix) (deep base : ℕ) (body : List Stmt) → HasBlock calls table deep base body → HasBlock calls (table ++ more) deep base body
  unfolding HasBlock
  block_more table more zero base body has = tt
  block_more table more (suc deep) base body has = (
    omega (arith, has.0, length-append table more),
    λ k d within.
        let same : get_or (table ++ more) (base + k) d ≡ get_or table (base + k) d = get_or_append_left table more d (base + k) (omega (arith, has.0)) in
        let old : IsEntry calls (HasBlock calls table deep) (suc deep) (get_or table (base + k) d) body k = has.1 k d within in
        subst (λ (e : Suffix). IsEntry calls (HasBlock calls (table ++ more) deep) (suc deep) e body k) (sym same)
        (record { sums = old.sums; inner = λ some. block_more table more deep (get_or table (base + k) d).inner (body_inside body k) (old.inner some) }),
  )

  pub block_grows : (old new : List Suffix) (deep base : ℕ) (body : List Stmt) → Grows old new → HasBlock calls old deep base body → HasBlock calls new deep base body
  block_grows old new deep base body grows has = subst (λ table. HasBlock calls table deep base body) (sym grows.behind) (block_more old grows.more deep base body has)

  -- The entries of a body's statements from one on, in a table with room for them from a place on. What stands before that
  -- room's end has nothing to do with the entries of their own bodies.
  abbrev pub Filled : List Suffix → ℕ → ℕ → List Stmt → ℕ → Type 0
  Filled table deep place body at = (before : List Suffix) (k : ℕ) (d : Suffix) → length before ≡ place + length body → at ≤ k → k < length body →
      IsEntry calls (HasBlock calls (before ++ drop (place + length body) table) deep) (suc deep) (get_or table (place + k) d) body k

  inside_is : (body : List Stmt) (at : ℕ) (s : Stmt) → at < length body → s ≡ get_or body at s → body_inside body at ≡ loop_body (action_of s)
  inside_is body at s within is = ap (λ found. elim found as (λ _. List Stmt) [ Some t ↦ loop_body (action_of t) | None ↦ [] ]) (slice_get_read body (length body) at s refl within is)

  -- a table with one entry written, behind which others were added, is the rest of the old one and these
  rest_is : (old new table before : List Suffix) (room at : ℕ) (entry : Suffix) (grows : Grows old new) → table ≡ set new at entry → at < room → room ≤ length old →
      before ++ drop room table ≡ (before ++ drop room old) ++ grows.more
  rest_is old new table before room at entry grows written less fits =
      ap (λ t. before ++ drop room t) written ∙ ap (λ t. before ++ t) (drop-set-lt room new at entry less) ∙ ap (λ t. before ++ drop room t) grows.behind ∙
      ap (λ t. before ++ t) (drop-append-le room old grows.more fits) ∙ sym (append_assoc before (drop room old) grows.more)

  pub filled_more : (old new table : List Suffix) (deep place : ℕ) (body : List Stmt) (at next : ℕ) (s : Stmt) (entry behind : Suffix) → next ≡ at + 1 → Grows old new → table ≡ set new (place + at) entry →
      at < length body → place + length body ≤ length old → s ≡ get_or body at s →
      IsSuffix calls (suc deep) behind (drop next body) → (IsSuffix calls (suc deep) behind (drop next body) → IsSuffix calls (suc deep) entry (s ∷ drop next body)) →
      (entry.inner < no_base → AddsBlock calls old new deep entry.inner (loop_body (action_of s))) → Filled old deep place body next →
      IsSuffix calls (suc deep) entry (drop at body) × Filled table deep place body at
  filled_more old new table deep place body at next s entry behind on grows written within fits is rest step inner filled = (here, each)
    where
      here : IsSuffix calls (suc deep) entry (drop at body)
      here = subst (IsSuffix calls (suc deep) entry) (sym (drop_more body at s within ∙ ap (λ t. t ∷ drop (at + 1) body) (sym is) ∙ ap (λ n. s ∷ drop n body) (sym on))) (step rest)

      longer : place + at < length new
      longer = omega (arith, ap length grows.behind, length-append old grows.more)

      each : Filled table deep place body at
      each before k d long from below = elim (cases_eq k at) as (λ _. IsEntry calls (HasBlock calls (before ++ drop (place + length body) table) deep) (suc deep) (get_or table (place + k) d) body k) [
        | inl same ↦
            let there : get_or table (place + k) d ≡ entry = ap (λ t. get_or t (place + k) d) written ∙ ap (λ j. get_or (set new (place + at) entry) (place + j) d) same ∙ get_or-set_same new (place + at) entry d longer in
            subst (λ (e : Suffix). IsEntry calls (HasBlock calls (before ++ drop (place + length body) table) deep) (suc deep) e body k) (sym there)
            (subst (λ j. IsEntry calls (HasBlock calls (before ++ drop (place + length body) table) deep) (suc deep) entry body j) (sym same)
            (record { sums = here; inner = λ some. subst (HasBlock calls (before ++ drop (place + length body) table) deep entry.inner) (sym (inside_is body at s within is)) (added before long some) }))
        | inr other ↦
            let apart : place + k ≢ place + at = (λ e. other (omega arith)) in
            let there : get_or table (place + k) d ≡ get_or old (place + k) d =
            ap (λ t. get_or t (place + k) d) written ∙ get_or-set_other new (place + at) (place + k) entry d apart ∙ ap (λ t. get_or t (place + k) d) grows.behind ∙ get_or_append_left old grows.more d (place + k) (omega arith) in
            let less : at ≢ k = (λ e. other (sym e)) in
            let old_one : IsEntry calls (HasBlock calls (before ++ drop (place + length body) old) deep) (suc deep) (get_or old (place + k) d) body k = filled before k d long (omega arith) below in
            subst (λ (e : Suffix). IsEntry calls (HasBlock calls (before ++ drop (place + length body) table) deep) (suc deep) e body k) (sym there)
            (record { sums = old_one.sums; inner = λ some. kept before k (get_or old (place + k) d).inner (old_one.inner some) })
      ]
        where
          parted : (before : List Suffix) → before ++ drop (place + length body) table ≡ (before ++ drop (place + length body) old) ++ grows.more
          parted before = rest_is old new table before (place + length body) (place + at) entry grows written (omega arith) fits

          added : (before : List Suffix) → length before ≡ place + length body → entry.inner < no_base → HasBlock calls (before ++ drop (place + length body) table) deep entry.inner (loop_body (action_of s))
          added before long some =
              let whole : (before ++ drop (place + length body) old) ++ drop (length old) new ≡ before ++ drop (place + length body) table =
              ap (λ t. (before ++ drop (place + length body) old) ++ t) (ap (drop (length old)) grows.behind ∙ drop_at old grows.more (length old) refl) ∙ sym (parted before) in
              subst (λ table. HasBlock calls table deep entry.inner (loop_body (action_of s))) whole
              ((inner some).each (before ++ drop (place + length body) old) (omega (arith, length-append before (drop (place + length body) old), length-drop (place + length body) old)))

          kept : (before : List Suffix) (k place_inside : ℕ) → HasBlock calls (before ++ drop (place + length body) old) deep place_inside (body_inside body k) →
              HasBlock calls (before ++ drop (place + length body) table) deep place_inside (body_inside body k)
          kept before k place_inside has =
              subst (λ table. HasBlock calls table deep place_inside (body_inside body k)) (sym (parted before)) (block_more (before ++ drop (place + length body) old) grows.more deep place_inside (body_inside body k) has)

  pub block_done : (old table : List Suffix) (deep place : ℕ) (body : List Stmt) → place ≡ length old → place + length body ≤ length table → Filled table deep place body 0 → AddsBlock calls old table (suc deep) place body
  unfolding HasBlock
  block_done old table deep place body there fits filled = record {
    each = λ before long. (
      omega (arith, length-append before (drop (length old) table), length-drop (length old) table),
      λ k d within. entry before long k d within,
    );
  }
    where
      entry : (before : List Suffix) → length before ≡ length old → (k : ℕ) (d : Suffix) → k < length body →
          IsEntry calls (HasBlock calls (before ++ drop (length old) table) deep) (suc deep) (get_or (before ++ drop (length old) table) (place + k) d) body k
      entry before long k d within =
          let own : List Suffix = take (length body) (drop (length old) table) in
          let same : get_or (before ++ drop (length old) table) (place + k) d ≡ get_or table (place + k) d =
          ap (λ n. get_or (before ++ drop (length old) table) (n + k) d) (there ∙ sym long) ∙ get_or-append-add before (drop (length old) table) k d ∙ get_or-drop (length old) table k d ∙
          ap (λ n. get_or table (n + k) d) (sym there) in
          let whole : (before ++ own) ++ drop (place + length body) table ≡ before ++ drop (length old) table =
          append_assoc before own (drop (place + length body) table) ∙
          ap (λ n. before ++ (own ++ drop (n + length body) table)) there ∙
          ap (λ t. before ++ (own ++ t)) (sym (drop-drop (length body) (length old) table)) ∙
          ap (λ t. before ++ t) (take-append-drop (length body) (drop (length old) table)) in
          let size : length own ≡ length body = length-take-le (length body) (drop (length old) table) (omega (arith, length-drop (length old) table)) in
          let at : IsEntry calls (HasBlock calls ((before ++ own) ++ drop (place + length body) table) deep) (suc deep) (get_or table (place + k) d) body k =
          filled (before ++ own) k d (omega (arith, length-append before own)) (omega arith) within in
          subst (λ (e : Suffix). IsEntry calls (HasBlock calls (before ++ drop (length old) table) deep) (suc deep) e body k) (sym same)
          (subst (λ (t : List Suffix). IsEntry calls (HasBlock calls t deep) (suc deep) (get_or table (place + k) d) body k) whole at)

  -- where a place is told as it is kept
  pub block_at : (old new : List Suffix) (deep base place : ℕ) (body : List Stmt) → (base ≡ no_base) ⊎ (base ≡ place) → base < no_base → AddsBlock calls old new deep place body → AddsBlock calls old new deep base body
  block_at old new deep base place body (inl none) some adds = absurd (omega arith)
  block_at old new deep base place body (inr there) some adds = subst (λ b. AddsBlock calls old new deep b body) (sym there) adds

  -- the entries of a loop's body
  pub block_inside : (old new : List Suffix) (deep base n end : ℕ) (body : List Stmt) (w : What) → (deep ≡ 0 → ⊥) → w ≡ what.Loop n body end →
      AddsBlock calls old new (suc (deep - 1)) base body → AddsBlock calls old new deep base (loop_body (action w))
  block_inside old new deep base n end body w deeper is adds =
      let one : suc (deep - 1) ≡ deep = omega arith in
      let its : loop_body (action w) ≡ body = ap (λ v. loop_body (action v)) is ∙ ap loop_body (action-loop n body end) in
      rw its (subst (λ d. AddsBlock calls old new d base body) one adds)

  pub block_added : (old new : List Suffix) (deep base : ℕ) (body : List Stmt) → Grows old new → AddsBlock calls old new deep base body → HasBlock calls new deep base body
  block_added old new deep base body grows adds =
      let whole : old ++ drop (length old) new ≡ new = ap (λ t. old ++ drop (length old) t) grows.behind ∙ ap (λ t. old ++ t) (drop_at old grows.more (length old) refl) ∙ sym grows.behind in
      subst (λ table. HasBlock calls table deep base body) whole (adds.each old refl)

-- where calls give the same points of the functions called
module _ (calls calls' : ℕ → List Point) (f : ℕ) where
  suffix_same : (deep : ℕ) (suffix : Suffix) (body : List Stmt) → Agrees calls calls' f (calls_in (suc deep) body) → IsSuffix calls (suc deep) suffix body → IsSuffix calls' (suc deep) suffix body
  suffix_same deep suffix body agrees is = record {
    points = λ g. is.points g ∙ ap (λ (ps : List Point). min (length ps) (most_points + 1)) (same_points calls calls' g (suc deep) body agrees);
    frames = λ g. is.frames g ∙ ap most_frames (same_points calls calls' g (suc deep) body agrees);
    local = λ g. subst (λ (ps : List Point). all_pass is_local ps ≡ true) (same_points calls calls' g (suc deep) (take suffix.local body) (λ h e. agrees h (take_calls deep suffix.local body h e))) (is.local g);
    work = λ g. subst (λ (ps : List Point). all_pass is_work ps ≡ true) (same_points calls calls' g (suc deep) (take suffix.work body) (λ h e. agrees h (take_calls deep suffix.work body h e))) (is.work g);
  }

  pub block_same : (table : List Suffix) (deep base : ℕ) (body : List Stmt) → Agrees calls calls' f (calls_in deep body) → HasBlock calls table deep base body → HasBlock calls' table deep base body
  unfolding HasBlock
  block_same table zero base body agrees has = tt
  block_same table (suc deep) base body agrees has = (
    has.0,
    λ k d within.
        let old : IsEntry calls (HasBlock calls table deep) (suc deep) (get_or table (base + k) d) body k = has.1 k d within in
        record {
          sums = suffix_same deep (get_or table (base + k) d) (drop k body) (λ h e. agrees h (drop_calls deep k body h e)) old.sums;
          inner = λ some. block_same table deep (get_or table (base + k) d).inner (body_inside body k) (λ h e. agrees h (inside_calls deep body k h e)) (old.inner some);
        },
  )

pub grows_none : (table : List Suffix) → Grows table table
grows_none table = record { more = []; behind = sym (append-nil table) }

pub grows_on : (a b c : List Suffix) → Grows a b → Grows b c → Grows a c
grows_on a b c first second = record {
  more = first.more ++ second.more;
  behind = second.behind ∙ (ap (λ t. t ++ second.more) first.behind ∙ append_assoc a first.more second.more);
}

pub grows_longer : (old new : List Suffix) → Grows old new → length old ≤ length new
grows_longer old new grows = omega (arith, ap length grows.behind, length-append old grows.more)

-- an entry written behind those that were there
pub grows_set : (old new : List Suffix) (at : ℕ) (entry : Suffix) → length old ≤ at → Grows old new → Grows old (set new at entry)
grows_set old new at entry behind grows = record {
  more = set grows.more (at - length old) entry;
  behind = ap (λ t. set t at entry) grows.behind ∙ set-append_right old grows.more (length old) at entry refl behind;
}

-- a function more
pub blocks_set : (parts : Parts) (old new : List Suffix) (bases : List ℕ) (f base : ℕ) → Grows old new → f < length bases → (base < no_base → HasBlock (trace parts) new most_bodies base (body_of parts f)) →
    AreBlocks parts old bases → AreBlocks parts new (set bases f base)
blocks_set parts old new bases f base grows within has are = record { each = each }
  where
    each : (k : ℕ) → get_or (set bases f base) k no_base < no_base → HasBlock (trace parts) new most_bodies (get_or (set bases f base) k no_base) (body_of parts k)
    each k some = elim (cases_eq k f) as (λ _. HasBlock (trace parts) new most_bodies (get_or (set bases f base) k no_base) (body_of parts k)) [
      | inl same ↦
          let there : get_or (set bases f base) k no_base ≡ base = get_or-set_at bases f k base no_base same within in
          subst (λ b. HasBlock (trace parts) new most_bodies b (body_of parts k)) (sym there) (subst (λ g. HasBlock (trace parts) new most_bodies base (body_of parts g)) (sym same) (has (subst (λ b. b < no_base) there some)))
      | inr other ↦
          let there : get_or (set bases f base) k no_base ≡ get_or bases k no_base = get_or-set_other bases f k base no_base other in
          subst (λ b. HasBlock (trace parts) new most_bodies b (body_of parts k)) (sym there)
          (block_grows (trace parts) old new most_bodies (get_or bases k no_base) (body_of parts k) grows (are.each k (subst (λ b. b < no_base) there some)))
    ]

no_bases : (n f : ℕ) → get_or (replicate n no_base) f no_base ≡ no_base
no_bases zero f = refl
no_bases (suc n) zero = refl
no_bases (suc n) (suc f) = no_bases n f

pub blocks_none : (parts : Parts) (table : List Suffix) (bases : List ℕ) (n : ℕ) → bases ≡ replicate n no_base → AreBlocks parts table bases
blocks_none parts table bases n is = record {
  each = λ f some. let none : get_or bases f no_base ≡ no_base = ap (λ (bs : List ℕ). get_or bs f no_base) is ∙ no_bases n f in absurd (omega arith);
}
