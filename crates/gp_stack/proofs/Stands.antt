-- A body that stands in a program stands there after it passed points.
use Rattle.std.proofs.Common.{◌≡◌, ◌<◌, ◌≤◌, ◌+◌, ◌-◌, ℕ, zero, suc, true, false, List, [], ◌∷◌, ◌++◌, Some, length, drop, take, map, get_or, nat_le, replicate, reverse, refl, ap, sym, ◌∙◌, arith, subst}
use Rattle.std.proofs.lemmas.List.{take_at, drop-drop, length-map, length-replicate, length-drop}
use Rattle.std.specs.Prelude.{slice_get}
use Rattle.gp_isa.specs.declared.frame.Frame.{Frame}
use Rattle.gp_isa.specs.declared.parts.Parts.{Parts}
use Rattle.gp_isa.specs.declared.statement.Stmt.{Stmt}
use Rattle.gp_isa.specs.declared.statement.What.TheOpen.{Work, Call, Loop, Send, Recv, Lock, Unlock, Spawn, Labels}
use Rattle.gp_isa.specs.Statement.{Action, action_of, line_of}
use Rattle.gp_isa.specs.Trace.{Point, Local, Labels as LabelsPoint, point_at, trace, is_local}
use Rattle.gp_stack.specs.declared.body.Body.{Body}
use Rattle.gp_stack.specs.declared.level.Level.{Level}
use Rattle.gp_stack.specs.declared.place.Place.{Place}
use Rattle.gp_stack.specs.declared.statement.Operation.{Operation}
use Rattle.gp_stack.specs.declared.statement.Operation.TheVariants as operation
use Rattle.gp_stack.specs.Goroutine.{no_point, next_point, stack_of, is_ended, set_after_all, labels_of, local_ahead}
use Rattle.gp_stack.specs.kept.Level.{is_base, body_at, line_at, callers, called_from, leaf_of, left}
use Rattle.gp_stack.specs.kept.Place.{levels, stepped, IsIn, IsSettled, AtPoint, AtEnd, IsPoint}
use Rattle.gp_stack.specs.kept.Ahead.{Does, action_of_operation}
use Rattle.gp_stack.specs.Body.{StandsIn, IsAtShared}
use Rattle.gp_stack.specs.kept.Standing.{IsPartOf}
use Rattle.gp_stack.specs.kept.Passing.{Passes}
use Rattle.gp_stack.proofs.Moves.{added, left_next, left_turned}
use Rattle.gp_stack.proofs.Passing.{passes_none, work_keeps_labels}
use Rattle.gp_stack.proofs.Points.{local_ahead_more, labels_more, work_left, work_labels, passed_whole, local_ahead_le, next_is, no_local, none_ahead}

-- one statement stands at a place
pub does_one : (body : List Stmt) (at : ℕ) (a b : Action) → Does body at a → Does body at b → a ≡ b
does_one body at a b d e =
    let same : Some d.statement ≡ Some e.statement = sym d.stands ∙ e.stands in
    let one : d.statement ≡ e.statement = cc in
    sym d.does ∙ (ap action_of one ∙ e.does)

pub does_within : (body : List Stmt) (at : ℕ) (s : Stmt) → slice_get body at ≡ Some s → at < length body
does_within [] at s found = cc
does_within (x ∷ body) zero s found = omega arith
does_within (x ∷ body) (suc at) s found = let h : at < length body = does_within body at s found in omega arith

-- at a place that is settled a statement begins with a point
pub settled_point : (parts : Parts) (level : Level) (outer : List Level) (a : Action) → IsSettled parts level outer → Does (body_at parts level outer) level.at a → IsPoint a
settled_point parts level outer a (AtPoint b d p) e =
    subst IsPoint (does_one (body_at parts level outer) level.at b a d e) p
settled_point parts level outer a (AtEnd past turns none) e =
    let within : level.at < length (body_at parts level outer) = does_within (body_at parts level outer) level.at e.statement e.stands in
    absurd (omega arith)

pub part_zero : (a : Action) → IsPoint a → IsPartOf 0 a
part_zero (Work n) p = omega arith
part_zero (Call f) p = absurd p
part_zero (Loop n body end) p = absurd p
part_zero (Send c) p = refl
part_zero (Recv c) p = refl
part_zero (Lock m) p = refl
part_zero (Unlock m) p = refl
part_zero (Spawn f) p = refl
part_zero (Labels s) p = refl

-- at the end nothing is left
pub left_over : (parts : Parts) (level : Level) (outer : List Level) → IsSettled parts level outer → length (body_at parts level outer) ≤ level.at → left parts (level ∷ outer) ≡ []
unfolding left
left_over parts level outer (AtPoint a d p) past =
    let within : level.at < length (body_at parts level outer) = does_within (body_at parts level outer) level.at d.statement d.stands in
    absurd (omega arith)
left_over parts level outer (AtEnd behind turns none) past =
    sym (left_turned parts level outer 0 past turns) ∙ ap (left parts) none

-- the points of a statement of work, and of one with a single point
abbrev first_of : Parts → Level → List Level → Point → Point
first_of parts level outer p = called_from (callers parts (is_base level) outer) p

map_replicate : (f : Point → Point) (n : ℕ) (p : Point) → map f (replicate n p) ≡ replicate n (f p)
map_replicate f zero p = refl
map_replicate f (suc n) p = ap (λ xs. f p ∷ xs) (map_replicate f n p)

pub next_work : (parts : Parts) (level : Level) (outer : List Level) (n : ℕ) (d : Does (body_at parts level outer) level.at (Work n)) →
    left parts (level ∷ outer) ≡ replicate n (called_from (callers parts (is_base level) outer) (point_at level.function (line_of d.statement) Local)) ++ left parts (stepped (level ∷ outer))
next_work parts level outer n d =
    left_next parts level outer (Work n) d ∙
    ap (λ xs. xs ++ left parts (stepped (level ∷ outer))) (map_replicate (called_from (callers parts (is_base level) outer)) n (point_at level.function (line_of d.statement) Local))

length_added : (parts : Parts) (level : Level) (outer : List Level) (line : ℕ) (a : Action) → length (map (called_from (callers parts (is_base level) outer)) (added parts level line a)) ≡ length (added parts level line a)
length_added parts level outer line a = length-map (added parts level line a) (called_from (callers parts (is_base level) outer))

-- the body after it passed the whole of its statement, and then points of work
pub stands_after : (parts : Parts) (body : Body) (place : Place) (a : Action) (k m labels : ℕ) (d : Does (body_at parts body.place.top (reverse body.place.outer.items)) body.place.top.at a) → StandsIn parts body → IsIn parts place →
    Passes parts (stepped (levels body.place)) (levels place) m → IsSettled parts place.top (reverse place.outer.items) → length (added parts body.place.top (line_of d.statement) a) ≡ body.passed + k →
    body.count + (k + m) ≤ length (trace parts body.start) → labels ≡ set_after_all body.labels (take k (drop body.passed (left parts (levels body.place)))) →
    StandsIn parts (record { start = body.start; set = body.set; labels = labels; count = body.count + (k + m); passed = 0; place = place })
stands_after parts body place a k m labels d stands whole passes settled size within after =
    let level : Level = body.place.top in
    let outer : List Level = reverse body.place.outer.items in
    let points : List Point = trace parts body.start in
    let xs : List Point = map (called_from (callers parts (is_base level) outer)) (added parts level (line_of d.statement) a) in
    let all : left parts (level ∷ outer) ≡ xs ++ left parts (stepped (level ∷ outer)) = left_next parts level outer a d in
    let all_left : drop body.passed (xs ++ left parts (stepped (level ∷ outer))) ≡ drop body.count points = ap (drop body.passed) (sym all) ∙ stands.left in
    let behind : drop (body.count + k) points ≡ passes.points ++ left parts (levels place) =
    passed_whole xs (left parts (stepped (level ∷ outer))) points body.passed body.count k (length_added parts level outer (line_of d.statement) a ∙ size) all_left ∙ passes.split in
    let count : body.count + k + m ≡ body.count + (k + m) = omega arith in
    let rest : drop (body.count + (k + m)) points ≡ left parts (levels place) =
    ap (λ n. drop n points) (sym count) ∙ passed_whole passes.points (left parts (levels place)) points 0 (body.count + k) m (passes.count ∙ omega arith) (sym behind) in
    let labels_before : labels ≡ labels_of points body.set (body.count + k) =
    after ∙ (ap (λ ps. set_after_all body.labels (take k ps)) stands.left ∙
    (ap (λ l. set_after_all l (take k (drop body.count points))) stands.labels ∙ sym (labels_more points body.set body.count k))) in
    let passed : take m (drop (body.count + k) points) ≡ passes.points = ap (take m) behind ∙ take_at passes.points (left parts (levels place)) m passes.count in
    record {
      place = whole;
      settled = settled;
      part = λ b e. part_zero b (settled_point parts place.top (reverse place.outer.items) b settled e);
      left = sym rest;
      within = within;
      short = stands.short;
      labels = labels_before ∙ sym (ap (labels_of points body.set) (sym count) ∙ (labels_more points body.set (body.count + k) m ∙
          (ap (set_after_all (labels_of points body.set (body.count + k))) passed ∙ work_keeps_labels (labels_of points body.set (body.count + k)) passes.points passes.work)));
    }

-- so many points can be passed as are ahead
pub within_ahead : (points : List Point) (count k : ℕ) → count ≤ length points → k ≤ local_ahead points count → count + k ≤ length points
within_ahead points count k here few =
    let h : local_ahead points count ≤ length (drop count points) = local_ahead_le points count in
    omega (arith, length-drop count points)

pub stands_work : (parts : Parts) (body : Body) (place : Place) (n k m : ℕ) → Does (body_at parts body.place.top (reverse body.place.outer.items)) body.place.top.at (Work n) → StandsIn parts body → IsIn parts place →
    Passes parts (stepped (levels body.place)) (levels place) m → IsSettled parts place.top (reverse place.outer.items) → n ≡ body.passed + k → body.count + (k + m) ≤ length (trace parts body.start) →
    StandsIn parts (record { start = body.start; set = body.set; labels = body.labels; count = body.count + (k + m); passed = 0; place = place })
stands_work parts body place n k m d stands whole passes settled size within =
    let level : Level = body.place.top in
    let outer : List Level = reverse body.place.outer.items in
    let p : Point = called_from (callers parts (is_base level) outer) (point_at level.function (line_of d.statement) Local) in
    stands_after parts body place (Work n) k m body.labels d stands whole passes settled (length-replicate n (point_at level.function (line_of d.statement) Local) ∙ size) within
    (sym (ap (λ points. set_after_all body.labels (take k (drop body.passed points))) (next_work parts level outer n d) ∙ work_labels body.labels n body.passed k p (left parts (stepped (level ∷ outer))) refl (omega arith)))

part_work : (n passed : ℕ) (a : Action) → Work n ≡ a → passed < n → IsPartOf passed a
part_work n passed a e few = subst (IsPartOf passed) e few

pub stands_part : (parts : Parts) (body : Body) (n k : ℕ) → Does (body_at parts body.place.top (reverse body.place.outer.items)) body.place.top.at (Work n) → StandsIn parts body → body.passed + k < n →
    body.count + k ≤ length (trace parts body.start) → StandsIn parts (record { start = body.start; set = body.set; labels = body.labels; count = body.count + k; passed = body.passed + k; place = body.place })
stands_part parts body n k d stands few within =
    let level : Level = body.place.top in
    let outer : List Level = reverse body.place.outer.items in
    let p : Point = called_from (callers parts (is_base level) outer) (point_at level.function (line_of d.statement) Local) in
    let same : body.labels ≡ set_after_all body.labels (take k (drop body.passed (left parts (levels body.place)))) =
    sym (ap (λ points. set_after_all body.labels (take k (drop body.passed points))) (next_work parts level outer n d) ∙ work_labels body.labels n body.passed k p (left parts (stepped (level ∷ outer))) refl (omega arith)) in
    record {
      place = stands.place;
      settled = stands.settled;
      part = λ b e. part_work n (body.passed + k) b (does_one (body_at parts level outer) level.at (Work n) b d e) few;
      left = sym (drop-drop k body.passed (left parts (levels body.place))) ∙ (ap (drop k) stands.left ∙ drop-drop k body.count (trace parts body.start));
      within = within;
      short = stands.short;
      labels = same ∙ (ap (λ points. set_after_all body.labels (take k points)) stands.left ∙
          (ap (λ l. set_after_all l (take k (drop body.count (trace parts body.start)))) stands.labels ∙ sym (labels_more (trace parts body.start) body.set body.count k)));
    }

pub stands_labels : (parts : Parts) (body : Body) (place : Place) (s m : ℕ) → Does (body_at parts body.place.top (reverse body.place.outer.items)) body.place.top.at (Labels s) → StandsIn parts body → IsIn parts place →
    Passes parts (stepped (levels body.place)) (levels place) m → IsSettled parts place.top (reverse place.outer.items) → body.count + (1 + m) ≤ length (trace parts body.start) →
    StandsIn parts (record { start = body.start; set = body.set; labels = s; count = body.count + (1 + m); passed = body.passed; place = place })
stands_labels parts body place s m d stands whole passes settled within =
    let level : Level = body.place.top in
    let outer : List Level = reverse body.place.outer.items in
    let none : body.passed ≡ 0 = stands.part (Labels s) d in
    let after : s ≡ set_after_all body.labels (take 1 (drop body.passed (left parts (levels body.place)))) = sym (rw (none, left_next parts level outer (Labels s) d) refl) in
    let whole_one : StandsIn parts (record { start = body.start; set = body.set; labels = s; count = body.count + (1 + m); passed = 0; place = place }) =
    stands_after parts body place (Labels s) 1 m s d stands whole passes settled (omega arith) within after in
    subst (λ passed. StandsIn parts (record { start = body.start; set = body.set; labels = s; count = body.count + (1 + m); passed = passed; place = place })) (sym none) whole_one

-- what a shared point is, of each operation
pub record IsSharedPoint (points : List Point) : Type 0 where
  pub point : Point
  pub alone : points ≡ point ∷ []
  pub shared : is_local point.instruction ≡ false
  pub plain : (set : ℕ) → set_after_all set (point ∷ []) ≡ set

unfoldable pub shared_point : (parts : Parts) (level : Level) (outer : List Level) (line : ℕ) (o : Operation) → IsSharedPoint (map (called_from (callers parts (is_base level) outer)) (added parts level line (action_of_operation o)))
shared_point parts level outer line (operation.Send n) = record { point = _; alone = refl; shared = refl; plain = λ set. refl }
shared_point parts level outer line (operation.Recv n) = record { point = _; alone = refl; shared = refl; plain = λ set. refl }
shared_point parts level outer line (operation.Lock n) = record { point = _; alone = refl; shared = refl; plain = λ set. refl }
shared_point parts level outer line (operation.Unlock n) = record { point = _; alone = refl; shared = refl; plain = λ set. refl }
shared_point parts level outer line (operation.Spawn n) = record { point = _; alone = refl; shared = refl; plain = λ set. refl }

part_shared : (passed : ℕ) (o : Operation) → IsPartOf passed (action_of_operation o) → passed ≡ 0
part_shared passed (operation.Send n) h = h
part_shared passed (operation.Recv n) h = h
part_shared passed (operation.Lock n) h = h
part_shared passed (operation.Unlock n) h = h
part_shared passed (operation.Spawn n) h = h

-- at a shared statement that point comes next
pub next_shared : (parts : Parts) (body : Body) (o : Operation) (d : Does (body_at parts body.place.top (reverse body.place.outer.items)) body.place.top.at (action_of_operation o)) → StandsIn parts body →
    drop body.count (trace parts body.start) ≡ (shared_point parts body.place.top (reverse body.place.outer.items) (line_of d.statement) o).point ∷ left parts (stepped (levels body.place))
next_shared parts body o d stands =
    let level : Level = body.place.top in
    let outer : List Level = reverse body.place.outer.items in
    let none : body.passed ≡ 0 = part_shared body.passed o (stands.part (action_of_operation o) d) in
    sym stands.left ∙ (ap (λ passed. drop passed (left parts (levels body.place))) none ∙
    (left_next parts level outer (action_of_operation o) d ∙ ap (λ xs. xs ++ left parts (stepped (level ∷ outer))) (shared_point parts level outer (line_of d.statement) o).alone))

pub stands_shared : (parts : Parts) (body : Body) (place : Place) (o : Operation) → Does (body_at parts body.place.top (reverse body.place.outer.items)) body.place.top.at (action_of_operation o) → StandsIn parts body → IsIn parts place →
    left parts (levels place) ≡ left parts (stepped (levels body.place)) → IsSettled parts place.top (reverse place.outer.items) → body.count + 1 ≤ length (trace parts body.start) →
    StandsIn parts (record { start = body.start; set = body.set; labels = body.labels; count = body.count + 1; passed = body.passed; place = place })
stands_shared parts body place o d stands whole rest settled within =
    let level : Level = body.place.top in
    let outer : List Level = reverse body.place.outer.items in
    let point : IsSharedPoint (map (called_from (callers parts (is_base level) outer)) (added parts level (line_of d.statement) (action_of_operation o))) = shared_point parts level outer (line_of d.statement) o in
    let none : body.passed ≡ 0 = part_shared body.passed o (stands.part (action_of_operation o) d) in
    let after : body.labels ≡ set_after_all body.labels (take 1 (drop body.passed (left parts (levels body.place)))) =
    sym (ap (λ points. set_after_all body.labels (take 1 points)) (stands.left ∙ next_shared parts body o d stands) ∙ point.plain body.labels) in
    let size : length (added parts level (line_of d.statement) (action_of_operation o)) ≡ body.passed + 1 =
    sym (length_added parts level outer (line_of d.statement) (action_of_operation o)) ∙ (ap length point.alone ∙ omega arith) in
    let one : body.count + (1 + 0) ≡ body.count + 1 = omega arith in
    let whole_one : StandsIn parts (record { start = body.start; set = body.set; labels = body.labels; count = body.count + 1; passed = 0; place = place }) =
    subst (λ count. StandsIn parts (record { start = body.start; set = body.set; labels = body.labels; count = count; passed = 0; place = place })) one
    (stands_after parts body place (action_of_operation o) 1 0 body.labels d stands whole (passes_none parts (stepped (levels body.place)) (levels place) rest) settled size (omega (arith, within)) after) in
    subst (λ passed. StandsIn parts (record { start = body.start; set = body.set; labels = body.labels; count = body.count + 1; passed = passed; place = place })) (sym none) whole_one

-- a shared point is not local
pub no_local_shared : (parts : Parts) (body : Body) (o : Operation) → Does (body_at parts body.place.top (reverse body.place.outer.items)) body.place.top.at (action_of_operation o) → StandsIn parts body →
    local_ahead (trace parts body.start) body.count ≡ 0
no_local_shared parts body o d stands =
    no_local (trace parts body.start) (left parts (stepped (levels body.place))) body.count (shared_point parts body.place.top (reverse body.place.outer.items) (line_of d.statement) o).point (next_shared parts body o d stands)
    (shared_point parts body.place.top (reverse body.place.outer.items) (line_of d.statement) o).shared

drop_nil : (n : ℕ) → drop {A = Point} n [] ≡ []
drop_nil zero = refl
drop_nil (suc n) = refl

pub over_ahead : (parts : Parts) (body : Body) → length (body_at parts body.place.top (reverse body.place.outer.items)) ≤ body.place.top.at → StandsIn parts body → drop body.count (trace parts body.start) ≡ []
over_ahead parts body past stands =
    sym stands.left ∙ (ap (drop body.passed) (left_over parts body.place.top (reverse body.place.outer.items) stands.settled past) ∙ drop_nil body.passed)

pub no_local_over : (parts : Parts) (body : Body) → length (body_at parts body.place.top (reverse body.place.outer.items)) ≤ body.place.top.at → StandsIn parts body → local_ahead (trace parts body.start) body.count ≡ 0
no_local_over parts body past stands = none_ahead (trace parts body.start) body.count (over_ahead parts body past stands)

not_le : (m n : ℕ) → nat_le m n ≡ false → n < m
not_le m n e = grind arith

not_ended : (points : List Point) (count : ℕ) → is_ended points count ≡ false → count < length points
unfolding is_ended
not_ended points count e = not_le (length points) count e

split_first : (k : ℕ) (p : Point) (rest : List Point) → 0 < k → replicate k p ++ rest ≡ p ∷ (replicate (k - 1) p ++ rest)
split_first zero p rest some = absurd (omega arith)
split_first (suc k) p rest some = let same : suc k - 1 ≡ k = omega arith in rw same refl

first_replicate : (k : ℕ) (p : Point) (rest : List Point) → 0 < k → get_or (replicate k p ++ rest) 0 no_point ≡ p
first_replicate zero p rest some = absurd (omega arith)
first_replicate (suc k) p rest some = refl

-- in a pass that is asked for, the next point is shared
pub no_end : (parts : Parts) (body : Body) → length (body_at parts body.place.top (reverse body.place.outer.items)) ≤ body.place.top.at → StandsIn parts body → IsAtShared (trace parts body.start) body.count → ⊥
no_end parts body past stands shared =
    let over : drop body.count (trace parts body.start) ≡ [] = over_ahead parts body past stands in
    let none : length (drop body.count (trace parts body.start)) ≡ 0 = ap length over in
    let more : body.count < length (trace parts body.start) = not_ended (trace parts body.start) body.count shared.going in
    omega (arith, length-drop body.count (trace parts body.start))

pub no_work : (parts : Parts) (body : Body) (n : ℕ) → Does (body_at parts body.place.top (reverse body.place.outer.items)) body.place.top.at (Work n) → StandsIn parts body → IsAtShared (trace parts body.start) body.count → ⊥
no_work parts body n d stands shared =
    let level : Level = body.place.top in
    let outer : List Level = reverse body.place.outer.items in
    let p : Point = called_from (callers parts (is_base level) outer) (point_at level.function (line_of d.statement) Local) in
    let few : body.passed < n = stands.part (Work n) d in
    let next : drop body.count (trace parts body.start) ≡ replicate (n - body.passed) p ++ left parts (stepped (level ∷ outer)) =
    sym stands.left ∙ (ap (drop body.passed) (next_work parts level outer n d) ∙ work_left n body.passed p (left parts (stepped (level ∷ outer))) (omega arith)) in
    let head : next_point (trace parts body.start) body.count ≡ p =
    next_is (trace parts body.start) body.count ∙ (ap (λ xs. get_or xs 0 no_point) next ∙ first_replicate (n - body.passed) p (left parts (stepped (level ∷ outer))) (omega arith)) in
    let local : is_local (next_point (trace parts body.start) body.count).instruction ≡ true = ap (λ q. is_local q.instruction) head in
    cc (shared.shared)

pub no_labels : (parts : Parts) (body : Body) (s : ℕ) → Does (body_at parts body.place.top (reverse body.place.outer.items)) body.place.top.at (Labels s) → StandsIn parts body → IsAtShared (trace parts body.start) body.count → ⊥
no_labels parts body s d stands shared =
    let level : Level = body.place.top in
    let outer : List Level = reverse body.place.outer.items in
    let p : Point = called_from (callers parts (is_base level) outer) (point_at level.function (line_of d.statement) (LabelsPoint s)) in
    let none : body.passed ≡ 0 = stands.part (Labels s) d in
    let next : drop body.count (trace parts body.start) ≡ p ∷ left parts (stepped (level ∷ outer)) =
    sym stands.left ∙ (ap (λ passed. drop passed (left parts (levels body.place))) none ∙ left_next parts level outer (Labels s) d) in
    let head : next_point (trace parts body.start) body.count ≡ p =
    next_is (trace parts body.start) body.count ∙ ap (λ xs. get_or xs 0 no_point) next in
    let local : is_local (next_point (trace parts body.start) body.count).instruction ≡ true = ap (λ q. is_local q.instruction) head in
    cc (shared.shared)

pub within_shared : (points : List Point) (count : ℕ) → IsAtShared points count → count + 1 ≤ length points
within_shared points count shared =
    let more : count < length points = not_ended points count shared.going in omega arith

-- local points that are still to be passed are ahead after some of them were
pub ahead_moved : (parts : Parts) (old new : Body) (n k : ℕ) → new.start ≡ old.start → new.count ≡ old.count + k → k ≤ n → n ≤ local_ahead (trace parts old.start) old.count → n - k ≤ local_ahead (trace parts new.start) new.count
ahead_moved parts old new n k start count few ahead =
    let more : local_ahead (trace parts old.start) (old.count + k) + k ≡ local_ahead (trace parts old.start) old.count = local_ahead_more (trace parts old.start) old.count k (omega arith) in
    rw (start, count) (omega arith)

-- the frames of the next point
abbrev pub frames_of : Parts → Place → List Frame
frames_of parts place = leaf_of parts place.top (reverse place.outer.items) ∷ callers parts (is_base place.top) (reverse place.outer.items)

leaf_is : (parts : Parts) (level : Level) (outer : List Level) (a : Action) (d : Does (body_at parts level outer) level.at a) → leaf_of parts level outer ≡ record { function = level.function; line = line_of d.statement }
unfolding leaf_of
leaf_is parts level outer a d = rw (line_at, d.stands) refl

-- a point that stands at the statement
pub record IsFirst (parts : Parts) (level : Level) (outer : List Level) (line : ℕ) (points : List Point) : Type 0 where
  pub point : Point
  pub others : List Point
  pub first : points ≡ point ∷ others
  pub stack : point.stack ≡ record { function = level.function; line = line } ∷ callers parts (is_base level) outer

first_point : (parts : Parts) (level : Level) (outer : List Level) (line passed : ℕ) (rest : List Point) (a : Action) → IsPoint a → IsPartOf passed a →
    IsFirst parts level outer line (drop passed (map (called_from (callers parts (is_base level) outer)) (added parts level line a) ++ rest))
first_point parts level outer line passed rest (Work n) p few =
    record {
      point = called_from (callers parts (is_base level) outer) (point_at level.function line Local);
      others = replicate (n - passed - 1) (called_from (callers parts (is_base level) outer) (point_at level.function line Local)) ++ rest;
      first = ap (λ xs. drop passed (xs ++ rest)) (map_replicate (called_from (callers parts (is_base level) outer)) n (point_at level.function line Local)) ∙
          (work_left n passed (called_from (callers parts (is_base level) outer) (point_at level.function line Local)) rest (omega arith) ∙
          split_first (n - passed) (called_from (callers parts (is_base level) outer) (point_at level.function line Local)) rest (omega arith));
      stack = refl;
    }
first_point parts level outer line passed rest (Call f) p few = absurd p
first_point parts level outer line passed rest (Loop n body end) p few = absurd p
first_point parts level outer line passed rest (Send c) p few = rw few (record { point = _; others = rest; first = refl; stack = refl })
first_point parts level outer line passed rest (Recv c) p few = rw few (record { point = _; others = rest; first = refl; stack = refl })
first_point parts level outer line passed rest (Lock m) p few = rw few (record { point = _; others = rest; first = refl; stack = refl })
first_point parts level outer line passed rest (Unlock m) p few = rw few (record { point = _; others = rest; first = refl; stack = refl })
first_point parts level outer line passed rest (Spawn f) p few = rw few (record { point = _; others = rest; first = refl; stack = refl })
first_point parts level outer line passed rest (Labels s) p few = rw few (record { point = _; others = rest; first = refl; stack = refl })

stack_at : (parts : Parts) (body : Body) → StandsIn parts body → is_ended (trace parts body.start) body.count ≡ false → IsSettled parts body.place.top (reverse body.place.outer.items) →
    frames_of parts body.place ≡ (next_point (trace parts body.start) body.count).stack
stack_at parts body stands going (AtPoint a d p) =
    let level : Level = body.place.top in
    let outer : List Level = reverse body.place.outer.items in
    let first : IsFirst parts level outer (line_of d.statement) (drop body.passed (map (called_from (callers parts (is_base level) outer)) (added parts level (line_of d.statement) a) ++ left parts (stepped (level ∷ outer)))) =
    first_point parts level outer (line_of d.statement) body.passed (left parts (stepped (level ∷ outer))) a p (stands.part a d) in
    let next : drop body.count (trace parts body.start) ≡ first.point ∷ first.others =
    sym stands.left ∙ (ap (drop body.passed) (left_next parts level outer a d) ∙ first.first) in
    let head : next_point (trace parts body.start) body.count ≡ first.point =
    next_is (trace parts body.start) body.count ∙ ap (λ xs. get_or xs 0 no_point) next in
    ap (λ leaf. leaf ∷ callers parts (is_base level) outer) (leaf_is parts level outer a d) ∙ (sym first.stack ∙ ap (λ q. q.stack) (sym head))
stack_at parts body stands going (AtEnd past turns none) =
    let over : drop body.count (trace parts body.start) ≡ [] = over_ahead parts body past stands in
    let empty : length (drop body.count (trace parts body.start)) ≡ 0 = ap length over in
    let more : body.count < length (trace parts body.start) = not_ended (trace parts body.start) body.count going in
    absurd (omega (arith, length-drop body.count (trace parts body.start)))

-- the frames that the levels tell are those of the next point
pub stack_is : (parts : Parts) (body : Body) → StandsIn parts body → is_ended (trace parts body.start) body.count ≡ false → frames_of parts body.place ≡ stack_of (trace parts body.start) body.count
unfolding stack_of
stack_is parts body stands going = stack_at parts body stands going stands.settled
