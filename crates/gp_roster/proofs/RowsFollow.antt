-- Which row an entry changes, and to what.
use Rattle.std.proofs.Common.{◌≡◌, ◌+◌, ◌<◌, ◌≤◌, ℕ, suc, Bool, true, false, List, [], ◌∷◌, ◌++◌, length, get_or, set, drop, Some, None, refl, sym, ap, ◌∙◌, subst, arith, if◌then◌else◌, append-nil, length-set, get_or-set_same, get_or-set_other, Option}
use Rattle.std.proofs.lemmas.List.{length_push, drop_all, get_or_append_left}
use Rattle.std.proofs.Math.Seq.{drop-cons}
use Rattle.gp_isa.specs.declared.parts.Parts.{Parts}
use Rattle.gp_tally.specs.declared.row.Row.{Row}
use Rattle.gp_journal.specs.declared.answer.Applied.{Applied}
use Rattle.gp_journal.specs.declared.answer.Applied.TheVariants.{Plain, Passed, Born, Blocked as Waits, Fault}
use Rattle.gp_journal.specs.declared.entry.Entry.{Entry}
use Rattle.gp_journal.specs.declared.entry.Entry.TheVariants.{Start, Run, Op, Tick, Park, Open, Refuse, Record, Close}
use Rattle.gp_journal.specs.declared.goroutine.Goroutine.{Goroutine}
use Rattle.gp_journal.specs.declared.goroutine.Status.TheVariants.{Runnable, Running, Blocked, Faulted, Dead}
use Rattle.gp_journal.specs.declared.settings.Settings.{Settings}
use Rattle.gp_journal.specs.Answer.{applied, op_answer}
use Rattle.gp_journal.specs.Bodies.{standing}
use Rattle.gp_journal.specs.Effect.{turned, recorded, passed, is_over_after, unmarked, blocked_at, woken_at, child_of, acts, after}
use Rattle.gp_journal.specs.May.{May}
use Rattle.gp_journal.specs.Run.{last, IsLegal, state_of}
use Rattle.gp_journal.specs.State.{Code, State, nobody, goroutine, worker, births, is_live, first, code_of}
use Rattle.gp_journal.specs.StepLaws.{OfEachEntry}
use Rattle.gp_journal.proofs.Lemmas.{IsWhole, first_whole, all_whole, changed, pushed, acts_told, live_within, live_status, after_all-append, front_legal, rest_legal, appended}
use Rattle.gp_roster.specs.Rows.{row_of, rows_from, rows_of}
use Rattle.gp_roster.specs.RowLaws.{mover, passed_row, told_row, newborn_rows, rows_after, RowsAreTold, RowsFollow, NewbornsAreLast}
use Rattle.gp_roster.proofs.RowLists.{SameRow, rows_same, rows_moved}

row_same : (x y : Goroutine) → standing y ≡ standing x → is_live y ≡ is_live x → SameRow x y
row_same x y place live m = λ i. record { a = (place i).start; b = (place i).set; c = (place i).count; d = if live i then m + 1 else 0 }

-- a goroutine has the row that stands at its number in a list
abbrev Stays : List Goroutine → ℕ → Goroutine → Type 0
Stays gs k x = k < length gs → SameRow (get_or gs k nobody) x

-- it has, but for one of them
abbrev StaysBut : ℕ → List Goroutine → ℕ → Goroutine → Type 0
StaysBut g gs k x = k < length gs → (k ≡ g → ⊥) → SameRow (get_or gs k nobody) x

-- how many there are behind an entry that is answered so, where there were n
abbrev Grown : ℕ → ℕ → Applied → Type 0
Grown n m (Born h died) = (h ≡ n) × (m ≡ n + 1)
Grown n m _ = m ≡ n

-- All rows stay, and nobody is born; or those stay that are of others than g, and who is born is told.
record AllStay (gs new : List Goroutine) : Type 0 where
  as_many : length new ≡ length gs
  each : (k : ℕ) → Stays gs k (get_or new k nobody)

record OthersStay (g : ℕ) (gs new : List Goroutine) (told : Applied) : Type 0 where
  grown : Grown (length gs) (length new) told
  each : (k : ℕ) → StaysBut g gs k (get_or new k nobody)

one_turned : (gs : List Goroutine) (g : ℕ) (y : Goroutine) → SameRow (get_or gs g nobody) y → AllStay gs (set gs g y)
one_turned gs g y same = record {
  as_many = length-set gs g y;
  each = changed (Stays gs) nobody gs g y (λ within. same) (λ k within m. refl);
}

none_but : (g : ℕ) (gs : List Goroutine) (told : Applied) → Grown (length gs) (length gs) told → OthersStay g gs gs told
none_but g gs told grown = record { grown = grown; each = λ k within other m. refl }

moves : (g : ℕ) (gs new : List Goroutine) (y : Goroutine) (told : Applied) → OthersStay g gs new told → OthersStay g gs (set new g y) told
moves g gs new y told others = record {
  grown = subst (λ (m : ℕ). Grown (length gs) m told) (sym (length-set new g y)) others.grown;
  each = changed (StaysBut g gs) nobody new g y (λ within other. absurd (other refl)) others.each;
}

acts_moves : (code : Code) (settings : Settings) (w g : ℕ) (s : State) → IsWhole s → OthersStay g s.goroutines (acts code settings w g s).goroutines (op_answer code settings g s)
acts_moves code settings w g s whole =
    let gs = s.goroutines in
    acts_told code settings w g s (λ t told. OthersStay g gs t.goroutines told) whole (record {
      stays = none_but g gs (Plain false) refl;
      resumed = moves g gs _ _ _ (moves g gs gs (unmarked (goroutine s g)) _ (none_but g gs _ refl));
      passed = λ cs ms. moves g gs gs _ _ (none_but g gs _ refl);
      woke = λ cs ms h since contended blocked.
          let y = woken_at s.clock (goroutine s h) in
          moves g gs (set gs h y) _ _ (record {
            grown = length-set gs h y;
            each = changed (StaysBut g gs) nobody gs h y
                (λ within other. row_same (goroutine s h) y refl (sym (live_status (goroutine s h) blocked refl))) (λ k within other m. refl);
          });
      blocked = λ cs ms. moves g gs gs _ Waits (none_but g gs Waits refl);
      faulted = λ cause cs ms some. moves g gs gs _ (Fault cause) (none_but g gs (Fault cause) refl);
      bore = λ function room.
          let y = child_of code function g s in
          moves g gs (gs ++ y ∷ []) _ _ (record {
            grown = (refl, length_push gs y);
            each = pushed (StaysBut g gs) nobody gs y (λ within. absurd (omega arith)) (λ k within other m. refl);
          });
    })

-- ---- the row that moves

passed_at : (g n : ℕ) (x : Goroutine) (over : Bool) →
    row_of g (record x { count = x.count + n; status = if over then Dead else x.status }) ≡ passed_row n over (row_of g x)
passed_at g n x true = refl
passed_at g n x false = refl

passed_is : (code : Code) (g n : ℕ) (x : Goroutine) → row_of g (passed code n x) ≡ passed_row n (is_over_after code n x) (row_of g x)
passed_is code g n x = passed_at g n x (is_over_after code n x)

passed_there : (code : Code) (gs : List Goroutine) (g n : ℕ) (x : Goroutine) → g < length gs → get_or gs g nobody ≡ x →
    row_of g (get_or (set gs g (passed code n (get_or gs g nobody))) g nobody) ≡ passed_row n (is_over_after code n x) (row_of g x)
passed_there code gs g n x there is =
    ap (row_of g) (get_or-set_same gs g (passed code n (get_or gs g nobody)) nobody there ∙ ap (passed code n) is) ∙ passed_is code g n x

acts_tells : (code : Code) (settings : Settings) (w g : ℕ) (s : State) → IsWhole s → (worker s w).runs ≡ Some g →
    row_of g (goroutine (acts code settings w g s) g) ≡ told_row (Op w g) (op_answer code settings g s) (row_of g (goroutine s g))
acts_tells code settings w g s whole runs =
    let gs = s.goroutines in
    let x = goroutine s g in
    let status = whole.on_worker w g runs in
    let live : is_live (goroutine s g) ≡ true = live_status (goroutine s g) status refl in
    let there : g < length s.goroutines = live_within s.goroutines g live in
    acts_told code settings w g s (λ t told. row_of g (goroutine t g) ≡ told_row (Op w g) told (row_of g (goroutine s g))) whole (record {
      stays = refl;
      resumed = passed_there code (set gs g (unmarked x)) g 1 (unmarked x) (omega (arith, there, length-set gs g (unmarked x))) (get_or-set_same gs g (unmarked x) nobody there);
      passed = λ cs ms. passed_there code gs g 1 x there refl;
      woke = λ cs ms h since contended blocked.
          let y = woken_at s.clock (goroutine s h) in
          passed_there code (set gs h y) g 1 x (omega (arith, there, length-set gs h y))
          (get_or-set_other gs h g y nobody (λ same. let clash : Running w ≡ Blocked = sym status ∙ subst (λ n. (goroutine s n).status ≡ Blocked) (sym same) blocked in absurd (cc)));
      blocked = λ cs ms. ap (row_of g) (get_or-set_same gs g (blocked_at s.clock x) nobody there) ∙ row_same x (blocked_at s.clock x) refl (sym live) g;
      faulted = λ cause cs ms some. ap (row_of g) (get_or-set_same gs g (turned Faulted x) nobody there) ∙ row_same x (turned Faulted x) refl (sym live) g;
      bore = λ function room.
          let y = child_of code function g s in
          passed_there code (gs ++ y ∷ []) g 1 x (omega (arith, there, length_push gs y)) (get_or_append_left gs (y ∷ []) nobody g there);
    })

-- ---- all rows

all_rows : (gs new : List Goroutine) → AllStay gs new → rows_from 0 new ≡ rows_from 0 gs
all_rows gs new stay =
    let many = stay.as_many in
    rows_same 0 (length gs) gs new (omega arith) (omega arith) stay.each
    ∙ ap (λ (xs : List Goroutine). rows_from 0 gs ++ rows_from (length gs) xs) (drop_all (length gs) new (omega arith))
    ∙ append-nil (rows_from 0 gs)

nothing_behind : (s t : State) → births t ≡ births s → rows_from (births s) (drop (births s) t.goroutines) ≡ []
nothing_behind s t same = ap (rows_from (births s)) (drop_all (births s) t.goroutines (omega arith))

-- what stands behind the others is the newborn's row, if there is one
behind : (s t : State) (told : Applied) → Grown (births s) (births t) told → rows_from (births s) (drop (births s) t.goroutines) ≡ newborn_rows t told
behind s t (Born h died) grown =
    let more = grown.1 in
    ap (rows_from (births s)) (drop-cons t.goroutines (births s) nobody (omega arith)
    ∙ ap (λ (xs : List Goroutine). goroutine t (births s) ∷ xs) (drop_all (suc (births s)) t.goroutines (omega arith)))
    ∙ ap (λ (n : ℕ). row_of n (goroutine t n) ∷ []) (sym grown.0)
behind s t (Plain died) grown = nothing_behind s t grown
behind s t (Passed woke event died) grown = nothing_behind s t grown
behind s t Waits grown = nothing_behind s t grown
behind s t (Fault cause) grown = nothing_behind s t grown

long : (n m : ℕ) (told : Applied) → Grown n m told → n ≤ m
long n m (Born h died) grown = let more = grown.1 in omega arith
long n m (Plain died) grown = omega arith
long n m (Passed woke event died) grown = omega arith
long n m Waits grown = omega arith
long n m (Fault cause) grown = omega arith

one_row : (s t : State) (g : ℕ) (told : Applied) → g < births s → OthersStay g s.goroutines t.goroutines told →
    rows_from 0 t.goroutines ≡ set (rows_from 0 s.goroutines) g (row_of g (goroutine t g)) ++ newborn_rows t told
one_row s t g told there stay =
    rows_moved 0 (births s) g s.goroutines t.goroutines g (omega arith) (omega arith) (long (births s) (births t) told stay.grown) there stay.each
    ∙ ap (λ (rows : List Row). set (rows_from 0 s.goroutines) g (row_of g (goroutine t g)) ++ rows) (behind s t told stay.grown)

runner_there : (s : State) (w g : ℕ) → IsWhole s → (worker s w).runs ≡ Some g → g < births s
runner_there s w g whole runs = live_within s.goroutines g (live_status (goroutine s g) (whole.on_worker w g runs) refl)

step_rows : (code : Code) (settings : Settings) (s : State) (entry : Entry) → IsWhole s → May code settings s entry →
    rows_of (after code settings s entry) ≡ rows_after (mover entry) s (after code settings s entry) (applied code settings s entry)
unfolding rows_of after
step_rows code settings s (Start w g) whole may =
    let y = turned (Running w) (goroutine s g) in
    all_rows s.goroutines (set s.goroutines g y) (one_turned s.goroutines g y (row_same (goroutine s g) y refl (sym (live_status (goroutine s g) may.runnable refl))))
step_rows code settings s (Run w g n) whole may =
    one_row s (after code settings s (Run w g n)) g (applied code settings s (Run w g n)) (runner_there s w g whole may.runs)
    (moves g s.goroutines s.goroutines (passed code n (goroutine s g)) (applied code settings s (Run w g n)) (none_but g s.goroutines (applied code settings s (Run w g n)) refl))
step_rows code settings s (Op w g) whole may =
    one_row s (after code settings s (Op w g)) g (op_answer code settings g s) (runner_there s w g whole may.runs) (acts_moves code settings w g s whole)
step_rows code settings s (Tick w g) whole may = refl
step_rows code settings s (Park w g) whole may =
    let y = turned Runnable (goroutine s g) in
    all_rows s.goroutines (set s.goroutines g y) (one_turned s.goroutines g y (row_same (goroutine s g) y refl (sym (live_status (goroutine s g) (whole.on_worker w g may.runs) refl))))
step_rows code settings s (Open epoch room) whole may = refl
step_rows code settings s (Refuse room n) whole may = refl
step_rows code settings s (Record actor g) whole may =
    let y = recorded s.active (goroutine s g) in
    all_rows s.goroutines (set s.goroutines g y) (one_turned s.goroutines g y (row_same (goroutine s g) y refl refl))
step_rows code settings s (Close epoch) whole may = refl

none_moves : {A : Type 0} (g : ℕ) → None ≡ Some g → A
none_moves g e = absurd (cc)

step_told : (code : Code) (settings : Settings) (s : State) (entry : Entry) → IsWhole s → May code settings s entry → (g : ℕ) → mover entry ≡ Some g →
    row_of g (goroutine (after code settings s entry) g) ≡ told_row entry (applied code settings s entry) (row_of g (goroutine s g))
unfolding after
step_told code settings s (Run w h n) whole may g e =
    let same : h ≡ g = cc in
    subst (λ k. row_of k (goroutine (after code settings s (Run w h n)) k) ≡ told_row (Run w h n) (applied code settings s (Run w h n)) (row_of k (goroutine s k))) same
    (passed_there code s.goroutines h n (goroutine s h) (runner_there s w h whole may.runs) refl)
step_told code settings s (Op w h) whole may g e =
    let same : h ≡ g = cc in
    subst (λ k. row_of k (goroutine (after code settings s (Op w h)) k) ≡ told_row (Op w h) (op_answer code settings h s) (row_of k (goroutine s k))) same
    (acts_tells code settings w h s whole may.runs)
step_told code settings s (Start w h) whole may g e = none_moves g e
step_told code settings s (Tick w h) whole may g e = none_moves g e
step_told code settings s (Park w h) whole may g e = none_moves g e
step_told code settings s (Open epoch room) whole may g e = none_moves g e
step_told code settings s (Refuse room n) whole may g e = none_moves g e
step_told code settings s (Record actor h) whole may g e = none_moves g e
step_told code settings s (Close epoch) whole may g e = none_moves g e

born_last : (n m h : ℕ) (died : Bool) (told : Applied) → told ≡ Born h died → Grown n m told → (h ≡ n) × (m ≡ n + 1)
born_last n m h died told is grown = subst (Grown n m) is grown

step_born : (code : Code) (settings : Settings) (s : State) (entry : Entry) → IsWhole s → May code settings s entry → (h : ℕ) (died : Bool) → applied code settings s entry ≡ Born h died →
    (h ≡ births s) × (births (after code settings s entry) ≡ births s + 1)
unfolding after
step_born code settings s (Op w g) whole may h died is = born_last (births s) (births (acts code settings w g s)) h died (op_answer code settings g s) is (acts_moves code settings w g s whole).grown
step_born code settings s (Run w g n) whole may h died is = absurd (cc)
step_born code settings s (Start w g) whole may h died is = absurd (cc)
step_born code settings s (Tick w g) whole may h died is = absurd (cc)
step_born code settings s (Park w g) whole may h died is = absurd (cc)
step_born code settings s (Open epoch room) whole may h died is = absurd (cc)
step_born code settings s (Refuse room n) whole may h died is = absurd (cc)
step_born code settings s (Record actor g) whole may h died is = absurd (cc)
step_born code settings s (Close epoch) whole may h died is = absurd (cc)

-- ---- the laws

of_each : (P : Code → Settings → State → Entry → State → Type 0) → ((code : Code) (settings : Settings) (s : State) (entry : Entry) → IsWhole s → May code settings s entry → P code settings s entry (after code settings s entry)) →
    OfEachEntry P
of_each P step code settings journal entry legal =
    let s = last code settings journal in
    let whole = all_whole code settings (first code settings) journal (first_whole code settings) (front_legal code settings (first code settings) journal (entry ∷ []) legal) in
    let may = (rest_legal code settings (first code settings) journal (entry ∷ []) legal).0 in
    subst (P code settings s entry) (sym (after_all-append code settings (first code settings) journal (entry ∷ []))) (step code settings s entry whole may)

pub rows_follow : RowsFollow
rows_follow = of_each (λ code settings before entry now. rows_of now ≡ rows_after (mover entry) before now (applied code settings before entry)) step_rows

pub rows_are_told : RowsAreTold
rows_are_told = of_each
    (λ code settings before entry now. (g : ℕ) → mover entry ≡ Some g → row_of g (goroutine now g) ≡ told_row entry (applied code settings before entry) (row_of g (goroutine before g))) step_told

pub newborns_are_last : NewbornsAreLast
newborns_are_last = of_each
    (λ code settings before entry now. (h : ℕ) (died : Bool) → applied code settings before entry ≡ Born h died → (h ≡ births before) × (births now ≡ births before + 1)) step_born

-- ---- rows kept beside a journal

longer : (code : Code) (settings : Settings) (journal : List Entry) (made : Entry) → IsLegal code settings journal → May code settings (last code settings journal) made → IsLegal code settings (journal ++ made ∷ [])
longer code settings journal made legal may = appended code settings (first code settings) journal made legal may

-- Rows that are the state's are the next one's too, where the entry moves nobody,
pub rows_stay : (program : Parts) (settings : Settings) (journal : List Entry) (made : Entry) (rows : List Row) → IsLegal (code_of program) settings journal → May (code_of program) settings (state_of program settings journal) made →
    mover made ≡ None → rows ≡ rows_of (state_of program settings journal) → rows ≡ rows_of (state_of program settings (journal ++ made ∷ []))
rows_stay program settings journal made rows legal may none are =
    are ∙ sym (rows_follow (code_of program) settings journal made (longer (code_of program) settings journal made legal may)
    ∙ ap (λ (m : Option ℕ). rows_after m (state_of program settings journal) (state_of program settings (journal ++ made ∷ [])) (applied (code_of program) settings (state_of program settings journal) made)) none)

-- and where it moves somebody, once that one's row is what the goroutine is now, and a newborn's stands behind the others.
pub rows_move : (program : Parts) (settings : Settings) (journal : List Entry) (made : Entry) (rows new : List Row) (g : ℕ) → IsLegal (code_of program) settings journal →
    May (code_of program) settings (state_of program settings journal) made → mover made ≡ Some g → rows ≡ rows_of (state_of program settings journal) →
    new ≡ set rows g (row_of g (goroutine (state_of program settings (journal ++ made ∷ [])) g))
    ++ newborn_rows (state_of program settings (journal ++ made ∷ [])) (applied (code_of program) settings (state_of program settings journal) made) →
    new ≡ rows_of (state_of program settings (journal ++ made ∷ []))
rows_move program settings journal made rows new g legal may moves are is =
    let before = state_of program settings journal in
    let now = state_of program settings (journal ++ made ∷ []) in
    let told = applied (code_of program) settings before made in
    is ∙ ap (λ (old : List Row). set old g (row_of g (goroutine now g)) ++ newborn_rows now told) are
    ∙ sym (rows_follow (code_of program) settings journal made (longer (code_of program) settings journal made legal may) ∙ ap (λ (m : Option ℕ). rows_after m before now told) moves)
