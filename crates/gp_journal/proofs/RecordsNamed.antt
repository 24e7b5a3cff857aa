-- What the records of a legal journal name is there.
use Rattle.std.proofs.Common.{◌⊎◌, ℕ, zero, suc, ◌<◌, ◌≤◌, List, [], ◌∷◌, length, get_or, set, take, sym, subst, inl, inr, arith}
use Rattle.std.specs.Prelude.{All}
use Rattle.std.proofs.lemmas.Bool.{cases_lt}
use Rattle.std.proofs.lemmas.List.{get_or_past}
use Rattle.std.proofs.lemmas.List.Elements.{All-nil, All-cons, All-head, All-tail, All-take}
use Rattle.gp_isa.specs.declared.parts.Parts.{Parts}
use Rattle.gp_isa.specs.InLimits.{AreInLimits}
use Rattle.gp_isa.specs.Limits.{goroutine_frames}
use Rattle.gp_isa.specs.Names.{IsThere as Names, AreThere}
use Rattle.gp_isa.specs.Trace.{Instruction, Local, Labels, Send, Recv, Lock, Unlock, Spawn, Point, trace}
use Rattle.gp_isa.proofs.NamedThere.{traces_name_what_is_there}
use Rattle.gp_stack.specs.Goroutine.{no_point, next_point, stack_of, set_after, set_after_all, labels_of}
use Rattle.gp_journal.specs.declared.entry.Entry.{Entry}
use Rattle.gp_journal.specs.declared.entry.Entry.TheVariants.{Start, Run, Op, Tick, Park, Open, Refuse, Record, Close}
use Rattle.gp_journal.specs.declared.goroutine.Goroutine.{Goroutine}
use Rattle.gp_journal.specs.declared.settings.Settings.{Settings}
use Rattle.gp_journal.specs.State.{Code, State, code_of, nobody, goroutine, first}
use Rattle.gp_journal.specs.May.{May}
use Rattle.gp_journal.specs.Effect.{unmarked, woken_at, child_of, labels_at, acts, after}
use Rattle.gp_journal.specs.Run.{AreLegal}
use Rattle.gp_journal.specs.Frozen.{row, rows_taken}
use Rattle.gp_journal.proofs.Places.{changed, pushed}
use Rattle.gp_journal.proofs.Whole.{IsWhole}
use Rattle.gp_journal.proofs.Acts.{acts_all}
use Rattle.gp_journal.proofs.Steps.{step_whole}
use Rattle.gp_journal.proofs.Law.{first_whole}
use Rattle.gp_journal.specs.Profiles.{records_from, records_of}
use Rattle.gp_journal.specs.RecordsNamed.{IsRecordOf, RecordsAreThere}
use Rattle.gp_journal.proofs.Framed.{IsThere, IsFramed, trace_framed}

-- The stack of a goroutine, where frames of points are there: past the end of a trace there are none.
stack_there : (parts : Parts) (points : List Point) (count : ℕ) → All (IsFramed parts) points → (count < length points) ⊎ (length points ≤ count) → All (IsThere parts) (stack_of points count)
unfolding stack_of next_point
stack_there parts points count framed (inl within) = framed count no_point within
stack_there parts points count framed (inr past) = subst (IsFramed parts) (sym (get_or_past points count no_point past)) (All-nil (IsThere parts))

-- The set after points is one of theirs, or the one before them.
set_there : (parts : Parts) (l : ℕ) (instruction : Instruction) → Names parts instruction → l ≤ length parts.labels → set_after l instruction ≤ length parts.labels
set_there parts l (Labels new) named le = named
set_there parts l Local named le = le
set_there parts l (Send c) named le = le
set_there parts l (Recv c) named le = le
set_there parts l (Lock m) named le = le
set_there parts l (Unlock m) named le = le
set_there parts l (Spawn f) named le = le

sets_there : (parts : Parts) (l : ℕ) (points : List Point) → AreThere parts points → l ≤ length parts.labels → set_after_all l points ≤ length parts.labels
sets_there parts l [] named le = le
sets_there parts l (point ∷ points) named le =
    sets_there parts (set_after l point.instruction) points (All-tail (λ (p : Point). Names parts p.instruction) point points named)
    (set_there parts l point.instruction (All-head (λ (p : Point). Names parts p.instruction) point points named) le)

module _ (parts : Parts) (limits : AreInLimits parts) where
  abbrev code : Code
  code = code_of parts

  -- the set that a goroutine was born with
  abbrev Inherits : Goroutine → Type 0
  Inherits x = x.set ≤ length parts.labels

  abbrev AllInherit : List Goroutine → Type 0
  AllInherit gs = (g : ℕ) → Inherits (get_or gs g nobody)

  abbrev HaveSets : State → Type 0
  HaveSets s = AllInherit s.goroutines

  labels_there : (x : Goroutine) → Inherits x → labels_at code x ≤ length parts.labels
  unfolding labels_of
  labels_there x inherits =
      sets_there parts x.set (take x.count (trace parts x.start))
      (All-take (λ (p : Point). Names parts p.instruction) x.count (trace parts x.start) (traces_name_what_is_there parts x.start limits)) inherits

  -- another goroutine at a number
  with_other : (gs : List Goroutine) (g : ℕ) (y : Goroutine) → AllInherit gs → Inherits y → AllInherit (set gs g y)
  with_other gs g y have new = changed (λ k x. Inherits x) nobody gs g y new have

  module _ (settings : Settings) where
    acted : (w g : ℕ) (s : State) → IsWhole s → HaveSets s → HaveSets (acts code settings w g s)
    acted w g s whole have =
        acts_all code settings w g s HaveSets whole (record {
          stays = have;
          resumed = let cleared = with_other s.goroutines g (unmarked (goroutine s g)) have (have g) in with_other _ g _ cleared (cleared g);
          passed = λ cs ms. with_other s.goroutines g _ have (have g);
          woke = λ cs ms h blocked. let woken = with_other s.goroutines h (woken_at s.clock (goroutine s h)) have (have h) in with_other _ g _ woken (woken g);
          blocked = λ cs ms. with_other s.goroutines g _ have (have g);
          faulted = λ cause cs ms some. with_other s.goroutines g _ have (have g);
          bore = λ function room. let born = pushed (λ k x. Inherits x) nobody s.goroutines (child_of code function g s) (labels_there (goroutine s g) (have g)) have in with_other _ g _ born (born g);
        })

    step_sets : (s : State) (entry : Entry) → IsWhole s → HaveSets s → May code settings s entry → HaveSets (after code settings s entry)
    unfolding after
    step_sets s (Start w g) whole have may = with_other s.goroutines g _ have (have g)
    step_sets s (Run w g n) whole have may = with_other s.goroutines g _ have (have g)
    step_sets s (Op w g) whole have may = acted w g s whole have
    step_sets s (Tick w g) whole have may = have
    step_sets s (Park w g) whole have may = with_other s.goroutines g _ have (have g)
    step_sets s (Open epoch room) whole have may = have
    step_sets s (Refuse room n) whole have may = have
    step_sets s (Record actor g) whole have may = with_other s.goroutines g _ have (have g)
    step_sets s (Close epoch) whole have may = have

    first_sets : HaveSets (first code settings)
    first_sets zero = omega arith
    first_sets (suc g) = omega arith

    -- the row of a goroutine
    row_there : (g : ℕ) (x : Goroutine) → Inherits x → IsRecordOf parts (row code g x)
    row_there g x inherits = (
      All-take (IsThere parts) goroutine_frames (stack_of (trace parts x.start) x.count)
          (stack_there parts (trace parts x.start) x.count (trace_framed parts x.start) (cases_lt x.count (length (trace parts x.start)))),
      labels_there x inherits,
    )

    rows_there : (s : State) (entries : List Entry) → IsWhole s → HaveSets s → AreLegal code settings s entries → All (IsRecordOf parts) (rows_taken code settings s entries)
    rows_there s [] whole have legal = All-nil (IsRecordOf parts)
    rows_there s (Record actor g ∷ entries) whole have legal =
        let e = Record actor g in
        All-cons (IsRecordOf parts) (row code g (goroutine s g)) (rows_taken code settings (after code settings s e) entries) (row_there g (goroutine s g) (have g))
        (rows_there (after code settings s e) entries (step_whole code settings s e whole legal.0) (step_sets s e whole have legal.0) legal.1)
    rows_there s (Close epoch ∷ entries) whole have legal = All-nil (IsRecordOf parts)
    rows_there s (x ∷ entries) whole have legal =
        rows_there (after code settings s x) entries (step_whole code settings s x whole legal.0) (step_sets s x whole have legal.0) legal.1

    lists_there : (s : State) (entries : List Entry) → IsWhole s → HaveSets s → AreLegal code settings s entries → All (All (IsRecordOf parts)) (records_from code settings s entries)
    lists_there s [] whole have legal = All-nil (All (IsRecordOf parts))
    lists_there s (Open epoch room ∷ entries) whole have legal =
        let e = Open epoch room in
        let t = after code settings s e in
        let now_whole = step_whole code settings s e whole legal.0 in
        let now_have = step_sets s e whole have legal.0 in
        All-cons (All (IsRecordOf parts)) (rows_taken code settings t entries) (records_from code settings t entries)
        (rows_there t entries now_whole now_have legal.1) (lists_there t entries now_whole now_have legal.1)
    lists_there s (x ∷ entries) whole have legal =
        lists_there (after code settings s x) entries (step_whole code settings s x whole legal.0) (step_sets s x whole have legal.0) legal.1

pub records_are_there : RecordsAreThere
unfolding records_of
records_are_there parts settings journal limits legal =
    lists_there parts limits settings (first (code_of parts) settings) journal (first_whole (code_of parts) settings) (first_sets parts limits settings) legal
