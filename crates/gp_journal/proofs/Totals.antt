-- The laws on runs and on the numbers of legal journals.
use Rattle.std.proofs.Common.{◌≡◌, ℕ, ◌+◌, ◌≤◌, List, [], ◌∷◌, length, take, refl, sym, subst, arith}
use Rattle.gp_journal.specs.declared.entry.Entry.{Entry}
use Rattle.gp_journal.specs.declared.goroutine.Status.TheVariants.{Blocked}
use Rattle.gp_journal.specs.declared.settings.Settings.{Settings}
use Rattle.gp_journal.specs.Settings.{AreInRange}
use Rattle.gp_journal.specs.State.{Code, State, goroutine, first}
use Rattle.gp_journal.specs.Effect.{after}
use Rattle.gp_journal.specs.Run.{AreLegal, IsLegal, after_all, last, at}
use Rattle.gp_journal.specs.RunLaws.{PrefixesAreLegal, Grows, BornInOrder, EachWaitsOnce, RefuseLeavesAll, RunsEndOneWay}
use Rattle.gp_journal.specs.NumberLaws.{EntriesAreCounted, NumbersHold, EntriesAreBounded}
use Rattle.gp_journal.proofs.Whole.{seats, IsWhole, live_within}
use Rattle.gp_journal.proofs.Parts.{blocked_by}
use Rattle.gp_journal.proofs.Steps.{step_whole}
use Rattle.gp_journal.proofs.Law.{first_whole, all_whole, prefix_legal, front_legal, rest_legal, after_all-append}
use Rattle.gp_journal.proofs.Counting.{IsNumbered, step_numbered, first_numbered}
use Rattle.gp_journal.proofs.Fates.{Fates, step_fates, first_fates, ends_one_way, grows}
use Rattle.gp_journal.proofs.Bound.{Bounded, step_bounded, first_bounded}

pub prefixes_are_legal : PrefixesAreLegal
prefixes_are_legal code settings journal k legal = prefix_legal code settings (first code settings) k journal legal

one_entry : (code : Code) (settings : Settings) (s : State) (entry : Entry) → (after code settings s entry).entries ≡ s.entries + 1
unfolding after
one_entry code settings s entry = refl

counted : (code : Code) (settings : Settings) (s : State) (entries : List Entry) → (after_all code settings s entries).entries ≡ s.entries + length entries
counted code settings s [] = omega arith
counted code settings s (entry ∷ entries) =
    let a = counted code settings (after code settings s entry) entries in let b = one_entry code settings s entry in omega arith

pub entries_are_counted : EntriesAreCounted
entries_are_counted code settings journal = let e = counted code settings (first code settings) journal in omega arith

-- What all states of a run keep together.
pub record Kept (settings : Settings) (s : State) : Type 0 where
  pub whole : IsWhole s
  pub numbered : IsNumbered settings s
  pub bounded : Bounded settings s

kept_all : (code : Code) (settings : Settings) (s : State) (entries : List Entry) → Kept settings s → AreLegal code settings s entries → Kept settings (after_all code settings s entries)
kept_all code settings s [] kept legal = kept
kept_all code settings s (entry ∷ entries) kept legal =
    let whole = step_whole code settings s entry kept.whole legal.0 in
    let numbered = step_numbered code settings s entry kept.whole kept.numbered legal.0 in
    let bounded = step_bounded code settings s entry kept.whole kept.numbered numbered legal.0 kept.bounded in
    kept_all code settings (after code settings s entry) entries (record { whole = whole; numbered = numbered; bounded = bounded }) legal.1

pub kept_at : (code : Code) (settings : Settings) (journal : List Entry) → AreInRange settings → IsLegal code settings journal → Kept settings (last code settings journal)
kept_at code settings journal range legal =
    kept_all code settings (first code settings) journal
    (record { whole = first_whole code settings; numbered = first_numbered code settings range.some_cell; bounded = first_bounded code settings range }) legal

pub numbers_hold : NumbersHold
numbers_hold code settings journal k range legal =
    let n = (kept_at code settings (take k journal) range (prefix_legal code settings (first code settings) k journal legal)).numbered in record {
      clock_is_sum = n.sum;
      clock_bound = n.bound;
      slice_bound = n.slices;
      births_bound = n.born_bound;
      live_bound = λ g live. let a = n.born_bound in let b = live_within (at code settings journal k).goroutines g live in omega arith;
      epoch_bound = let a = n.epochs in let b = range.few_requests in omega arith;
    }

pub entries_are_bounded : EntriesAreBounded
entries_are_bounded code settings journal range legal =
    let b = (kept_at code settings journal range legal).bounded in
    let few = b.few in
    let e = entries_are_counted code settings journal in omega arith

pub each_waits_once : EachWaitsOnce
each_waits_once code settings journal k g legal =
    let s = at code settings journal k in
    let whole = all_whole code settings (first code settings) (take k journal) (first_whole code settings) (prefix_legal code settings (first code settings) k journal legal) in
    record {
      once = at_most (goroutine s g).status (whole.waits g);
      while_blocked = λ one. blocked_by (goroutine s g).status (let w = whole.waits g in omega arith);
    }
  where
    at_most : {n : ℕ} (st : Rattle.gp_journal.specs.declared.goroutine.Status.Status) → n ≤ seats st → n ≤ 1
    at_most Blocked le = le
    at_most _ le = omega arith

pub born_in_order : BornInOrder
born_in_order code settings journal entry legal =
    let s = last code settings journal in
    let whole = all_whole code settings (first code settings) journal (first_whole code settings) (front_legal code settings (first code settings) journal (entry ∷ []) legal) in
    let may = (rest_legal code settings (first code settings) journal (entry ∷ []) legal).0 in
    subst (Grows s) (sym (after_all-append code settings (first code settings) journal (entry ∷ []))) (grows code settings s entry whole may)

pub refuse_leaves_all : RefuseLeavesAll
unfolding after
refuse_leaves_all code settings state room n = refl

fates_all : (code : Code) (settings : Settings) (s : State) (entries : List Entry) → IsWhole s → Fates s.goroutines s.fault → AreLegal code settings s entries →
    Fates (after_all code settings s entries).goroutines (after_all code settings s entries).fault
fates_all code settings s [] whole fates legal = fates
fates_all code settings s (entry ∷ entries) whole fates legal =
    fates_all code settings (after code settings s entry) entries (step_whole code settings s entry whole legal.0) (step_fates code settings s entry whole fates legal.0) legal.1

pub runs_end_one_way : RunsEndOneWay
runs_end_one_way code settings journal legal complete =
    ends_one_way settings (last code settings journal) (fates_all code settings (first code settings) journal (first_whole code settings) (first_fates code settings) legal) complete
