-- The marks of the workers that run a goroutine.
use Rattle.std.proofs.Common.{◌≡◌, ◌≢◌, ℕ, zero, suc, ◌+◌, ◌-◌, ◌%◌, length-set, ◌<◌, ◌≤◌, ◌⊎◌, Bool, true, false, List, length, get_or, set, take, replicate, count_by, refl, sym, ap, ◌∙◌, inl, inr, arith, true≢false, get_or-set_same, get_or-set_other}
use Rattle.std.specs.Int.{bit_at}
use Rattle.std.proofs.lemmas.Bool.{cases_eq, cases_lt}
use Rattle.std.proofs.lemmas.List.{take_all, length-replicate, get_or-replicate, get_or_past, get_or_read}
use Rattle.std.proofs.lemmas.List.Sums.{sum_by_more}
use Rattle.std.proofs.lemmas.Nat.Bits.{bit_at-zero}
use Rattle.gp_isa.specs.Limits.{most_workers}
use Rattle.gp_journal.specs.declared.goroutine.Worker.{Worker}
use Rattle.gp_journal.specs.State.{resting}
use Rattle.gp_machine.specs.OnWorker.{is_busy}
use Rattle.gp_machine.specs.kept.Crowd.{one_if}
use Rattle.gp_machine.specs.kept.Workers.{AreKept, AreMarked, bits_below, left_of, worked_at}
use Rattle.gp_machine.proofs.Marked.{count_set}
use Rattle.gp_machine.proofs.SetBits.{below_none, below_more}

-- of workers that rest none is marked
pub marked_none : (n : ℕ) → AreMarked (replicate n resting) 0
marked_none n w within = bit_at-zero w ∙ sym (ap (λ v. one_if (is_busy v)) (rests (cases_lt w n)))
  where
    rests : (w < n) ⊎ (n ≤ w) → get_or (replicate n resting) w resting ≡ resting
    rests (inl h) = get_or-replicate n w resting resting h
    rests (inr h) = get_or_past (replicate n resting) w resting (omega (arith, length-replicate n resting))

-- One is another now, and its mark is set or cleared.
pub marked_set : (all : List Worker) (marks marks' w : ℕ) (new : Worker) (is : Bool) → AreMarked all marks → w < length all
    → bit_at marks' w ≡ one_if is → ((v : ℕ) → v < 32 → v ≢ w → bit_at marks' v ≡ bit_at marks v) → is_busy new ≡ is
    → AreMarked (set all w new) marks'
marked_set all marks marks' w new is marked within here others busy v low =
    elim (cases_eq v w) [
      | inl same ↦
          ap (bit_at marks') same ∙ here
          ∙ ap one_if (sym busy ∙ ap is_busy (sym (ap (λ k. get_or (set all w new) k resting) same ∙ get_or-set_same all w new resting within)))
      | inr other ↦
          others v low other ∙ marked v low ∙ ap (λ x. one_if (is_busy x)) (sym (get_or-set_other all w v new resting other))
    ]

-- Below a worker as many bits are set as workers run a goroutine.
pub below_marks : (all : List Worker) (marks k : ℕ) → AreMarked all marks → k ≤ 32 → bits_below marks k ≡ count_by is_busy (take k all)
below_marks all marks zero marked within = below_none marks
below_marks all marks (suc k) marked within =
    let before : bits_below marks k ≡ count_by is_busy (take k all) = below_marks all marks k marked (omega arith) in
    let here : bit_at marks k ≡ one_if (is_busy (get_or all k resting)) = marked k (omega arith) in
    below_more marks k
    ∙ elim (cases_lt k (length all)) [
      | inl there ↦
          let more : count_by is_busy (take (k + 1) all) ≡ count_by is_busy (take k all) + one_if (is_busy (get_or all k resting)) =
          sum_by_more (λ w. one_if (is_busy w)) all k resting there in
          let on : k + 1 ≡ suc k = omega arith in
          omega (arith, before, here, more, ap (λ n. count_by is_busy (take n all)) on)
      | inr past ↦
          let rests : get_or all k resting ≡ resting = get_or_past all k resting past in
          let none : bit_at marks k ≡ 0 = here ∙ ap (λ w. one_if (is_busy w)) rests in
          let a : take k all ≡ all = take_all k all past in
          let b : take (suc k) all ≡ all = take_all (suc k) all (omega arith) in
          omega (arith, before, none, ap (count_by is_busy) a, ap (count_by is_busy) b)
    ]

-- The set bits are as many as the workers that run a goroutine.
pub all_marks : (all : List Worker) (marks : ℕ) → length all ≤ most_workers → AreMarked all marks → bits_below marks 32 ≡ count_by is_busy all
all_marks all marks few marked =
    below_marks all marks 32 marked (omega arith) ∙ ap (count_by is_busy) (take_all 32 all (omega arith))

-- A set bit is that of a worker that runs a goroutine.
pub marked_busy : (all : List Worker) (marks w : ℕ) → AreMarked all marks → w < 32 → bit_at marks w ≡ 1 → is_busy (get_or all w resting) ≡ true
marked_busy all marks w marked within set = is (is_busy (get_or all w resting)) (sym (marked w within) ∙ set)
  where
    is : (b : Bool) → one_if b ≡ 1 → b ≡ true
    is true e = refl
    is false e = absurd (omega arith)

pub busy_within : (all : List Worker) (w : ℕ) → is_busy (get_or all w resting) ≡ true → w < length all
busy_within all w busy =
    elim (cases_lt w (length all)) [
      | inl h ↦ h
      | inr past ↦ absurd (true≢false (sym busy ∙ ap is_busy (get_or_past all w resting past)))
    ]

-- One has run n instructions more.
pub kept_worked : {period : ℕ} {all : List Worker} {to_tick : List ℕ} {marks busy : ℕ} → AreKept period all to_tick marks busy → (w : ℕ) (old new : Worker) (n left marks' busy' : ℕ) (died at_tick was is : Bool)
    → w < length all → old ≡ get_or all w old → new ≡ worked_at n died at_tick old → left ≡ period - (old.instructions + n) % period → was ≡ is_busy old → is ≡ is_busy new
    → bit_at marks' w ≡ one_if is → ((v : ℕ) → v < 32 → v ≢ w → bit_at marks' v ≡ bit_at marks v) → busy' + one_if was ≡ busy + one_if is
    → AreKept period (set all w new) (set to_tick w left) marks' busy'
kept_worked {period} {all} {to_tick} {marks} {busy} kept w old new n left marks' busy' died at_tick was is within read worked left_is was_is is_is here others moved =
    let old_is : old ≡ get_or all w resting = get_or_read all w old within read resting in
    let as_many = kept.as_many in
    let counts = count_set is_busy resting all w new within in
    let before : one_if was ≡ one_if (is_busy (get_or all w resting)) = ap one_if was_is ∙ ap (λ (v : Worker). one_if (is_busy v)) old_is in
    let after : one_if is ≡ one_if (is_busy new) = ap one_if is_is in
    let counted = kept.counted in
    let now : left ≡ left_of period new = left_is ∙ ap (λ (i : ℕ). period - i % period) (sym (ap (λ (v : Worker). v.instructions) worked)) in
    record {
      some = kept.some;
      few = rw length-set kept.few;
      marked = marked_set all marks marks' w new is kept.marked within here others (sym is_is);
      counted = omega arith;
      as_many = length-set to_tick w left ∙ as_many ∙ sym (length-set all w new);
      left = λ v.
          elim (cases_eq v w) [
            | inl same ↦
                let here : w < length to_tick = omega arith in
                rw same (get_or-set_same to_tick w left period here ∙ now ∙ ap (left_of period) (sym (get_or-set_same all w new resting within)))
            | inr other ↦
                get_or-set_other to_tick w v left period other ∙ kept.left v ∙ ap (left_of period) (sym (get_or-set_other all w v new resting other))
          ];
    }
