-- The tests of the calls decide which events are enabled.
use Rattle.std.proofs.Common.{◌≡◌, ◌⊎◌, ℕ, ◌+◌, ◌-◌, ◌<◌, Bool, true, false, not, ◌&&◌, ◌||◌, ◌==◌, cond, List, [], ◌∷◌, length, get_or, count_by, position, suc, Option, Some, None, refl, sym, ap, ◌∙◌, subst, inl, inr, arith, if◌then◌else◌, true≢false, nat_lt, nat_le, eqb-true, eq-eqb, is_some, is_none}
use Rattle.std.specs.List.{position_or_len}
use Rattle.std.proofs.lemmas.Bool.{and_parts, and_from, or_cases, not-true, ltb-true, ltb-false, leb-true, leb-false, lt-ltb, le-leb}
use Rattle.std.proofs.lemmas.List.Quantifiers.{position-Some}
use Rattle.std.proofs.lemmas.List.Sums.{sum_by-cons, fails_before_first}
use Rattle.gp_journal.specs.declared.entry.Entry.{Entry}
use Rattle.gp_journal.specs.declared.entry.Entry.TheVariants.{Start, Record, Open, Refuse, Close}
use Rattle.gp_journal.specs.declared.settings.Settings.{Settings}
use Rattle.gp_journal.specs.State.{Code, State, nobody, goroutine, worker, is_live, is_running, is_runnable, is_idle, is_behind, births, live, running}
use Rattle.gp_journal.specs.Due.{asked, over, due}
use Rattle.gp_journal.specs.May.{May, is_recorded}
use Rattle.gp_journal.specs.Effect.{after}
use Rattle.gp_journal.specs.Run.{AreLegal}
use Rattle.gp_journal.specs.Standing.{first_behind}
use Rattle.gp_journal.proofs.Lemmas.{allowed, allows_legal, none_counted}
use Rattle.gp_core.specs.declared.word.Word.{Word}
use Rattle.gp_core.specs.declared.word.Word.TheVariants.{Dead, Home, Claimed, Running}
use Rattle.gp_core.specs.declared.hold.Hold.{Hold}
use Rattle.gp_core.specs.declared.hold.How.{How}
use Rattle.gp_core.specs.declared.hold.How.TheVariants.{Claim, Take}
use Rattle.gp_core.specs.declared.event.CoreEvent.{CoreEvent}
use Rattle.gp_core.specs.declared.event.CoreEvent.TheVariants as event
use Rattle.gp_core.specs.CoreState.{CoreState, word, hand, now, Holds, HoldsBy, copy_in}
use Rattle.gp_core.specs.Enabled.{MayClaim, MayCopy, MaySatisfy, MayTake, MayBegin, MayCommitClaim, MayCommitDue, MayGive, MayBear, MayBury, IsPair, IsWorkersPair, IsHome, IsEnabled, is_needed, may_start, start_of}
use Rattle.gp_core.specs.Stepped.{stepped}
use Rattle.gp_core.specs.Events.{AreEnabled}
use Rattle.gp_core.specs.kept.Tests.{is_empty, is_home, is_home_of, is_claim_of, is_same, holds, holds_by, is_number, may_record, may_open, may_close, is_pair, is_workers_pair, may_begin, may_commit_claim, may_commit_due, admits}
use Rattle.gp_core.proofs.Turns.{IsOf}
use Rattle.gp_core.proofs.Entries.{due_is, due_runs}

off : false ≡ true → ⊥
off e = true≢false (sym e)

home_from : (epoch : ℕ) (word : Word) → is_home_of epoch word ≡ true → word ≡ Home epoch
home_from epoch (Home e) h = ap (λ n. Home n) (eqb-true e epoch h)
home_from epoch Dead h = absurd (off h)
home_from epoch (Claimed e a) h = absurd (off h)
home_from epoch (Running e a) h = absurd (off h)

home_back : (epoch : ℕ) (word : Word) → word ≡ Home epoch → is_home_of epoch word ≡ true
home_back epoch word e = ap (is_home_of epoch) e ∙ eq-eqb epoch epoch refl

claim_from : (epoch a : ℕ) (word : Word) → is_claim_of epoch a word ≡ true → word ≡ Claimed epoch a
claim_from epoch a (Claimed e b) h = let p = and_parts (e == epoch) (b == a) h in let x = eqb-true e epoch p.0 in let y = eqb-true b a p.1 in cc
claim_from epoch a Dead h = absurd (off h)
claim_from epoch a (Home e) h = absurd (off h)
claim_from epoch a (Running e b) h = absurd (off h)

claim_back : (epoch a : ℕ) (word : Word) → word ≡ Claimed epoch a → is_claim_of epoch a word ≡ true
claim_back epoch a word e = ap (is_claim_of epoch a) e ∙ and_from (epoch == epoch) (a == a) (eq-eqb epoch epoch refl) (eq-eqb a a refl)

at_home : (word : Word) → is_home word ≡ true → IsHome word
at_home (Home e) h = tt
at_home Dead h = absurd (off h)
at_home (Claimed e a) h = absurd (off h)
at_home (Running e a) h = absurd (off h)

home_at : (word : Word) → IsHome word → is_home word ≡ true
home_at (Home e) h = refl
home_at Dead h = absurd h
home_at (Claimed e a) h = absurd h
home_at (Running e a) h = absurd h

empty_from : (word : Word) → is_empty word ≡ true → word ≡ Dead
empty_from Dead h = refl
empty_from (Home e) h = absurd (off h)
empty_from (Claimed e a) h = absurd (off h)
empty_from (Running e a) h = absurd (off h)

none_from : (o : Option Hold) → is_none o ≡ true → o ≡ None
none_from None h = refl
none_from (Some hold) h = absurd (off h)

how_from : (x y : How) → is_same x y ≡ true → x ≡ y
how_from Claim Claim h = refl
how_from Take Take h = refl
how_from Claim Take h = absurd (off h)
how_from Take Claim h = absurd (off h)

how_same : (x : How) → is_same x x ≡ true
how_same Claim = refl
how_same Take = refl

holds_from : (g : ℕ) (o : Option Hold) → holds g o ≡ true → Holds g o
holds_from g None h = absurd (off h)
holds_from g (Some hold) h = eqb-true hold.g g h

holds_back : (g : ℕ) (o : Option Hold) → Holds g o → holds g o ≡ true
holds_back g None h = absurd h
holds_back g (Some hold) h = eq-eqb hold.g g h

pub so_from : (how : How) (g : ℕ) (o : Option Hold) → holds_by how g o ≡ true → HoldsBy how g o
so_from how g None h = absurd (off h)
so_from how g (Some hold) h = let p = and_parts (hold.g == g) (is_same hold.how how) h in (eqb-true hold.g g p.0, how_from hold.how how p.1)

pub so_back : (how : How) (g : ℕ) (o : Option Hold) → HoldsBy how g o → holds_by how g o ≡ true
so_back how g None h = absurd h
so_back how g (Some hold) h = and_from (hold.g == g) (is_same hold.how how) (eq-eqb hold.g g h.0) (ap (λ x. is_same x how) h.1 ∙ how_same how)

pair_from : (settings : Settings) (s : State) (a g : ℕ) (b : Bool) (P : Type 0) → (b ≡ true → P) → (is_pair settings s a g && b) ≡ true → IsPair settings s a g P
pair_from settings s a g b P f h =
    let p = and_parts (is_pair settings s a g) b h in
    let q = and_parts (nat_le a settings.workers) (nat_lt g (births s)) p.0 in
    record { is_actor = leb-true a settings.workers q.0; is_born = ltb-true g (births s) q.1; holds_too = f p.1 }

pair_back : (settings : Settings) (s : State) (a g : ℕ) (b : Bool) (P : Type 0) → (P → b ≡ true) → IsPair settings s a g P → (is_pair settings s a g && b) ≡ true
pair_back settings s a g b P f it =
    and_from (is_pair settings s a g) b (and_from (nat_le a settings.workers) (nat_lt g (births s)) (le-leb a settings.workers it.is_actor) (lt-ltb g (births s) it.is_born)) (f it.holds_too)

workers_from : (settings : Settings) (s : State) (w g : ℕ) (b : Bool) (P : Type 0) → (b ≡ true → P) → (is_workers_pair settings s w g && b) ≡ true → IsWorkersPair settings s w g P
workers_from settings s w g b P f h =
    let p = and_parts (is_workers_pair settings s w g) b h in
    let q = and_parts (nat_lt w settings.workers) (nat_lt g (births s)) p.0 in
    record { is_worker = ltb-true w settings.workers q.0; is_born = ltb-true g (births s) q.1; holds_too = f p.1 }

workers_back : (settings : Settings) (s : State) (w g : ℕ) (b : Bool) (P : Type 0) → (P → b ≡ true) → IsWorkersPair settings s w g P → (is_workers_pair settings s w g && b) ≡ true
workers_back settings s w g b P f it =
    and_from (is_workers_pair settings s w g) b (and_from (nat_lt w settings.workers) (nat_lt g (births s)) (lt-ltb w settings.workers it.is_worker) (lt-ltb g (births s) it.is_born)) (f it.holds_too)

left_of : (x y : Bool) → x ≡ true → (x || y) ≡ true
left_of true y e = refl
left_of false y e = absurd (off e)

right_of : (x y : Bool) → y ≡ true → (x || y) ≡ true
right_of true y e = refl
right_of false y e = e

-- The entry that is due is legal where its worker runs the goroutine.
number_from : (g : ℕ) (o : Option ℕ) → is_number g o ≡ true → o ≡ Some g
number_from g None h = absurd (off h)
number_from g (Some n) h = ap Some (eqb-true n g h)

number_back : (g : ℕ) (o : Option ℕ) → o ≡ Some g → is_number g o ≡ true
number_back g o e = ap (is_number g) e ∙ eq-eqb g g refl

due_may : (code : Code) (settings : Settings) (s : State) (w g : ℕ) (entry : Entry) → IsOf w g entry → due code settings s w g ≡ entry → (worker s w).runs ≡ Some g → May code settings s entry
due_may code settings s w g entry (inl tick) e runs = subst (May code settings s) (sym tick) (record { runs = runs; is_next = e ∙ tick })
due_may code settings s w g entry (inr (inl park)) e runs = subst (May code settings s) (sym park) (record { runs = runs; is_next = e ∙ park })
due_may code settings s w g entry (inr (inr (inl op))) e runs = subst (May code settings s) (sym op) (record { runs = runs; is_next = e ∙ op })
due_may code settings s w g entry (inr (inr (inr run))) e runs = subst (May code settings s) (sym run.1) (record { runs = runs; is_next = e ∙ run.1 })

-- A Start is legal exactly where its test says so.
pub start_may : (code : Code) (settings : Settings) (s : State) (w g : ℕ) → may_start settings s w g ≡ true → May code settings s (Start w g)
start_may code settings s w g h =
    let a = and_parts (is_idle s w && is_runnable (goroutine s g).status && not (asked settings s) && not (over settings s)) (is_recorded s g) h in
    let b = and_parts (is_idle s w && is_runnable (goroutine s g).status && not (asked settings s)) (not (over settings s)) a.0 in
    let c = and_parts (is_idle s w && is_runnable (goroutine s g).status) (not (asked settings s)) b.0 in
    let d = and_parts (is_idle s w) (is_runnable (goroutine s g).status) c.0 in
    allowed code settings s (Start w g) (and_from _ _ d.0 (and_from _ _ d.1 (and_from _ _ c.1 (and_from _ _ b.1 a.1))))

start_legal : (code : Code) (settings : Settings) (s : State) (w g : ℕ) (b : Bool) → may_start settings s w g ≡ b → AreLegal code settings s (if b then Start w g ∷ [] else [])
start_legal code settings s w g true e = (start_may code settings s w g e, tt)
start_legal code settings s w g false e = tt

start_some : (w g : ℕ) (b : Bool) → b ≡ true → 0 < length (if b then Start w g ∷ [] else [])
start_some w g true e = omega arith
start_some w g false e = absurd (off e)

some_start : (w g : ℕ) (b : Bool) → 0 < length (if b then Start w g ∷ [] else []) → b ≡ true
some_start w g true some = refl
some_start w g false some = absurd (omega (arith, some))

-- None is first where none is counted.
count_none : {X : Type 0} (p : X → Bool) (d : X) (xs : List X) → ((k : ℕ) → k < length xs → p (get_or xs k d) ≡ false) → count_by p xs ≡ 0
count_none p d [] fails = refl
count_none p d (x ∷ xs) fails =
    counted (p x) (fails 0 (omega arith)) (sum_by-cons (λ y. cond (p y) 1 0) x xs) (count_none p d xs (λ k within. fails (suc k) (omega arith)))
  where
    counted : (b : Bool) → b ≡ false → count_by p (x ∷ xs) ≡ cond b 1 0 + count_by p xs → count_by p xs ≡ 0 → count_by p (x ∷ xs) ≡ 0
    counted true e split rest = absurd (cc)
    counted false e split rest = omega arith

no_first : {X : Type 0} (p : X → Bool) (xs : List X) (b : Bool) → is_none (cond b (Some (position_or_len p xs)) None) ≡ true → b ≡ false
no_first p xs true e = absurd (off e)
no_first p xs false e = refl

none_first : {X : Type 0} (p : X → Bool) (d : X) (xs : List X) → is_none (position p xs) ≡ true → count_by p xs ≡ 0
none_first p d xs e =
    let past = ltb-false (position_or_len p xs) (length xs) (no_first p xs (nat_lt (position_or_len p xs) (length xs)) e) in
    count_none p d xs (λ k within. fails_before_first p xs k d (omega arith))

first_none : {X : Type 0} (p : X → Bool) (d : X) (xs : List X) → p d ≡ false → count_by p xs ≡ 0 → (found : Option ℕ) → position p xs ≡ found → is_none found ≡ true
first_none p d xs past none None e = refl
first_none p d xs past none (Some k) e = absurd (off (sym (none_counted p d xs past none k) ∙ (position-Some p xs k d e).1))

module _ (code : Code) (settings : Settings) (core : CoreState) where
  commit_from : (s : State) (a g : ℕ) → (may_commit_claim settings s core a g || may_commit_due s core a g) ≡ true → MayCommitClaim code settings s core a g ⊎ MayCommitDue code settings s core a g
  commit_from s a g h = by (or_cases (may_commit_claim settings s core a g) (may_commit_due s core a g) h)
    where
      by : (may_commit_claim settings s core a g ≡ true) ⊎ (may_commit_due s core a g ≡ true) → MayCommitClaim code settings s core a g ⊎ MayCommitDue code settings s core a g
      by (inl c) =
          let p = and_parts (holds_by Claim g (hand core a)) _ c in
          let q = and_parts (is_claim_of s.active a (word core g)) _ p.1 in
          let r = and_parts (is_some (copy_in (hand core a))) _ q.1 in
          inl (record { has_claimed = so_from Claim g (hand core a) p.0; is_claim = claim_from s.active a (word core g) q.0; has_copy = r.0; is_legal = allowed code settings s (Record a g) r.1 })
      by (inr d) =
          let p = and_parts (holds_by Take g (hand core a)) _ d in
          inr (record { has_taken = so_from Take g (hand core a) p.0; is_legal = due_may code settings s a g (due code settings s a g) (due_is code settings s a g) refl (number_from g (worker s a).runs p.1) })

  commit_back : (s : State) (a g : ℕ) → MayCommitClaim code settings s core a g ⊎ MayCommitDue code settings s core a g → (may_commit_claim settings s core a g || may_commit_due s core a g) ≡ true
  commit_back s a g (inl m) = left_of (may_commit_claim settings s core a g) (may_commit_due s core a g)
      (and_from (holds_by Claim g (hand core a)) _ (so_back Claim g (hand core a) m.has_claimed)
      (and_from (is_claim_of s.active a (word core g)) _ (claim_back s.active a (word core g) m.is_claim)
      (and_from (is_some (copy_in (hand core a))) _ m.has_copy (allows_legal code settings s (Record a g) m.is_legal))))
  commit_back s a g (inr m) = right_of (may_commit_claim settings s core a g) (may_commit_due s core a g)
      (and_from (holds_by Take g (hand core a)) _ (so_back Take g (hand core a) m.has_taken)
      (number_back g (worker s a).runs (due_runs code settings s a g (due code settings s a g) (due_is code settings s a g) m.is_legal)))

  -- by whether the Record is needed
  begins_from : (s : State) (w g : ℕ) (b : Bool) → (if b then is_some (copy_in (hand core w)) && may_record settings s w g else may_start settings s w g) ≡ true →
      let entries = if b then Record w g ∷ start_of settings (after code settings s (Record w g)) w g else start_of settings s w g in
      (b ≡ true → is_some (copy_in (hand core w)) ≡ true) × (0 < length entries) × AreLegal code settings s entries
  begins_from s w g true h =
      let p = and_parts (is_some (copy_in (hand core w))) (may_record settings s w g) h in
      let t = after code settings s (Record w g) in
      (λ e. p.0, omega arith, (allowed code settings s (Record w g) p.1, start_legal code settings t w g (may_start settings t w g) refl))
  begins_from s w g false h = (λ e. absurd (off e), start_some w g (may_start settings s w g) h, start_legal code settings s w g (may_start settings s w g) refl)

  begin_from : (s : State) (w g : ℕ) → may_begin settings s core w g ≡ true → MayBegin code settings s core w g
  begin_from s w g h =
      let p = and_parts (holds_by Take g (hand core w)) _ h in
      let q = begins_from s w g (is_needed s g) p.1 in
      record { has_taken = so_from Take g (hand core w) p.0; has_copy = q.0; adds_some = q.1; are_legal = q.2 }

  begins_back : (s : State) (w g : ℕ) (b : Bool) →
      let entries = if b then Record w g ∷ start_of settings (after code settings s (Record w g)) w g else start_of settings s w g in
      (b ≡ true → is_some (copy_in (hand core w)) ≡ true) → 0 < length entries → AreLegal code settings s entries →
      (if b then is_some (copy_in (hand core w)) && may_record settings s w g else may_start settings s w g) ≡ true
  begins_back s w g true copy some legal = and_from (is_some (copy_in (hand core w))) (may_record settings s w g) (copy refl) (allows_legal code settings s (Record w g) legal.0)
  begins_back s w g false copy some legal = some_start w g (may_start settings s w g) some

  begin_back : (s : State) (w g : ℕ) → MayBegin code settings s core w g → may_begin settings s core w g ≡ true
  begin_back s w g m =
      and_from (holds_by Take g (hand core w)) _ (so_back Take g (hand core w) m.has_taken) (begins_back s w g (is_needed s g) m.has_copy m.adds_some m.are_legal)

  open_from : (s : State) → asked settings s ≡ true → running s ≡ 0 → (few : Bool) → nat_le (live s) settings.room ≡ few → May code settings s (if few then Open (s.last_epoch + 1) settings.room else Refuse settings.room (live s))
  open_from s is_asked nobody_runs true e = record { is_asked = is_asked; nobody_runs = nobody_runs; room_given = refl; fits = leb-true (live s) settings.room e; next_epoch = refl }
  open_from s is_asked nobody_runs false e = record { is_asked = is_asked; nobody_runs = nobody_runs; room_given = refl; number_live = refl; too_many = leb-false (live s) settings.room e }

  open_back : (s : State) (few : Bool) → May code settings s (if few then Open (s.last_epoch + 1) settings.room else Refuse settings.room (live s)) → may_open settings s ≡ true
  open_back s true may = and_from (asked settings s) (running s == 0) may.is_asked (eq-eqb (running s) 0 may.nobody_runs)
  open_back s false may = and_from (asked settings s) (running s == 0) may.is_asked (eq-eqb (running s) 0 may.nobody_runs)

  close_from : (s : State) → may_close s ≡ true → May code settings s (Close s.active)
  close_from s h =
      let p = and_parts (nat_lt 0 s.active) (is_none (first_behind s.active s.goroutines)) h in
      record { is_active = ltb-true 0 s.active p.0; epoch_given = refl; all_recorded = none_first (is_behind s.active) nobody s.goroutines p.1 }

  close_back : (s : State) → May code settings s (Close s.active) → may_close s ≡ true
  close_back s may = and_from (nat_lt 0 s.active) (is_none (first_behind s.active s.goroutines)) (lt-ltb 0 s.active may.is_active)
      (first_none (is_behind s.active) nobody s.goroutines refl may.all_recorded (first_behind s.active s.goroutines) refl)

  pub admitted : (it : CoreEvent) → admits code settings core it ≡ true → IsEnabled code settings core it
  admitted (event.Claim a g) h =
      let s = now code settings core in
      pair_from settings s a g _ (MayClaim s core a g) (λ e.
      let p = and_parts (is_none (hand core a)) _ e in let q = and_parts (nat_le 1 s.last_epoch) _ p.1 in
      record { is_free = none_from (hand core a) p.0; some_epoch = leb-true 1 s.last_epoch q.0; is_absent = home_from (s.last_epoch - 1) (word core g) q.1 }) h
  admitted (event.Copy a g) h =
      let s = now code settings core in
      pair_from settings s a g _ (MayCopy s core a g) (λ e.
      let p = and_parts (holds g (hand core a)) _ e in let q = and_parts (is_live (goroutine s g)) _ p.1 in
      record { holds_it = holds_from g (hand core a) p.0; lives = q.0; stands = not-true (is_running (goroutine s g).status) q.1 }) h
  admitted (event.Satisfy a g) h =
      let s = now code settings core in
      pair_from settings s a g _ (MaySatisfy s core a g) (λ e. record { is_claimed = claim_from (goroutine s g).epoch a (word core g) e }) h
  admitted (event.Take w g) h =
      let s = now code settings core in
      workers_from settings s w g _ (MayTake core w g) (λ e. let p = and_parts (is_none (hand core w)) _ e in record { is_free = none_from (hand core w) p.0; is_home = at_home (word core g) p.1 }) h
  admitted (event.Begin w g) h = let s = now code settings core in workers_from settings s w g _ (MayBegin code settings s core w g) (begin_from s w g) h
  admitted (event.Commit a g) h =
      let s = now code settings core in pair_from settings s a g _ (MayCommitClaim code settings s core a g ⊎ MayCommitDue code settings s core a g) (commit_from s a g) h
  admitted (event.Give w g) h =
      let s = now code settings core in
      workers_from settings s w g _ (MayGive s core w g) (λ e.
      let p = and_parts (holds_by Take g (hand core w)) _ e in let q = and_parts (is_live (goroutine s g)) _ p.1 in
      record { has_taken = so_from Take g (hand core w) p.0; lives = q.0; stands = not-true (is_running (goroutine s g).status) q.1 }) h
  admitted (event.Bear w g) h =
      let s = now code settings core in
      workers_from settings s w g _ (MayBear s core g) (λ e. let p = and_parts (is_live (goroutine s g)) _ e in record { lives = p.0; is_empty = empty_from (word core g) p.1 }) h
  admitted (event.Bury w g) h =
      let s = now code settings core in
      workers_from settings s w g _ (MayBury s core w g) (λ e.
      let p = and_parts (holds_by Take g (hand core w)) _ e in record { has_taken = so_from Take g (hand core w) p.0; has_died = not-true (is_live (goroutine s g)) p.1 }) h
  admitted event.OpenAll h =
      let s = now code settings core in
      let p = and_parts (asked settings s) (running s == 0) h in
      open_from s p.0 (eqb-true (running s) 0 p.1) (nat_le (live s) settings.room) refl
  admitted event.CloseAll h = close_from (now code settings core) h

  pub admits_enabled : (it : CoreEvent) → IsEnabled code settings core it → admits code settings core it ≡ true
  admits_enabled (event.Claim a g) may =
      let s = now code settings core in
      pair_back settings s a g _ (MayClaim s core a g) (λ m.
      and_from (is_none (hand core a)) _ (ap is_none m.is_free) (and_from (nat_le 1 s.last_epoch) _ (le-leb 1 s.last_epoch m.some_epoch) (home_back (s.last_epoch - 1) (word core g) m.is_absent))) may
  admits_enabled (event.Copy a g) may =
      let s = now code settings core in
      pair_back settings s a g _ (MayCopy s core a g) (λ m.
      and_from (holds g (hand core a)) _ (holds_back g (hand core a) m.holds_it) (and_from (is_live (goroutine s g)) _ m.lives (ap not m.stands))) may
  admits_enabled (event.Satisfy a g) may =
      let s = now code settings core in pair_back settings s a g _ (MaySatisfy s core a g) (λ m. claim_back (goroutine s g).epoch a (word core g) m.is_claimed) may
  admits_enabled (event.Take w g) may =
      let s = now code settings core in
      workers_back settings s w g _ (MayTake core w g) (λ m. and_from (is_none (hand core w)) _ (ap is_none m.is_free) (home_at (word core g) m.is_home)) may
  admits_enabled (event.Begin w g) may = let s = now code settings core in workers_back settings s w g _ (MayBegin code settings s core w g) (begin_back s w g) may
  admits_enabled (event.Commit a g) may =
      let s = now code settings core in pair_back settings s a g _ (MayCommitClaim code settings s core a g ⊎ MayCommitDue code settings s core a g) (commit_back s a g) may
  admits_enabled (event.Give w g) may =
      let s = now code settings core in
      workers_back settings s w g _ (MayGive s core w g) (λ m.
      and_from (holds_by Take g (hand core w)) _ (so_back Take g (hand core w) m.has_taken) (and_from (is_live (goroutine s g)) _ m.lives (ap not m.stands))) may
  admits_enabled (event.Bear w g) may =
      let s = now code settings core in
      workers_back settings s w g _ (MayBear s core g) (λ m. and_from (is_live (goroutine s g)) _ m.lives (ap is_empty m.is_empty)) may
  admits_enabled (event.Bury w g) may =
      let s = now code settings core in
      workers_back settings s w g _ (MayBury s core w g) (λ m. and_from (holds_by Take g (hand core w)) _ (so_back Take g (hand core w) m.has_taken) (ap not m.has_died)) may
  admits_enabled event.OpenAll may = let s = now code settings core in open_back s (nat_le (live s) settings.room) may
  admits_enabled event.CloseAll may = close_back (now code settings core) may

-- what is committed without a claim was taken
pub taken_else : (code : Code) (settings : Settings) (core : CoreState) (a g : ℕ) → IsEnabled code settings core (event.Commit a g) → holds_by Claim g (hand core a) ≡ false → HoldsBy Take g (hand core a)
taken_else code settings core a g may none = by may.holds_too
  where
    by : MayCommitClaim code settings (now code settings core) core a g ⊎ MayCommitDue code settings (now code settings core) core a g → HoldsBy Take g (hand core a)
    by (inl m) = absurd (off (sym none ∙ so_back Claim g (hand core a) m.has_claimed))
    by (inr m) = m.has_taken

abbrev pub admits_all : Code → Settings → CoreState → List CoreEvent → Bool
admits_all code settings core [] = true
admits_all code settings core (it ∷ events) = admits code settings core it && admits_all code settings (stepped code settings core it) events

pub admitted_all : (code : Code) (settings : Settings) (core : CoreState) (events : List CoreEvent) → admits_all code settings core events ≡ true → AreEnabled code settings core events
admitted_all code settings core [] h = tt
admitted_all code settings core (it ∷ events) h =
    let p = and_parts (admits code settings core it) (admits_all code settings (stepped code settings core it) events) h in
    (admitted code settings core it p.0, admitted_all code settings (stepped code settings core it) events p.1)

admits_all_enabled : (code : Code) (settings : Settings) (core : CoreState) (events : List CoreEvent) → AreEnabled code settings core events → admits_all code settings core events ≡ true
admits_all_enabled code settings core [] enabled = refl
admits_all_enabled code settings core (it ∷ events) enabled =
    and_from (admits code settings core it) _ (admits_enabled code settings core it enabled.0) (admits_all_enabled code settings (stepped code settings core it) events enabled.1)

pub not_admitted : (code : Code) (settings : Settings) (core : CoreState) (events : List CoreEvent) → admits_all code settings core events ≡ false → AreEnabled code settings core events → ⊥
not_admitted code settings core events h enabled = true≢false (sym (admits_all_enabled code settings core events enabled) ∙ h)
