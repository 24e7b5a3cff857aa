-- A test that decides which entries are legal, for the worked journals.
use Rattle.std.proofs.Common.{◌≡◌, ℕ, ◌+◌, Bool, true, false, not, ◌&&◌, ◌||◌, ◌==◌, List, [], ◌∷◌, Some, None, Option, refl, sym, ap, ◌∙◌, true≢false, nat_lt, nat_le, count_by, eqb-true, eq-eqb}
use Rattle.std.proofs.lemmas.Bool.{and_parts, and_from, not-true, ltb-true, leb-true, lt-ltb, le-leb}
use Rattle.gp_journal.specs.declared.entry.Entry.{Entry}
use Rattle.gp_journal.specs.declared.entry.Entry.TheVariants.{Start, Run, Op, Tick, Park, Open, Refuse, Record, Close}
use Rattle.gp_journal.specs.declared.goroutine.Status.{Status}
use Rattle.gp_journal.specs.declared.goroutine.Status.TheVariants.{Runnable, Running, Blocked, Faulted, Dead}
use Rattle.gp_journal.specs.declared.settings.Settings.{Settings}
use Rattle.gp_journal.specs.State.{Code, State, goroutine, worker, is_runnable, is_idle, is_behind, live, running}
use Rattle.gp_journal.specs.Due.{asked, over, due}
use Rattle.gp_journal.specs.May.{May, IsDue, is_recorded}
use Rattle.gp_journal.specs.Effect.{after}
use Rattle.gp_journal.specs.Run.{AreLegal}

abbrev holds_number : ℕ → Option ℕ → Bool
holds_number g None = false
holds_number g (Some h) = h == g

abbrev same_entry : Entry → Entry → Bool
same_entry (Run a b c) (Run d e f) = (a == d) && ((b == e) && (c == f))
same_entry (Op a b) (Op d e) = (a == d) && (b == e)
same_entry (Tick a b) (Tick d e) = (a == d) && (b == e)
same_entry (Park a b) (Park d e) = (a == d) && (b == e)
same_entry _ _ = false

abbrev is_due : Code → Settings → State → ℕ → ℕ → Entry → Bool
is_due code settings s w g entry = holds_number g (worker s w).runs && same_entry (due code settings s w g) entry

abbrev pub allows : Code → Settings → State → Entry → Bool
allows code settings s (Start w g) = is_idle s w && (is_runnable (goroutine s g).status && (not (asked settings s) && (not (over settings s) && is_recorded s g)))
allows code settings s (Run w g n) = is_due code settings s w g (Run w g n)
allows code settings s (Op w g) = is_due code settings s w g (Op w g)
allows code settings s (Tick w g) = is_due code settings s w g (Tick w g)
allows code settings s (Park w g) = is_due code settings s w g (Park w g)
allows code settings s (Open epoch room) = asked settings s && ((running s == 0) && ((room == settings.room) && (nat_le (live s) room && (epoch == s.last_epoch + 1))))
allows code settings s (Refuse room n) = asked settings s && ((running s == 0) && ((room == settings.room) && ((n == live s) && nat_lt room n)))
allows code settings s (Record actor g) = nat_lt 0 s.active && (is_behind s.active (goroutine s g) && ((actor == settings.workers) || is_idle s actor))
allows code settings s (Close epoch) = nat_lt 0 s.active && ((epoch == s.active) && (count_by (is_behind s.active) s.goroutines == 0))

off : false ≡ true → ⊥
off e = true≢false (sym e)

number_held : (g : ℕ) (o : Option ℕ) → holds_number g o ≡ true → o ≡ Some g
number_held g None e = absurd (off e)
number_held g (Some h) e = ap Some (eqb-true h g e)

held_number : (g : ℕ) (o : Option ℕ) → o ≡ Some g → holds_number g o ≡ true
held_number g o e = rw e (eq-eqb g g refl)

same_op : (a b : ℕ) (x : Entry) → same_entry x (Op a b) ≡ true → x ≡ Op a b
same_op a b (Op d e) h = let p = and_parts (d == a) (e == b) h in let q = eqb-true d a p.0 in let r = eqb-true e b p.1 in cc
same_op a b _ h = absurd (off h)

same_tick : (a b : ℕ) (x : Entry) → same_entry x (Tick a b) ≡ true → x ≡ Tick a b
same_tick a b (Tick d e) h = let p = and_parts (d == a) (e == b) h in let q = eqb-true d a p.0 in let r = eqb-true e b p.1 in cc
same_tick a b _ h = absurd (off h)

same_park : (a b : ℕ) (x : Entry) → same_entry x (Park a b) ≡ true → x ≡ Park a b
same_park a b (Park d e) h = let p = and_parts (d == a) (e == b) h in let q = eqb-true d a p.0 in let r = eqb-true e b p.1 in cc
same_park a b _ h = absurd (off h)

same_run : (a b c : ℕ) (x : Entry) → same_entry x (Run a b c) ≡ true → x ≡ Run a b c
same_run a b c (Run d e f) h =
    let p = and_parts (d == a) ((e == b) && (f == c)) h in
    let p' = and_parts (e == b) (f == c) p.1 in
    let q = eqb-true d a p.0 in let r = eqb-true e b p'.0 in let t = eqb-true f c p'.1 in cc
same_run a b c _ h = absurd (off h)

due_from : (code : Code) (settings : Settings) (s : State) (w g : ℕ) (entry : Entry) → (same_entry (due code settings s w g) entry ≡ true → due code settings s w g ≡ entry) → is_due code settings s w g entry ≡ true → IsDue code settings s w g entry
due_from code settings s w g entry same h =
    let p = and_parts (holds_number g (worker s w).runs) (same_entry (due code settings s w g) entry) h in
    record { runs = number_held g (worker s w).runs p.0; is_next = same p.1 }

runnable_from : (st : Status) → is_runnable st ≡ true → st ≡ Runnable
runnable_from Runnable e = refl
runnable_from (Running w) e = absurd (off e)
runnable_from Blocked e = absurd (off e)
runnable_from Faulted e = absurd (off e)
runnable_from Dead e = absurd (off e)

pub allowed : (code : Code) (settings : Settings) (s : State) (entry : Entry) → allows code settings s entry ≡ true → May code settings s entry
allowed code settings s (Start w g) h =
    let a = and_parts (is_idle s w) _ h in
    let b = and_parts (is_runnable (goroutine s g).status) _ a.1 in
    let c = and_parts (not (asked settings s)) _ b.1 in
    let d = and_parts (not (over settings s)) _ c.1 in
    record { idle = a.0; runnable = runnable_from (goroutine s g).status b.0; none_asked = not-true (asked settings s) c.0; not_over = not-true (over settings s) d.0; recorded = d.1 }
allowed code settings s (Run w g n) h = due_from code settings s w g (Run w g n) (same_run w g n (due code settings s w g)) h
allowed code settings s (Op w g) h = due_from code settings s w g (Op w g) (same_op w g (due code settings s w g)) h
allowed code settings s (Tick w g) h = due_from code settings s w g (Tick w g) (same_tick w g (due code settings s w g)) h
allowed code settings s (Park w g) h = due_from code settings s w g (Park w g) (same_park w g (due code settings s w g)) h
allowed code settings s (Open epoch room) h =
    let a = and_parts (asked settings s) _ h in
    let b = and_parts (running s == 0) _ a.1 in
    let c = and_parts (room == settings.room) _ b.1 in
    let d = and_parts (nat_le (live s) room) _ c.1 in
    record { is_asked = a.0; nobody_runs = eqb-true (running s) 0 b.0; room_given = eqb-true room settings.room c.0; fits = leb-true (live s) room d.0; next_epoch = eqb-true epoch (s.last_epoch + 1) d.1 }
allowed code settings s (Refuse room n) h =
    let a = and_parts (asked settings s) _ h in
    let b = and_parts (running s == 0) _ a.1 in
    let c = and_parts (room == settings.room) _ b.1 in
    let d = and_parts (n == live s) _ c.1 in
    record { is_asked = a.0; nobody_runs = eqb-true (running s) 0 b.0; room_given = eqb-true room settings.room c.0; number_live = eqb-true n (live s) d.0; too_many = ltb-true room n d.1 }
allowed code settings s (Record actor g) h =
    let a = and_parts (nat_lt 0 s.active) _ h in
    let b = and_parts (is_behind s.active (goroutine s g)) _ a.1 in
    record { is_active = ltb-true 0 s.active a.0; unrecorded = b.0; recorder = b.1 }
allowed code settings s (Close epoch) h =
    let a = and_parts (nat_lt 0 s.active) _ h in
    let b = and_parts (epoch == s.active) _ a.1 in
    record { is_active = ltb-true 0 s.active a.0; epoch_given = eqb-true epoch s.active b.0; all_recorded = eqb-true (count_by (is_behind s.active) s.goroutines) 0 b.1 }

numbers_same : (n : ℕ) → (n == n) ≡ true
numbers_same n = eq-eqb n n refl

due_allows : (code : Code) (settings : Settings) (s : State) (w g : ℕ) (entry : Entry) → same_entry entry entry ≡ true → IsDue code settings s w g entry → is_due code settings s w g entry ≡ true
due_allows code settings s w g entry same may =
    and_from _ _ (held_number g (worker s w).runs may.runs) (ap (λ x. same_entry x entry) may.is_next ∙ same)

pub allows_legal : (code : Code) (settings : Settings) (s : State) (entry : Entry) → May code settings s entry → allows code settings s entry ≡ true
allows_legal code settings s (Start w g) may =
    and_from _ _ may.idle (and_from _ _ (ap is_runnable may.runnable) (and_from _ _ (ap not may.none_asked) (and_from _ _ (ap not may.not_over) may.recorded)))
allows_legal code settings s (Run w g n) may = due_allows code settings s w g (Run w g n) (and_from _ _ (numbers_same w) (and_from _ _ (numbers_same g) (numbers_same n))) may
allows_legal code settings s (Op w g) may = due_allows code settings s w g (Op w g) (and_from _ _ (numbers_same w) (numbers_same g)) may
allows_legal code settings s (Tick w g) may = due_allows code settings s w g (Tick w g) (and_from _ _ (numbers_same w) (numbers_same g)) may
allows_legal code settings s (Park w g) may = due_allows code settings s w g (Park w g) (and_from _ _ (numbers_same w) (numbers_same g)) may
allows_legal code settings s (Open epoch room) may =
    and_from _ _ may.is_asked (and_from _ _ (eq-eqb (running s) 0 may.nobody_runs) (and_from _ _ (eq-eqb room settings.room may.room_given) (and_from _ _ (le-leb (live s) room may.fits) (eq-eqb epoch (s.last_epoch + 1) may.next_epoch))))
allows_legal code settings s (Refuse room n) may =
    and_from _ _ may.is_asked (and_from _ _ (eq-eqb (running s) 0 may.nobody_runs) (and_from _ _ (eq-eqb room settings.room may.room_given) (and_from _ _ (eq-eqb n (live s) may.number_live) (lt-ltb room n may.too_many))))
allows_legal code settings s (Record actor g) may =
    and_from _ _ (lt-ltb 0 s.active may.is_active) (and_from _ _ may.unrecorded may.recorder)
allows_legal code settings s (Close epoch) may =
    and_from _ _ (lt-ltb 0 s.active may.is_active) (and_from _ _ (eq-eqb epoch s.active may.epoch_given) (eq-eqb (count_by (is_behind s.active) s.goroutines) 0 may.all_recorded))

abbrev pub allows_all : Code → Settings → State → List Entry → Bool
allows_all code settings s [] = true
allows_all code settings s (entry ∷ entries) = allows code settings s entry && allows_all code settings (after code settings s entry) entries

pub legal_from : (code : Code) (settings : Settings) (s : State) (entries : List Entry) → allows_all code settings s entries ≡ true → AreLegal code settings s entries
legal_from code settings s [] h = tt
legal_from code settings s (entry ∷ entries) h =
    let p = and_parts (allows code settings s entry) (allows_all code settings (after code settings s entry) entries) h in
    (allowed code settings s entry p.0, legal_from code settings (after code settings s entry) entries p.1)

legal_allows : (code : Code) (settings : Settings) (s : State) (entries : List Entry) → AreLegal code settings s entries → allows_all code settings s entries ≡ true
legal_allows code settings s [] legal = refl
legal_allows code settings s (entry ∷ entries) legal =
    and_from _ _ (allows_legal code settings s entry legal.0) (legal_allows code settings (after code settings s entry) entries legal.1)

pub not_legal : (code : Code) (settings : Settings) (s : State) (entries : List Entry) → allows_all code settings s entries ≡ false → AreLegal code settings s entries → ⊥
not_legal code settings s entries h legal = true≢false (sym (legal_allows code settings s entries legal) ∙ h)
