-- How sums grow with each record.
use Rattle.std.proofs.Common.{◌≡◌, ℕ, ◌+◌, Bool, true, false, not, List, [], ◌∷◌, ◌++◌, filter, map, sum_by, refl, sym, ap, ◌∙◌, subst, append_assoc, if◌then◌else◌, arith}
use Rattle.std.proofs.lemmas.List.{append-nil}
use Rattle.std.proofs.lemmas.List.Sums.{sum_by-append, sum_by-cons}
use Rattle.indexmap.proofs.SetLemmas.{filter_keep, filter_skip}
use Rattle.gp_cpu.specs.declared.sum.CpuSum.{CpuSum}
use Rattle.gp_cpu.specs.declared.record.CpuRecord.{CpuRecord}
use Rattle.gp_cpu.specs.declared.sum.CpuKey.{CpuKey}
use Rattle.gp_cpu.specs.Sums.{same_key, key_of, samples_of, keys_of, at_key, sum_at, sums_by_key, with_record, sum_of, added, total_samples}
use Rattle.gp_cpu.specs.SumsLaw.{SumsBegin, SumsGrow, SumsAreShares}
use Rattle.gp_cpu.specs.laws.Alike.{same_key_equiv}

-- what records of one key add up to
abbrev summed : CpuKey → List CpuRecord → CpuSum
summed key chosen = record { key = key; count = sum_by samples_of chosen }

-- the sums of other keys
abbrev apart : CpuKey → List CpuSum → List CpuSum
apart key all = filter (λ (sum : CpuSum). not (same_key key sum.key)) all

-- One record in front leaves the sums of other keys.
at-other : (x : CpuRecord) (xs : List CpuRecord) (k : CpuKey) → same_key (key_of x) k ≡ false → sum_at (x ∷ xs) k ≡ sum_at xs k
at-other x xs k e = ap (λ (b : Bool). summed k (if b then x ∷ at_key k xs else at_key k xs)) (same_key_equiv.symm k (key_of x) ∙ e)

apart-map : (x : CpuRecord) (xs : List CpuRecord) (ks : List (CpuKey)) → map (sum_at (x ∷ xs)) (filter (λ other. not (same_key (key_of x) other)) ks) ≡ apart (key_of x) (map (sum_at xs) ks)
apart-map x xs [] = refl
apart-map x xs (k ∷ ks) = by (same_key (key_of x) k) refl (apart-map x xs ks)
  where
    by : (b : Bool) → same_key (key_of x) k ≡ b → map (sum_at (x ∷ xs)) (filter (λ other. not (same_key (key_of x) other)) ks) ≡ apart (key_of x) (map (sum_at xs) ks) →
        map (sum_at (x ∷ xs)) (if not b then k ∷ filter (λ other. not (same_key (key_of x) other)) ks else filter (λ other. not (same_key (key_of x) other)) ks)
        ≡ (if not b then sum_at xs k ∷ apart (key_of x) (map (sum_at xs) ks) else apart (key_of x) (map (sum_at xs) ks))
    by true e rest = rest
    by false e rest = λ i. at-other x xs k e i ∷ rest i

sums-cons : (x : CpuRecord) (xs : List CpuRecord) → sums_by_key (x ∷ xs) ≡ sum_at (x ∷ xs) (key_of x) ∷ apart (key_of x) (sums_by_key xs)
unfolding sums_by_key keys_of
sums-cons x xs = ap (λ (l : List CpuSum). sum_at (x ∷ xs) (key_of x) ∷ l) (apart-map x xs (keys_of xs))

-- One record at the back.
pushed : (w : CpuRecord → ℕ) (records : List CpuRecord) (e : CpuRecord) → sum_by w (records ++ e ∷ []) ≡ sum_by w records + w e
pushed w records e = sum_by-append w records (e ∷ []) ∙ ap (λ (n : ℕ). sum_by w records + n) (omega (arith, sum_by-cons w e []))

more : (records : List CpuRecord) (e : CpuRecord) (k : CpuKey) → same_key k (key_of e) ≡ true → sum_at (records ++ e ∷ []) k ≡ with_record (sum_at records k) e
more records e k h =
    ap (summed k) (filter_keep (λ (it : CpuRecord). same_key k (key_of it)) records e h)
    ∙ (λ i. record { key = k; count = pushed samples_of (at_key k records) e i })

as_before : (records : List CpuRecord) (e : CpuRecord) (k : CpuKey) → same_key k (key_of e) ≡ false → sum_at (records ++ e ∷ []) k ≡ sum_at records k
as_before records e k h = ap (summed k) (filter_skip (λ (it : CpuRecord). same_key k (key_of it)) records e h)

alone : (w : CpuRecord → ℕ) (e : CpuRecord) → sum_by w (e ∷ []) ≡ w e
alone w e = omega (arith, sum_by-cons w e [])

first_one : (e : CpuRecord) → sum_at (e ∷ []) (key_of e) ≡ sum_of e
first_one e =
    ap (λ (b : Bool). summed (key_of e) (if b then e ∷ [] else [])) (same_key_equiv.refl (key_of e))
    ∙ (λ i. record { key = key_of e; count = alone samples_of e i })

-- A record of a key leaves the sums of all others,
apart-same : (t : CpuKey) (e : CpuRecord) (all : List CpuSum) → same_key t (key_of e) ≡ true → apart t (added all e) ≡ apart t all
apart-same t e [] h = ap (λ (b : Bool). if not b then sum_of e ∷ [] else []) h
apart-same t e (sum ∷ rest) h = by (same_key (key_of e) sum.key) refl (apart-same t e rest h)
  where
    out : same_key (key_of e) sum.key ≡ true → same_key t sum.key ≡ true
    out s = same_key_equiv.congr t (key_of e) sum.key h ∙ s

    by : (b : Bool) → same_key (key_of e) sum.key ≡ b → apart t (added rest e) ≡ apart t rest → apart t (if b then with_record sum e ∷ rest else sum ∷ added rest e) ≡ apart t (sum ∷ rest)
    by true s later =
        ap (λ (c : Bool). if not c then with_record sum e ∷ apart t rest else apart t rest) (out s)
        ∙ sym (ap (λ (c : Bool). if not c then sum ∷ apart t rest else apart t rest) (out s))
    by false s later = ap (λ (l : List CpuSum). if not (same_key t sum.key) then sum ∷ l else l) later

-- and one of another key goes to those.
apart-other : (t : CpuKey) (e : CpuRecord) (all : List CpuSum) → same_key t (key_of e) ≡ false → apart t (added all e) ≡ added (apart t all) e
apart-other t e [] h = ap (λ (b : Bool). if not b then sum_of e ∷ [] else []) h
apart-other t e (sum ∷ rest) h = by (same_key (key_of e) sum.key) refl (apart-other t e rest h)
  where
    within : same_key (key_of e) sum.key ≡ true → same_key t sum.key ≡ false
    within s = same_key_equiv.symm t sum.key ∙ sym (same_key_equiv.congr (key_of e) sum.key t s) ∙ same_key_equiv.symm (key_of e) t ∙ h

    -- where the key stands among those that are left
    found : (b : Bool) → same_key (key_of e) sum.key ≡ b → added (sum ∷ apart t rest) e ≡ (if b then with_record sum e ∷ apart t rest else sum ∷ added (apart t rest) e)
    found b s = ap (λ (b : Bool). if b then with_record sum e ∷ apart t rest else sum ∷ added (apart t rest) e) s

    later_on : (c : Bool) → same_key (key_of e) sum.key ≡ false → apart t (added rest e) ≡ added (apart t rest) e
        → (if not c then sum ∷ apart t (added rest e) else apart t (added rest e)) ≡ added (if not c then sum ∷ apart t rest else apart t rest) e
    later_on true s later = later
    later_on false s later = ap (λ (l : List CpuSum). sum ∷ l) later ∙ sym (found false s)

    by : (b : Bool) → same_key (key_of e) sum.key ≡ b → apart t (added rest e) ≡ added (apart t rest) e
        → apart t (if b then with_record sum e ∷ rest else sum ∷ added rest e) ≡ added (apart t (sum ∷ rest)) e
    by true s later =
        ap (λ (c : Bool). if not c then with_record sum e ∷ apart t rest else apart t rest) (within s)
        ∙ sym (found true s)
        ∙ sym (ap (λ (c : Bool). added (if not c then sum ∷ apart t rest else apart t rest) e) (within s))
    by false s later = later_on (same_key t sum.key) s later

pub sums_begin : SumsBegin
unfolding sums_by_key keys_of
sums_begin = refl

pub sums_grow : SumsGrow
sums_grow [] e =
    sums-cons e []
    ∙ (λ i. first_one e i ∷ apart (key_of e) (sums_begin i))
    ∙ sym (ap (λ (l : List CpuSum). added l e) sums_begin)
sums_grow (x ∷ xs) e =
    sums-cons x (xs ++ e ∷ [])
    ∙ ap (λ (l : List CpuSum). sum_at (x ∷ xs ++ e ∷ []) (key_of x) ∷ apart (key_of x) l) (sums_grow xs e)
    ∙ by (same_key (key_of x) (key_of e)) refl
    ∙ sym (ap (λ (l : List CpuSum). added l e) (sums-cons x xs))
  where
    found : (b : Bool) → same_key (key_of x) (key_of e) ≡ b → added (sum_at (x ∷ xs) (key_of x) ∷ apart (key_of x) (sums_by_key xs)) e
        ≡ (if b then with_record (sum_at (x ∷ xs) (key_of x)) e ∷ apart (key_of x) (sums_by_key xs) else sum_at (x ∷ xs) (key_of x) ∷ added (apart (key_of x) (sums_by_key xs)) e)
    found b s =
        ap (λ (b : Bool). if b then with_record (sum_at (x ∷ xs) (key_of x)) e ∷ apart (key_of x) (sums_by_key xs) else sum_at (x ∷ xs) (key_of x) ∷ added (apart (key_of x) (sums_by_key xs)) e)
        (same_key_equiv.symm (key_of e) (key_of x) ∙ s)

    by : (b : Bool) → same_key (key_of x) (key_of e) ≡ b → sum_at (x ∷ xs ++ e ∷ []) (key_of x) ∷ apart (key_of x) (added (sums_by_key xs) e) ≡ added (sum_at (x ∷ xs) (key_of x) ∷ apart (key_of x) (sums_by_key xs)) e
    by true s = (λ i. more (x ∷ xs) e (key_of x) s i ∷ apart-same (key_of x) e (sums_by_key xs) s i) ∙ sym (found true s)
    by false s = (λ i. as_before (x ∷ xs) e (key_of x) s i ∷ apart-other (key_of x) e (sums_by_key xs) s i) ∙ sym (found false s)

-- All sums together, with a record more.
pub total-added : (all : List CpuSum) (e : CpuRecord) → total_samples (added all e) ≡ total_samples all + samples_of e
total-added [] e = omega (arith, sum_by-cons (λ (sum : CpuSum). sum.count) (sum_of e) [])
total-added (sum ∷ rest) e = by (same_key (key_of e) sum.key) (total-added rest e)
  where
    by : (b : Bool) → total_samples (added rest e) ≡ total_samples rest + samples_of e
        → total_samples (if b then with_record sum e ∷ rest else sum ∷ added rest e) ≡ total_samples (sum ∷ rest) + samples_of e
    by true later = omega (arith, sum_by-cons (λ (sum : CpuSum). sum.count) (with_record sum e) rest, sum_by-cons (λ (sum : CpuSum). sum.count) sum rest)
    by false later = omega (arith, sum_by-cons (λ (sum : CpuSum). sum.count) sum (added rest e), sum_by-cons (λ (sum : CpuSum). sum.count) sum rest)

-- What is so before some records is so behind them.
shared_on : (before later : List CpuRecord) → total_samples (sums_by_key before) ≡ sum_by samples_of before
    → total_samples (sums_by_key (before ++ later)) ≡ sum_by samples_of (before ++ later)
shared_on before [] is = subst (λ (l : List CpuRecord). total_samples (sums_by_key l) ≡ sum_by samples_of l) (sym (append-nil before)) is
shared_on before (e ∷ later) is =
    subst (λ (l : List CpuRecord). total_samples (sums_by_key l) ≡ sum_by samples_of l) (append_assoc before (e ∷ []) later)
    (shared_on (before ++ e ∷ []) later
    (ap total_samples (sums_grow before e) ∙ total-added (sums_by_key before) e ∙ ap (λ (n : ℕ). n + samples_of e) is ∙ sym (pushed samples_of before e)))

pub sums_are_shares : SumsAreShares
sums_are_shares records = shared_on [] records (ap total_samples sums_begin)
