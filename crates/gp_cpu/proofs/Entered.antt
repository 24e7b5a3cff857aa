-- What a map's entries are after a record more.
use Rattle.std.proofs.Common.{◌≡◌, ◌≤◌, ◌+◌, ℕ, Bool, true, false, List, [], ◌∷◌, Some, unwrap_or, cond, refl, ap, zero-add, if◌then◌else◌, arith}
use Rattle.std.proofs.lemmas.List.Sums.{sum_by-cons}
use Rattle.std.specs.Map.{lookup}
use Rattle.indexmap.specs.IndexMap.{insert_entry}
use Rattle.gp_cpu.specs.declared.record.CpuRecord.{CpuRecord}
use Rattle.gp_cpu.specs.declared.sum.CpuKey.{CpuKey}
use Rattle.gp_cpu.specs.declared.sum.CpuSum.{CpuSum}
use Rattle.gp_cpu.specs.Sums.{same_key, key_of, samples_of, added, with_record, total_samples}
use Rattle.gp_cpu.specs.kept.Counts.{sum_of_entry, sums_of_entries, count_at, entered}

-- The sums of entries with a record more have it more.
pub entered_is : (entries : List (CpuKey × ℕ)) (it : CpuRecord)
    → sums_of_entries (entered entries (key_of it) (samples_of it)) ≡ added (sums_of_entries entries) it
entered_is [] it = λ i. record { key = key_of it; count = zero-add (samples_of it) i } ∷ []
entered_is (entry ∷ entries) it = by (same_key (key_of it) entry.0) (entered_is entries it)
  where
    by : (b : Bool) → sums_of_entries (entered entries (key_of it) (samples_of it)) ≡ added (sums_of_entries entries) it
        → sums_of_entries
        (if b then (entry.0, unwrap_or (cond b (Some entry.1) (lookup (same_key (key_of it)) entries)) 0 + samples_of it) ∷ entries
        else entry ∷ insert_entry same_key entries (key_of it) (unwrap_or (cond b (Some entry.1) (lookup (same_key (key_of it)) entries)) 0 + samples_of it))
        ≡ (if b then with_record (sum_of_entry entry) it ∷ sums_of_entries entries
        else sum_of_entry entry ∷ added (sums_of_entries entries) it)
    by true later = refl
    by false later = ap (λ (l : List CpuSum). sum_of_entry entry ∷ l) later

-- The count of a key is no more than all counts.
pub count_within : (entries : List (CpuKey × ℕ)) (key : CpuKey) → count_at entries key ≤ total_samples (sums_of_entries entries)
count_within [] key = omega arith
count_within (entry ∷ entries) key = by (same_key key entry.0) (count_within entries key)
  where
    by : (b : Bool) → count_at entries key ≤ total_samples (sums_of_entries entries)
        → unwrap_or (cond b (Some entry.1) (lookup (same_key key) entries)) 0 ≤ total_samples (sum_of_entry entry ∷ sums_of_entries entries)
    by true later = omega (arith, sum_by-cons (λ (sum : CpuSum). sum.count) (sum_of_entry entry) (sums_of_entries entries))
    by false later = omega (arith, sum_by-cons (λ (sum : CpuSum). sum.count) (sum_of_entry entry) (sums_of_entries entries))
