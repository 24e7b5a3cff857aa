-- What counting has come to after so many records.
use Rattle.std.proofs.Common.{◌≡◌, ◌+◌, ◌*◌, ◌^◌, ◌<◌, ◌≤◌, ℕ, List, [], ◌∷◌, ◌++◌, length, take, get_or, sym, ap, ◌∙◌, arith}
use Rattle.std.proofs.lemmas.List.{take_more}
use Rattle.gp_cpu.specs.declared.record.CpuRecord.{CpuRecord}
use Rattle.gp_cpu.specs.declared.sum.CpuKey.{CpuKey}
use Rattle.gp_cpu.specs.declared.sum.CpuSum.{CpuSum}
use Rattle.gp_cpu.specs.Sums.{key_of, samples_of, sums_by_key, added, total_samples}
use Rattle.gp_cpu.specs.kept.Counts.{sums_of_entries, count_at, entered}
use Rattle.gp_cpu.proofs.Growing.{sums_begin, sums_grow, total-added}
use Rattle.gp_cpu.proofs.Entered.{entered_is, count_within}

-- the entries are those of the first n records, and small
pub record IsCounted (records : List CpuRecord) (entries : List (CpuKey × ℕ)) (n : ℕ) : Type 0 where
  pub sums : sums_of_entries entries ≡ sums_by_key (take n records)
  pub small : total_samples (sums_of_entries entries) ≤ n * 18446744073709551615

pub counted_none : (records : List CpuRecord) → IsCounted records [] 0
counted_none records = record { sums = sym sums_begin; small = omega arith }

-- room for one more
pub count_fits : (records : List CpuRecord) (entries : List (CpuKey × ℕ)) (n samples : ℕ) (key : CpuKey) → IsCounted records entries n
    → n < 2 ^ 64 → samples < 2 ^ 64 → count_at entries key + samples < 2 ^ 128
count_fits records entries n samples key is few fits = let within = count_within entries key in let small = is.small in omega arith

pub counted_more : (records : List CpuRecord) (entries : List (CpuKey × ℕ)) (n : ℕ) (it : CpuRecord) → IsCounted records entries n
    → n < length records → get_or records n it ≡ it → samples_of it < 2 ^ 64
    → IsCounted records (entered entries (key_of it) (samples_of it)) (n + 1)
counted_more records entries n it is within at fits = record {
  sums = more ∙ sym (ap sums_by_key (take_more records n it within ∙ ap (λ (x : CpuRecord). take n records ++ x ∷ []) at) ∙ sums_grow (take n records) it);
  small = let total = ap total_samples (entered_is entries it) ∙ total-added (sums_of_entries entries) it in let small = is.small in omega arith;
}
  where
    more : sums_of_entries (entered entries (key_of it) (samples_of it)) ≡ added (sums_by_key (take n records)) it
    more = entered_is entries it ∙ ap (λ (l : List CpuSum). added l it) is.sums
