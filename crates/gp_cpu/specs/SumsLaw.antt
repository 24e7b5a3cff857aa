-- Laws of sums: how they grow, and that nothing is counted twice or left out.
use Rattle.std.specs.Prelude.{◌≡◌, List, [], ◌∷◌, ◌++◌, sum_by}
use Rattle.gp_cpu.specs.declared.record.CpuRecord.{CpuRecord}
use Rattle.gp_cpu.specs.Sums.{samples_of, sums_by_key, added, total_samples}

-- No records have no sums,
abbrev pub SumsBegin : Type 0
SumsBegin = sums_by_key [] ≡ []

-- and with each record the sums have it more.
abbrev pub SumsGrow : Type 0
SumsGrow = (records : List CpuRecord) (it : CpuRecord) → sums_by_key (records ++ it ∷ []) ≡ added (sums_by_key records) it

-- Together they are the samples that all records stand for.
abbrev pub SumsAreShares : Type 0
SumsAreShares = (records : List CpuRecord) → total_samples (sums_by_key records) ≡ sum_by samples_of records
