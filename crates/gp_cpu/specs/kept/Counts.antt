-- What is kept while records are counted.
use Rattle.std.specs.Prelude.{ℕ, ◌+◌, List, map, unwrap_or}
use Rattle.std.specs.Map.{lookup}
use Rattle.indexmap.specs.IndexMap.{insert_entry}
use Rattle.gp_cpu.specs.declared.sum.CpuKey.{CpuKey}
use Rattle.gp_cpu.specs.declared.sum.CpuSum.{CpuSum}
use Rattle.gp_cpu.specs.Sums.{same_key}

-- a key with its count
abbrev pub sum_of_entry : CpuKey × ℕ → CpuSum
sum_of_entry entry = record { key = entry.0; count = entry.1 }

abbrev pub sums_of_entries : List (CpuKey × ℕ) → List CpuSum
sums_of_entries entries = map sum_of_entry entries

-- the count of a key so far
abbrev pub count_at : List (CpuKey × ℕ) → CpuKey → ℕ
count_at entries key = unwrap_or (lookup (same_key key) entries) 0

-- the entries with so many samples more of a key
abbrev pub entered : List (CpuKey × ℕ) → CpuKey → ℕ → List (CpuKey × ℕ)
entered entries key samples = insert_entry same_key entries key (count_at entries key + samples)
