-- What records add up to: a count for each stack with each tag, and one for all that was lost.
use Rattle.std.specs.Prelude.{◌==◌, ◌&&◌, ◌+◌, ℕ, Bool, true, false, not, List, [], ◌∷◌, filter, map, sum_by, if◌then◌else◌}
use Rattle.std.specs.Cmp.Lexicographic.{pointwise}
use Rattle.gp_isa.specs.declared.frame.Frame.{Frame}
use Rattle.gp_cpu.specs.declared.record.CpuRecord.{CpuRecord}
use Rattle.gp_cpu.specs.declared.record.CpuRecord.TheVariants.{Sample, Lost as LostRecord}
use Rattle.gp_cpu.specs.declared.sum.CpuKey.{CpuKey}
use Rattle.gp_cpu.specs.declared.sum.CpuKey.TheVariants.{At, Lost}
use Rattle.gp_cpu.specs.declared.sum.CpuSum.{CpuSum}

-- ---- keys

abbrev pub same_frame : Frame → Frame → Bool
same_frame a b = (a.function == b.function) && (a.line == b.line)

-- frame by frame
abbrev pub same_stack : List Frame → List Frame → Bool
same_stack a b = pointwise same_frame a b

abbrev pub same_key : CpuKey → CpuKey → Bool
same_key (At s t) (At u v) = same_stack s u && (t == v)
same_key (At s t) Lost = false
same_key Lost (At u v) = false
same_key Lost Lost = true

-- ---- what counts

-- The rate record is the first one, where that is a sample without frames. It isn't counted.
abbrev pub is_rate : CpuRecord → Bool
is_rate (Sample time tag header []) = true
is_rate (Sample time tag header (frame ∷ stack)) = false
is_rate (LostRecord count time) = false

abbrev pub counted : List CpuRecord → List CpuRecord
counted [] = []
counted (it ∷ records) = if is_rate it then records else it ∷ records

-- What a record is counted by, and how many samples it stands for: one that was delivered, whatever its header, or those
-- that were lost.
abbrev pub key_of : CpuRecord → CpuKey
key_of (Sample time tag header stack) = At stack tag
key_of (LostRecord count time) = Lost

abbrev pub samples_of : CpuRecord → ℕ
samples_of (Sample time tag header stack) = 1
samples_of (LostRecord count time) = count

-- ---- sums

-- the keys of records, each once, in the order in which they are first met
unfoldable pub keys_of : List CpuRecord → List CpuKey
keys_of [] = []
keys_of (it ∷ records) = key_of it ∷ filter (λ other. not (same_key (key_of it) other)) (keys_of records)

-- the records of a key
abbrev pub at_key : CpuKey → List CpuRecord → List CpuRecord
at_key key records = filter (λ it. same_key key (key_of it)) records

-- how many samples they stand for
abbrev pub sum_at : List CpuRecord → CpuKey → CpuSum
sum_at records key = record { key = key; count = sum_by samples_of (at_key key records) }

-- one sum for each key
unfoldable pub sums_by_key : List CpuRecord → List CpuSum
sums_by_key records = map (sum_at records) (keys_of records)

-- The sums of what a reader took, in the order in which their keys are first met.
abbrev pub cpu_sums : List CpuRecord → List CpuSum
cpu_sums records = sums_by_key (counted records)

-- ---- how they grow

-- a sum with a record more
abbrev pub with_record : CpuSum → CpuRecord → CpuSum
with_record sum it = record sum { count = sum.count + samples_of it }

-- the sum of one record
abbrev pub sum_of : CpuRecord → CpuSum
sum_of it = record { key = key_of it; count = samples_of it }

-- Sums with a record more: it goes to the sum of its key, and is the first of its key where there is none.
abbrev pub added : List CpuSum → CpuRecord → List CpuSum
added [] it = sum_of it ∷ []
added (sum ∷ rest) it = if same_key (key_of it) sum.key then with_record sum it ∷ rest else sum ∷ added rest it

-- the samples of all sums together
abbrev pub total_samples : List CpuSum → ℕ
total_samples all = sum_by (λ (sum : CpuSum). sum.count) all
