-- A source, a store and a sink in memory: what each holds, and which of its calls are to fail.
use Rattle.std.specs.Prelude.{ℕ, List, Contains}
use Rattle.gp_io.specs.Outside.{File, raised_by}

-- A count and one more. At the end of its type, 2 ^ 64 - 1, it stands still.
abbrev pub raised : ℕ → ℕ
raised count = raised_by 1 count

-- The numbers of the calls that are to fail, counted from 1, how many calls were made, and how many of these failed.
pub record Plan : Type 0 where
  pub fails : List ℕ
  pub calls : ℕ
  pub faults : ℕ

-- a plan before the first call
abbrev pub unused : List ℕ → Plan
unused fails = record { fails = fails; calls = 0; faults = 0 }

-- The next call is to fail.
abbrev pub IsNextToFail : Plan → Type 0
IsNextToFail plan = Contains plan.fails (raised plan.calls)

-- the plan after a call that succeeded
abbrev pub after_success : Plan → Plan
after_success plan = record plan { calls = raised plan.calls }

-- the plan after a call that failed
abbrev pub after_fault : Plan → Plan
after_fault plan = record plan { calls = raised plan.calls; faults = raised plan.faults }

-- a source: the bytes that are left to read
pub record SourceInMemory : Type 0 where
  pub left : List ℕ
  pub plan : Plan

-- a store: the files in the order in which they were put
pub record StoreInMemory : Type 0 where
  pub files : List File
  pub plan : Plan

-- a sink: the bytes that it was given
pub record SinkInMemory : Type 0 where
  pub written : List ℕ
  pub plan : Plan
