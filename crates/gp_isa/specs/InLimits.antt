-- The limits of a program's parts, and what its statements may name. How long a trace may be isn't said here.
use Rattle.std.specs.Prelude.{◌≡◌, ◌≤◌, ◌<◌, ◌+◌, ℕ, zero, suc, List, length, map, All, slice_index_or}
use Rattle.std.specs.List.{IsDistinct}
use Rattle.std.specs.Str.{bytes_eq}
use Rattle.std.specs.Ordering.{nat_cmp}
use Rattle.std.specs.Cmp.Lexicographic.{slice_cmp}
use Rattle.std.specs.declared.cmp.Ordering.TheVariants.{Less}
use Rattle.gp_isa.specs.declared.parts.Parts.{Parts}
use Rattle.gp_isa.specs.declared.parts.Function.{Function}
use Rattle.gp_isa.specs.declared.parts.ChannelDecl.{ChannelDecl}
use Rattle.gp_isa.specs.declared.parts.MutexDecl.{MutexDecl}
use Rattle.gp_isa.specs.declared.parts.LabelSet.{LabelSet}
use Rattle.gp_isa.specs.declared.parts.Pair.{Pair}
use Rattle.gp_isa.specs.declared.statement.Stmt.{Stmt}
use Rattle.gp_isa.specs.declared.statement.What.TheOpen.{Work, Call, Loop, Send, Recv, Lock, Unlock, Spawn, Labels}
use Rattle.gp_isa.specs.Limits.{name_bytes, most_functions, most_channels, most_mutexes, most_label_sets, most_pairs, most_capacity}
use Rattle.gp_isa.specs.Statement.{Action, action_of, most_bodies}

-- the names of one space: each of so many bytes at most, and no two alike
pub record AreNames (names : List (List ℕ)) : Type 0 where
  pub short : All (λ name. length name ≤ name_bytes) names
  pub distinct : IsDistinct bytes_eq names

-- a pair of a label set, its key of at least one byte
pub record IsPair (pair : Pair) : Type 0 where
  pub named : 1 ≤ length pair.key
  pub key : length pair.key ≤ name_bytes
  pub value : length pair.value ≤ name_bytes

-- the keys rise byte by byte, so that none stands twice
abbrev pub KeysRise : List Pair → Type 0
KeysRise pairs = (k : ℕ) (d : Pair) → k + 1 < length pairs →
    slice_cmp nat_cmp (slice_index_or pairs k d).key (slice_index_or pairs (k + 1) d).key ≡ Less

-- The pairs of a label set.
pub record ArePairs (pairs : List Pair) : Type 0 where
  pub few : length pairs ≤ most_pairs
  pub each : All IsPair pairs
  pub rising : KeysRise pairs

-- Counts are at least 1, and what a statement names is there. `Within` says what a loop's body has to be.
abbrev pub IsAction : Parts → (List Stmt → Type 0) → Action → Type 0
IsAction parts Within (Work n) = 1 ≤ n
IsAction parts Within (Call f) = f < length parts.functions
IsAction parts Within (Loop n body end) = (1 ≤ n) × Within body
IsAction parts Within (Send c) = c < length parts.channels
IsAction parts Within (Recv c) = c < length parts.channels
IsAction parts Within (Lock m) = m < length parts.mutexes
IsAction parts Within (Unlock m) = m < length parts.mutexes
IsAction parts Within (Spawn f) = f < length parts.functions
IsAction parts Within (Labels s) = (1 ≤ s) × (s ≤ length parts.labels)

-- the statements of a body in which bodies stand at most `deep` inside each other, this one included
abbrev pub AreStatements : Parts → ℕ → List Stmt → Type 0
AreStatements parts zero body = ⊥
AreStatements parts (suc deep) body = All (λ s. IsAction parts (AreStatements parts deep) (action_of s)) body

-- The parts of a program file lie in its limits.
pub record AreInLimits (parts : Parts) : Type 0 where
  pub functions : length parts.functions ≤ most_functions
  pub function_names : AreNames (map (λ (f : Function). f.name) parts.functions)
  pub statements : All (λ f. AreStatements parts most_bodies f.body) parts.functions
  pub channels : length parts.channels ≤ most_channels
  pub channel_names : AreNames (map (λ (c : ChannelDecl). c.name) parts.channels)
  pub capacities : All (λ c. c.capacity ≤ most_capacity) parts.channels
  pub mutexes : length parts.mutexes ≤ most_mutexes
  pub mutex_names : AreNames (map (λ (m : MutexDecl). m.name) parts.mutexes)
  pub labels : length parts.labels ≤ most_label_sets
  pub label_names : AreNames (map (λ (l : LabelSet). l.name) parts.labels)
  pub pairs : All (λ l. ArePairs l.pairs) parts.labels
