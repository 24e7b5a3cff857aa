-- Lines kept as links: an array tells who stands behind whom, and another since when each waits.
use Rattle.std.specs.Prelude.{◌≡◌, ℕ, ◌+◌, ◌-◌, ◌<◌, ◌≤◌, ◌^◌, zero, suc, ◌==◌, if◌then◌else◌, List, [], ◌∷◌, ◌++◌, length, get_or, drop, map, slice_set, slice_index_or, sum_by}
use Rattle.gp_sync.specs.declared.effect.Waiter.{Waiter}
use Rattle.gp_sync.specs.declared.lines.Line.{Line}
use Rattle.gp_sync.specs.Places.{in_line}

-- Lines by their numbers, of goroutines whose numbers are below `cells`.
pub record LineTable : Type 0 where
  pub cells : ℕ
  pub lines : List (List Waiter)

-- a line with a goroutine at its head
abbrev pub BeginsWith : Waiter → List Waiter → Type 0
BeginsWith head line = line ≡ head ∷ drop 1 line

-- the lines once one of them has another at its tail
abbrev pub with_last : List (List Waiter) → ℕ → Waiter → List (List Waiter)
with_last lines i last = slice_set lines i (slice_index_or lines i [] ++ last ∷ [])

-- the lines once one of them has lost its head
abbrev pub without_head : List (List Waiter) → ℕ → List (List Waiter)
without_head lines i = slice_set lines i (drop 1 (slice_index_or lines i []))

-- a line on which nobody stands
abbrev pub no_line : Line
no_line = record { head = 0; tail = 0; length = 0 }

-- the line of so many goroutines that g stands at the head of
abbrev pub line_from : List ℕ → List ℕ → ℕ → ℕ → List Waiter
line_from next since g zero = []
line_from next since g (suc n) = record { g = g; since = get_or since g 0 } ∷ line_from next since (get_or next g 0) n

-- who stands so many places behind g
abbrev pub behind : List ℕ → ℕ → ℕ → ℕ
behind next g zero = g
behind next g (suc n) = behind next (get_or next g 0) n

-- the line that a head and a length stand for
abbrev pub line_of : List ℕ → List ℕ → Line → List Waiter
line_of next since line = line_from next since line.head line.length

-- all lines
abbrev pub lines_of : List ℕ → List ℕ → List Line → List (List Waiter)
lines_of next since lines = map (line_of next since) lines

-- Links stand for lines: each goroutine has at most one place in all of them, and a tail is the last of its line.
pub record AreLinked (next : List ℕ) (since : List ℕ) (lines : List Line) : Type 0 where
  pub few : length next < 2 ^ 32
  pub clocks : length since ≡ length next
  pub once : (g : ℕ) → sum_by (in_line g) (lines_of next since lines) ≤ 1
  pub within : (g : ℕ) → length next ≤ g → sum_by (in_line g) (lines_of next since lines) ≡ 0
  pub tails : (i : ℕ) → let line = get_or lines i no_line in
      0 < line.length → line.tail ≡ behind next line.head (line.length - 1)

-- the links once g stands behind the tail of a line
abbrev pub linked : List ℕ → Line → ℕ → List ℕ
linked next line g = if line.length == 0 then next else slice_set next line.tail g

-- a line once g stands at its tail
abbrev pub lengthened : Line → ℕ → Line
lengthened line g = record { head = if line.length == 0 then g else line.head; tail = g; length = line.length + 1 }

-- a line once its head is gone
abbrev pub shortened : List ℕ → Line → Line
shortened next line = record line { head = get_or next line.head 0; length = line.length - 1 }
