-- What calls of the outside do: counts of faults, bytes taken, files put, bytes appended.
-- What a source has left, what a store holds and how many puts it was asked for, and what a sink was given is told by
-- `Some`; by `None` nothing is told.
use Rattle.std.specs.Prelude.{◌≡◌, ℕ, zero, suc, ◌+◌, ◌-◌, ◌^◌, ◌≤◌, min, not, Option, Some, None}
use Rattle.std.specs.Prelude.{List, [], ◌∷◌, ◌++◌, filter, take, length}
use Rattle.std.specs.Str.{bytes_eq}

-- A count of faults rose. At the end of its type, 2 ^ 64 - 1, it stands still.
pub record Rose (before now : ℕ) : Type 0 where
  pub kept : before ≤ now
  pub raised : min (before + 1) (2 ^ 64 - 1) ≤ now

-- The bytes came from the front of what was left.
abbrev pub Takes : Option (List ℕ) → List ℕ → Option (List ℕ) → Type 0
Takes None bytes new = Unit {0}
Takes (Some held) bytes new = (rest : List ℕ) × (held ≡ bytes ++ rest) × (new ≡ Some rest)

-- A count after some more. At the end of its type, 2 ^ 64 - 1, it stands still.
abbrev pub raised_by : ℕ → ℕ → ℕ
raised_by zero count = count
raised_by (suc n) count = min (raised_by n count + 1) (2 ^ 64 - 1)

-- A count of calls rose by this many.
abbrev pub RoseBy : ℕ → Option ℕ → Option ℕ → Type 0
RoseBy n None now = Unit {0}
RoseBy n (Some before) now = now ≡ Some (raised_by n before)

-- Some bytes came from the front of what was left, at most this many.
abbrev pub TakesAtMost : ℕ → Option (List ℕ) → Option (List ℕ) → Type 0
TakesAtMost most old new = (bytes : List ℕ) × (length bytes ≤ most) × Takes old bytes new

-- A file is its name and its bytes.
abbrev pub File : Type 0
File = List ℕ × List ℕ

-- the files under other names
abbrev pub others : List ℕ → List File → List File
others name files = filter (λ file. not (bytes_eq file.0 name)) files

-- The files with one more at the end, which takes the place of one of its name.
abbrev pub with_file : List File → List ℕ → List ℕ → List File
with_file files name bytes = others name files ++ (name, bytes) ∷ []

-- The file was put whole.
abbrev pub Puts : Option (List File) → List ℕ → List ℕ → Option (List File) → Type 0
Puts None name bytes new = Unit {0}
Puts (Some files) name bytes new = new ≡ Some (with_file files name bytes)

-- The files under other names stayed; of the one under this name nothing is said.
abbrev pub KeepsOthers : Option (List File) → List ℕ → Option (List File) → Type 0
KeepsOthers None name new = Unit {0}
KeepsOthers (Some files) name new = (kept : List File) × (new ≡ Some kept) × (others name kept ≡ others name files)

-- The bytes were appended.
abbrev pub Appends : Option (List ℕ) → List ℕ → Option (List ℕ) → Type 0
Appends None bytes new = Unit {0}
Appends (Some held) bytes new = new ≡ Some (held ++ bytes)

-- A prefix of the piece was appended, maybe none or all of it.
abbrev pub AppendsSome : Option (List ℕ) → List ℕ → Option (List ℕ) → Type 0
AppendsSome held piece new = (n : ℕ) × Appends held (take n piece) new
