-- What is told of a source, a store or an output of the system: nothing of its bytes or files. A put into a folder is told by
-- the system's calls and their answers, where the folder tells them.
use Rattle.std.specs.Prelude.{◌≡◌, ℕ, List, [], ◌∷◌, ◌++◌, map, Option, Some, None}

-- a file that is read: its path, and how many calls failed
pub record SourceOfFile : Type 0 where
  pub path : List ℕ
  pub faults : ℕ

-- A call of the system at a put, by its answer. A new file was asked for under a name, and made, or not since the name was
-- taken, or not for another reason. Bytes were written into it whole, or not. It was given another name, or not. It was
-- removed, if that could be done.
pub data Call : Type 0 where
  Made : List ℕ → Call
  Taken : List ℕ → Call
  NotMade : List ℕ → Call
  Written : List ℕ → Call
  Cut : List ℕ → Call
  Renamed : List ℕ → List ℕ → Call
  NotRenamed : List ℕ → List ℕ → Call
  Removed : List ℕ → Call

-- These calls were made.
abbrev pub Makes : Option (List Call) → List Call → Option (List Call) → Type 0
Makes None calls now = Unit {0}
Makes (Some before) calls now = now ≡ Some (before ++ calls)

-- No file was made: all names that were tried are taken, or the last one was refused.
pub data MakesNoFile (before now : Option (List Call)) : Type 0 where
  AllTaken : (names : List (List ℕ)) → Makes before (map Taken names) now → MakesNoFile before now
  Refused : (names : List (List ℕ)) (beside : List ℕ) → Makes before (map Taken names ++ NotMade beside ∷ []) now
      → MakesNoFile before now

-- A put that is well: a file is made behind names that are taken, then written whole, and then renamed.
pub record PutsWell (name bytes : List ℕ) (before now : Option (List Call)) : Type 0 where
  pub names : List (List ℕ)
  pub beside : List ℕ
  pub calls : Makes before (map Taken names ++ Made beside ∷ Written bytes ∷ Renamed beside name ∷ []) now

-- A put in vain: no file is made, or the one that is made isn't written whole, or isn't renamed, and is then removed.
pub data PutsInVain (name bytes : List ℕ) (before now : Option (List Call)) : Type 0 where
  NoFile : MakesNoFile before now → PutsInVain name bytes before now
  CutShort : (names : List (List ℕ)) (beside : List ℕ)
      → Makes before (map Taken names ++ Made beside ∷ Cut bytes ∷ Removed beside ∷ []) now → PutsInVain name bytes before now
  KeepsName : (names : List (List ℕ)) (beside : List ℕ)
      → Makes before (map Taken names ++ Made beside ∷ Written bytes ∷ NotRenamed beside name ∷ Removed beside ∷ []) now
      → PutsInVain name bytes before now
