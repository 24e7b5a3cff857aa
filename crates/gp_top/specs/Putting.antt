-- What a store tells of files that are put, and a sink of a text that is written.
use Rattle.std.specs.Prelude.{◌≡◌, ℕ, List, [], ◌∷◌, ◌++◌, length, map, Option, Some, None, All}
use Rattle.gp_io.specs.Outside.{File, with_file, KeepsOthers, RoseBy, Rose, Appends, AppendsSome}
use Rattle.gp_top.specs.Files.{Output, file_of, IsReadAgain}

-- what stands after files were put, one after another
abbrev pub with_files : List File → List File → List File
with_files held [] = held
with_files held (file ∷ files) = with_files (with_file held file.0 file.1) files

-- A store that tells what it holds holds these files too, whole.
abbrev pub Gains : Option (List File) → List File → Option (List File) → Type 0
Gains None files after = Unit {0}
Gains (Some held) files after = after ≡ Some (with_files held files)

-- What a store tells: its files, how many puts it was asked for, and its count of faults.
abbrev pub Told : Type 0
Told = Option (List File) × Option ℕ × ℕ

-- Files were put: the store gained them whole, by a put for each, and none failed. The profiles among them are read again.
pub record ArePut (outputs : List Output) (before after : Told) : Type 0 where
  pub gained : Gains before.0 (map file_of outputs) after.0
  pub asked : RoseBy (length outputs) before.1 after.1
  pub well : after.2 ≡ before.2
  pub read_again : All IsReadAgain outputs

-- Some of the files were put, the first ones.
pub record FirstArePut (outputs : List Output) (before after : Told) : Type 0 where
  pub first : List Output
  pub rest : List Output
  pub whole : outputs ≡ first ++ rest
  pub put : ArePut first before after

-- The first files were put, and then the put of the next one failed, behind which the store was asked for none. Of what
-- stands under the name of that one nothing is said.
pub record OneFails (outputs : List Output) (before after : Told) : Type 0 where
  pub first : List Output
  pub next : Output
  pub rest : List Output
  pub whole : outputs ≡ first ++ next ∷ rest
  pub mid : Told
  pub put : ArePut first before mid
  pub others_kept : KeepsOthers mid.0 (file_of next).0 after.0
  pub asked : RoseBy 1 mid.1 after.1
  pub failed : Rose mid.2 after.2

-- What a sink tells: the bytes that it took, where they are told, and its count of faults.
abbrev pub Sunk : Type 0
Sunk = Option (List ℕ) × ℕ

-- A text was written: the sink gained it whole.
abbrev pub Writes : List ℕ → Sunk → Sunk → Type 0
Writes text before after = Appends before.0 text after.0 × (after.1 ≡ before.1)

-- It could not be written: the sink gained a prefix, and its count of faults rose.
abbrev pub FailsToWrite : List ℕ → Sunk → Sunk → Type 0
FailsToWrite text before after = AppendsSome before.0 text after.0 × Rose before.1 after.1
