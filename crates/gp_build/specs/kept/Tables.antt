-- What the tables hold while they are made.
use Rattle.std.specs.Prelude.{◌≡◌, ℕ, true, List}
use Rattle.std.specs.List.{list_any, AllByRecursion}
use Rattle.indexmap.specs.IndexSet.{insert_all}
use Rattle.gp_isa.specs.declared.parts.Parts.{Parts}
use Rattle.gp_build.specs.declared.site.Routine.{Routine}
use Rattle.gp_build.specs.declared.site.Site.{Site}
use Rattle.gp_build.specs.declared.tables.Tables.{Tables}
use Rattle.gp_build.specs.Numbers.{Need, text, same_need, routines_of}
use Rattle.gp_build.specs.Site.{same_site, same_routine, name_of, file_of}

-- a string table after further needs, each new one at its end
abbrev pub with_needs : List Need → List Need → List Need
with_needs strings needs = insert_all same_need strings needs

module _ (parts : Parts) (file : List ℕ) where
  -- A table of functions has a site's function, and a string table has that one's name and file.
  pub record IsCovered (strings : List Need) (functions : List Routine) (site : Site) : Type 0 where
    pub function : list_any (same_routine site.routine) functions ≡ true
    pub name : list_any (same_need (text (name_of parts site.routine))) strings ≡ true
    pub filename : list_any (same_need (text (file_of file site.routine))) strings ≡ true

  abbrev pub AreCovered : List Need → List Routine → List Site → Type 0
  AreCovered strings functions sites = AllByRecursion (IsCovered strings functions) sites

  -- What a location needs is there.
  abbrev pub HasNeeds : Tables → Type 0
  HasNeeds all = AreCovered all.strings.keys all.functions.keys all.locations.keys

  -- Needs and sites went into tables, with all that these sites need.
  pub record Enters (needs : List Need) (sites : List Site) (old new : Tables) : Type 0 where
    pub strings : new.strings.keys ≡ with_needs old.strings.keys needs
    pub locations : new.locations.keys ≡ insert_all same_site old.locations.keys sites
    pub functions : new.functions.keys ≡ insert_all same_routine old.functions.keys (routines_of sites)
    pub has_needs : HasNeeds new
