-- The entries of one turn.
use Rattle.std.specs.Prelude.{◌≡◌, ◌≤◌, ◌++◌, Bool, true, false, not, List, count_by}
use Rattle.gp_journal.specs.declared.entry.Entry.{Entry}
use Rattle.gp_journal.specs.declared.entry.Entry.TheVariants.{Record}

abbrev pub is_record : Entry → Bool
is_record (Record actor g) = true
is_record _ = false

abbrev pub is_other : Entry → Bool
is_other entry = not (is_record entry)

-- At most one of them is a Record, and at most one is another.
pub record AreOfOneTurn (made : List Entry) : Type 0 where
  pub one_record : count_by is_record made ≤ 1
  pub one_other : count_by is_other made ≤ 1

-- By a turn the journal grows by such entries.
pub record TakesOneTurn (old new : List Entry) : Type 0 where
  pub made : List Entry
  pub grown : new ≡ old ++ made
  pub one_turn : AreOfOneTurn made
