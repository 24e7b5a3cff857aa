-- What the reader of a ring between two threads leaves, once its answer is no longer looked at.
use Rattle.std.specs.Prelude.{⊤}
use Rattle.std.specs.Borrow.{follows_so, MutBor, Fml}
use mathlib.Core.Option.{none}
use Rattle.gp_ring.specs.TwoEnds.{ReaderEnd}
use Rattle.gp_ring.specs.contracts.between.reader.Reader.{the_row}

-- then this holds of it
abbrev pub EndsSo : MutBor ReaderEnd → (ReaderEnd → Type 0) → Fml
EndsSo reader P = follows_so the_row the_row reader.ghost_name none (λ _ _. ⊤) P
