-- What a reader is answered.
use Rattle.std.specs.Prelude.{◌≡◌, ⊤}
use Rattle.std.specs.Borrow.{follows_so, MutBor, Fml}
use mathlib.Core.Option.{none}
use Rattle.gp_ring.specs.PlainRing as plain
use Rattle.gp_ring.specs.PlainRing.{PlainRing, Found}
use Rattle.gp_ring.specs.declared.taken.Taken.{Taken}
use Rattle.gp_ring.specs.declared.taken.Taken.TheVariants.{Batch, Lost, Raced, Nothing, End}
use Rattle.gp_ring.specs.contracts.ring.Ring.{the_row}

-- the answer is what was found
abbrev pub Shows : Found → Taken → Type 0
Shows (plain.Batch words tags) (Batch w t) = (w.now ≡ words) × (t.now ≡ tags)
Shows (plain.Taken count time) (Lost n t) = (n ≡ count) × (t ≡ time)
Shows (plain.Raced was found) (Raced w f) = (w ≡ was) × (f ≡ found)
Shows plain.Nothing Nothing = Unit {0}
Shows plain.End End = Unit {0}
Shows _ _ = ⊥

-- once the answer is no longer looked at, the ring is this one
abbrev pub RestsAt : MutBor PlainRing → PlainRing → Fml
RestsAt ring last = follows_so the_row the_row ring.ghost_name none (λ _ _. ⊤) (λ n. n ≡ last)
