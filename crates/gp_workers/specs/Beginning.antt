-- What a world is as its run begins.
use Rattle.std.specs.Prelude.{◌≡◌, []}
use Rattle.atomic_table.specs.Seated.{TableId}
use Rattle.gp_ring.specs.TwoEnds.{RingOf}
use Rattle.gp_world.specs.RingEnds.{IsOf}
use Rattle.gp_world.specs.Scene.{Scene}

-- Its actors' book is this one, its ring is this one, and no entry was made.
pub record IsBegun (book : TableId) (ring : RingOf) (world : Scene) : Type 0 where
  pub its_book : world.book ≡ book
  pub its_ring : IsOf world.ring ring
  pub empty : world.journal ≡ []
