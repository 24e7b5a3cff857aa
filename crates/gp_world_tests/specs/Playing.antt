-- What is known of a world, of its reader, of a share and of a body between two calls.
use Rattle.std.specs.Prelude.{◌≡◌, List}
use Rattle.std.specs.List.{AllByRecursion}
use Rattle.atomic_table.specs.Seated.{TableId}
use Rattle.gp_isa.specs.declared.parts.Parts.{Parts}
use Rattle.gp_ring.specs.TwoEnds.{RingOf, ReaderEnd}
use Rattle.gp_stack.specs.declared.body.Body.{Body}
use Rattle.gp_stack.specs.Body.{Progress, progress_of, StandsIn}
use Rattle.gp_tally.specs.Rows.{Part}
use Rattle.gp_world.specs.RingEnds.{IsOf}
use Rattle.gp_world.specs.Scene.{Scene}

-- a body stands in a program, at a place
pub record StandsAt (program : Parts) (place : Progress) (body : Body) : Type 0 where
  pub stands : StandsIn program body
  pub at : progress_of body ≡ place

-- the share is of a book
abbrev pub IsShareOf : TableId → Part → Type 0
IsShareOf book share = share.book ≡ book

-- The reader is of the world's ring, whose headers have one word, and the shares are of its book.
pub record IsPlay (world : Scene) (reader : ReaderEnd) (shares : List Part) : Type 0 where
  pub header : reader.ring.hdrsize ≡ 1
  pub ring : IsOf world.ring reader.ring
  pub shares_of : AllByRecursion (IsShareOf world.book) shares

-- What a call keeps: the world's book, of which ring it has an end, and whose share it is.
pub record Keeps (old new : Scene) (was who : Part) : Type 0 where
  pub same_book : new.book ≡ old.book
  pub still_of : (ring : RingOf) → IsOf old.ring ring → IsOf new.ring ring
  pub its_book : who.book ≡ was.book
