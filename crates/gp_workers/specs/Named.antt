-- What stands for the book of actors and the ring of samples that nobody has named.
use Rattle.std.specs.Prelude.{[]}
use Rattle.atomic_table.specs.Seated.{TableId}
use Rattle.gp_ring.specs.TwoEnds.{RingOf}

abbrev pub no_book : TableId
no_book = record { words = 0; slots = 0; views_name = 0; atom = 0; block = 0; offset = 0; slot_names = [] }

abbrev pub no_ring : RingOf
no_ring = record { table = no_book; hdrsize = 0; len = 0; tags = 0 }
