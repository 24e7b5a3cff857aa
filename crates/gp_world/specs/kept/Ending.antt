-- What a world keeps of its end of the ring of samples, and what is asked of that.
use Rattle.std.specs.Prelude.{◌≡◌, ◌<◌, ℕ, List}
use Rattle.gp_isa.specs.declared.parts.Parts.{Parts}
use Rattle.gp_journal.specs.declared.entry.Entry.{Entry}
use Rattle.gp_journal.specs.declared.settings.Settings.{Settings}
use Rattle.gp_ring.specs.Records.{Offer}
use Rattle.gp_ring.specs.TwoEnds.{MayWrite}
use Rattle.gp_samples.specs.RunEnds.{AreOffers}
use Rattle.gp_world.specs.declared.ring_end.RingEnd.{RingEnd}
use Rattle.gp_world.specs.declared.ring_end.RingEnd.TheVariants.{Writing, Shut, Settled}
use Rattle.gp_world.specs.Rows.{has_finished, has_settled}

-- The offers at it are the samples of the journal. The first number of the profiler's row says which end it is: a writer until the
-- profiler has finished, then the closed one until that is settled.
abbrev pub IsEnd : Parts → Settings → List Entry → ℕ → RingEnd → Type 0
IsEnd program settings journal a (Writing writer) = (a < has_finished) × AreOffers program settings journal writer.ring writer.offers
IsEnd program settings journal a (Shut closed) = (a ≡ has_finished) × AreOffers program settings journal closed.ring closed.offers
IsEnd program settings journal a Settled = a ≡ has_settled

abbrev pub IsWriter : RingEnd → Type 0
IsWriter (Writing writer) = Unit {0}
IsWriter _ = ⊥

abbrev pub IsClosed : RingEnd → Type 0
IsClosed (Shut closed) = Unit {0}
IsClosed _ = ⊥

-- It is a writer at which an offer may be made.
abbrev pub MayOffer : RingEnd → Offer → Type 0
MayOffer (Writing writer) offer = MayWrite writer offer
MayOffer _ offer = ⊥
