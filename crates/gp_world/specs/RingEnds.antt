-- The world's end of the ring of samples, as its callers see it.
use Rattle.std.specs.Prelude.{◌≡◌, true, List, [], ◌∷◌}
use Rattle.gp_ring.specs.Records.{Offer}
use Rattle.gp_ring.specs.TwoEnds.{RingOf, with_found, written, wrote}
use Rattle.gp_ring.specs.declared.wrote.Wrote.{Wrote}
use Rattle.gp_world.specs.declared.ring_end.RingEnd.{RingEnd}
use Rattle.gp_world.specs.declared.ring_end.RingEnd.TheVariants.{Writing, Shut, Settled}

-- It is of this ring, or of none any more.
abbrev pub IsOf : RingEnd → RingOf → Type 0
IsOf (Writing writer) ring = writer.ring ≡ ring
IsOf (Shut closed) ring = closed.ring ≡ ring
IsOf Settled ring = Unit {0}

-- the offers that were made at it
abbrev pub offers_of : RingEnd → List Offer
offers_of (Writing writer) = writer.offers
offers_of (Shut closed) = closed.offers
offers_of Settled = []

-- The end once a sample was offered at it, by the words that the write loaded and found, which the new end tells.
abbrev pub with_sample : (old new : RingEnd) → Offer → RingEnd
with_sample (Writing old) (Writing new) offer = Writing (written (with_found old new) offer)
with_sample old new offer = old

-- The same of what an entry samples, which is one goroutine or none.
abbrev pub with_sampled : (old new : RingEnd) → List Offer → RingEnd
with_sampled old new [] = old
with_sampled old new (offer ∷ others) = with_sample old new offer

-- By these words that became of the sample.
abbrev pub Tells : (old new : RingEnd) → Offer → Wrote → Type 0
Tells (Writing old) (Writing new) offer it = it ≡ wrote (with_found old new) offer
Tells old new offer it = ⊥

-- the end once it is shut
abbrev pub shut_of : RingEnd → RingEnd
shut_of (Writing writer) = Shut (record { ring = writer.ring; offers = writer.offers; marked = true })
shut_of end = end
