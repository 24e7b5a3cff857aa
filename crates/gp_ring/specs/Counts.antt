-- The data counts at which records come, one behind the other.
use Rattle.std.specs.Prelude.{ℕ, ◌+◌, ◌%◌, List, [], ◌∷◌, length}
use Rattle.gp_layout.specs.Place.{raise_of}
use Rattle.gp_ring.specs.Records.{Offer}
use Rattle.gp_ring.specs.PlainRing.{piece_for}

-- the data count behind an offer's record that comes at data count c, in a ring of len data words
abbrev pub behind : (len c : ℕ) → Offer → ℕ
behind len c offer = c + raise_of (c % len) len (length (piece_for offer).words)

-- and behind the records of all offers
abbrev pub behind_all : (len c : ℕ) → List Offer → ℕ
behind_all len c [] = c
behind_all len c (offer ∷ offers) = behind_all len (behind len c offer) offers
