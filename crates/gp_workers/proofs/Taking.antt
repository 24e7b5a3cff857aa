-- A turn of the reader is done exactly where it found the end.
use Rattle.std.proofs.Common.{◌≡◌, refl}
use Rattle.gp_ring.specs.PlainRing.{Found, Batch, Taken, Raced, Nothing, End}
use Rattle.gp_samples.specs.RunEnds.{took_of}
use Rattle.gp_workers.specs.declared.turn.Turn.TheVariants as turn
use Rattle.gp_workers.specs.kept.Reading.{turn_of}

pub took_done : (hand : Found) → (turn_of (took_of hand) ≡ turn.Done → hand ≡ End) × (hand ≡ End → turn_of (took_of hand) ≡ turn.Done)
took_done (Batch words tags) = (λ e. absurd (cc), λ e. absurd (cc))
took_done (Taken count time) = (λ e. absurd (cc), λ e. absurd (cc))
took_done (Raced was found) = (λ e. absurd (cc), λ e. absurd (cc))
took_done Nothing = (λ e. absurd (cc), λ e. absurd (cc))
took_done End = (λ e. refl, λ e. refl)
