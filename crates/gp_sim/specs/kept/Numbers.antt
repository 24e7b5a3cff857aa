-- What the numbers of a run keep.
use Rattle.std.specs.Prelude.{◌≡◌, ◌+◌, ◌-◌, ◌%◌, ◌==◌, ℕ, length, if◌then◌else◌, Option, Some, None}
use Rattle.rand_pcg.specs.Lcg.{Lcg, advance}
use Rattle.rand_pcg.specs.Pcg.{multiplier_64}
use Rattle.gp_journal.specs.declared.settings.Settings.{Settings}
use Rattle.gp_sim.specs.declared.numbers.Draw.{Draw}
use Rattle.gp_sim.specs.Choice.{number, seeded}

-- Once so many were taken the next one is at hand, and the generator stands behind it.
pub record AreAtHand (settings : Settings) (taken next : ℕ) (generator : Lcg) : Type 0 where
  pub is_next : next ≡ number settings taken
  pub behind : generator ≡ advance 64 multiplier_64 (taken + 1 - length settings.picks) (seeded settings)

-- The place of one of so many: where there is but one, that one's, and no number is taken; else the next number modulo how
-- many there are.
abbrev pub drawn_of : Settings → ℕ → ℕ → Option Draw
drawn_of settings taken among =
    if among == 0 then None
    else if among == 1 then Some (record { place = 0; taken = taken })
    else Some (record { place = number settings taken % among; taken = taken + 1 })
