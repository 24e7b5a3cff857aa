-- Counts as a list of samples.
use Rattle.std.proofs.Common.{◌≡◌, ◌<◌, ℕ, List, [], ◌∷◌, map, count_by, length, All, refl, ap, arith}
use Rattle.std.proofs.lemmas.List.Sums.{count_by-le-length}
use Rattle.std.proofs.lemmas.List.Elements.{All-map}
use Rattle.gp_build.specs.declared.samples.Group.{Group}
use Rattle.gp_build.specs.FirstNeed.{first_seen}
use Rattle.gp_build.specs.Shown.{Shown, same_shown}
use Rattle.gp_build.specs.Samples.{groups_of, group_of}
use Rattle.gp_build.specs.laws.Alike.{same_shown_equiv}
use Rattle.gp_build.proofs.Tally.{tally, counts_at}

as_samples : (all keys : List Shown) → map group_of (counts_at same_shown_equiv all keys) ≡ map (λ shown. record { shown = shown; count = count_by (same_shown shown) all }) keys
as_samples all [] = refl
as_samples all (key ∷ keys) = ap (λ (l : List Group). group_of (key, count_by (same_shown key) all) ∷ l) (as_samples all keys)

-- A tally, as samples, is what was counted.
pub groups-tally : (all : List Shown) → map group_of (tally same_shown_equiv all) ≡ groups_of all
unfolding groups_of
groups-tally all = as_samples all (first_seen same_shown all)

-- No count is above the number of things that are counted.
pub groups-small : (bound : ℕ) (all : List Shown) → length all < bound → All (λ (sample : Group). sample.count < bound) (groups_of all)
unfolding groups_of
groups-small bound all few =
    All-map (λ (sample : Group). sample.count < bound) (λ shown. record { shown = shown; count = count_by (same_shown shown) all }) (first_seen same_shown all)
    (λ k d within. omega (arith, few, count_by-le-length))
