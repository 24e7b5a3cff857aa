use Rattle.std.proofs.Common.{◌≡◌, ◌<◌, true, length, get_or, rules}
use Rattle.gp_build.specs.Site.{same_site}
use Rattle.gp_build.specs.laws.Alike.{same_site_equiv}
use Rattle.gp_build.proofs.Places.{place-at}
use Rattle.gp_build.proofs.lines.is_at.Goals as goal

pub returns-in-Some-clause-place : goal.returns-in-Some-clause-place
returns-in-Some-clause-place c same =
    let within : c.args.place < length c.args.table.now.keys = search rules in
    let found : same_site c.args.site (get_or c.args.table.now.keys c.args.place c.in-Some.found.now) ≡ true = search rules in
    place-at same_site_equiv c.args.site c.args.table.now.keys c.args.place c.in-Some.found.now c.as_slice.ensures.unique within found
