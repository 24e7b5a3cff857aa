use Rattle.std.proofs.Common.{◌≡◌, take, map}
use Rattle.gp_build.specs.Site.{site_of}
use Rattle.gp_build.proofs.contention.sites.Given as goal

abbrev pub invariant-loop-frame : goal.invariant-loop-frame
invariant-loop-frame l =
    l.sites ≡ map site_of (take l.frame-index l.stack)
