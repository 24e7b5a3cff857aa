use Rattle.std.proofs.Common.{◌≡◌, ◌++◌, take, map}
use Rattle.gp_build.specs.Meant.{frame_meant}
use Rattle.gp_build.proofs.means.push_lines.Given as goal

abbrev pub invariant-loop-line : goal.invariant-loop-line
invariant-loop-line l =
    l.frames ≡ l.initial.frames ++ map (frame_meant l.profile.strings l.profile.functions) (take l.line-index l.lines)
