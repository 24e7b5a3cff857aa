-- The climb from a point to its callers.
use Rattle.std.specs.Prelude.{List, reverse, take}
use Rattle.gp_isa.specs.declared.frame.Frame.{Frame}
use Rattle.gp_isa.specs.declared.parts.Parts.{Parts}
use Rattle.gp_stack.specs.declared.climb.Climb.{Climb}
use Rattle.gp_stack.specs.declared.place.Place.{Place}
use Rattle.gp_stack.specs.kept.Level.{callers}

-- the frames that a climb still comes to
unfoldable pub frames_left : Parts → Place → Climb → List Frame
frames_left parts place climb = callers parts climb.called (reverse (take climb.level place.outer.items))
