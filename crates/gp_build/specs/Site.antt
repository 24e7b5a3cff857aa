-- What a sample's stack shows: sites, each a line of a function. The function is one of the program, or the one that
-- stands for lost events.
use Rattle.std.specs.Prelude.{◌==◌, ◌&&◌, ℕ, zero, suc, Bool, true, false, List, [], codes, slice_get, unwrap_or}
use Rattle.std.specs.Option.{option_map_or}
use Rattle.gp_isa.specs.declared.frame.Frame.{Frame}
use Rattle.gp_isa.specs.declared.parts.Parts.{Parts}
use Rattle.gp_isa.specs.declared.parts.Function.{Function}
use Rattle.gp_isa.specs.declared.parts.LabelSet.{LabelSet}
use Rattle.gp_isa.specs.declared.parts.Pair.{Pair}
use Rattle.gp_build.specs.declared.site.Routine.{Routine}
use Rattle.gp_build.specs.declared.site.Routine.TheVariants.{Numbered, LostEvents}
use Rattle.gp_build.specs.declared.site.Site.{Site}

-- where a frame stands
abbrev pub site_of : Frame → Site
site_of frame = record { routine = Numbered frame.function; line = frame.line }

-- where lost events stand
abbrev pub lost_site : Site
lost_site = record { routine = LostEvents; line = 0 }

abbrev pub same_routine : Routine → Routine → Bool
same_routine (Numbered f) (Numbered g) = f == g
same_routine (Numbered f) LostEvents = false
same_routine LostEvents (Numbered g) = false
same_routine LostEvents LostEvents = true

abbrev pub same_site : Site → Site → Bool
same_site a b = same_routine a.routine b.routine && (a.line == b.line)

-- a function that the program doesn't have
abbrev pub nothing : Function
nothing = record { name = []; line = 0; end = 0; body = [] }

abbrev pub function_of : Parts → ℕ → Function
function_of parts f = unwrap_or (slice_get parts.functions f) nothing

unfoldable pub name_of : Parts → Routine → List ℕ
name_of parts (Numbered f) = (function_of parts f).name
name_of parts LostEvents = codes "runtime/pprof.lostProfileEvent"

-- All functions of the program stand in its file. That of lost events stands in none.
unfoldable pub file_of : List ℕ → Routine → List ℕ
file_of file (Numbered f) = file
file_of file LostEvents = []

-- the line of the header
unfoldable pub header_of : Parts → Routine → ℕ
header_of parts (Numbered f) = (function_of parts f).line
header_of parts LostEvents = 0

-- Label sets are counted from 1. Set 0 is the empty one.
abbrev pub labels_of : Parts → ℕ → List Pair
labels_of parts zero = []
labels_of parts (suc s) = option_map_or (λ (set : LabelSet). set.pairs) (slice_get parts.labels s) []
