-- The names of all spaces, as the code keeps them.
use Rattle.std.specs.Prelude.{fold}
use Rattle.gp_text.specs.declared.space.Space.TheVariants.{Functions, Channels, Mutexes, LabelSets}
use Rattle.gp_text.specs.declared.spaces.Spaces.{Spaces}
use Rattle.gp_text.specs.declared.said.Said.{Said}
use Rattle.gp_text.specs.Fault.{Known, declared_in}
use Rattle.gp_text.specs.Names.{with_name}

abbrev pub kept : Spaces → Known
kept spaces Functions = spaces.functions
kept spaces Channels = spaces.channels
kept spaces Mutexes = spaces.mutexes
kept spaces LabelSets = spaces.label_sets

-- the names of each space, and that which a line declares, unless it is among them
abbrev pub with_declared : Known → Said → Known
with_declared known said = λ space. fold with_name (known space) (declared_in space said)
