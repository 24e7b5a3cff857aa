-- What a line may say where parts are built from lines.
use Rattle.std.specs.Prelude.{◌≡◌, ◌<◌, ◌≤◌, ◌^◌, true, length, All}
use Rattle.std.specs.Str.{IsUtf8}
use Rattle.gp_text.specs.declared.space.Space.{Space}
use Rattle.gp_text.specs.Fault.{Known, most_names}
use Rattle.gp_text.specs.declared.said.Declared.{Declared}
use Rattle.gp_text.specs.declared.said.Declared.TheVariants.{Channel, LabelSet}
use Rattle.gp_text.specs.declared.said.Said.{Said}
use Rattle.gp_text.specs.declared.said.Said.TheVariants.{Declares, Loop, Work}
use Rattle.gp_text.specs.Line.{is_name}

-- its numbers fit, and its words are texts
abbrev pub CanDeclare : Declared → Type 0
CanDeclare (Channel capacity) = capacity < 2 ^ 32
CanDeclare (LabelSet pairs) = All IsUtf8 pairs
CanDeclare _ = Unit {0}

-- The names that it declares are names, and its numbers fit.
abbrev pub CanBuild : Said → Type 0
CanBuild (Declares name declared) = (is_name name ≡ true) × CanDeclare declared
CanBuild (Loop turns) = turns < 2 ^ 32
CanBuild (Work n) = n < 2 ^ 32
CanBuild _ = Unit {0}

-- There are as many names as there may be at most.
abbrev pub AreFew : Known → Type 0
AreFew known = (space : Space) → length (known space) ≤ most_names space
