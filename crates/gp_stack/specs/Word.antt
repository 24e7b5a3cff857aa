-- A frame as one word.
use Rattle.std.specs.Prelude.{◌+◌, ◌*◌, ℕ}
use Rattle.gp_isa.specs.declared.frame.Frame.{Frame}

-- the function above the lower 32 bits, the line in them
abbrev pub word_of : Frame → ℕ
word_of frame = frame.function * 4294967296 + frame.line
