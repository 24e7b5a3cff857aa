-- The numbers of the causes, by which texts name them.
use Rattle.std.specs.Prelude.{ℕ}
use Rattle.gp_wire.specs.declared.cause.Cause.{Cause}
use Rattle.gp_wire.specs.declared.cause.Cause.TheVariants.{Truncated, LongVarint, BadWireType, BadKey, BadUtf8, BadStringIndex, BadId, BadFirstString}

abbrev pub number_of : Cause → ℕ
number_of Truncated = 1
number_of LongVarint = 2
number_of BadWireType = 3
number_of BadKey = 4
number_of BadUtf8 = 5
number_of BadStringIndex = 6
number_of BadId = 7
number_of BadFirstString = 8
