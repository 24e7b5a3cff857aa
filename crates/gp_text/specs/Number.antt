-- The numbers of the causes, by which texts name them.
use Rattle.std.specs.Prelude.{ℕ}
use Rattle.gp_text.specs.declared.cause.Cause.{Cause}
use Rattle.gp_text.specs.declared.cause.Cause.TheVariants.{BadLine, UnknownName, Twice, OutOfRange, NotClosed, NotUtf8, Recursion, TooLong, Empty, NoMain}

abbrev pub number_of : Cause → ℕ
number_of BadLine = 1
number_of UnknownName = 2
number_of Twice = 3
number_of OutOfRange = 4
number_of NotClosed = 5
number_of NotUtf8 = 6
number_of Recursion = 7
number_of TooLong = 8
number_of Empty = 9
number_of NoMain = 10
