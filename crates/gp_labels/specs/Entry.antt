-- The pair that an entry of a map by key stands for.
use Rattle.std.specs.Prelude.{String, string_bytes}
use Rattle.std.specs.Global.{Global}
use Rattle.gp_isa.specs.declared.parts.Pair.{Pair}

abbrev pub pair_of_entry : String Global × String Global → Pair
pair_of_entry entry = record { key = string_bytes entry.0; value = string_bytes entry.1 }
