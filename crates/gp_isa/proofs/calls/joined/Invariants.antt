-- The first places are joined.
use Rattle.std.proofs.Common.{◌≡◌, length}
use Rattle.gp_isa.proofs.Rows.{Joins}
use Rattle.gp_isa.proofs.calls.joined.Given as goal

abbrev pub invariant-loop-h : goal.invariant-loop-h
invariant-loop-h l = record { len : length l.both ≡ 256; joins : Joins l.fn.row l.onward l.both l.h }
