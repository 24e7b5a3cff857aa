-- So far calls lead through the first functions.
use Rattle.std.proofs.Common.{◌≡◌, length}
use Rattle.gp_isa.specs.kept.Ways.{AreLeads}
use Rattle.gp_isa.proofs.calls.lead_rows.Given as goal

abbrev pub invariant-loop-through : goal.invariant-loop-through
invariant-loop-through l = record {
  len : length l.calls.rows.items ≡ length l.parts.functions;
  leads : AreLeads l.parts l.through l.calls.rows.items;
}
