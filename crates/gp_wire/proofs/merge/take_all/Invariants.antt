use Rattle.std.proofs.Common.{◌≡◌, ◌≤◌, List, ◌++◌, length}
use Rattle.gp_wire.specs.declared.field.Field.{Field}
use Rattle.gp_wire.specs.Fields.{fields_of, first_fault}
use Rattle.gp_wire.proofs.merge.take_all.Given as goal

-- The fields so far went into the message, and they in front of those of the rest are all. No fault was met.
abbrev pub invariant-loop-rest : goal.invariant-loop-rest
invariant-loop-rest g l =
    let made = g.M.FromFields.made in
    let check = g.M.FromFields.check in record {
      taken : (seen : List Field) × (seen ++ fields_of l.rest ≡ fields_of l.bytes) × ((fields : List Field) → l.initial.message ≡ made fields → l.message ≡ made (fields ++ seen));
      fault : first_fault check l.rest ≡ first_fault check l.bytes;
      near : length l.rest ≤ length l.bytes;
    }

abbrev pub decreases-loop-rest : goal.decreases-loop-rest
decreases-loop-rest g l = length l.rest
