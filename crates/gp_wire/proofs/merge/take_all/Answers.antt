use Rattle.std.proofs.Common.{◌++◌, ◌∷◌, [], List, append_assoc, sym, ap, ◌∙◌, arith}
use Rattle.gp_wire.specs.declared.field.Field.{Field}
use Rattle.gp_wire.specs.Fields.{fields_of, first_fault}
use Rattle.gp_wire.proofs.FrontLemmas.{field_at-shorter}
use Rattle.gp_wire.proofs.PieceLemmas.{fields_of-step, first_fault-past, all_seen, first_fault-end, halts}
use Rattle.gp_wire.proofs.PackedLemmas.{some_left, none_left}
use Rattle.gp_wire.proofs.merge.take_all.Goals as goal

pub loop-rest-smaller : goal.loop-rest-smaller
loop-rest-smaller g c =
    let t = c.in-Ok.ensures.taken in
    field_at-shorter c.loop-rest.rest.now (t.field, c.in-Ok.after.now) t.read

pub loop-rest-preserved : goal.loop-rest-preserved
loop-rest-preserved g c =
    let made = g.M.FromFields.made in
    let check = g.M.FromFields.check in
    let t = c.in-Ok.ensures.taken in
    let seen = c.loop-rest.invariant.taken.0 in
    let rest = c.loop-rest.rest.now in
    let after = c.in-Ok.after.now in
    let shorter = field_at-shorter rest (t.field, after) t.read in
    let near = c.loop-rest.invariant.near in record {
      taken = (
        seen ++ t.field ∷ [],
        append_assoc seen (t.field ∷ []) (fields_of after) ∙ ap (λ (fs : List Field). seen ++ fs) (sym (fields_of-step rest t.field after t.read)) ∙ c.loop-rest.invariant.taken.1,
        λ fields e. t.taken (fields ++ seen) (c.loop-rest.invariant.taken.2 fields e) ∙ ap made (append_assoc fields seen (t.field ∷ [])),
      );
      fault = sym (first_fault-past check rest t.field after t.read t.fine) ∙ c.loop-rest.invariant.fault;
      near = omega (arith, shorter, near);
    }

pub returns-in-Err-clause-fault : goal.returns-in-Err-clause-fault
returns-in-Err-clause-fault g c =
    halts g.M.FromFields.check c.loop-rest.rest.now c.in-Err.stop (first_fault g.M.FromFields.check c.args.bytes.now)
    (some_left c.loop-rest.rest.now c.loop-rest-test.ensures) c.in-Err.ensures.fault c.loop-rest.invariant.fault

pub returns-clause-taken : goal.returns-clause-taken
returns-clause-taken g c =
    let none = none_left c.loop-rest.rest.now c.loop-rest-test.ensures in
    let all = all_seen c.loop-rest.invariant.taken.0 c.loop-rest.rest.now (fields_of c.args.bytes.now) none c.loop-rest.invariant.taken.1 in
    λ fields e. c.loop-rest.invariant.taken.2 fields e ∙ ap (λ (fs : List Field). g.M.FromFields.made (fields ++ fs)) all

pub returns-clause-fine : goal.returns-clause-fine
returns-clause-fine g c =
    let none = none_left c.loop-rest.rest.now c.loop-rest-test.ensures in
    sym c.loop-rest.invariant.fault ∙ first_fault-end g.M.FromFields.check c.loop-rest.rest.now none
