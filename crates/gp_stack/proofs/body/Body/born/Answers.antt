use Rattle.std.proofs.Common.{refl, arith, reverse, ◌≡◌, subst, sym}
use Rattle.gp_stack.specs.Goroutine.{labels_of}
use Rattle.gp_stack.proofs.Stands.{part_zero, settled_point}
use Rattle.gp_isa.specs.Trace.{trace_within, trace}
use Rattle.gp_stack.proofs.Deep.{whole_within}
use Rattle.gp_stack.proofs.Short.{trace_fits}
use Rattle.gp_stack.proofs.body.Body.born.Goals as goal

pub returns-clause-stands : goal.returns-clause-stands
unfolding labels_of
returns-clause-stands c = record {
  place = c.begin.ensures.place;
  settled = c.begin.ensures.settled;
  part = λ a d. part_zero a (settled_point c.args.program.now c.begin.new.self.top (reverse c.begin.new.self.outer.items) a c.begin.ensures.settled d);
  left = c.begin.ensures.left;
  within = omega arith;
  short = trace_fits c.args.program.now c.args.start c.most_calls-calls.ensures.program c.requires.function;
  labels = refl;
}

pub begin-requires-clause-whole : goal.begin-requires-clause-whole
begin-requires-clause-whole c =
    subst (λ calls. trace_within c.args.program.now calls c.args.start ≡ trace c.args.program.now c.args.start) (sym c.most_calls-calls.ensures.calls)
    (whole_within c.args.program.now c.most_calls-calls.ensures.program c.args.start c.requires.function)
