use Rattle.std.proofs.Common.{ap, subst, ◌∙◌}
use Rattle.gp_report.specs.Dump.{dump_text}
use Rattle.gp_top.specs.Top.{IsTold}
use Rattle.gp_top.proofs.dumping.dumped.Goals as goal

pub returns-clause-dump : goal.returns-clause-dump
returns-clause-dump g c = record {
  profile = c.in_ok-profile.profile;
  accepted = c.in_ok-profile.ensures.accepted;
  told = subst (λ text. IsTold text 0 (g.O.Sink.written c.args.out.now, g.O.Sink.faults c.args.out.now) (g.O.Sink.written c.tell.new.out, g.O.Sink.faults c.tell.new.out) c.tell.result)
      (c.as_bytes.ensures ∙ c.in_ok-text.ensures ∙ ap dump_text c.in_ok-meant.ensures) c.tell.ensures;
}
