use Rattle.std.proofs.Common.{◌∙◌}
use Rattle.gp_words.specs.declared.command.Command.TheVariants as command
use Rattle.gp_words.specs.declared.jobs.Job.TheVariants.{Run, Sim}
use Rattle.gp_words.specs.Words.{texts}
use Rattle.gp_words.specs.Read.{Names}
use Rattle.gp_words.specs.Job.{filed_of}
use Rattle.gp_words.proofs.Commands.{said_run, said_sim, said_gen, said_dump, said_unknown}
use Rattle.gp_words.proofs.Taking.{handed_on, goes_on, reads_same}
use Rattle.gp_words.proofs.words.said_by.Goals as goal

pub returns-in_err-file-in-run-clause-said : goal.returns-in_err-file-in-run-clause-said
returns-in_err-file-in-run-clause-said c =
    let words = texts c.args.words.now in
    let r = c.from_residual.result in
    reads_same r _ _ (said_run c.args.command.now words c.in-run.is)
    (handed_on r c.in_err-file-in-run.field-0.0 (filed_of command.Run words) (λ said. Names (Run said.0 said.1)) c.from_residual.ensures.1 c.in_err-file-in-run.ensures.said)

pub returns-in_ok-file-in-run-clause-said : goal.returns-in_ok-file-in-run-clause-said
returns-in_ok-file-in-run-clause-said c =
    let words = texts c.args.words.now in
    said_run c.args.command.now words c.in-run.is ∙ goes_on (filed_of command.Run words) (λ said. Names (Run said.0 said.1)) _ c.in_ok-file-in-run.ensures.said

pub returns-in_err-file-in-sim-clause-said : goal.returns-in_err-file-in-sim-clause-said
returns-in_err-file-in-sim-clause-said c =
    let words = texts c.args.words.now in
    let r = c.from_residual-in_err-file-in-sim.result in
    reads_same r _ _ (said_sim c.args.command.now words c.in-sim.is)
    (handed_on r c.in_err-file-in-sim.field-0.0 (filed_of command.Sim words) (λ said. Names (Sim said.0 said.1)) c.from_residual-in_err-file-in-sim.ensures.1 c.in_err-file-in-sim.ensures.said)

pub returns-in_ok-file-in-sim-clause-said : goal.returns-in_ok-file-in-sim-clause-said
returns-in_ok-file-in-sim-clause-said c =
    let words = texts c.args.words.now in
    said_sim c.args.command.now words c.in-sim.is ∙ goes_on (filed_of command.Sim words) (λ said. Names (Sim said.0 said.1)) _ c.in_ok-file-in-sim.ensures.said

pub returns-in-gen-clause-said : goal.returns-in-gen-clause-said
returns-in-gen-clause-said c = reads_same c.generated.result _ _ (said_gen c.args.command.now (texts c.args.words.now) c.in-gen.is) c.generated.ensures.said

pub returns-in-dump-clause-said : goal.returns-in-dump-clause-said
returns-in-dump-clause-said c = reads_same c.dump.result _ _ (said_dump c.args.command.now (texts c.args.words.now) c.in-dump.is) c.dump.ensures.said

pub returns-in_default-clause-said : goal.returns-in_default-clause-said
returns-in_default-clause-said c =
    let n = c.in_default in
    said_unknown c.args.command.now (texts c.args.words.now) n.not-run n.not-sim n.not-gen n.not-dump
