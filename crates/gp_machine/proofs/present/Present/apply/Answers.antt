use Rattle.std.proofs.Common.{ap, ◌∙◌, arith}
use Rattle.gp_journal.specs.State.{code_of, State}
use Rattle.gp_journal.proofs.Lemmas.{is_whole, effect_entries, counted_after}
use Rattle.gp_machine.proofs.present.Present.apply.Goals as goal

pub counts-requires : goal.counts-requires
counts-requires g c =
    let same = ap (λ (t : State). t.entries) c.enters-answer.ensures.state
    ∙ effect_entries (code_of g.R.Run.program) g.R.Run.settings c.args.self.now c.args.made (is_whole (code_of g.R.Run.program) g.R.Run.settings c.args.self.now c.requires.reached) in
    let room = c.requires.room in omega arith

pub returns-clause-state : goal.returns-clause-state
returns-clause-state g c =
    c.counts.ensures
    ∙ counted_after (code_of g.R.Run.program) g.R.Run.settings c.args.self.now c.enters-answer.new.self c.args.made (is_whole (code_of g.R.Run.program) g.R.Run.settings c.args.self.now c.requires.reached) c.enters-answer.ensures.state
