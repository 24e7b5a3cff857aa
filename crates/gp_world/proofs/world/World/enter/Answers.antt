use Rattle.std.proofs.Common.{subst, sym, ap, ◌∙◌}
use Rattle.std.proofs.lemmas.Option.{get_or_from_slice_get}
use Rattle.gp_journal.specs.Answer.{applied}
use Rattle.gp_journal.specs.May.{May}
use Rattle.gp_journal.specs.Run.{state_of}
use Rattle.gp_journal.specs.State.{code_of}
use Rattle.gp_journal.specs.StepLaws.{joining}
use Rattle.gp_world.specs.Rows.{blank}
use Rattle.gp_world.specs.Scene.{Scene}
use Rattle.gp_world.specs.kept.Entering.{IsMine, MayJoin}
use Rattle.gp_world.proofs.Entering.{may_join, quiet_leaves, quiet_enters}
use Rattle.gp_world.proofs.world.World.enter.Goals as goal

pub join-requires : goal.join-requires
join-requires g c =
    let may = subst (λ (s : Scene). May (code_of g.R.Run.program) g.R.Run.settings (state_of g.R.Run.program g.R.Run.settings s.journal) c.args.made) (sym c.self.view_is) c.requires.may in
    subst (λ it. MayJoin c.self.inside.waiting (joining c.args.made it)) (sym c.enter-answer.ensures.answer)
    (may_join g.R.Run.program g.R.Run.settings c.self.inside.history c.self.inside.waiting c.self.inside.ring c.self.inside.book.rows c.self.inside.unborn.items c.self.inside.numbers c.self.invariant c.args.made may)

pub invariant_of-self : goal.invariant_of-self
invariant_of-self g c =
    let may = subst (λ (s : Scene). May (code_of g.R.Run.program) g.R.Run.settings (state_of g.R.Run.program g.R.Run.settings s.journal) c.args.made) (sym c.self.view_is) c.requires.may in
    let row = get_or_from_slice_get c.self.inside.book.rows c.args.who.now.number c.args.who.now.row blank c.set.ensures.agree in
    let much = quiet_leaves (code_of g.R.Run.program) g.R.Run.settings (state_of g.R.Run.program g.R.Run.settings c.self.inside.history) c.args.made c.requires.quiet in
    rw (c.set.ensures.rows, c.worker_row-row.ensures, c.machine.ensures, c.number.ensures, c.join.ensures, c.enter-answer.ensures.answer, c.enter-answer.ensures.journal)
    (quiet_enters g.R.Run.program g.R.Run.settings c.self.inside.history c.self.inside.waiting c.self.inside.ring c.self.inside.book.rows c.self.inside.unborn.items c.self.inside.numbers c.self.invariant c.args.made may
    c.args.who.now.number c.requires.worker c.requires.actor much.epochs (subst (IsMine c.args.made) (sym row) c.requires.mine) much)

pub returns-clause-answer : goal.returns-clause-answer
returns-clause-answer g c =
    c.enter-answer.ensures.answer ∙ ap (λ (s : Scene). applied (code_of g.R.Run.program) g.R.Run.settings (state_of g.R.Run.program g.R.Run.settings s.journal) c.args.made) c.self.view_is
