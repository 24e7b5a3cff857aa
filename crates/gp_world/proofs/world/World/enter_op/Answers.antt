use Rattle.std.proofs.Common.{refl, subst, sym}
use Rattle.gp_journal.specs.declared.entry.Entry.TheVariants.{Op}
use Rattle.gp_journal.specs.May.{May}
use Rattle.gp_journal.specs.Run.{state_of}
use Rattle.gp_journal.specs.State.{code_of}
use Rattle.gp_world.specs.Scene.{Scene}
use Rattle.gp_world.proofs.Entering.{may_join, mine_due, unborn_handed, spare_handed, worker_enters}
use Rattle.gp_world.proofs.world.World.enter_op.Goals as goal

pub join-requires : goal.join-requires
join-requires g c =
    let may = subst (λ (s : Scene). May (code_of g.R.Run.program) g.R.Run.settings (state_of g.R.Run.program g.R.Run.settings s.journal) (Op c.args.who.now.number c.args.g)) (sym c.self.view_is) c.requires.may in
    rw c.in_ok-answer.ensures.answer
    (may_join g.R.Run.program g.R.Run.settings c.self.inside.history c.self.inside.waiting c.self.inside.ring c.self.inside.book.rows c.self.inside.unborn.items c.self.inside.numbers c.self.invariant (Op c.args.who.now.number c.args.g) may)

pub invariant_of-self-2 : goal.invariant_of-self-2
invariant_of-self-2 g c =
    let made = Op c.args.who.now.number c.args.g in
    let may = subst (λ (s : Scene). May (code_of g.R.Run.program) g.R.Run.settings (state_of g.R.Run.program g.R.Run.settings s.journal) (Op c.args.who.now.number c.args.g)) (sym c.self.view_is) c.requires.may in
    let out = rw c.in_ok-answer.ensures.answer at c.spare-spare.ensures in
    rw (c.set.ensures.rows, c.worker_row-row.ensures, c.machine.ensures, c.join.ensures, c.in_ok-answer.ensures.answer, c.in_ok-answer.ensures.journal, c.number-w.ensures)
    (worker_enters g.R.Run.program g.R.Run.settings c.self.inside.history c.self.inside.waiting c.self.inside.ring c.self.inside.book.rows c.self.inside.unborn.items c.self.inside.numbers c.self.invariant made may
    c.args.who.now.number c.requires.worker refl tt
    (mine_due g.R.Run.program g.R.Run.settings c.self.inside.history c.self.inside.waiting c.self.inside.ring c.self.inside.book.rows c.self.inside.unborn.items c.self.inside.numbers c.self.invariant made may c.args.who.now.number c.args.g c.requires.worker may.runs)
    _ c.self.inside.ring c.spare-spare.new.unborn.items refl refl refl
    (unborn_handed g.R.Run.program g.R.Run.settings c.self.inside.history c.self.inside.waiting c.self.inside.ring c.self.inside.book.rows c.self.inside.unborn.items c.self.inside.numbers c.self.invariant made may c.spare-spare.new.unborn.items c.spare-spare.result out) tt)

pub returns-clause-spare : goal.returns-clause-spare
returns-clause-spare g c =
    let made = Op c.args.who.now.number c.args.g in
    let may = subst (λ (s : Scene). May (code_of g.R.Run.program) g.R.Run.settings (state_of g.R.Run.program g.R.Run.settings s.journal) (Op c.args.who.now.number c.args.g)) (sym c.self.view_is) c.requires.may in
    let out = rw c.in_ok-answer.ensures.answer at c.spare-spare.ensures in
    rw c.in_ok-answer.ensures.answer
    (spare_handed g.R.Run.program g.R.Run.settings c.self.inside.history c.self.inside.waiting c.self.inside.ring c.self.inside.book.rows c.self.inside.unborn.items c.self.inside.numbers c.self.invariant made may c.spare-spare.new.unborn.items c.spare-spare.result out)
