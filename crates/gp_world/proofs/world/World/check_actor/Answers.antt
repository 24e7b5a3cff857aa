use Rattle.std.proofs.Common.{subst, sym, ap, ◌∙◌}
use Rattle.gp_journal.specs.Actors.{made_by}
use Rattle.gp_journal.specs.Due.{IsComplete}
use Rattle.gp_journal.specs.Run.{state_of}
use Rattle.gp_journal.specs.State.{worker}
use Rattle.gp_tally.specs.declared.row.Row.{Row}
use Rattle.gp_world.specs.Scene.{Scene}
use Rattle.gp_world.proofs.Profiling.{counts, works, has_completed}
use Rattle.gp_world.proofs.world.World.check_actor.Goals as goal

pub returns-clause-made : goal.returns-clause-made
returns-clause-made g c =
    let is = counts g.R.Run.program g.R.Run.settings c.self.inside.history c.self.inside.waiting c.self.inside.ring c.self.inside.book.rows c.self.inside.unborn.items c.self.inside.numbers c.self.invariant c.args.who.now.number c.args.who.now.row c.check.ensures.agree in
    ap (λ (r : Row). r.c) is ∙ ap (λ (s : Scene). made_by g.R.Run.settings c.args.who.now.number s.journal) c.self.view_is

pub returns-clause-done : goal.returns-clause-done
returns-clause-done g c =
    let is = counts g.R.Run.program g.R.Run.settings c.self.inside.history c.self.inside.waiting c.self.inside.ring c.self.inside.book.rows c.self.inside.unborn.items c.self.inside.numbers c.self.invariant c.args.who.now.number c.args.who.now.row c.check.ensures.agree in
    ap (λ (r : Row). r.d) is ∙ ap (λ (s : Scene). (worker (state_of g.R.Run.program g.R.Run.settings s.journal) c.args.who.now.number).instructions) c.self.view_is

pub returns-clause-runs : goal.returns-clause-runs
returns-clause-runs g c few =
    ap (λ (s : Scene). (worker (state_of g.R.Run.program g.R.Run.settings s.journal) c.args.who.now.number).runs) (sym c.self.view_is)
    ∙ works g.R.Run.program g.R.Run.settings c.self.inside.history c.self.inside.waiting c.self.inside.ring c.self.inside.book.rows c.self.inside.unborn.items c.self.inside.numbers c.self.invariant c.args.who.now.number c.args.who.now.row c.check.ensures.agree few

pub returns-clause-complete : goal.returns-clause-complete
returns-clause-complete g c profiler done =
    subst (λ (s : Scene). IsComplete g.R.Run.settings (state_of g.R.Run.program g.R.Run.settings s.journal)) c.self.view_is
    (has_completed g.R.Run.program g.R.Run.settings c.self.inside.history c.self.inside.waiting c.self.inside.ring c.self.inside.book.rows c.self.inside.unborn.items c.self.inside.numbers c.self.invariant c.args.who.now.number c.args.who.now.row c.check.ensures.agree profiler done)
