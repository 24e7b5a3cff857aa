use Rattle.std.proofs.Common.{◌≡◌, true, subst, ap, ◌∙◌, arith}
use Rattle.gp_journal.specs.Run.{state_of}
use Rattle.gp_journal.specs.State.{goroutine, is_live}
use Rattle.gp_tally.specs.Rows.{Part}
use Rattle.gp_tally.specs.declared.row.Row.{Row}
use Rattle.gp_world.specs.Scene.{Scene}
use Rattle.gp_world.proofs.Profiling.{is_held}
use Rattle.gp_world.proofs.world.World.whom.Goals as goal

pub overflow_cast-result : goal.overflow_cast-result
overflow_cast-result g c =
    let one = is_held g.R.Run.program g.R.Run.settings c.self.inside.history c.self.inside.waiting c.self.inside.ring c.self.inside.book.rows c.self.inside.unborn.items c.self.inside.numbers c.self.invariant c.args.who.now.number c.args.who.now.row c.check.ensures.agree c.requires.worker c.requires.one in
    let is = ap (λ (r : Row). r.b) c.row.ensures ∙ ap (λ (p : Part). p.row.b) c.check.ensures.share in
    let cell = one.1 in
    let few = c.self.invariant.in_range.cells in
    omega arith

pub returns-clause-live : goal.returns-clause-live
returns-clause-live g c =
    let one = is_held g.R.Run.program g.R.Run.settings c.self.inside.history c.self.inside.waiting c.self.inside.ring c.self.inside.book.rows c.self.inside.unborn.items c.self.inside.numbers c.self.invariant c.args.who.now.number c.args.who.now.row c.check.ensures.agree c.requires.worker c.requires.one in
    let is = ap (λ (r : Row). r.b) c.row.ensures ∙ ap (λ (p : Part). p.row.b) c.check.ensures.share in
    ap (λ n. is_live (goroutine (state_of g.R.Run.program g.R.Run.settings c.args.self.now.journal) n)) is
    ∙ subst (λ (s : Scene). is_live (goroutine (state_of g.R.Run.program g.R.Run.settings s.journal) c.args.who.now.row.b) ≡ true) c.self.view_is one.0
