use Rattle.std.proofs.Common.{◌≤◌, ◌∷◌, [], ◌++◌, set, subst, sym, ◌∙◌, arith}
use Rattle.std.proofs.lemmas.Option.{get_or_from_slice_get}
use Rattle.gp_journal.specs.declared.entry.Entry.TheVariants.{Record}
use Rattle.gp_journal.specs.May.{May}
use Rattle.gp_journal.specs.Run.{state_of}
use Rattle.gp_journal.specs.State.{code_of}
use Rattle.gp_tally.specs.declared.row.Row.{Row}
use Rattle.gp_world.specs.Rows.{blank, row_of}
use Rattle.gp_world.specs.Scene.{Scene}
use Rattle.gp_world.specs.kept.World.{IsWorld}
use Rattle.gp_world.proofs.Entering.{workers_then}
use Rattle.gp_world.proofs.Profiling.{record_enters, is_actor}
use Rattle.gp_world.proofs.world.World.enter_record.Goals as goal

pub actor_with-row-requires-clause-no_more : goal.actor_with-row-requires-clause-no_more
actor_with-row-requires-clause-no_more g c =
    let may = subst (λ (s : Scene). May (code_of g.R.Run.program) g.R.Run.settings (state_of g.R.Run.program g.R.Run.settings s.journal) (Record c.args.who.now.number c.args.copy.g)) (sym c.self.view_is) c.requires.may in
    rw (c.machine.ensures, c.record.ensures, c.number-actor.ensures) (workers_then g.R.Run.program g.R.Run.settings c.self.inside.history c.self.inside.waiting c.self.inside.ring c.self.inside.book.rows c.self.inside.unborn.items c.self.inside.numbers c.self.invariant (Record c.args.who.now.number c.args.copy.g) may)

pub invariant_of-self : goal.invariant_of-self
invariant_of-self g c =
    let may = subst (λ (s : Scene). May (code_of g.R.Run.program) g.R.Run.settings (state_of g.R.Run.program g.R.Run.settings s.journal) (Record c.args.who.now.number c.args.copy.g)) (sym c.self.view_is) c.requires.may in
    let row_is = get_or_from_slice_get c.self.inside.book.rows c.args.who.now.number c.args.who.now.row blank c.set.ensures.agree in
    let few : c.args.who.now.number ≤ g.R.Run.settings.workers = let one = is_actor g.R.Run.program g.R.Run.settings c.self.inside.history c.self.inside.waiting c.self.inside.ring c.self.inside.book.rows c.self.inside.unborn.items c.self.inside.numbers c.self.invariant c.args.who.now.number c.args.who.now.row c.set.ensures.agree in omega arith in
    rw (c.set.ensures.rows, c.actor_with-row.ensures, c.machine.ensures, c.record.ensures, c.row-was.ensures, c.number-actor.ensures)
    (subst (λ (r : Row). IsWorld g.R.Run.program g.R.Run.settings (c.self.inside.history ++ Record c.args.who.now.number c.args.copy.g ∷ []) c.self.inside.waiting c.self.inside.ring
    (set c.self.inside.book.rows c.args.who.now.number
    (row_of g.R.Run.program g.R.Run.settings (c.self.inside.history ++ Record c.args.who.now.number c.args.copy.g ∷ []) c.args.who.now.number r.a r.b)) c.self.inside.unborn.items c.self.inside.numbers) row_is
    (record_enters g.R.Run.program g.R.Run.settings c.self.inside.history c.self.inside.waiting c.self.inside.ring c.self.inside.book.rows c.self.inside.unborn.items c.self.inside.numbers c.self.invariant c.args.who.now.number c.args.copy.g may few))

pub returns-clause-share : goal.returns-clause-share
returns-clause-share g c =
    let row = c.set.ensures.row ∙ c.actor_with-row.ensures
    ∙ (λ i. row_of g.R.Run.program g.R.Run.settings (c.machine.ensures i) (c.number-actor.ensures i) (c.row-was.ensures i).a (c.row-was.ensures i).b) in
    λ i. record { book = c.set.ensures.book.1 i; number = c.set.ensures.number i; row = row i }
