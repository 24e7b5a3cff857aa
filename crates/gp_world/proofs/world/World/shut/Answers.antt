use Rattle.std.proofs.Common.{◌≡◌, ◌<◌, get_or, set, ap, ◌∙◌, subst, sym}
use Rattle.std.proofs.lemmas.Option.{get_or_from_slice_get}
use Rattle.gp_journal.specs.Due.{IsComplete}
use Rattle.gp_journal.specs.Run.{state_of}
use Rattle.gp_tally.specs.Rows.{Part}
use Rattle.gp_tally.specs.declared.row.Row.{Row}
use Rattle.gp_world.specs.RingEnds.{shut_of}
use Rattle.gp_world.specs.Rows.{blank, finished_row, has_finished}
use Rattle.gp_world.specs.Scene.{Scene}
use Rattle.gp_world.specs.kept.Ending.{IsWriter}
use Rattle.gp_world.specs.kept.World.{IsWorld}
use Rattle.gp_world.proofs.Profiling.{workers_now, shuts}
use Rattle.gp_world.proofs.RingEnds.{is_writer}
use Rattle.gp_world.proofs.world.World.shut.Goals as goal

pub shut-requires : goal.shut-requires
shut-requires g c =
    let w = c.self.inside in
    let here = get_or_from_slice_get w.book.rows c.args.who.now.number c.args.who.now.row blank c.check.ensures.agree in
    let below : (get_or w.book.rows g.R.Run.settings.workers blank).a < has_finished =
    subst (λ n. (get_or w.book.rows n blank).a < has_finished) c.requires.profiler (subst (λ (r : Row). r.a < has_finished) (sym here) c.requires.unfinished) in
    subst IsWriter (sym c.replace.ensures.value) (is_writer g.R.Run.program g.R.Run.settings w.history (get_or w.book.rows g.R.Run.settings.workers blank).a w.ring below c.self.invariant.its_ring)

pub finished_row-row-requires-clause-no_more : goal.finished_row-row-requires-clause-no_more
finished_row-row-requires-clause-no_more g c = rw c.machine.ensures
    (workers_now g.R.Run.program g.R.Run.settings c.self.inside.history c.self.inside.waiting c.self.inside.ring c.self.inside.book.rows c.self.inside.unborn.items c.self.inside.numbers c.self.invariant)

pub invariant_of-self : goal.invariant_of-self
invariant_of-self g c =
    let P = g.R.Run.program in let S = g.R.Run.settings in let w = c.self.inside in
    let here = get_or_from_slice_get w.book.rows c.args.who.now.number c.args.who.now.row blank c.check.ensures.agree in
    let below : (get_or w.book.rows S.workers blank).a < has_finished =
    subst (λ n. (get_or w.book.rows n blank).a < has_finished) c.requires.profiler (subst (λ (r : Row). r.a < has_finished) (sym here) c.requires.unfinished) in
    let complete = subst (λ (s : Scene). IsComplete S (state_of P S s.journal)) (sym c.self.view_is) c.requires.complete in
    let rows : c.set.new.self.rows ≡ set w.book.rows S.workers (finished_row P S w.history) =
    c.set.ensures.rows
    ∙ (λ i. set (c.check.ensures.book i).rows ((ap (λ (p : Part). p.number) c.check.ensures.share ∙ c.requires.profiler) i) ((c.finished_row-row.ensures ∙ ap (finished_row P S) c.machine.ensures) i)) in
    subst (λ rows. IsWorld P S w.history w.waiting c.shut.result rows w.unborn.items w.numbers) (sym rows)
    (subst (λ end. IsWorld P S w.history w.waiting end (set w.book.rows S.workers (finished_row P S w.history)) w.unborn.items w.numbers) (sym (c.shut.ensures ∙ ap shut_of c.replace.ensures.value))
    (shuts P S w.history w.waiting w.ring w.book.rows w.unborn.items w.numbers c.self.invariant complete below))
