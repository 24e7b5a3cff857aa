use Rattle.std.proofs.Common.{◌≡◌, ◌≤◌, get_or, set, ap, ◌∙◌, subst, sym, arith}
use Rattle.std.proofs.lemmas.Option.{get_or_from_slice_get}
use Rattle.gp_samples.proofs.BothEnds.{settled_is_all_read}
use Rattle.gp_tally.specs.Rows.{Part}
use Rattle.gp_tally.specs.declared.row.Row.{Row}
use Rattle.gp_world.specs.RingEnds.{IsOf}
use Rattle.gp_world.specs.Rows.{blank, settled_row, has_finished}
use Rattle.gp_world.specs.Scene.{Scene}
use Rattle.gp_world.specs.kept.Ending.{IsClosed, IsEnd}
use Rattle.gp_world.specs.kept.World.{IsWorld}
use Rattle.gp_world.proofs.Profiling.{workers_now, settles, has_completed}
use Rattle.gp_world.proofs.RingEnds.{is_closed, closed_offers}
use Rattle.gp_world.proofs.world.World.settle.Goals as goal

pub closed_in-requires : goal.closed_in-requires
closed_in-requires g c =
    let w = c.self.inside in
    let here = get_or_from_slice_get w.book.rows c.args.who.now.number c.args.who.now.row blank c.check.ensures.agree in
    let same : (get_or w.book.rows g.R.Run.settings.workers blank).a ≡ has_finished =
    subst (λ n. (get_or w.book.rows n blank).a ≡ has_finished) c.requires.profiler (ap (λ (r : Row). r.a) here ∙ c.requires.finished) in
    subst IsClosed (sym c.replace.ensures.value) (is_closed g.R.Run.program g.R.Run.settings w.history (get_or w.book.rows g.R.Run.settings.workers blank).a w.ring same c.self.invariant.its_ring)

pub settled_row-row-requires-clause-no_more : goal.settled_row-row-requires-clause-no_more
settled_row-row-requires-clause-no_more g c = rw c.machine.ensures
    (workers_now g.R.Run.program g.R.Run.settings c.self.inside.history c.self.inside.waiting c.self.inside.ring c.self.inside.book.rows c.self.inside.unborn.items c.self.inside.numbers c.self.invariant)

pub invariant_of-self : goal.invariant_of-self
invariant_of-self g c =
    let P = g.R.Run.program in let S = g.R.Run.settings in let w = c.self.inside in
    let done : has_finished ≤ c.args.who.now.row.a = let is = c.requires.finished in omega arith in
    let complete = has_completed P S w.history w.waiting w.ring w.book.rows w.unborn.items w.numbers c.self.invariant c.args.who.now.number c.args.who.now.row c.check.ensures.agree c.requires.profiler done in
    let rows : c.set.new.self.rows ≡ set w.book.rows S.workers (settled_row P S w.history) =
    c.set.ensures.rows
    ∙ (λ i. set (c.check.ensures.book i).rows ((ap (λ (p : Part). p.number) c.check.ensures.share ∙ c.requires.profiler) i) ((c.settled_row-row.ensures ∙ ap (settled_row P S) c.machine.ensures) i)) in
    subst (λ rows. IsWorld P S w.history w.waiting c.replace.new.dest rows w.unborn.items w.numbers) (sym rows)
    (subst (λ end. IsWorld P S w.history w.waiting end (set w.book.rows S.workers (settled_row P S w.history)) w.unborn.items w.numbers) (sym c.replace.ensures.after)
    (settles P S w.history w.waiting w.ring w.book.rows w.unborn.items w.numbers c.self.invariant complete))

pub settle-requires-clause-ring : goal.settle-requires-clause-ring
settle-requires-clause-ring g c =
    let of_ring = subst (λ (s : Scene). IsOf s.ring c.args.reader.now.ring) (sym c.self.view_is) c.requires.ring in
    subst (λ end. IsOf end c.args.reader.now.ring) (sym c.replace.ensures.value ∙ c.closed_in.ensures) of_ring

pub returns-clause-covered : goal.returns-clause-covered
returns-clause-covered g c =
    let P = g.R.Run.program in let S = g.R.Run.settings in let w = c.self.inside in
    let a = (get_or w.book.rows S.workers blank).a in
    let offers = closed_offers P S w.history a c.closed_in.result (subst (IsEnd P S w.history a) (sym c.replace.ensures.value ∙ c.closed_in.ensures) c.self.invariant.its_ring) in
    (settled_is_all_read P S w.history c.args.reader.now c.settle.new.self c.closed_in.result offers c.settle.ensures).covered

pub returns-clause-head : goal.returns-clause-head
returns-clause-head g c =
    let P = g.R.Run.program in let S = g.R.Run.settings in let w = c.self.inside in
    let a = (get_or w.book.rows S.workers blank).a in
    let offers = closed_offers P S w.history a c.closed_in.result (subst (IsEnd P S w.history a) (sym c.replace.ensures.value ∙ c.closed_in.ensures) c.self.invariant.its_ring) in
    (settled_is_all_read P S w.history c.args.reader.now c.settle.new.self c.closed_in.result offers c.settle.ensures).begins
