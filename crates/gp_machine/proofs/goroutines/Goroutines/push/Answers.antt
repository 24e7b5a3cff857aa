use Rattle.std.proofs.Common.{◌≡◌, ◌<◌, ◌++◌, ◌∷◌, [], List, length, sym, ap, subst, arith, rules}
use Rattle.std.specs.Vec.{vec_capacity}
use Rattle.std.proofs.lemmas.List.{length_push}
use Rattle.gp_journal.specs.declared.goroutine.Goroutine.{Goroutine}
use Rattle.gp_journal.specs.State.{is_runnable, is_running, is_live, is_behind}
use Rattle.gp_machine.specs.kept.Crowd.{Crowd, AreCounted, is_settled}
use Rattle.gp_machine.proofs.Marked.{number_push, AreMarked, marked_push}
use Rattle.gp_machine.proofs.goroutines.Goroutines.push.Goals as goal

pub invariant_of-self : goal.invariant_of-self
invariant_of-self c =
    let inside = c.self.inside in
    let all = inside.all.items in
    let counted = c.self.invariant in
    let room : length all < inside.cells = omega (arith, ap (λ (crowd : Crowd). length crowd.all) c.self.view_is, ap (λ (crowd : Crowd). crowd.cells) c.self.view_is, c.requires) in
    let last : c.len-g.result ≡ length all = search rules in
    let were_behind : AreMarked (is_behind inside.active) inside.cells all inside.unrecorded = record { long = counted.unrecorded_marks; same = counted.behind } in
    let were_settled : AreMarked (is_settled inside.active) inside.cells all inside.recorded = record { long = counted.recorded_marks; same = counted.settled } in
    let behind = marked_push (is_behind inside.active) inside.cells all inside.unrecorded c.mark.new.ids c.len-g.result c.args.new c.is_behind.result were_behind last room c.is_behind.ensures
    c.mark.ensures in
    let settled = marked_push (is_settled inside.active) inside.cells all inside.recorded c.mark-2.new.ids c.len-g.result c.args.new c.is_settled.result were_settled last room c.is_settled.ensures
    c.mark-2.ensures in
    let more : AreCounted inside.cells (vec_capacity c.push.new.self) (all ++ c.args.new ∷ []) inside.active c.moved-self-inside.result c.moved-self-inside-2.result c.moved-self-inside-3.result
    c.mark-2.new.ids c.mark.new.ids =
    record {
      reserved = let reserved = counted.reserved in let kept = c.in-Ok.ensures.capacity in omega arith;
      few = counted.few;
      born = omega (arith, length_push all c.args.new);
      recorded_marks = settled.long;
      unrecorded_marks = behind.long;
      live_count = number_push is_live all _ _ c.args.new _ counted.live_count c.is_live.ensures c.moved-self-inside.ensures;
      running_count = number_push (λ y. is_running y.status) all _ _ c.args.new _ counted.running_count c.is_running.ensures c.moved-self-inside-2.ensures;
      runnable_count = number_push (λ y. is_runnable y.status) all _ _ c.args.new _ counted.runnable_count c.is_runnable.ensures c.moved-self-inside-3.ensures;
      behind = behind.same;
      settled = settled.same;
    } in
    subst (λ (items : List Goroutine). AreCounted inside.cells (vec_capacity c.push.new.self) items inside.active c.moved-self-inside.result c.moved-self-inside-2.result c.moved-self-inside-3.result
    c.mark-2.new.ids c.mark.new.ids) (sym c.in-Ok.ensures.items) more
