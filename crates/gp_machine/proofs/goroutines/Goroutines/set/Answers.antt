use Rattle.std.proofs.Common.{◌≡◌, ◌<◌, ◌∙◌, length, get_or, refl, sym, ap, arith, length-set}
use Rattle.gp_journal.specs.State.{nobody, is_runnable, is_running, is_live, is_behind}
use Rattle.gp_machine.specs.kept.Crowd.{Crowd, is_settled}
use Rattle.gp_machine.proofs.Marked.{number_set, AreMarked, marked_set}
use Rattle.gp_machine.proofs.goroutines.Goroutines.set.Goals as goal

pub invariant_of-self : goal.invariant_of-self
invariant_of-self c =
    let inside = c.self.inside in
    let all = inside.all.items in
    let counted = c.self.invariant in
    let within : c.args.g < length all = omega (arith, ap (λ (crowd : Crowd). length crowd.all) c.self.view_is, c.requires) in
    let old : c.get-old.result ≡ get_or all c.args.g nobody = c.get-old.ensures ∙ ap (λ (crowd : Crowd). get_or crowd.all c.args.g nobody) (sym c.self.view_is) in
    let were_behind : AreMarked (is_behind inside.active) inside.cells all inside.unrecorded = record { long = counted.unrecorded_marks; same = counted.behind } in
    let were_settled : AreMarked (is_settled inside.active) inside.cells all inside.recorded = record { long = counted.recorded_marks; same = counted.settled } in
    let behind = marked_set (is_behind inside.active) inside.cells all inside.unrecorded c.mark_again.new.unrecorded c.args.g c.args.new (is_behind inside.active c.args.new) were_behind within counted.born refl c.mark_again.ensures.behind in
    let settled = marked_set (is_settled inside.active) inside.cells all inside.recorded c.mark_again.new.recorded c.args.g c.args.new (is_settled inside.active c.args.new) were_settled within counted.born refl c.mark_again.ensures.settled in
    record {
      reserved = counted.reserved;
      few = counted.few;
      born = let bound = counted.born in omega (arith, length-set all c.args.g c.args.new);
      recorded_marks = settled.long;
      unrecorded_marks = behind.long;
      live_count = number_set is_live all _ _ c.args.g c.get-old.result c.args.new _ _ within counted.live_count old c.is_live.ensures c.is_live-2.ensures c.moved-self-inside.ensures;
      running_count = number_set (λ y. is_running y.status) all _ _ c.args.g c.get-old.result c.args.new _ _ within counted.running_count old c.is_running.ensures c.is_running-2.ensures c.moved-self-inside-2.ensures;
      runnable_count = number_set (λ y. is_runnable y.status) all _ _ c.args.g c.get-old.result c.args.new _ _ within counted.runnable_count old c.is_runnable.ensures c.is_runnable-2.ensures c.moved-self-inside-3.ensures;
      behind = behind.same;
      settled = settled.same;
    }
