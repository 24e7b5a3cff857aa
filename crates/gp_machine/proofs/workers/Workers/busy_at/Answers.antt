use Rattle.std.proofs.Common.{◌≡◌, ◌<◌, true, List, length, get_or, take, count_by, sym, ap, ◌∙◌, subst, arith}
use Rattle.gp_journal.specs.declared.goroutine.Worker.{Worker}
use Rattle.gp_journal.specs.State.{resting}
use Rattle.gp_machine.specs.OnWorker.{is_busy}
use Rattle.gp_machine.specs.kept.Workers.{Crew}
use Rattle.gp_machine.proofs.Crew.{below_marks, all_marks, marked_busy, busy_within}
use Rattle.gp_machine.proofs.workers.Workers.busy_at.Goals as goal

pub set_bit-requires : goal.set_bit-requires
set_bit-requires c =
    let all = all_marks c.self.inside.all.items c.self.inside.marks c.self.invariant.few c.self.invariant.marked in
    let same = ap (λ (crew : Crew). count_by is_busy crew.all) c.self.view_is in
    omega (arith, c.requires, all, same)

pub returns : goal.returns
returns c =
    let all : List Worker = c.self.inside.all.items in
    let busy : is_busy (get_or all c.set_bit.result resting) ≡ true =
    marked_busy all c.self.inside.marks c.set_bit.result c.self.invariant.marked c.set_bit.ensures.within c.set_bit.ensures.set in
    let before : count_by is_busy (take c.set_bit.result all) ≡ c.args.place =
    sym (below_marks all c.self.inside.marks c.set_bit.result c.self.invariant.marked (let w = c.set_bit.ensures.within in omega arith))
    ∙ c.set_bit.ensures.before in
    record {
      within = subst (λ (crew : Crew). c.set_bit.result < length crew.all) c.self.view_is (busy_within all c.set_bit.result busy);
      busy = subst (λ (crew : Crew). is_busy (get_or crew.all c.set_bit.result resting) ≡ true) c.self.view_is busy;
      before = subst (λ (crew : Crew). count_by is_busy (take c.set_bit.result crew.all) ≡ c.args.place) c.self.view_is before;
    }
