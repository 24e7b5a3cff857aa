use Rattle.std.proofs.Common.{◌<◌, length, ap, arith}
use Rattle.std.proofs.lemmas.List.{get_or_read}
use Rattle.gp_journal.specs.declared.goroutine.Goroutine.{Goroutine}
use Rattle.gp_journal.specs.State.{nobody}
use Rattle.gp_journal.specs.Effect.{unmarked}
use Rattle.gp_machine.specs.kept.Crowd.{Crowd}
use Rattle.gp_machine.proofs.Marked.{counted_same}
use Rattle.gp_machine.proofs.goroutines.Goroutines.unmark.Goals as goal

pub invariant_of-self : goal.invariant_of-self
invariant_of-self c =
    let inside = c.self.inside in
    let all = inside.all.items in
    let within : c.args.g < length all = omega (arith, ap (λ (crowd : Crowd). length crowd.all) c.self.view_is, c.requires) in
    let it = get_or_read all c.args.g c.index_mut-it.result.now within c.index_mut-it.ensures.value nobody in
    counted_same _ _ all _ _ _ _ _ _ c.args.g (unmarked c.index_mut-it.result.now) c.self.invariant within (ap (λ (x : Goroutine). x.status) it) (ap (λ (x : Goroutine). x.epoch) it)
