use Rattle.std.proofs.Common.{[], ◌∷◌, take, flat_map}
use Rattle.gp_text.specs.Text.{mutex_item}
use Rattle.gp_text.specs.Page.{texts, PutsAll}
use Rattle.gp_text.proofs.printing.put_mutexes.Given as goal

abbrev pub invariant-loop-mutex : goal.invariant-loop-mutex
invariant-loop-mutex l = PutsAll (texts l.initial.page) (texts l.page) (flat_map (λ x. mutex_item x ∷ []) (take l.mutex-index l.mutex-items))
