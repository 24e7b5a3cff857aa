use Rattle.std.proofs.Common.{[], ◌∷◌, take, flat_map}
use Rattle.gp_text.specs.Text.{set_item}
use Rattle.gp_text.specs.Page.{texts, PutsAll}
use Rattle.gp_text.proofs.printing.put_sets.Given as goal

abbrev pub invariant-loop-set : goal.invariant-loop-set
invariant-loop-set l = PutsAll (texts l.initial.page) (texts l.page) (flat_map (λ x. set_item x ∷ []) (take l.set-index l.set-items))
