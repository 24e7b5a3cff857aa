use Rattle.std.proofs.Common.{◌≡◌, ℕ, List, subst, sym, ◌∙◌, Result, Ok, Err, IfOk}
use Rattle.gp_isa.specs.declared.parts.Pair.{Pair}
use Rattle.gp_isa.specs.InLimits.{KeysRise}
use Rattle.gp_labels.specs.LabelSet.{canonical_of, value_of, last_value}
use Rattle.gp_labels.proofs.Puts.{canonical-keys_rise}
use Rattle.gp_labels.proofs.Values.{canonical-value}
use Rattle.gp_labels.proofs.ordering.canonical.Goals as goal

-- what holds of a list holds of an answer that is that list
of_answer : {E : Type 0} (r : Result (List Pair) E) (listed set : List Pair) (P : List Pair → Type 0) → IfOk r (λ ps. ps ≡ listed) → listed ≡ set → P set → IfOk r P
of_answer (Ok ps) listed set P is same holds = subst P (sym (is ∙ same)) holds
of_answer (Err e) listed set P is same holds = tt

pub returns-clause-rising : goal.returns-clause-rising
returns-clause-rising c = of_answer c.listed.result _ (canonical_of c.args.pairs) KeysRise c.listed.ensures c.in_ok-values.ensures (canonical-keys_rise c.args.pairs)

pub returns-clause-last : goal.returns-clause-last
returns-clause-last c = of_answer c.listed.result _ (canonical_of c.args.pairs) (λ set. (key : List ℕ) → value_of key set ≡ last_value key c.args.pairs) c.listed.ensures c.in_ok-values.ensures (λ key. canonical-value key c.args.pairs)
