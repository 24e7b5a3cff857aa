use Rattle.std.proofs.Common.{◌≡◌, ℕ, List, sym, ap, subst, ◌∙◌, All}
use Rattle.std.specs.Str.{IsUtf8}
use Rattle.gp_text.specs.declared.said.Declared.{Declared}
use Rattle.gp_text.specs.declared.said.Declared.TheVariants.{LabelSet}
use Rattle.gp_text.specs.declared.said.Said.{Said}
use Rattle.gp_text.specs.declared.said.Said.TheVariants.{Declares}
use Rattle.gp_text.specs.CanBuild.{CanBuild}
use Rattle.gp_text.proofs.declare.LabelSetDeclaration.of_line.Goals as goal

-- the words of a label set are texts
texts : (said : Said) (name : List ℕ) (declared : Declared) (pairs again : List (List ℕ)) → CanBuild said → said ≡ Declares name declared → declared ≡ LabelSet pairs → again ≡ pairs → All IsUtf8 again
texts said name declared pairs again can said_is declared_is again_is =
    let built : CanBuild (Declares name (LabelSet pairs)) = subst CanBuild (said_is ∙ ap (Declares name) declared_is) can in
    subst (All IsUtf8) (sym again_is) built.1

pub pairs-requires : goal.pairs-requires
pairs-requires c = texts c.args.said.now c.in-Declares.name c.in-Declares.declared c.in-LabelSet.words c.again.result c.requires c.in-Declares.is c.in-LabelSet.is c.again.ensures
