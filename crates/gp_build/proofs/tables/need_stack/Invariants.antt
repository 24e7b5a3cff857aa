use Rattle.std.proofs.Common.{[], ◌∷◌, take}
use Rattle.std.specs.List.{flat_map}
use Rattle.gp_build.specs.Numbers.{site_needs}
use Rattle.gp_build.specs.kept.Tables.{Enters}
use Rattle.gp_build.proofs.tables.need_stack.Given as goal

abbrev pub invariant-loop-site : goal.invariant-loop-site
invariant-loop-site l =
    Enters l.parts l.file (flat_map (site_needs l.parts l.file) (take l.site-index l.stack))
    (flat_map (λ site. site ∷ []) (take l.site-index l.stack)) l.initial.all l.all
