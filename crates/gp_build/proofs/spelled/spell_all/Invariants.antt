use Rattle.std.proofs.Common.{◌≡◌, map}
use Rattle.std.specs.List.{AllByRecursion}
use Rattle.gp_build.specs.declared.spelled.Spelled.{Spelled}
use Rattle.gp_build.specs.kept.Spelled.{IsSpelled}
use Rattle.gp_build.proofs.spelled.spell_all.Given as goal

abbrev pub invariant-loop-group : goal.invariant-loop-group
invariant-loop-group l = record {
  groups : map (λ (it : Spelled). it.group) l.all.items ≡ l.yielded;
  spelled : AllByRecursion (IsSpelled l.table.keys) l.all.items;
}
