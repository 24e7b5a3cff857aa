use Rattle.std.proofs.Common.{◌≡◌, ◌<◌, ◌^◌, Bool, List, map, sym, ◌∙◌, subst, arith, rules}
use Rattle.std.specs.List.{AllByRecursion}
use Rattle.std.specs.Ordering.{is_lt}
use Rattle.std.specs.Cmp.{IsStrictWeakOrder}
use Rattle.std.specs.Fn.{ComparesAs}
use Rattle.std.proofs.lemmas.Fn.{always_returns_same}
use Rattle.std.proofs.lemmas.List.{length-map}
use Rattle.std.proofs.lemmas.List.Sorted.{ranks_by, All-permutation}
use Rattle.gp_isa.specs.declared.frame.Frame.{Frame}
use Rattle.gp_build.specs.declared.ranks.Ranks.{Ranks}
use Rattle.gp_build.specs.declared.spelled.Spelled.{Spelled}
use Rattle.gp_build.specs.Shown.{Shown, shown_in}
use Rattle.gp_build.specs.Samples.{groups_in_order, groups_of}
use Rattle.gp_build.specs.kept.Ranks.{ranked_cmp}
use Rattle.gp_build.specs.kept.Spelled.{spelled_cmp, IsSpelled}
use Rattle.gp_build.proofs.Counts.{groups-small}
use Rattle.gp_build.proofs.Ranking.{ranked_total}
use Rattle.gp_build.proofs.Spelling.{ordered-is, small-spelled, spelled_total}
use Rattle.gp_build.proofs.samples.groups.Goals as goal

pub returns-clause-groups : goal.returns-clause-groups
unfolding groups_in_order
returns-clause-groups c =
    let table : List (List Frame) = c.as_slice-blocks.result.now in
    let ranks : Ranks = c.in_ok-ranks.ranks in
    let before : Spelled → Spelled → Bool = λ a b. is_lt (spelled_cmp (ranked_cmp ranks) table a b) in
    let order : IsStrictWeakOrder before = ranks_by (spelled_total (ranked_cmp ranks) table (ranked_total ranks)) (λ (it : Spelled). it) in
    let compares : ComparesAs _ before _ =
    always_returns_same _ (λ a r. is_lt r ≡ before a.0.now a.1.0.now) _ (λ a r f k. search rules) in
    let spelled : AllByRecursion (IsSpelled table) c.in_ok-all.all.items =
    subst (λ (t : List (List Frame)). AllByRecursion (IsSpelled t) c.in_ok-all.all.items) (sym c.as_slice-blocks.ensures.keys) c.in_ok-all.ensures.spelled in
    ordered-is c.args.parts.now ranks table (groups_of (map (shown_in c.args.parts.now) c.args.records.now)) c.in_ok-all.all.items c.sort_by.new.self.items
    c.in_ok-ranks.ensures
    (c.in_ok-all.ensures.groups ∙ c.in_ok-counted.ensures ∙ c.in_ok-counts.ensures) spelled
    (c.in_ok-sort_by.ensures.sorted before order compares) (c.in_ok-sort_by.ensures.stable before order compares)

pub returns-clause-small : goal.returns-clause-small
returns-clause-small c =
    let all : List Shown = map (shown_in c.args.parts.now) c.args.records.now in
    All-permutation (λ (it : Spelled). it.group.count < 2 ^ 63) c.in_ok-all.all.items c.sort_by.new.self.items
    c.in_ok-sort_by.ensures.permutation
    (small-spelled (groups_of all) c.in_ok-all.all.items
    (c.in_ok-all.ensures.groups ∙ c.in_ok-counted.ensures ∙ c.in_ok-counts.ensures)
    (groups-small (2 ^ 63) all (rw length-map (omega arith))))
