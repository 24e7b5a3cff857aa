use Rattle.std.proofs.Common.{◌≡◌, Bool, ap, ◌∙◌, rules}
use Rattle.std.specs.Cmp.{IsStrictWeakOrder}
use Rattle.std.specs.Ordering.{is_lt}
use Rattle.std.specs.Fn.{ComparesAs}
use Rattle.std.proofs.lemmas.Fn.{always_returns_same}
use Rattle.std.proofs.lemmas.List.Sorted.{ranks_by}
use Rattle.gp_isa.specs.declared.parts.Parts.{Parts}
use Rattle.gp_events.specs.declared.sum.Sum.{Sum}
use Rattle.gp_events.specs.Order.{is_before, in_order, sums_in_order}
use Rattle.gp_events.proofs.InOrder.{in_order-from_sort}
use Rattle.gp_events.proofs.Total.{sum_total}
use Rattle.gp_events.proofs.buckets.Buckets.sorted.Goals as goal

pub returns : goal.returns
unfolding sums_in_order
returns c =
    let parts = c.parts-parts.result.now in
    let before : Sum → Sum → Bool = is_before parts in
    let order : IsStrictWeakOrder before = ranks_by (sum_total parts) (λ (sum : Sum). sum) in
    let compares : ComparesAs _ before _ =
    always_returns_same _ (λ a r. is_lt r ≡ before a.0.now a.1.0.now) _ (λ a r f k. search rules) in
    c.from_vec.ensures
    ∙ in_order-from_sort order c.in_ok-all.all.items c.sort_by.new.self.items
    (c.in_ok-sort_by.ensures.sorted before order compares) (c.in_ok-sort_by.ensures.stable before order compares)
    ∙ ap (in_order before) c.in_ok-all.ensures
    ∙ ap (λ (p : Parts). in_order (is_before p) c.args.self.now) c.parts-parts.ensures.parts
