use Rattle.std.proofs.Common.{◌≡◌, ℕ, ◌+◌, Bool, length, arith, rules}
use Rattle.std.specs.Ordering.{is_lt}
use Rattle.std.specs.Cmp.{IsStrictWeakOrder}
use Rattle.std.specs.Fn.{ComparesAs}
use Rattle.std.proofs.lemmas.Fn.{always_returns_same}
use Rattle.std.proofs.lemmas.List.Sorted.{ranks_by}
use Rattle.gp_build.specs.kept.Ranks.{name_cmp}
use Rattle.gp_build.proofs.Ranking.{Counts, counts_more, names_total, by_name-is}
use Rattle.gp_build.proofs.ranks.by_name.Goals as goal

pub returns : goal.returns
returns c =
    let count : c.loop-f.f ≡ length c.args.parts.now.functions = omega (arith, c.loop-f-test.false, c.loop-f.auto.f-end, c.len-count.ensures) in
    let pushed : Counts (c.loop-f.f + 1) c.push-2.new.self.items =
    counts_more c.loop-f.f c.loop-f.order.items c.push-2.new.self.items (search rules) c.loop-f.invariant in
    let before : ℕ → ℕ → Bool = λ f g. is_lt (name_cmp c.args.parts.now f g) in
    let order : IsStrictWeakOrder before = ranks_by (names_total c.args.parts.now) (λ (f : ℕ). f) in
    let compares : ComparesAs _ before _ =
    always_returns_same _ (λ a r. is_lt r ≡ before a.0.now a.1.0.now) _ (λ a r f k. search rules) in
    by_name-is c.args.parts.now c.loop-f.f c.push-2.new.self.items c.sort_by.new.self.items count pushed
    c.in_ok-sort_by.ensures.permutation (c.in_ok-sort_by.ensures.sorted before order compares)
