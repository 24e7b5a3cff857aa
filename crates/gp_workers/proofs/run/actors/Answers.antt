use Rattle.std.proofs.Common.{rules, arith, ◌≡◌, ◌+◌, List, [], length, vec_len, ap, sym, ◌∙◌, subst, refl}
use Rattle.std.specs.Prelude.{map}
use Rattle.std.proofs.lemmas.List.{nil_from_length}
use Rattle.std.specs.Vec.Iter.{into_iter_items}
use Rattle.gp_journal.specs.declared.settings.Settings.{Settings}
use Rattle.gp_tally.specs.Rows.{Part}
use Rattle.gp_workers.specs.Actors.{Actor, numbers_of}
use Rattle.gp_workers.proofs.InOrder.{Splits, has_left, its_number, all_number}
use Rattle.gp_workers.proofs.Beginnings.{shares_numbers, shares_each, shares_number, so_many, all_with_reader}
use Rattle.gp_workers.proofs.run.actors.Goals as goal

pub loop-share-init : goal.loop-share-init
loop-share-init g c =
    let workers = g.R.Run.settings.workers in
    let issued = c.into_iter-share-iterator.ensures.into_iter_gives.0 ∙ c.requires.shares in
    record {
      splits = subst (λ (xs : List Actor). Splits (workers + 1) (numbers_of xs) (map (λ (s : Part). s.number) (into_iter_items c.into_iter-share-iterator.result))) (sym c.in_ok-actors.ensures.items)
          (shares_numbers g.K.Naming.book workers _ issued);
      each = shares_each g.K.Naming.book workers _ issued;
      room =
          let many = shares_number g.K.Naming.book workers c.args.shares.items c.requires.shares in
          let same : vec_len c.args.shares ≡ length c.args.shares.items = search rules in
          let room = c.in_ok-actors.ensures.capacity in
          omega arith;
    }

pub role-requires-clause-number : goal.role-requires-clause-number
role-requires-clause-number g c =
    let low =
    its_number (λ (it : Actor). it.number) (λ (s : Part). s.number) (g.R.Run.settings.workers + 1) c.loop-share.actors.items _ _ c.in-Some.share c.in-Some.ensures.steps.0 c.loop-share.invariant.splits in
    let same = ap (λ (s : Settings). s.workers) c.requires.settings in
    omega arith

pub push_reserved-requires : goal.push_reserved-requires
push_reserved-requires g c =
    let some = has_left (λ (it : Actor). it.number) (λ (s : Part). s.number) (g.R.Run.settings.workers + 1) c.loop-share.actors.items _ _ c.in-Some.share c.in-Some.ensures.steps.0 c.loop-share.invariant.splits in
    let room = c.loop-share.invariant.room in
    let same : vec_len c.loop-share.actors ≡ length c.loop-share.actors.items = search rules in
    omega arith

pub overflow_add-settings : goal.overflow_add-settings
overflow_add-settings g c =
    let same = ap (λ (s : Settings). s.workers) c.requires.settings in let few = c.requires.range.workers in
    omega arith

pub push_reserved-requires-2 : goal.push_reserved-requires-2
push_reserved-requires-2 g c =
    let none : into_iter_items c.loop-share.share-iterator ≡ [] = search (rules, nil_from_length) in
    let many = so_many g.R.Run.settings c.loop-share.actors.items _ none c.loop-share.invariant.splits in
    let room = c.loop-share.invariant.room in
    let same : vec_len c.loop-share.actors ≡ length c.loop-share.actors.items = search rules in
    omega arith

pub returns-clause-actors : goal.returns-clause-actors
returns-clause-actors g c =
    let none : into_iter_items c.loop-share.share-iterator ≡ [] = search (rules, nil_from_length) in
    all_with_reader g.R.Run.settings c.loop-share.actors.items _ none c.loop-share.invariant.splits c.push_reserved-2.new.self.items _ c.push_reserved-2.ensures.items refl

pub returns-clause-many : goal.returns-clause-many
returns-clause-many g c =
    let none : into_iter_items c.loop-share.share-iterator ≡ [] = search (rules, nil_from_length) in
    let all = all_with_reader g.R.Run.settings c.loop-share.actors.items _ none c.loop-share.invariant.splits c.push_reserved-2.new.self.items _ c.push_reserved-2.ensures.items refl in
    let many = all_number g.R.Run.settings c.push_reserved-2.new.self.items all in
    let same : vec_len c.push_reserved-2.new.self ≡ length c.push_reserved-2.new.self.items = search rules in
    same ∙ many
