use Rattle.std.proofs.Common.{◌-◌, sym, ap, ◌∙◌}
use Rattle.std.specs.Option.{option_copied}
use Rattle.gp_wire.specs.Valid.{bad_ids}
use Rattle.gp_build.proofs.Ids.{found_id, found_place, absent_id}
use Rattle.gp_build.proofs.means.with_id.Goals as goal

pub returns-then-id : goal.returns-then-id
returns-then-id g c =
    let fine = ap bad_ids (sym c.requires.ids) ∙ c.requires.once in
    found_id g.M.HasId.id_of c.args.items.now (c.args.id - 1) c.in-Some.item.now c.args.id fine (sym c.in-Some.ensures) (sym c.id.ensures ∙ c.if-id.true)

pub returns-in-Some-get_index_of : goal.returns-in-Some-get_index_of
returns-in-Some-get_index_of g c =
    let fine = ap bad_ids (sym c.requires.ids) ∙ c.requires.once in
    found_place g.M.HasId.id_of c.args.items.now c.in-Some-get_index_of.at c.args.id c.args.set.now.keys (option_copied c.get-in-Some-get_index_of.result)
    c.get-in-Some-get_index_of.ensures c.requires.ids fine (sym c.in-Some-get_index_of.ensures.index)

pub returns-in-None : goal.returns-in-None
returns-in-None g c = absent_id g.M.HasId.id_of c.args.items.now c.args.id c.args.set.now.keys c.requires.ids (sym c.in-None.ensures.found)
