use Rattle.std.proofs.Common.{◌≡◌, List, [], ◌∷◌, ◌++◌, take, map, sym, ap, ◌∙◌, arith}
use Rattle.std.proofs.lemmas.List.{take_all, length-map, length-take}
use Rattle.gp_stack.specs.declared.record.Record.{Record}
use Rattle.gp_build.specs.Shown.{Shown, shown_in}
use Rattle.gp_build.specs.Samples.{group_of, groups_of}
use Rattle.gp_build.specs.laws.Alike.{same_shown_equiv}
use Rattle.gp_build.proofs.Tally.{tally, tally-nil, tally-step, lookup-small}
use Rattle.gp_build.proofs.Counts.{groups-tally}
use Rattle.gp_build.proofs.Steps.{map_more}
use Rattle.gp_build.proofs.samples.counts.Goals as goal

pub loop-record-init : goal.loop-record-init
loop-record-init c = c.in_ok-counts.ensures.empty ∙ sym (tally-nil same_shown_equiv)

pub count-requires : goal.count-requires
count-requires c =
    let seen : List Shown = map (shown_in c.args.parts.now) (take c.loop-record.record-index c.args.records.now) in
    let small = lookup-small same_shown_equiv c.loop-record.counts.entries seen c.new.result c.loop-record.invariant in
    let long = length-map (take c.loop-record.record-index c.args.records.now) (shown_in c.args.parts.now) in
    let short = length-take c.loop-record.record-index c.args.records.now in
    omega arith

pub loop-record-preserved : goal.loop-record-preserved
loop-record-preserved c =
    let rows : List Record = c.args.records.now in
    let seen : List Shown = map (shown_in c.args.parts.now) (take c.loop-record.record-index rows) in
    let here : c.new.result ≡ shown_in c.args.parts.now c.record-item.result = c.new.ensures in
    c.in_ok-count.ensures
    ∙ tally-step same_shown_equiv c.loop-record.counts.entries seen c.new.result c.loop-record.invariant
    ∙ ap (λ (shown : Shown). tally same_shown_equiv (seen ++ shown ∷ [])) (here ∙ ap (shown_in c.args.parts.now) c.record-item.is)
    ∙ ap (λ (all : List Shown). tally same_shown_equiv all) (map_more (shown_in c.args.parts.now) rows c.loop-record.record-index c.record-item.result c.loop-record-test.true)

pub returns : goal.returns
returns c =
    let rows : List Record = c.args.records.now in
    ap (map group_of) c.loop-record.invariant
    ∙ groups-tally (map (shown_in c.args.parts.now) (take c.loop-record.record-index rows))
    ∙ ap (λ (l : List Record). groups_of (map (shown_in c.args.parts.now) l)) (take_all c.loop-record.record-index rows c.loop-record-test.false)
