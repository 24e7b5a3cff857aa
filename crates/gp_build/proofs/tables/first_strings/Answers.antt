use Rattle.std.proofs.Common.{◌≡◌, List, [], ◌∷◌, ap, ◌∙◌, refl}
use Rattle.std.specs.List.{flat_map}
use Rattle.gp_build.specs.declared.sample.Kind.{Kind}
use Rattle.gp_build.specs.FirstNeed.{first_seen}
use Rattle.gp_build.specs.Numbers.{Need, text, same_need, kind_needs, period_needs}
use Rattle.gp_build.specs.kept.Tables.{with_needs}
use Rattle.gp_build.specs.laws.Alike.{same_need_equiv}
use Rattle.gp_build.proofs.FirstSeen.{seen_more}
use Rattle.gp_build.proofs.tables.first_strings.Goals as goal

-- the empty text alone
first : List Need
first = text [] ∷ []

seen-first : (keys : List Need) → keys ≡ first → keys ≡ first_seen same_need first
unfolding first first_seen
seen-first keys is = is

pub returns : goal.returns
unfolding first
returns c =
    let types : c.need_kinds.new.strings.keys ≡ with_needs c.enter.new.table.keys (flat_map kind_needs c.args.header.now.types) =
    c.in_ok-need_kinds.ensures ∙ ap (λ (kinds : List Kind). with_needs c.enter.new.table.keys (flat_map kind_needs kinds)) c.as_slice.ensures in
    let begun : c.enter.new.table.keys ≡ first =
    rw (c.in_ok-enter.ensures.keys, c.new-strings.ensures.empty, c.text.ensures) refl in
    seen_more same_need_equiv _ _ _ (period_needs c.args.header.now.period_type)
    (seen_more same_need_equiv _ _ first (flat_map kind_needs c.args.header.now.types) (seen-first _ begun) types)
    c.in_ok-need_period.ensures
