use Rattle.std.proofs.Common.{◌≡◌, Bool, true, false, not, sym, ap, ◌∙◌}
use Rattle.std.specs.Option.{is_some}
use Rattle.gp_text.specs.Fault.{space_of, is_among, is_unknown}
use Rattle.gp_text.specs.Spaces.{kept}
use Rattle.gp_text.proofs.unknown.is_unknown.Goals as goal

-- whether there is none tells whether there is one
turned : (some none : Bool) → some ≡ not none → none ≡ not some
turned some true e = ap not (sym e)
turned some false e = ap not (sym e)

pub returns-in-Use : goal.returns-in-Use
returns-in-Use c =
    let known = kept c.args.spaces.now in
    let name = c.in-Use.name in
    let among : is_some c.place.result ≡ is_among name (known (space_of c.in-Use.verb)) =
    c.place.ensures.known ∙ (ap (λ n. is_among n c.of-in-Use.result.now) c.bytes.ensures ∙ ap (is_among name) (c.of-in-Use.ensures ∙ ap known c.of.ensures)) in
    turned _ _ c.is_none.ensures ∙ (ap not among ∙ ap (is_unknown known) (sym c.in-Use.is))
