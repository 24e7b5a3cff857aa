use Rattle.std.proofs.lemmas.List.Elements.{recursion_from_All}
use Rattle.gp_wire.specs.RoundTrip.{IsWord, IsInt64, LabelFits}
use Rattle.gp_build.proofs.messages.sample.Goals as goal

pub returns-clause-fits : goal.returns-clause-fits
returns-clause-fits c = (
  recursion_from_All IsWord c.in_ok-location_ids.field-0 c.in_ok-location_ids.ensures.fit,
  recursion_from_All IsInt64 c.in_ok-values.field-0 c.in_ok-values.ensures.fit,
  recursion_from_All LabelFits c.in_ok-labels.field-0 c.in_ok-labels.ensures.fit,
)
