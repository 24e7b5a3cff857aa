use Rattle.std.proofs.Common.{rules}
use Rattle.std.proofs.lemmas.List.Elements.{recursion_from_All}
use Rattle.gp_wire.specs.RoundTrip.{TypeFits, SampleFits, LocationFits, FunctionFits, IsText}
use Rattle.gp_build.proofs.building.from_tables.Goals as goal

pub returns-clause-fits : goal.returns-clause-fits
returns-clause-fits c = record {
  sample_types = recursion_from_All TypeFits c.in_ok-kinds.field-0 c.in_ok-kinds.ensures.fit;
  samples = recursion_from_All SampleFits c.in_ok-samples.field-0 c.in_ok-samples.ensures.fit;
  locations = recursion_from_All LocationFits c.in_ok-locations.field-0 c.in_ok-locations.ensures.fit;
  functions = recursion_from_All FunctionFits c.in_ok-functions.field-0 c.in_ok-functions.ensures.fit;
  strings = recursion_from_All IsText c.in_ok-strings.field-0 c.in_ok-strings.ensures.texts;
  period_type = c.period_type.ensures.fits;
  period = search rules;
  duration = search rules;
}
