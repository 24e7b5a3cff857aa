use Rattle.std.proofs.Common.{[], ◌∷◌, ap, ◌∙◌}
use Rattle.gp_cpu.proofs.Sampling.{samples_begin}
use Rattle.gp_journal.specs.State.{code_of}
use Rattle.gp_world.specs.RingEnds.{offers_of}
use Rattle.gp_world.specs.Scene.{Scene}
use Rattle.gp_cpu.specs.Samples.{rate_record}
use Rattle.gp_world.proofs.world.World.new.Goals as goal

pub returns-clause-offers : goal.returns-clause-offers
returns-clause-offers g c =
    ap (λ (s : Scene). offers_of s.ring) c.in_ok-world.ensures
    ∙ c.in_ok-writer.ensures.writer.samples
    ∙ samples_begin (code_of c.args.program.now) c.args.settings.now
    ∙ ap (λ s. rate_record s ∷ []) c.requires.settings
