use Rattle.std.proofs.Common.{ap, ◌∙◌, ◌++◌, map}
use Rattle.std.proofs.lemmas.List.{map-append}
use Rattle.gp_ring.specs.declared.taken.Taken.TheVariants.{Batch}
use Rattle.gp_cpu.specs.Records.{ring_record_of}
use Rattle.gp_cpu.specs.Batch.{records_in}
use Rattle.gp_samples.proofs.ReadOut.{batch_adds}
use Rattle.gp_samples.proofs.reading.read.Goals as goal

pub add-requires : goal.add-requires
add-requires c = (batch_adds c.args.ring.now c.requires (Batch c.in-Batch.words c.in-Batch.tags) c.in-Batch.ensures.answer).0

pub returns-in_ok-add-in-Batch-clause-records : goal.returns-in_ok-add-in-Batch-clause-records
returns-in_ok-add-in-Batch-clause-records c =
    let adds = (batch_adds c.args.ring.now c.requires (Batch c.in-Batch.words c.in-Batch.tags) c.in-Batch.ensures.answer).1 in
    ap (map ring_record_of) c.in_ok-add-in-Batch.ensures.ok
    ∙ map-append ring_record_of c.args.cpu.now (records_in c.in-Batch.words.now c.in-Batch.tags.now)
    ∙ ap (λ l. map ring_record_of c.args.cpu.now ++ l) adds
