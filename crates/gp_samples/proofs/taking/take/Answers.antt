use Rattle.std.proofs.Common.{ap, ◌∙◌, map, subst}
use Rattle.std.proofs.lemmas.List.{map-append}
use Rattle.gp_ring.specs.Shown.{Shows}
use Rattle.gp_ring.specs.declared.taken.Taken.TheVariants.{Batch}
use Rattle.gp_cpu.specs.Records.{ring_record_of}
use Rattle.gp_cpu.specs.Batch.{records_in}
use Rattle.gp_samples.proofs.BothEnds.{read_adds}
use Rattle.gp_samples.proofs.taking.take.Goals as goal

pub add-requires : goal.add-requires
add-requires c =
    let last = c.read.follows.lender-at-none in let holds = c.read.follows.holds-at-none in
    (read_adds c.args.reader.now last (Batch c.in-Batch.words c.in-Batch.tags) c.requires holds.0 (subst (Shows last.hand) c.in-Batch.is holds.1)).0

pub returns-in_ok-add-in-Batch-clause-records : goal.returns-in_ok-add-in-Batch-clause-records
returns-in_ok-add-in-Batch-clause-records c =
    let last = c.read.follows.lender-at-none in let holds = c.read.follows.holds-at-none in
    record {
      more = map ring_record_of (records_in c.in-Batch.words.now c.in-Batch.tags.now);
      taken = (read_adds c.args.reader.now last (Batch c.in-Batch.words c.in-Batch.tags) c.requires holds.0 (subst (Shows last.hand) c.in-Batch.is holds.1)).1;
      collected = ap (map ring_record_of) c.in_ok-add-in-Batch.ensures.ok ∙ map-append ring_record_of c.args.cpu.now (records_in c.in-Batch.words.now c.in-Batch.tags.now);
    }
