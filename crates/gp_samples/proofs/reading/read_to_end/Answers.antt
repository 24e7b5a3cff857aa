use Rattle.std.proofs.Common.{◌≡◌, ◌+◌, ◌-◌, ◌++◌, map, length, sym, ap, ◌∙◌, subst, arith}
use Rattle.std.proofs.lemmas.List.{append_assoc, length-map, length-append}
use Rattle.gp_ring.specs.PlainRing.{PlainRing, closed, looked, acted, records_taken}
use Rattle.gp_cpu.specs.Records.{ring_record_of}
use Rattle.gp_samples.specs.RunRing.{IsReadable, taken_to_end}
use Rattle.gp_samples.proofs.ReadOut.{needed, read_readable, read_ended, reads_on, last_read, few_reads}
use Rattle.gp_samples.proofs.reading.read_to_end.Goals as goal

pub loop-reads-smaller : goal.loop-reads-smaller
loop-reads-smaller c =
    let ring = c.loop-reads.ring in
    let on = reads_on ring (3 - c.loop-reads.reads) c.loop-reads.invariant.readable c.loop-reads.invariant.ended (sym c.in_ok-read.ensures.more ∙ c.if-branch.true) in
    let next = ap needed c.read.ensures.ring in
    let fewer = on.took.fewer in
    omega arith

pub loop-reads-preserved : goal.loop-reads-preserved
loop-reads-preserved c =
    let ring = c.loop-reads.ring in
    let on = reads_on ring (3 - c.loop-reads.reads) c.loop-reads.invariant.readable c.loop-reads.invariant.ended (sym c.in_ok-read.ensures.more ∙ c.if-branch.true) in
    let next = ap needed c.read.ensures.ring in
    let fewer = on.took.fewer in
    let some = on.took.some in
    let enough = c.loop-reads.invariant.enough in
    let old = map ring_record_of c.loop-reads.cpu in
    let before : 4 - c.loop-reads.reads ≡ (3 - c.loop-reads.reads) + 1 = omega arith in
    let behind : 4 - (c.loop-reads.reads + 1) ≡ 3 - c.loop-reads.reads = omega arith in
    let longer : length c.read.new.cpu ≡ length c.loop-reads.cpu + length (records_taken (looked ring)) =
    sym (length-map c.read.new.cpu ring_record_of) ∙ ap length c.in_ok-read.ensures.records ∙ length-append old (records_taken (looked ring)) ∙ ap (λ n. n + length (records_taken (looked ring))) (length-map c.loop-reads.cpu ring_record_of) in
    record {
      readable = subst IsReadable (sym c.read.ensures.ring) (read_readable ring c.loop-reads.invariant.readable);
      ended = ap (λ (r : PlainRing). r.ended) c.read.ensures.ring ∙ read_ended ring c.loop-reads.invariant.readable ∙ c.loop-reads.invariant.ended;
      enough = omega arith;
      taken =
          (λ i. c.in_ok-read.ensures.records i ++ taken_to_end (behind i) (c.read.ensures.ring i))
          ∙ append_assoc old (records_taken (looked ring)) (taken_to_end (3 - c.loop-reads.reads) (acted (looked ring)))
          ∙ ap (λ l. old ++ l) (sym on.rest)
          ∙ ap (λ n. old ++ taken_to_end n ring) (sym before)
          ∙ c.loop-reads.invariant.taken;
      least = omega arith;
      each = let each = c.loop-reads.invariant.each in omega arith;
    }

pub returns-clause-each : goal.returns-clause-each
returns-clause-each c =
    few_reads (map ring_record_of c.args.cpu.now) (map ring_record_of c.loop-reads.cpu) (taken_to_end (4 - c.loop-reads.reads) c.loop-reads.ring) (taken_to_end 3 (closed c.args.ring.now)) c.loop-reads.reads
    c.loop-reads.invariant.taken (let each = c.loop-reads.invariant.each in omega (arith, length-map c.args.cpu.now ring_record_of, length-map c.loop-reads.cpu ring_record_of))

pub returns-clause-most : goal.returns-clause-most
returns-clause-most c = let enough = c.loop-reads.invariant.enough in omega arith

pub returns-clause-records : goal.returns-clause-records
returns-clause-records c =
    let ring = c.loop-reads.ring in
    let enough = c.loop-reads.invariant.enough in
    let before : 4 - c.loop-reads.reads ≡ (3 - c.loop-reads.reads) + 1 = omega arith in
    c.in_ok-read.ensures.records
    ∙ ap (λ l. map ring_record_of c.loop-reads.cpu ++ l) (sym (last_read ring (3 - c.loop-reads.reads) (sym c.in_ok-read.ensures.more ∙ c.if-branch.false)))
    ∙ ap (λ n. map ring_record_of c.loop-reads.cpu ++ taken_to_end n ring) (sym before)
    ∙ c.loop-reads.invariant.taken
