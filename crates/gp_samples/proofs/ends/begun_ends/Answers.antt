use Rattle.std.proofs.Common.{sym, ap, subst}
use Rattle.gp_ring.specs.TwoEnds.{WriterEnd, ReaderEnd}
use Rattle.gp_samples.specs.RunEnds.{IsSized}
use Rattle.gp_samples.proofs.BothEnds.{made_sized, rate_offered}
use Rattle.gp_samples.proofs.ends.begun_ends.Goals as goal

pub returns-clause-writer : goal.returns-clause-writer
returns-clause-writer c =
    let program = c.args.program.now in let settings = c.args.settings.now in let writer = c.in_ok-writer.writer in let made = c.in_ok-writer.ensures in
    let sized = made_sized program settings c.requires c.ring_words-words.result writer.ring c.ring_words-words.ensures.words made.header made.words made.tags in
    rate_offered program settings writer.ring c.write.new.self.ring writer.offers c.write.new.self.offers sized c.write.ensures.ring (ap (λ (w : WriterEnd). w.offers) made.writer) c.write.ensures.offers

pub returns-clause-reader : goal.returns-clause-reader
returns-clause-reader c =
    let program = c.args.program.now in let settings = c.args.settings.now in let made = c.in_ok-writer.ensures in
    let sized = made_sized program settings c.requires c.ring_words-words.result c.in_ok-writer.writer.ring c.ring_words-words.ensures.words made.header made.words made.tags in
    record {
      sized = subst (IsSized program settings) (sym (ap (λ (r : ReaderEnd). r.ring) made.reader)) sized;
      none = ap (λ (r : ReaderEnd). r.taken) made.reader;
      nothing = ap (λ (r : ReaderEnd). r.hand) made.reader;
    }
