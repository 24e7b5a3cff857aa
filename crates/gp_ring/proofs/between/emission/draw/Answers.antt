use Rattle.std.proofs.Common.{◌≡◌, ◌+◌, ◌%◌, length, ap, sym, ◌∙◌}
use Rattle.atomic_table.specs.Table.{Me}
use Rattle.gp_layout.specs.Spelling.{size_of}
use Rattle.gp_ring.specs.declared.between.view.View.{View}
use Rattle.gp_ring.proofs.RingLoads.{placed-start}
use Rattle.gp_ring.proofs.between.emission.draw.Goals as goal

pub store_record-requires-clause-place : goal.store_record-requires-clause-place
store_record-requires-clause-place c =
    let need = size_of (length c.args.header.now) (length c.args.stack.now) in
    let next = ap (λ (m : Me Unit View). m.0.writer.next) c.pass_over.ensures.view in
    let len = ap (λ (m : Me Unit View). m.0.len) c.pass_over.ensures.view in
    let count : c.words_of.result ≡ c.args.seat.now.me.0.writer.next = c.words_of.ensures ∙ c.requires.words in
    c.place-skip.ensures.start ∙ placed-start c.args.sizes.len c.words_of.result (size_of (length c.args.header.now) (length c.args.stack.now)) c.requires.some.0
    ∙ (λ i. (count i + sym c.place-skip.ensures.skip i) % c.requires.sizes.0 i) ∙ (λ i. sym next i % sym len i)
