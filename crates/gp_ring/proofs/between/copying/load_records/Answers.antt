use Rattle.std.proofs.Common.{rules, ◌≡◌, ◌+◌, ◌%◌, ◌<◌, ℕ, List, [], ◌∷◌, ◌++◌, length, take, drop, ap, sym, ◌∙◌, append-nil, arith}
use Rattle.std.specs.List.{flat_map}
use Rattle.std.proofs.lemmas.List.Concat.{flat_map-append}
use Rattle.atomic_table.specs.Table.{Me}
use Rattle.gp_ring.specs.Records.{Offer}
use Rattle.gp_ring.specs.PlainRing.{piece_for}
use Rattle.gp_ring.specs.Counts.{behind, behind_all}
use Rattle.gp_ring.specs.kept.Traces.{IsRecordAt, all_laid}
use Rattle.gp_ring.specs.kept.Views.{with_due}
use Rattle.gp_ring.specs.declared.between.view.View.{View}
use Rattle.gp_ring.proofs.RingLoads.{pick, count-next, fits-next, next-record, same-size, words-within}
use Rattle.gp_ring.proofs.between.copying.load_records.Goals as goal

pub load_record-place-requires-clause-record_there : goal.load_record-place-requires-clause-record_there
load_record-place-requires-clause-record_there c =
    let v = c.args.seat.now.me.0 in
    let n : c.loop.counter < c.args.records = search rules in
    let p = pick v.reader.ahead c.loop.counter (omega (arith, c.requires.records)) in
    next-record v c.args.seat.now.me.1 c.loop.seat.me (behind_all v.len 0 v.reader.pulled) c.loop.counter c.loop.place c.loop.invariant.view c.loop.invariant.place c.requires.within p.0 p.1

pub load_record-place-requires-clause-room : goal.load_record-place-requires-clause-room
load_record-place-requires-clause-room c = λ (s : IsRecordAt c.loop.seat.me.0.len c.loop.place c.loop.seat.me.0.reader.due).
    let v = c.args.seat.now.me.0 in
    let from = behind_all c.args.seat.now.me.0.len 0 c.args.seat.now.me.0.reader.pulled in
    let n : c.loop.counter < c.args.records = search rules in
    let p = pick v.reader.ahead c.loop.counter (omega (arith, c.requires.records)) in
    let r = next-record v c.args.seat.now.me.1 c.loop.seat.me (behind_all v.len 0 v.reader.pulled) c.loop.counter c.loop.place c.loop.invariant.view c.loop.invariant.place c.requires.within p.0 p.1 in
    let l : c.loop.seat.me.0.len ≡ v.len = ap (λ (m : Me Unit View). m.0.len) c.loop.invariant.view in
    let some : 0 < c.loop.seat.me.0.len = omega (arith, c.requires.some, c.requires.len) in
    let size : length (piece_for s.offer).words ≡ length (piece_for p.0).words = same-size c.loop.seat.me.0.len c.loop.place c.loop.seat.me.0.reader.due s r some in
    let f = fits-next v.len (behind_all v.len 0 v.reader.pulled) v.reader.ahead c.loop.counter p.0 p.1 c.requires.within in
    let w = words-within v.len (behind_all v.len 0 v.reader.pulled) (take c.loop.counter v.reader.ahead) in
    let b : length c.loop.to.items ≡ length (flat_map (λ (o : Offer). (piece_for o).words) (take c.loop.counter v.reader.ahead)) = ap length c.loop.invariant.words in
    omega (arith, c.loop.to.ok.0, c.loop.invariant.capacity, c.requires.room, c.requires.len)

pub loop-preserved : goal.loop-preserved
loop-preserved c =
    let v = c.args.seat.now.me.0 in
    let k = c.loop.invariant in
    let n : c.loop.counter < c.args.records = search rules in
    let p = pick v.reader.ahead c.loop.counter (omega (arith, c.requires.records)) in
    let from = behind_all c.args.seat.now.me.0.len 0 c.args.seat.now.me.0.reader.pulled in
    let r = next-record v c.args.seat.now.me.1 c.loop.seat.me (behind_all v.len 0 v.reader.pulled) c.loop.counter c.loop.place k.view k.place c.requires.within p.0 p.1 in
    let l : c.loop.seat.me.0.len ≡ v.len = ap (λ (m : Me Unit View). m.0.len) k.view in
    let next = count-next v.len (behind_all v.len 0 v.reader.pulled) v.reader.ahead c.loop.counter p.0 p.2 in
    let call = c.load_record-place in
    record {
      table = search rules;
      view = call.ensures.view r ∙ (λ j. (with_due ((k.view j).0) r.rest, (k.view j).1))
          ∙ ap (λ (m : ℕ). (with_due v (all_laid v.len m (drop (c.loop.counter + 1) v.reader.ahead)), c.args.seat.now.me.1)) (sym next);
      place = call.ensures.place r ∙ ap (λ (m : ℕ). behind m r.count r.offer % m) l ∙ ap (λ (m : ℕ). m % v.len) (sym next);
      words = call.ensures.words r ∙ ap (λ (ws : List ℕ). ws ++ (piece_for p.0).words) k.words
          ∙ sym (ap (flat_map (λ (o : Offer). (piece_for o).words)) p.2 ∙ flat_map-append (λ (o : Offer). (piece_for o).words) (take c.loop.counter v.reader.ahead) (p.0 ∷ [])
          ∙ ap (λ (ws : List ℕ). flat_map (λ (o : Offer). (piece_for o).words) (take c.loop.counter v.reader.ahead) ++ ws) (append-nil (piece_for p.0).words));
      capacity = search rules;
    }
