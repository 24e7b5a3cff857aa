use Rattle.std.proofs.Common.{◌≡◌, ℕ, ◌==◌, true, false, ap, arith}
use Rattle.std.proofs.lemmas.Bool.Decides.{nat_tests}
use Rattle.atomic_table.specs.Table.{Me}
use Rattle.gp_ring.specs.PlainRing.{Found, Nothing}
use Rattle.gp_ring.specs.declared.between.view.View.{View}
use Rattle.gp_ring.proofs.Acted.{batch-acts, none-acts, over-then, batch-reading}
use Rattle.gp_ring.proofs.between.taking.act_on.Goals as goal

equal : (a b : ℕ) → a ≡ b → (a == b) ≡ true
equal a b e = grind (arith, nat_tests)

differs : (a b : ℕ) → (a ≡ b → ⊥) → (a == b) ≡ false
differs a b e = grind (arith, nat_tests)

-- ---- a batch

pub returns-then-from-to-clause-reading : goal.returns-then-from-to-clause-reading
returns-then-from-to-clause-reading c =
    batch-reading _ _ _ c.args.seat.now.me c.take_batch.new.seat.me c.args.sizes c.args.r.now c.take_batch.result _ _ _ c.requires.reading c.requires.seen
    c.take_batch.ensures.table c.take_batch.ensures.view c.take_batch.ensures.r.0 c.take_batch.ensures.r.1

pub returns-then-from-to-clause-acts : goal.returns-then-from-to-clause-acts
returns-then-from-to-clause-acts c = λ (hand : Found).
    batch-acts c.args.shared.now.table_id _ hand c.args.r.now _ _ _ c.requires.seen c.requires.reading.read_tags c.take_batch.new.seat.me.0 _ _
    (omega (arith, c.if-from-to.true, c.tags_of-from.ensures, c.tags_of-to.ensures)) (ap (λ (m : Me Unit View). m.0) c.take_batch.ensures.view) c.take_batch.ensures.words c.take_batch.ensures.tag_words

-- ---- nothing

pub returns-then-end-eq1-clause-over : goal.returns-then-end-eq1-clause-over
returns-then-end-eq1-clause-over c =
    over-then c.args.shared.now.table_id _ Nothing c.args.r.now _ _ _ c.requires.seen c.requires.reading.read_tags (omega arith) (omega arith) c.if-end-eq1.true

pub returns-then-end-eq1-clause-acts : goal.returns-then-end-eq1-clause-acts
returns-then-end-eq1-clause-acts c = λ (hand : Found).
    none-acts c.args.shared.now.table_id _ hand c.args.r.now _ _ _ c.requires.seen c.requires.reading.read_tags true (omega arith) (omega arith) (equal c.args.sight.end 1 c.if-end-eq1.true)

pub returns-clause-acts : goal.returns-clause-acts
returns-clause-acts c = λ (hand : Found).
    none-acts c.args.shared.now.table_id _ hand c.args.r.now _ _ _ c.requires.seen c.requires.reading.read_tags false (omega arith) (omega arith) (differs c.args.sight.end 1 c.if-end-eq1.false)
