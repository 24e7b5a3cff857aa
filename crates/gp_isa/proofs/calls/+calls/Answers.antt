use Rattle.std.proofs.Common.{◌<◌, ◌-◌, suc, flat_map, [], ◌∷◌, length, sym, ap, ◌∙◌, subst, arith}
use Rattle.std.specs.List.{All}
use Rattle.std.proofs.lemmas.List.{take_all}
use Rattle.gp_isa.specs.Calls.{calls_in}
use Rattle.gp_isa.specs.kept.Ways.{AddsMarks}
use Rattle.gp_isa.proofs.Marks.{all_at, calls_of_statement, calls_in-more, calls_in-some, calls_of-call, calls_of-loop, AddsMarks-none, AddsMarks-more, AddsMarks-one}
use Rattle.gp_isa.proofs.calls.+calls.Goals as goal

pub mark_statement-bounds-row-f : goal.mark_statement-bounds-row-f
mark_statement-bounds-row-f t c =
    let all : All (λ h. h < length c.args.row.now) (c.in-Call.f ∷ []) =
    subst (All (λ h. h < length c.args.row.now)) (calls_of-call (calls_in c.args.deep) c.args.what.now c.in-Call.f c.in-Call.is) c.requires in
    all 0 0 (omega arith)

pub mark_statement-mark_calls-requires : goal.mark_statement-mark_calls-requires
mark_statement-mark_calls-requires t c = (
  omega arith,
  subst (λ body. All (λ h. h < length c.args.row.now) (calls_in (suc (c.args.deep - 1)) body)) (sym (c.as_slice.ensures ∙ c.get.ensures))
      (subst (All (λ h. h < length c.args.row.now))
      (calls_of-loop (calls_in c.args.deep) c.args.what.now c.in-Loop.n c.in-Loop.body c.in-Loop.end c.in-Loop.is ∙
      calls_in-some c.args.deep c.in-Loop.body c.if-deep-gt0.true)
      c.requires),
)

pub mark_statement-returns-in-Call : goal.mark_statement-returns-in-Call
mark_statement-returns-in-Call t c =
    subst (AddsMarks c.args.row.now _) (sym (calls_of-call (calls_in c.args.deep) c.args.what.now c.in-Call.f c.in-Call.is)) (AddsMarks-one c.args.row.now c.in-Call.f (mark_statement-bounds-row-f t c))

pub mark_calls-mark_statement-inside-requires : goal.mark_calls-mark_statement-inside-requires
mark_calls-mark_statement-inside-requires t c = (
  omega arith,
  all_at (λ h. h < length c.loop-statement.row) (calls_of_statement c.args.deep) c.args.body.now c.loop-statement.statement-index c.statement-item.result
      c.loop-statement-test.true c.statement-item.is
      (subst (λ n. All (λ h. h < n) (flat_map (calls_of_statement c.args.deep) c.args.body.now)) (sym c.loop-statement.auto.row)
      c.requires),
)

pub mark_calls-loop-statement-init : goal.mark_calls-loop-statement-init
mark_calls-loop-statement-init t c = AddsMarks-none c.args.row.now

pub mark_calls-loop-statement-preserved : goal.mark_calls-loop-statement-preserved
mark_calls-loop-statement-preserved t c =
    subst (AddsMarks c.args.row.now c.mark_statement-inside.new.row)
    (sym (calls_in-more c.args.deep c.args.body.now c.loop-statement.statement-index c.statement-item.result c.loop-statement-test.true c.statement-item.is))
    (AddsMarks-more c.args.row.now c.loop-statement.row c.mark_statement-inside.new.row _ _ c.loop-statement.invariant c.mark_statement-inside.ensures)

pub mark_calls-returns : goal.mark_calls-returns
mark_calls-returns t c =
    subst (AddsMarks c.args.row.now c.loop-statement.row)
    (ap (flat_map (calls_of_statement c.args.deep)) (take_all c.loop-statement.statement-index c.args.body.now c.loop-statement-test.false))
    c.loop-statement.invariant

pub mark_statement-returns-then-deep-gt0 : goal.mark_statement-returns-then-deep-gt0
mark_statement-returns-then-deep-gt0 t c =
    subst (AddsMarks c.args.row.now c.mark_calls.new.row)
    (sym (calls_of-loop (calls_in c.args.deep) c.args.what.now c.in-Loop.n c.in-Loop.body c.in-Loop.end c.in-Loop.is ∙
    calls_in-some c.args.deep c.in-Loop.body c.if-deep-gt0.true))
    (subst (λ body. AddsMarks c.args.row.now c.mark_calls.new.row (calls_in (suc (c.args.deep - 1)) body)) (c.as_slice.ensures ∙ c.get.ensures) c.mark_calls.ensures)
