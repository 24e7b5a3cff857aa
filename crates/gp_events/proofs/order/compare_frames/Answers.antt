use Rattle.std.proofs.Common.{◌≡◌, ℕ, ap, sym, ◌∙◌}
use Rattle.std.specs.Ordering.{nat_cmp, ordering_then}
use Rattle.std.specs.Cmp.Lexicographic.{slice_cmp}
use Rattle.std.specs.declared.cmp.Ordering.{Ordering}
use Rattle.std.specs.declared.cmp.Ordering.TheVariants.{Equal}
use Rattle.gp_events.specs.Order.{name_of}
use Rattle.gp_events.proofs.Total.{name_itself}
use Rattle.gp_events.proofs.order.compare_frames.Goals as goal

-- A function's name is equal to itself.
pub returns-then-a-b : goal.returns-then-a-b
returns-then-a-b c =
    let names : slice_cmp nat_cmp (name_of c.args.parts.now c.args.a.function) (name_of c.args.parts.now c.args.b.function) ≡ Equal =
    ap (λ (f : ℕ). slice_cmp nat_cmp (name_of c.args.parts.now c.args.a.function) (name_of c.args.parts.now f)) (sym c.if-a-b.true)
    ∙ name_itself (name_of c.args.parts.now c.args.a.function) in
    c.cmp.ensures ∙ sym (ap (λ (o : Ordering). ordering_then o (nat_cmp c.args.a.line c.args.b.line)) names)
