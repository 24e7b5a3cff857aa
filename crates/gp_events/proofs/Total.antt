-- The order of sums is total.
use Rattle.std.proofs.Common.{◌≡◌, ℕ, List, refl}
use Rattle.std.specs.Ordering.{nat_cmp, ordering_reverse}
use Rattle.std.specs.Cmp.Lexicographic.{slice_cmp}
use Rattle.std.specs.declared.cmp.Ordering.{Ordering}
use Rattle.std.specs.declared.cmp.Ordering.TheVariants.{Less, Equal, Greater}
use Rattle.std.specs.Cmp.{IsTotalOrder}
use Rattle.std.proofs.lemmas.Cmp.{then_total, back_total, on_total, lists_total, nat_cmp_total, nat_list_cmp_total}
use Rattle.gp_isa.specs.declared.frame.Frame.{Frame}
use Rattle.gp_isa.specs.declared.parts.Parts.{Parts}
use Rattle.gp_events.specs.declared.sum.Sum.{Sum}
use Rattle.gp_events.specs.Order.{name_of, frame_cmp, sum_cmp}

itself : (o : Ordering) → o ≡ ordering_reverse o → o ≡ Equal
itself Less e = cc
itself Equal e = refl
itself Greater e = cc

-- A name is equal to itself.
pub name_itself : (name : List ℕ) → slice_cmp nat_cmp name name ≡ Equal
name_itself name = itself (slice_cmp nat_cmp name name) (nat_list_cmp_total.antisymm name name)

frame_total : (parts : Parts) → IsTotalOrder (frame_cmp parts)
frame_total parts = then_total (on_total (λ (frame : Frame). name_of parts frame.function) nat_list_cmp_total) (on_total (λ (frame : Frame). frame.line) nat_cmp_total)

pub sum_total : (parts : Parts) → IsTotalOrder (sum_cmp parts)
sum_total parts = then_total (back_total (on_total (λ (sum : Sum). sum.delay) nat_cmp_total)) (on_total (λ (sum : Sum). sum.stack) (lists_total (frame_total parts)))
