-- The order of samples is total.
use Rattle.std.proofs.Common.{◌≡◌, ℕ, List, refl}
use Rattle.std.specs.Ordering.{nat_cmp, ordering_reverse}
use Rattle.std.specs.Cmp.Lexicographic.{slice_cmp}
use Rattle.std.specs.declared.cmp.Ordering.{Ordering}
use Rattle.std.specs.declared.cmp.Ordering.TheVariants.{Less, Equal, Greater}
use Rattle.std.specs.Cmp.{IsTotalOrder}
use Rattle.std.proofs.lemmas.Cmp.{then_total, back_total, on_total, lists_total, nat_cmp_total, nat_list_cmp_total}
use Rattle.gp_isa.specs.declared.frame.Frame.{Frame}
use Rattle.gp_isa.specs.declared.parts.Pair.{Pair}
use Rattle.gp_isa.specs.declared.parts.Parts.{Parts}
use Rattle.gp_build.specs.declared.samples.Group.{Group}
use Rattle.gp_build.specs.Shown.{Shown, frame_cmp, pair_cmp, shown_cmp}
use Rattle.gp_build.specs.Site.{function_of}
use Rattle.gp_build.specs.Samples.{group_cmp}

itself : (o : Ordering) → o ≡ ordering_reverse o → o ≡ Equal
itself Less e = cc
itself Equal e = refl
itself Greater e = cc

-- A name is equal to itself.
pub name_itself : (name : List ℕ) → slice_cmp nat_cmp name name ≡ Equal
name_itself name = itself (slice_cmp nat_cmp name name) (nat_list_cmp_total.antisymm name name)

pub frame_total : (parts : Parts) → IsTotalOrder (frame_cmp parts)
frame_total parts = then_total (on_total (λ (frame : Frame). (function_of parts frame.function).name) nat_list_cmp_total) (on_total (λ (frame : Frame). frame.line) nat_cmp_total)

pub pair_total : IsTotalOrder pair_cmp
pair_total = then_total (on_total (λ (pair : Pair). pair.key) nat_list_cmp_total) (on_total (λ (pair : Pair). pair.value) nat_list_cmp_total)

shown_total : (parts : Parts) → IsTotalOrder (shown_cmp parts)
shown_total parts = then_total (on_total (λ (shown : Shown). shown.stack) (lists_total (frame_total parts))) (on_total (λ (shown : Shown). shown.labels) (lists_total pair_total))

pub group_total : (parts : Parts) → IsTotalOrder (group_cmp parts)
group_total parts = then_total (back_total (on_total (λ (sample : Group). sample.count) nat_cmp_total)) (on_total (λ (sample : Group). sample.shown) (shown_total parts))
