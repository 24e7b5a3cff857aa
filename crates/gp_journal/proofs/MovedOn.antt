-- One of some bodies moves on.
use Rattle.std.proofs.Common.{◌≡◌, ◌<◌, ℕ, List, length, get_or, set, sym, ap, ◌∙◌}
use Rattle.std.proofs.lemmas.List.{map-set, get_or-map, length-map}
use Rattle.gp_stack.specs.declared.body.Body.{Body}
use Rattle.gp_stack.specs.Body.{Progress, progress_of}
use Rattle.gp_journal.specs.Bodies.{nowhere, progress_each, further, moved_on}

pub moved : (bodies : List Body) (all : List Progress) (g n : ℕ) (old new : Body) → progress_each bodies ≡ all → g < length bodies → old ≡ get_or bodies g old → progress_of new ≡ further n (progress_of old) →
    progress_each (set bodies g new) ≡ moved_on all g n
moved bodies all g n old new same within was is =
    map-set progress_of bodies g new
    ∙ ap (set (progress_each bodies) g) (is ∙ ap (further n) (ap progress_of was ∙ sym (get_or-map progress_of bodies g old nowhere within)))
    ∙ ap (λ (ps : List Progress). moved_on ps g n) same

-- there are as many bodies as places where they stand
pub as_many : (bodies : List Body) (all : List Progress) → progress_each bodies ≡ all → length bodies ≡ length all
as_many bodies all same = sym (length-map bodies progress_of) ∙ ap length same
