-- One level of a climb.
use Rattle.std.proofs.Common.{◌≡◌, ◌<◌, ◌≤◌, ◌+◌, ◌-◌, ℕ, Bool, true, false, List, [], ◌∷◌, ◌++◌, length, reverse, take, get_or, refl, ap, sym, ◌∙◌, arith}
use Rattle.std.proofs.lemmas.List.{take_more}
use Rattle.gp_isa.specs.declared.parts.Parts.{Parts}
use Rattle.gp_stack.specs.declared.climb.Climb.{Climb}
use Rattle.gp_stack.specs.declared.level.Level.{Level}
use Rattle.gp_stack.specs.declared.place.Place.{Place}
use Rattle.gp_stack.specs.kept.Level.{is_base, callers, frame_of}
use Rattle.gp_stack.specs.kept.Climb.{frames_left}
use Rattle.gp_stack.proofs.Levels.{reverse_last}

above : (levels : List Level) (i : ℕ) (o : Level) → i < length levels → o ≡ get_or levels i o → reverse (take (i + 1) levels) ≡ o ∷ reverse (take i levels)
above levels i o within is =
    reverse_last (take (i + 1) levels) (take i levels) o (take_more levels i o within ∙ ap (λ x. take i levels ++ x ∷ []) (sym is))

callers_called : (parts : Parts) (o : Level) (outer : List Level) → callers parts true (o ∷ outer) ≡ frame_of parts o outer ∷ callers parts (is_base o) outer
unfolding callers
callers_called parts o outer = refl

callers_looped : (parts : Parts) (o : Level) (outer : List Level) → callers parts false (o ∷ outer) ≡ callers parts (is_base o) outer
unfolding callers
callers_looped parts o outer = refl

pub around : (items : List Level) (k : ℕ) (o : Level) → 0 < k → k ≤ length items → o ≡ get_or items (k - 1) o → reverse (take k items) ≡ o ∷ reverse (take (k - 1) items)
around items k o some within is =
    let next : k - 1 + 1 ≡ k = omega arith in
    ap (λ n. reverse (take n items)) (sym next) ∙ above items (k - 1) o (omega arith) is

at_level : (place : Place) (climb : Climb) (o : Level) → 0 < climb.level → climb.level ≤ length place.outer.items → o ≡ get_or place.outer.items (climb.level - 1) o →
    reverse (take climb.level place.outer.items) ≡ o ∷ reverse (take (climb.level - 1) place.outer.items)
at_level place climb o some within is =
    let next : climb.level - 1 + 1 ≡ climb.level = omega arith in
    ap (λ n. reverse (take n place.outer.items)) (sym next) ∙ above place.outer.items (climb.level - 1) o (omega arith) is

pub climb_called : (parts : Parts) (place : Place) (climb : Climb) (o : Level) → climb.called ≡ true → 0 < climb.level → climb.level ≤ length place.outer.items → o ≡ get_or place.outer.items (climb.level - 1) o →
    frames_left parts place climb ≡ frame_of parts o (reverse (take (climb.level - 1) place.outer.items)) ∷ frames_left parts place (record { level = climb.level - 1; called = is_base o })
unfolding frames_left
climb_called parts place climb o called some within is =
    rw (called, at_level place climb o some within is) (callers_called parts o (reverse (take (climb.level - 1) place.outer.items)))

pub climb_looped : (parts : Parts) (place : Place) (climb : Climb) (o : Level) → climb.called ≡ false → 0 < climb.level → climb.level ≤ length place.outer.items → o ≡ get_or place.outer.items (climb.level - 1) o →
    frames_left parts place climb ≡ frames_left parts place (record { level = climb.level - 1; called = is_base o })
unfolding frames_left
climb_looped parts place climb o called some within is =
    rw (called, at_level place climb o some within is) (callers_looped parts o (reverse (take (climb.level - 1) place.outer.items)))

no_callers : (parts : Parts) (called : Bool) → callers parts called [] ≡ []
unfolding callers
no_callers parts called = refl

pub climb_over : (parts : Parts) (place : Place) (climb : Climb) → climb.level ≡ 0 → frames_left parts place climb ≡ []
unfolding frames_left
climb_over parts place climb over = ap (λ n. callers parts climb.called (reverse (take n place.outer.items))) over ∙ no_callers parts climb.called
