-- The test of equality of stacks is an equivalence, and equal stacks are hashed alike.
use Rattle.std.specs.Prelude.{◌≡◌, ◌==◌, ◌+◌, ◌*◌, ℕ, true, List}
use Rattle.std.specs.Cmp.{IsEquivalence, and_equiv, on_equiv, nat_eq_equiv}
use Rattle.std.specs.Cmp.Lexicographic.{lists_equiv}
use Rattle.std.specs.Hash as fed
use Rattle.std.specs.Hash.{Alike, items_Alike}
use Rattle.std.proofs.lemmas.Bool.{and_parts, eqb-true}
use Rattle.gp_isa.specs.declared.frame.Frame.{Frame}
use Rattle.gp_stack.specs.Word.{word_of}
use Rattle.gp_events.specs.Event.{same_frame, same_stack}

-- what a hasher is fed of a frame, one word, and of a stack
abbrev pub frame_input : Frame → List (List ℕ)
frame_input frame = fed.u64 (word_of frame)

abbrev pub stack_input : List Frame → List (List ℕ)
stack_input stack = fed.slice frame_input stack

same_frame_equiv : IsEquivalence same_frame
same_frame_equiv =
    and_equiv
    (on_equiv (λ (frame : Frame). frame.function) nat_eq_equiv)
    (on_equiv (λ (frame : Frame). frame.line) nat_eq_equiv)

pub same_stack_equiv : IsEquivalence same_stack
same_stack_equiv = lists_equiv same_frame_equiv

frame_input-same : (a b : Frame) → same_frame a b ≡ true → frame_input a ≡ frame_input b
frame_input-same a b h =
    let both = and_parts (a.function == b.function) (a.line == b.line) h in
    let function = eqb-true a.function b.function both.0 in
    let line = eqb-true a.line b.line both.1 in
    λ i. fed.u64 (function i * 4294967296 + line i)

frame_alike : Alike same_frame frame_input
frame_alike = record { fed = frame_input-same }

pub stack_input-same : (a b : List Frame) → same_stack a b ≡ true → stack_input a ≡ stack_input b
stack_input-same = (items_Alike frame_alike).fed
