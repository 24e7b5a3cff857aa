-- Events, and the stacks that they show.
use Rattle.std.specs.Prelude.{◌==◌, ◌&&◌, ℕ, Bool, not, List, [], ◌∷◌, filter}
use Rattle.std.specs.Cmp.Lexicographic.{pointwise}
use Rattle.gp_isa.specs.declared.frame.Frame.{Frame}

-- An event: where it happened, the leaf first, how often it counts, and its delay in nanoseconds.
pub record Event : Type 0 where
  pub stack : List Frame
  pub count : ℕ
  pub delay : ℕ

abbrev pub same_frame : Frame → Frame → Bool
same_frame a b = (a.function == b.function) && (a.line == b.line)

-- frame by frame
abbrev pub same_stack : List Frame → List Frame → Bool
same_stack a b = pointwise same_frame a b

-- the stacks that events show, each once, in the order in which they are first met
unfoldable pub stacks_of : List Event → List (List Frame)
stacks_of [] = []
stacks_of (event ∷ events) = event.stack ∷ filter (λ other. not (same_stack event.stack other)) (stacks_of events)
