-- Where a goroutine stands, told by its trace and its count, which is the number of points that it has passed.
use Rattle.std.specs.Prelude.{◌≡◌, refl, ℕ, Bool, List, [], ◌∷◌, length, get_or, take, drop, nat_le}
use Rattle.std.specs.List.{prefix_len}
use Rattle.gp_isa.specs.declared.frame.Frame.{Frame}
use Rattle.gp_isa.specs.Trace.{Instruction, Local, Labels, Send, Point, is_local}

-- what stands for a point past the end of a trace
abbrev pub no_point : Point
no_point = record { stack = []; instruction = Local }

-- A goroutine's next point is number `count` of its trace, counted from 0.
unfoldable pub next_point : List Point → ℕ → Point
next_point points count = get_or points count no_point

-- its trace ends with the points that it has passed
unfoldable pub is_ended : List Point → ℕ → Bool
is_ended points count = nat_le (length points) count

-- A goroutine's stack is that of its next point.
unfoldable pub stack_of : List Point → ℕ → List Frame
stack_of points count = (next_point points count).stack

-- the set after a point, where it was `set` before it
abbrev pub set_after : ℕ → Instruction → ℕ
set_after set (Labels new) = new
set_after set _ = set

-- the set after points that are passed in turn
abbrev pub set_after_all : ℕ → List Point → ℕ
set_after_all set [] = set
set_after_all set (point ∷ points) = set_after_all (set_after set point.instruction) points

-- A goroutine's labels are the set of the last `labels` point that it has passed, else the set that it inherited.
unfoldable pub labels_of : List Point → ℕ → ℕ → ℕ
labels_of points inherited count = set_after_all inherited (take count points)

-- how many local points a goroutine has ahead, up to the next shared one or the end of its trace
unfoldable pub local_ahead : List Point → ℕ → ℕ
local_ahead points count = prefix_len (λ point. is_local point.instruction) (drop count points)

-- An example: after `labels 2` on line 4 a goroutine stands at line 5 with set 2, and two local points are ahead of
-- the send there.
abbrev example_points : List Point
example_points =
    record { stack = record { function = 0; line = 4 } ∷ []; instruction = Labels 2 }
    ∷ record { stack = record { function = 0; line = 5 } ∷ []; instruction = Local }
    ∷ record { stack = record { function = 0; line = 5 } ∷ []; instruction = Local }
    ∷ record { stack = record { function = 0; line = 6 } ∷ []; instruction = Send 0 } ∷ []

stands_at_line_5 : stack_of example_points 1 ≡ record { function = 0; line = 5 } ∷ []
unfolding stack_of next_point
stands_at_line_5 = refl

has_set_2 : labels_of example_points 0 1 ≡ 2
unfolding labels_of
has_set_2 = refl

two_ahead : local_ahead example_points 1 ≡ 2
unfolding local_ahead
two_ahead = refl
