-- The order of sums in a profile: falling delay, then stack.
use Rattle.std.specs.Prelude.{ℕ, Bool, List, [], ◌∷◌, if◌then◌else◌, slice_get}
use Rattle.std.specs.Option.{option_map_or}
use Rattle.std.specs.Ordering.{nat_cmp, ordering_then, is_lt}
use Rattle.std.specs.Cmp.Lexicographic.{slice_cmp}
use Rattle.std.specs.declared.cmp.Ordering.{Ordering}
use Rattle.gp_isa.specs.declared.frame.Frame.{Frame}
use Rattle.gp_isa.specs.declared.parts.Function.{Function}
use Rattle.gp_isa.specs.declared.parts.Parts.{Parts}
use Rattle.gp_events.specs.declared.sum.Sum.{Sum}

-- the bytes of a function's name, of which one that the program doesn't have has none
abbrev pub name_of : Parts → ℕ → List ℕ
name_of parts f = option_map_or (λ (function : Function). function.name) (slice_get parts.functions f) []

-- Frames are ordered by the bytes of the function's name, then by line.
abbrev pub frame_cmp : Parts → Frame → Frame → Ordering
frame_cmp parts a b = ordering_then (slice_cmp nat_cmp (name_of parts a.function) (name_of parts b.function)) (nat_cmp a.line b.line)

-- Stacks are ordered frame by frame from the leaf, a proper prefix first.
abbrev pub stack_cmp : Parts → List Frame → List Frame → Ordering
stack_cmp parts a b = slice_cmp (frame_cmp parts) a b

-- falling delay, then stack
abbrev pub sum_cmp : Parts → Sum → Sum → Ordering
sum_cmp parts a b = ordering_then (nat_cmp b.delay a.delay) (stack_cmp parts a.stack b.stack)

-- whether one sum stands in front of another
abbrev pub is_before : Parts → Sum → Sum → Bool
is_before parts a b = is_lt (sum_cmp parts a b)

module _ {X : Type 0} (before : X → X → Bool) where
  -- a list in order with one thing more, which stands in front of the first that isn't before it
  unfoldable pub put : X → List X → List X
  put x [] = x ∷ []
  put x (y ∷ ys) = if before y x then y ∷ put x ys else x ∷ y ∷ ys

  -- the list in order
  unfoldable pub in_order : List X → List X
  in_order [] = []
  in_order (x ∷ xs) = put x (in_order xs)

-- Sums in the order of a profile.
unfoldable pub sums_in_order : Parts → List Sum → List Sum
sums_in_order parts all = in_order (is_before parts) all
