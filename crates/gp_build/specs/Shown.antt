-- What a record shows of its goroutine, when two records show the same, and in which order that stands.
use Rattle.std.specs.Prelude.{◌==◌, ◌&&◌, ℕ, Bool, List}
use Rattle.std.specs.Str.{bytes_eq}
use Rattle.std.specs.Ordering.{nat_cmp, ordering_then}
use Rattle.std.specs.Cmp.Lexicographic.{slice_cmp, pointwise}
use Rattle.std.specs.declared.cmp.Ordering.{Ordering}
use Rattle.gp_isa.specs.declared.frame.Frame.{Frame}
use Rattle.gp_isa.specs.declared.parts.Parts.{Parts}
use Rattle.gp_isa.specs.declared.parts.Pair.{Pair}
use Rattle.gp_stack.specs.declared.record.Record.{Record}
use Rattle.gp_build.specs.Site.{function_of, labels_of}

-- a stack, the leaf first, and the labels of a label set
pub record Shown : Type 0 where
  pub stack : List Frame
  pub set : ℕ
  pub labels : List Pair

-- what a record shows
abbrev pub shown_in : Parts → Record → Shown
shown_in parts row = record { stack = row.stack; set = row.set; labels = labels_of parts row.set }

abbrev pub same_frame : Frame → Frame → Bool
same_frame a b = (a.function == b.function) && (a.line == b.line)

abbrev pub same_pair : Pair → Pair → Bool
same_pair a b = bytes_eq a.key b.key && bytes_eq a.value b.value

-- frame by frame and pair by pair, whatever the numbers of the label sets
abbrev pub same_shown : Shown → Shown → Bool
same_shown a b = pointwise same_frame a.stack b.stack && pointwise same_pair a.labels b.labels

-- Frames are ordered by the bytes of the function's name, then by line.
abbrev pub frame_cmp : Parts → Frame → Frame → Ordering
frame_cmp parts a b =
    ordering_then
    (slice_cmp nat_cmp (function_of parts a.function).name (function_of parts b.function).name)
    (nat_cmp a.line b.line)

-- Pairs are ordered by the bytes of the key, then by those of the value.
abbrev pub pair_cmp : Pair → Pair → Ordering
pair_cmp a b = ordering_then (slice_cmp nat_cmp a.key b.key) (slice_cmp nat_cmp a.value b.value)

-- Stacks are ordered frame by frame from the leaf, labels pair by pair, a proper prefix first.
abbrev pub shown_cmp : Parts → Shown → Shown → Ordering
shown_cmp parts a b = ordering_then (slice_cmp (frame_cmp parts) a.stack b.stack) (slice_cmp pair_cmp a.labels b.labels)
