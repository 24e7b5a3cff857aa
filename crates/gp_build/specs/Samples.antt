-- What records show, counted: each stack with labels once, with the number of records that show it, in order.
use Rattle.std.specs.Prelude.{ℕ, Bool, List, [], ◌∷◌, map, count_by, if◌then◌else◌}
use Rattle.std.specs.Ordering.{nat_cmp, ordering_then, is_lt}
use Rattle.std.specs.declared.cmp.Ordering.{Ordering}
use Rattle.gp_isa.specs.declared.parts.Parts.{Parts}
use Rattle.gp_stack.specs.declared.record.Record.{Record}
use Rattle.gp_build.specs.declared.samples.Group.{Group}
use Rattle.gp_build.specs.FirstNeed.{first_seen}
use Rattle.gp_build.specs.Shown.{Shown, shown_in, same_shown, shown_cmp}

-- a stack with labels and its count
abbrev pub group_of : Shown × ℕ → Group
group_of entry = record { shown = entry.0; count = entry.1 }

-- each of a list once, with how often it stands there
unfoldable pub groups_of : List Shown → List Group
groups_of all = map (λ shown. record { shown = shown; count = count_by (same_shown shown) all }) (first_seen same_shown all)

-- falling count, then stack, then labels
abbrev pub group_cmp : Parts → Group → Group → Ordering
group_cmp parts a b = ordering_then (nat_cmp b.count a.count) (shown_cmp parts a.shown b.shown)

module _ {X : Type 0} (before : X → X → Bool) where
  -- a list in order with one thing more, which stands in front of the first that isn't before it
  unfoldable pub put : X → List X → List X
  put x [] = x ∷ []
  put x (y ∷ ys) = if before y x then y ∷ put x ys else x ∷ y ∷ ys

  -- the list in order
  unfoldable pub in_order : List X → List X
  in_order [] = []
  in_order (x ∷ xs) = put x (in_order xs)

-- what records show, counted, in order
unfoldable pub groups_in_order : Parts → List Record → List Group
groups_in_order parts rows = in_order (λ a b. is_lt (group_cmp parts a b)) (groups_of (map (shown_in parts) rows))
