-- The world's book and ring stay over each call, and whose share it is.
use Rattle.std.proofs.Common.{◌≡◌, ℕ, List, [], ◌∷◌, refl, sym, ap, ◌∙◌, subst}
use Rattle.std.specs.Prelude.{Option, Some, None, map}
use Rattle.std.specs.List.{AllByRecursion}
use Rattle.atomic_table.specs.Seated.{TableId}
use Rattle.gp_journal.specs.declared.entry.Entry.{Entry}
use Rattle.gp_ring.specs.TwoEnds.{RingOf}
use Rattle.gp_tally.specs.Rows.{Part}
use Rattle.gp_tally.specs.declared.row.Row.{Row}
use Rattle.gp_world.specs.Rows.{share_of}
use Rattle.gp_world.specs.RingEnds.{IsOf}
use Rattle.gp_world.specs.Scene.{Scene}
use Rattle.gp_profiler.specs.Calls.{with_entry, share_with}
use Rattle.gp_world_tests.specs.Playing.{IsShareOf, Keeps}

-- where both are told, and the ring's end is of the same ring
pub keeps_so : (old new told : Scene) (was who note : Part) → new ≡ told → who ≡ note → told.book ≡ old.book → note.book ≡ was.book → ((ring : RingOf) → IsOf old.ring ring → IsOf new.ring ring) → Keeps old new was who
keeps_so old new told was who note scene share same its of_ring = record {
  same_book = ap (λ (s : Scene). s.book) scene ∙ same;
  still_of = of_ring;
  its_book = ap (λ (p : Part). p.book) share ∙ its;
}

-- or where it is the same end
pub keeps : (old new told : Scene) (was who note : Part) → new ≡ told → who ≡ note → told.book ≡ old.book → note.book ≡ was.book → told.ring ≡ old.ring → Keeps old new was who
keeps old new told was who note scene share same its ring =
    keeps_so old new told was who note scene share same its (λ it is. subst (λ end. IsOf end it) (sym (ap (λ (s : Scene). s.ring) scene ∙ ring)) is)

-- by one entry of the profiler's calls, or none
pub keeps_entered : (old new : Scene) (was who : Part) (made : Option Entry) (row : Row) → new ≡ with_entry old made → who ≡ share_with was made row → Keeps old new was who
keeps_entered old new was who None row scene share = keeps old new old was who was scene share refl refl refl
keeps_entered old new was who (Some entry) row scene share =
    keeps old new (with_entry old (Some entry)) was who (share_with was (Some entry) row) scene share refl refl refl

-- Shares that are issued are of their book.
pub issued : (book : TableId) (numbers : List ℕ) → AllByRecursion (IsShareOf book) (map (share_of book) numbers)
issued book [] = tt
issued book (n ∷ numbers) = (refl, issued book numbers)
