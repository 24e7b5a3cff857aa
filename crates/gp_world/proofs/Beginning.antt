-- What a world keeps as it begins.
use Rattle.std.proofs.Common.{◌≡◌, inl, inr, ◌+◌, ◌-◌, ℕ, zero, suc, List, [], ◌∷◌, length, get_or, replicate, refl, sym, ap, ◌∙◌, subst, arith}
use Rattle.std.specs.List.{AllByRecursion}
use Rattle.std.proofs.lemmas.Bool.{cases_lt}
use Rattle.std.proofs.lemmas.List.{get_or-replicate, length-replicate, get_or_past}
use Rattle.gp_isa.specs.declared.parts.Parts.{Parts}
use Rattle.gp_stack.specs.Body.{HasRoom}
use Rattle.gp_stack.specs.declared.body.Body.{Body}
use Rattle.gp_journal.specs.declared.goroutine.Worker.{Worker}
use Rattle.gp_journal.specs.declared.settings.Settings.{Settings}
use Rattle.gp_journal.specs.Settings.{AreInRange}
use Rattle.gp_journal.specs.State.{code_of, worker, resting, first}
use Rattle.gp_machine.specs.Queue.{Line}
use Rattle.gp_ring.specs.TwoEnds.{WriterEnd}
use Rattle.gp_samples.specs.RunEnds.{AreOffers}
use Rattle.gp_tally.specs.declared.row.Row.{Row}
use Rattle.gp_world.specs.declared.ring_end.RingEnd.TheVariants.{Writing}
use Rattle.gp_world.specs.declared.world.Numbers.{Numbers}
use Rattle.gp_world.specs.Rows.{blank, row_of, on_of}
use Rattle.gp_world.specs.kept.World.{IsWorld, AreRows, picks, picks_by}
use Rattle.gp_world.proofs.Entering.{expected_first}

same_everywhere : {X : Type 0} (n k : ℕ) (x : X) → get_or (replicate n x) k x ≡ x
same_everywhere n k x = elim (cases_lt k n) [ inl within ↦ get_or-replicate n k x x within | inr past ↦ get_or_past (replicate n x) k x (omega (arith, length-replicate n x)) ]

nobody_picked : (m n g : ℕ) → picks (replicate m blank) n g ≡ 0
nobody_picked m zero g = refl
nobody_picked m (suc n) g =
    let here = ap (λ (r : Row). picks_by r g) (same_everywhere m n blank) in let before = nobody_picked m n g in omega arith

module _ (program : Parts) (settings : Settings) (range : AreInRange settings) where
  rest : (actor : ℕ) → worker (first (code_of program) settings) actor ≡ resting
  rest actor = same_everywhere settings.workers actor resting

  -- the rows of actors that have done nothing
  rows_begun : AreRows program settings [] (0 ∷ []) (replicate (settings.workers + 1) blank)
  rows_begun = record {
    actors = length-replicate (settings.workers + 1) blank;
    counted = λ actor within.
        let none = same_everywhere (settings.workers + 1) actor blank in
        subst (λ (r : Row). r ≡ row_of program settings [] actor r.a r.b) (sym none)
        (λ i. record { a = 0; b = 0; c = 0; d = (sym (rest actor) i).instructions });
    works = λ w within.
        ap (λ (v : Worker). v.runs) (rest w) ∙ ap on_of (sym (same_everywhere (settings.workers + 1) w blank));
    waits = λ g. let none = nobody_picked (settings.workers + 1) settings.workers g in omega arith;
    profiles =
        let none = same_everywhere (settings.workers + 1) settings.workers blank in
        rw none (record { epoch = refl; is_one = inl (refl, refl) });
  }

  pub begun : (line : Line) (writer : WriterEnd) (rows : List Row) (unborn : List Body) (numbers : Numbers) →
      line ≡ record { cells = settings.cells; items = 0 ∷ [] } → AreOffers program settings [] writer.ring writer.offers → rows ≡ replicate (settings.workers + 1) blank →
      length unborn ≡ settings.cells - 1 → AllByRecursion (HasRoom program) unborn →
      numbers.workers ≡ settings.workers → numbers.room ≡ settings.room → numbers.expected ≡ 0 →
      IsWorld program settings [] line (Writing writer) rows unborn numbers
  begun line writer rows unborn numbers line_is offers rows_are each vacant workers room expected = record {
    in_range = range;
    legal = tt;
    its_cells = ap (λ (l : Line). l.cells) line_is;
    its_rows = rw (line_is, rows_are) rows_begun;
    its_ring =
        let none : (get_or rows settings.workers blank).a ≡ 0 =
        ap (λ (all : List Row). (get_or all settings.workers blank).a) rows_are ∙ ap (λ (r : Row). r.a) (same_everywhere (settings.workers + 1) settings.workers blank) in
        (omega arith, offers);
    its_unborn = record { each = let some = range.some_cell in omega arith; vacant = vacant };
    its_numbers = record { its_workers = workers; its_room = room; its_expected = expected ∙ sym (expected_first (code_of program) settings) };
  }
