-- What a call leaves in the queue's fields, and which line that is.
use Rattle.std.proofs.Common.{◌≡◌, ℕ, ◌+◌, ◌-◌, ◌<◌, ◌≤◌, List, [], ◌∷◌, ◌++◌, get_or, set, sym, ap, ◌∙◌, subst, arith}
use Rattle.gp_machine.specs.Queue.{Line}
use Rattle.gp_journal.specs.Standing.{times, without}
use Rattle.gp_machine.specs.kept.Ring.{items_of, IsRing}
use Rattle.gp_machine.proofs.Rings.{room, ring_pushed, ring_fronted, before_within, behind_within, ring_left}

-- the line that links stand for
abbrev line_of : List ℕ → ℕ → ℕ → Line
line_of next end len = record { cells = end; items = items_of next end len }

module _ (next prev : List ℕ) (end len : ℕ) (ring : IsRing next prev end len) (line : Line) (view : line_of next end len ≡ line) (g : ℕ) (within : g < line.cells) where
  is_place : g < end
  is_place = omega (arith, within, ap (λ (l : Line). l.cells) view)

  count : times g (items_of next end len) ≡ times g line.items
  count = ap (λ (l : Line). times g l.items) view

  -- the fields are those of a ring that stands for another line
  replaced : (f : List ℕ → List ℕ) (next' prev' next'' prev'' : List ℕ) (len' : ℕ) → IsRing next' prev' end len' × (items_of next' end len' ≡ f (items_of next end len)) →
      next'' ≡ next' → prev'' ≡ prev' → IsRing next'' prev'' end len' × (line_of next'' end len' ≡ record line { items = f line.items })
  replaced f next' prev' next'' prev'' len' done nexts prevs =
      let ring' = subst (λ (n : List ℕ). IsRing n prev'' end len') (sym nexts) (subst (λ (p : List ℕ). IsRing next' p end len') (sym prevs) done.0) in
      let items : items_of next'' end len' ≡ f (items_of next end len) = ap (λ (n : List ℕ). items_of n end len') nexts ∙ done.1 in
      (ring', ap (λ (l : List ℕ). record { cells = end; items = l }) items ∙ ap (λ (l : Line). record l { items = f l.items }) view)

  module _ (absent : times g line.items ≡ 0) where
    pub has_room : len + 1 ≤ end
    has_room = room next prev end len ring g is_place (count ∙ absent)

    -- g was joined to the tail and to the end
    pub pushed : (tail : ℕ) (next' next'' prev' prev'' : List ℕ) → tail ≡ get_or prev end 0 → next' ≡ set next tail g → next'' ≡ set next' g end → prev' ≡ set prev g tail → prev'' ≡ set prev' end g →
        IsRing next'' prev'' end (len + 1) × (line_of next'' end (len + 1) ≡ record line { items = line.items ++ g ∷ [] })
    pushed tail next' next'' prev' prev'' tail_is next_is next_is' prev_is prev_is' =
        replaced (λ items. items ++ g ∷ []) (set (set next (get_or prev end 0) g) g end) (set (set prev g (get_or prev end 0)) end g) next'' prev'' (len + 1)
        (ring_pushed next prev end len ring g is_place (count ∙ absent))
        (next_is' ∙ ap (λ (l : List ℕ). set l g end) (next_is ∙ ap (λ (t : ℕ). set next t g) tail_is))
        (prev_is' ∙ ap (λ (l : List ℕ). set l end g) (prev_is ∙ ap (λ (t : ℕ). set prev g t) tail_is))

    -- g was joined to the end and to the head
    pub fronted : (head : ℕ) (next' next'' prev' prev'' : List ℕ) → head ≡ get_or next end 0 → next' ≡ set next end g → next'' ≡ set next' g head → prev' ≡ set prev g end → prev'' ≡ set prev' head g →
        IsRing next'' prev'' end (len + 1) × (line_of next'' end (len + 1) ≡ record line { items = g ∷ line.items })
    fronted head next' next'' prev' prev'' head_is next_is next_is' prev_is prev_is' =
        replaced (λ items. g ∷ items) (set (set next end g) g (get_or next end 0)) (set (set prev g end) (get_or next end 0) g) next'' prev'' (len + 1)
        (ring_fronted next prev end len ring g is_place (count ∙ absent))
        (next_is' ∙ ap (λ (l : List ℕ). set l g head) next_is ∙ ap (λ (h : ℕ). set (set next end g) g h) head_is)
        (prev_is' ∙ ap (λ (l : List ℕ). set l head g) prev_is ∙ ap (λ (h : ℕ). set (set prev g end) h g) head_is)

  module _ (one : times g line.items ≡ 1) where
    pub before_is_place : get_or prev g 0 < end + 1
    before_is_place = before_within next prev end len ring g is_place (count ∙ one)

    pub behind_is_place : get_or next g 0 < end + 1
    behind_is_place = behind_within next prev end len ring g is_place (count ∙ one)

    -- the neighbours of g were joined
    pub left : (before behind : ℕ) (next' prev' : List ℕ) → before ≡ get_or prev g 0 → behind ≡ get_or next g 0 → next' ≡ set next before behind → prev' ≡ set prev behind before →
        IsRing next' prev' end (len - 1) × (line_of next' end (len - 1) ≡ record line { items = without g line.items })
    left before behind next' prev' before_is behind_is next_is prev_is =
        replaced (without g) (set next (get_or prev g 0) (get_or next g 0)) (set prev (get_or next g 0) (get_or prev g 0)) next' prev' (len - 1)
        (ring_left next prev end len ring g is_place (count ∙ one))
        (next_is ∙ ap (λ (b : ℕ). set next b behind) before_is ∙ ap (set next (get_or prev g 0)) behind_is)
        (prev_is ∙ ap (λ (b : ℕ). set prev b before) behind_is ∙ ap (set prev (get_or next g 0)) before_is)
