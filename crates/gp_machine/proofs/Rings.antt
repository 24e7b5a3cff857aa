-- Links lead through a line again once a goroutine stands at its tail or its head, or one has left it.
use Rattle.std.proofs.Common.{◌≡◌, ◌≢◌, ℕ, zero, suc, ◌+◌, ◌-◌, ◌<◌, ◌≤◌, Some, List, [], ◌∷◌, ◌++◌, length, get_or, set, replicate, refl, sym, ap, ◌∙◌, subst, inl, inr, arith}
use Rattle.std.proofs.lemmas.List.{get_or-set_same, get_or-set_other, length-set, length_push, get_or-replicate, length-replicate}
use Rattle.std.proofs.lemmas.Bool.{cases_eq}
use Rattle.gp_journal.specs.Standing.{head_of, times, without}
use Rattle.gp_machine.specs.kept.Ring.{walked, items_of, AreNeighbours, Leads, IsRing}
use Rattle.gp_journal.proofs.Lemmas.{head_below, times-cons, times_push, one_at, none_at, other_than, length-without, times_without, without_head, without_other, length-of_different}

module _ (next prev : List ℕ) where
  -- links that lead through a line give it
  pub walked_is : (a : ℕ) (items : List ℕ) (end : ℕ) → Leads next prev a items end → walked next (get_or next a 0) (length items) ≡ items
  walked_is a [] end leads = refl
  walked_is a (x ∷ rest) end leads =
      let here : get_or next a 0 ≡ x = leads.0.behind in
      let later = walked_is x rest end leads.1 in
      rw (here, later) refl

  pub length-walked : (a n : ℕ) → length (walked next a n) ≡ n
  length-walked a zero = refl
  length-walked a (suc n) = ap suc (length-walked (get_or next a 0) n)

  -- the last place is the one before the end
  last_leads : (a : ℕ) (items : List ℕ) (end : ℕ) → Leads next prev a items end → get_or next (get_or prev end 0) 0 ≡ end
  last_leads a [] end leads = ap (λ (p : ℕ). get_or next p 0) leads.before ∙ leads.behind
  last_leads a (x ∷ rest) end leads = last_leads x rest end leads.1

  -- it is a place
  pub last_within : (a : ℕ) (items : List ℕ) (end n : ℕ) → Leads next prev a items end → a ≤ n → ((k : ℕ) → n ≤ k → times k items ≡ 0) → get_or prev end 0 ≤ n
  last_within a [] end n leads lt within = omega (arith, leads.before)
  last_within a (x ∷ rest) end n leads lt within =
      last_within x rest end n leads.1 (omega (arith, head_below x rest n within)) (λ k past. omega (arith, within k past, times-cons k x rest))

  -- it isn't one that stands nowhere
  last_other : (a : ℕ) (items : List ℕ) (end g : ℕ) → Leads next prev a items end → a ≢ g → times g items ≡ 0 → get_or prev end 0 ≢ g
  last_other a [] end g leads other none = λ same. other (sym leads.before ∙ same)
  last_other a (x ∷ rest) end g leads other none =
      last_other x rest end g leads.1 (other_than x g rest none) (omega (arith, none, times-cons g x rest))

  -- the place behind the first
  second : (a : ℕ) (items : List ℕ) (end n : ℕ) → Leads next prev a items end → end ≤ n → ((k : ℕ) → n ≤ k → times k items ≡ 0) → (get_or prev (get_or next a 0) 0 ≡ a) × (get_or next a 0 ≤ n)
  second a [] end n leads last within =
      (ap (λ (k : ℕ). get_or prev k 0) leads.behind ∙ leads.before, omega (arith, leads.behind))
  second a (x ∷ rest) end n leads last within =
      (ap (λ (k : ℕ). get_or prev k 0) leads.0.behind ∙ leads.0.before, omega (arith, leads.0.behind, head_below x rest n within))

-- a place whose neighbours name it
record IsAmid (next : List ℕ) (prev : List ℕ) (g : ℕ) (n : ℕ) : Type 0 where
  pub before : get_or prev g 0 ≤ n
  pub behind : get_or next g 0 ≤ n
  pub forth : get_or next (get_or prev g 0) 0 ≡ g
  pub back : get_or prev (get_or next g 0) 0 ≡ g

amid : (next prev : List ℕ) (a : ℕ) (items : List ℕ) (end n g : ℕ) → Leads next prev a items end → a ≤ n → end ≤ n → ((k : ℕ) → n ≤ k → times k items ≡ 0) → 1 ≤ times g items → IsAmid next prev g n
amid next prev a [] end n g leads first last within is_in = absurd (omega (arith, is_in))
amid next prev a (x ∷ rest) end n g leads first last within is_in =
    let within' : (k : ℕ) → n ≤ k → times k rest ≡ 0 = λ k past. omega (arith, within k past, times-cons k x rest) in
    let here : x ≡ g → IsAmid next prev g n = λ same.
    let behind = second next prev x rest end n leads.1 last within' in
    let at_x : IsAmid next prev x n = record {
      before = omega (arith, leads.0.before);
      behind = behind.1;
      forth = ap (λ (k : ℕ). get_or next k 0) leads.0.before ∙ leads.0.behind;
      back = behind.0;
    } in
    subst (λ (k : ℕ). IsAmid next prev k n) same at_x in
    let later : x ≢ g → IsAmid next prev g n = λ other.
    amid next prev x rest end n g leads.1 (omega (arith, head_below x rest n within)) last within' (omega (arith, is_in, times-cons g x rest, none_at x g other)) in
    elim (cases_eq x g) [ inl same ↦ here same | inr other ↦ later other ]

-- the links once g stands between the tail and the end
record IsPushed (next : List ℕ) (prev : List ℕ) (next' : List ℕ) (prev' : List ℕ) (end : ℕ) (g : ℕ) : Type 0 where
  pub links : (k : ℕ) → k ≢ get_or prev end 0 → k ≢ g → get_or next' k 0 ≡ get_or next k 0
  pub to : get_or next' (get_or prev end 0) 0 ≡ g
  pub on : get_or next' g 0 ≡ end
  pub backs : (k : ℕ) → k ≢ g → k ≢ end → get_or prev' k 0 ≡ get_or prev k 0
  pub back : get_or prev' g 0 ≡ get_or prev end 0
  pub last : get_or prev' end 0 ≡ g

leads_pushed : (next prev next' prev' : List ℕ) (a : ℕ) (items : List ℕ) (end g : ℕ) → IsPushed next prev next' prev' end g → Leads next prev a items end → a ≢ g → times g items ≡ 0 →
    times end items ≡ 0 → Leads next' prev' a (items ++ g ∷ []) end
leads_pushed next prev next' prev' a [] end g made leads other none inner =
    let to : get_or next' a 0 ≡ g = ap (λ (k : ℕ). get_or next' k 0) (sym leads.before) ∙ made.to in
    (record { behind = to; before = made.back ∙ leads.before }, record { behind = made.on; before = made.last })
leads_pushed next prev next' prev' a (x ∷ rest) end g made leads other none inner =
    let not_last : a ≢ get_or prev end 0 = λ same. other_than x end rest inner (sym leads.0.behind ∙ ap (λ (k : ℕ). get_or next k 0) same ∙ last_leads next prev x rest end leads.1) in
    let behind = made.links a not_last other ∙ leads.0.behind in
    let before = made.backs x (other_than x g rest none) (other_than x end rest inner) ∙ leads.0.before in
    let later = leads_pushed next prev next' prev' x rest end g made leads.1 (other_than x g rest none) (omega (arith, none, times-cons g x rest)) (omega (arith, inner, times-cons end x rest)) in
    (record { behind = behind; before = before }, later)

-- the links once g stands between the end and the head
record IsFronted (next : List ℕ) (prev : List ℕ) (next' : List ℕ) (prev' : List ℕ) (end : ℕ) (g : ℕ) : Type 0 where
  pub links : (k : ℕ) → k ≢ end → k ≢ g → get_or next' k 0 ≡ get_or next k 0
  pub to : get_or next' end 0 ≡ g
  pub on : get_or next' g 0 ≡ get_or next end 0
  pub backs : (k : ℕ) → k ≢ g → k ≢ get_or next end 0 → get_or prev' k 0 ≡ get_or prev k 0
  pub back : get_or prev' g 0 ≡ end
  pub last : get_or prev' (get_or next end 0) 0 ≡ g

module _ (next prev next' prev' : List ℕ) (end g : ℕ) (made : IsFronted next prev next' prev' end g) (outer : end ≢ g) where
  -- links from a place behind the head on stay
  behind_stay : (a : ℕ) (items : List ℕ) → Leads next prev a items end → a ≢ end → a ≢ g → times end items ≡ 0 → times g items ≡ 0 →
      times (get_or next end 0) items ≡ 0 → end ≢ get_or next end 0 → Leads next' prev' a items end
  behind_stay a [] leads not_end not_g inner none apart past =
      record { behind = made.links a not_end not_g ∙ leads.behind; before = made.backs end outer past ∙ leads.before }
  behind_stay a (x ∷ rest) leads not_end not_g inner none apart past =
      let x_g = other_than x g rest none in
      let near : AreNeighbours next' prev' a x = record {
        behind = made.links a not_end not_g ∙ leads.0.behind;
        before = made.backs x x_g (other_than x (get_or next end 0) rest apart)
            ∙ leads.0.before;
      } in
      let later = behind_stay x rest leads.1 (other_than x end rest inner) x_g (omega (arith, inner, times-cons end x rest))
      (omega (arith, none, times-cons g x rest)) (omega (arith, apart, times-cons (get_or next end 0) x rest)) past in
      (near, later)

  leads_fronted : (items : List ℕ) → Leads next prev end items end → times end items ≡ 0 → times g items ≡ 0 → ((k : ℕ) → times k items ≤ 1) →
      Leads next' prev' end (g ∷ items) end
  leads_fronted [] leads inner none once =
      let before = ap (λ (k : ℕ). get_or prev' k 0) (sym leads.behind) ∙ made.last in
      (record { behind = made.to; before = made.back }, record { behind = made.on ∙ leads.behind; before = before })
  leads_fronted (x ∷ rest) leads inner none once =
      let head : get_or next end 0 ≡ x = leads.0.behind in
      let x_end = other_than x end rest inner in
      let alone : times x rest ≡ 0 = omega (arith, once x, times-cons x x rest, one_at x) in
      let before = ap (λ (k : ℕ). get_or prev' k 0) (sym head) ∙ made.last in
      let later = behind_stay x rest leads.1 x_end (other_than x g rest none) (omega (arith, inner, times-cons end x rest))
      (omega (arith, none, times-cons g x rest)) (subst (λ (k : ℕ). times k rest ≡ 0) (sym head) alone) (λ same. x_end (sym (same ∙ head))) in
      (record { behind = made.to; before = made.back }, (record { behind = made.on ∙ head; before = before }, later))

-- the head is another than one that stands nowhere
head_other : (next prev items : List ℕ) (end g : ℕ) → Leads next prev end items end → end ≢ g → times g items ≡ 0 → get_or next end 0 ≢ g
head_other next prev [] end g leads past none = λ same. past (sym leads.behind ∙ same)
head_other next prev (x ∷ rest) end g leads past none = λ same. other_than x g rest none (sym leads.0.behind ∙ same)

-- the links once g is gone
record IsLeft (next : List ℕ) (prev : List ℕ) (next' : List ℕ) (prev' : List ℕ) (g : ℕ) : Type 0 where
  pub links : (k : ℕ) → get_or next k 0 ≢ g → get_or next' k 0 ≡ get_or next k 0
  pub to : get_or next' (get_or prev g 0) 0 ≡ get_or next g 0
  pub backs : (k : ℕ) → get_or prev k 0 ≢ g → get_or prev' k 0 ≡ get_or prev k 0
  pub back : get_or prev' (get_or next g 0) 0 ≡ get_or prev g 0

module _ (next prev next' prev' : List ℕ) (end g : ℕ) (made : IsLeft next prev next' prev' g) (outer : end ≢ g) where
  joined : (a b : ℕ) → AreNeighbours next prev a b → a ≢ g → b ≢ g → AreNeighbours next' prev' a b
  joined a b leads other other' = record {
    behind = made.links a (λ same. other' (sym leads.behind ∙ same)) ∙ leads.behind;
    before = made.backs b (λ same. other (sym leads.before ∙ same)) ∙ leads.before;
  }

  -- a line that g doesn't stand in stays
  leads_kept : (a : ℕ) (items : List ℕ) → Leads next prev a items end → a ≢ g → times g items ≡ 0 → Leads next' prev' a items end
  leads_kept a [] leads other none = joined a end leads other outer
  leads_kept a (x ∷ rest) leads other none =
      let other' = other_than x g rest none in
      (joined a x leads.0 other other', leads_kept x rest leads.1 other' (omega (arith, none, times-cons g x rest)))

  -- what leads to g leads on to what is behind it
  across : (a b : ℕ) → AreNeighbours next prev a g → AreNeighbours next prev g b → AreNeighbours next' prev' a b
  across a b leads leads' = record {
    behind = ap (λ (k : ℕ). get_or next' k 0) (sym leads.before) ∙ made.to ∙ leads'.behind;
    before = ap (λ (k : ℕ). get_or prev' k 0) (sym leads'.behind) ∙ made.back ∙ leads.before;
  }

  leads_across : (a : ℕ) (rest : List ℕ) → AreNeighbours next prev a g → Leads next prev g rest end → times g rest ≡ 0 → Leads next' prev' a rest end
  leads_across a [] near leads none = across a end near leads
  leads_across a (x ∷ rest) near leads none =
      (across a x near leads.0, leads_kept x rest leads.1 (other_than x g rest none) (omega (arith, none, times-cons g x rest)))

  leads_left : (a : ℕ) (items : List ℕ) → Leads next prev a items end → a ≢ g → times g items ≡ 1 → Leads next' prev' a (without g items) end
  leads_left a [] leads other once = absurd (omega (arith, once))
  leads_left a (x ∷ rest) leads other once =
      let here : x ≡ g → Leads next' prev' a (without g (x ∷ rest)) end = λ same.
      let once' : times g (g ∷ rest) ≡ 1 = subst (λ (k : ℕ). times g (k ∷ rest) ≡ 1) same once in
      let leads' : Leads next prev a (g ∷ rest) end = subst (λ (k : ℕ). Leads next prev a (k ∷ rest) end) same leads in
      let there : Leads next' prev' a rest end = leads_across a rest leads'.0 leads'.1 (omega (arith, once', times-cons g g rest, one_at g)) in
      subst (λ (k : ℕ). Leads next' prev' a (without g (k ∷ rest)) end) (sym same)
      (subst (λ (line : List ℕ). Leads next' prev' a line end) (sym (without_head g rest once')) there) in
      let later : x ≢ g → Leads next' prev' a (without g (x ∷ rest)) end = λ different.
      let there = leads_left x rest leads.1 different (omega (arith, once, times-cons g x rest, none_at x g different)) in
      subst (λ (line : List ℕ). Leads next' prev' a line end) (sym (without_other g x rest different)) (joined a x leads.0 other different, there) in
      elim (cases_eq x g) [ inl same ↦ here same | inr different ↦ later different ]

-- links that lead round through different goroutines stand for them
ring_of : (next prev : List ℕ) (end len : ℕ) (items : List ℕ) → length next ≡ end + 1 → length prev ≡ end + 1 → Leads next prev end items end → len ≡ length items → ((k : ℕ) → times k items ≤ 1) →
    ((k : ℕ) → end ≤ k → times k items ≡ 0) → IsRing next prev end len × (items_of next end len ≡ items)
ring_of next prev end len items nexts prevs leads count once within =
    let same : items_of next end len ≡ items = ap (items_of next end) count ∙ walked_is next prev end items end leads in
    let back = sym same in (
      record {
        nexts = nexts;
        prevs = prevs;
        leads = subst (λ (line : List ℕ). Leads next prev end line end) back leads;
        once = subst (λ (line : List ℕ). (k : ℕ) → times k line ≤ 1) back once;
        within = subst (λ (line : List ℕ). (k : ℕ) → end ≤ k → times k line ≡ 0) back within;
      },
      same,
    )

module _ (next prev : List ℕ) (end len : ℕ) (ring : IsRing next prev end len) where
  abbrev items : List ℕ
  items = items_of next end len

  pub length-items : length (items_of next end len) ≡ len
  length-items = length-walked next prev (get_or next end 0) len

  pub head_within : get_or next end 0 < end + 1
  head_within = omega (arith, (second next prev end items end end ring.leads (omega arith) ring.within).1)

  pub tail_within : get_or prev end 0 < end + 1
  tail_within = omega (arith, last_within next prev end items end end ring.leads (omega arith) ring.within)

  module _ (g : ℕ) (within : g < end) (none : times g (items_of next end len) ≡ 0) where
    abbrev tail : ℕ
    tail = get_or prev end 0

    abbrev next' : List ℕ
    next' = set (set next tail g) g end

    abbrev prev' : List ℕ
    prev' = set (set prev g tail) end g

    past : end ≢ g
    past same = omega arith

    tail_other : tail ≢ g
    tail_other = last_other next prev end items end g ring.leads past none

    pushed_is : IsPushed next prev next' prev' end g
    pushed_is = record {
      links = λ k other other'. get_or-set_other (set next tail g) g k end 0 other' ∙ get_or-set_other next tail k g 0 other;
      to = get_or-set_other (set next tail g) g tail end 0 tail_other ∙ get_or-set_same next tail g 0 (omega (arith, tail_within, ring.nexts));
      on = get_or-set_same (set next tail g) g end 0 (omega (arith, length-set next tail g, ring.nexts));
      backs = λ k other other'. get_or-set_other (set prev g tail) end k g 0 other' ∙ get_or-set_other prev g k tail 0 other;
      back = get_or-set_other (set prev g tail) end g g 0 (λ same. past (sym same)) ∙ get_or-set_same prev g tail 0 (omega (arith, ring.prevs));
      last = get_or-set_same (set prev g tail) end g 0 (omega (arith, length-set prev g tail, ring.prevs));
    }

    once_pushed : (k : ℕ) → times k (items ++ g ∷ []) ≤ 1
    once_pushed k =
        let other : g ≢ k → times k (items ++ g ∷ []) ≤ 1 = λ different. omega (arith, times_push k items g, none_at g k different, ring.once k) in
        let here : g ≡ k → times k (items ++ g ∷ []) ≤ 1 = λ same. subst (λ (j : ℕ). times j (items ++ g ∷ []) ≤ 1) same (omega (arith, times_push g items g, one_at g, none)) in
        elim (cases_eq g k) [ inl same ↦ here same | inr different ↦ other different ]

    within_pushed : (k : ℕ) → end ≤ k → times k (items ++ g ∷ []) ≡ 0
    within_pushed k past =
        omega (arith, times_push k items g, none_at g k (λ same. omega (arith, same)), ring.within k past)

    pub room : len + 1 ≤ end
    room =
        omega (arith, length-of_different end (items ++ g ∷ []) once_pushed within_pushed, length_push items g, length-items)

    pub ring_pushed : IsRing (set (set next (get_or prev end 0) g) g end) (set (set prev g (get_or prev end 0)) end g) end (len + 1) ×
        (items_of (set (set next (get_or prev end 0) g) g end) end (len + 1) ≡ items_of next end len ++ g ∷ [])
    ring_pushed =
        ring_of next' prev' end (len + 1) (items ++ g ∷ [])
        (omega (arith, length-set (set next tail g) g end, length-set next tail g, ring.nexts))
        (omega (arith, length-set (set prev g tail) end g, length-set prev g tail, ring.prevs))
        (leads_pushed next prev next' prev' end items end g pushed_is ring.leads past none (ring.within end (omega arith)))
        (omega (arith, length_push items g, length-items))
        once_pushed within_pushed

    abbrev head : ℕ
    head = get_or next end 0

    fronted_is : IsFronted next prev (set (set next end g) g head) (set (set prev g end) head g) end g
    fronted_is = record {
      links = λ k other other'. get_or-set_other (set next end g) g k head 0 other' ∙ get_or-set_other next end k g 0 other;
      to = get_or-set_other (set next end g) g end head 0 past ∙ get_or-set_same next end g 0 (omega (arith, ring.nexts));
      on = get_or-set_same (set next end g) g head 0 (omega (arith, length-set next end g, ring.nexts));
      backs = λ k other other'. get_or-set_other (set prev g end) head k g 0 other' ∙ get_or-set_other prev g k end 0 other;
      back =
          get_or-set_other (set prev g end) head g g 0 (λ same. head_other next prev items end g ring.leads past none (sym same))
          ∙ get_or-set_same prev g end 0 (omega (arith, ring.prevs));
      last = get_or-set_same (set prev g end) head g 0 (omega (arith, length-set prev g end, ring.prevs, head_within));
    }

    once_fronted : (k : ℕ) → times k (g ∷ items) ≤ 1
    once_fronted k = omega (arith, once_pushed k, times_push k items g, times-cons k g items)

    pub ring_fronted : IsRing (set (set next end g) g (get_or next end 0)) (set (set prev g end) (get_or next end 0) g) end (len + 1)
        × (items_of (set (set next end g) g (get_or next end 0)) end (len + 1) ≡ g ∷ items_of next end len)
    ring_fronted =
        ring_of (set (set next end g) g head) (set (set prev g end) head g) end (len + 1) (g ∷ items)
        (omega (arith, length-set (set next end g) g head, length-set next end g, ring.nexts))
        (omega (arith, length-set (set prev g end) head g, length-set prev g end, ring.prevs))
        (leads_fronted next prev (set (set next end g) g head) (set (set prev g end) head g) end g fronted_is past items ring.leads (ring.within end (omega arith)) none ring.once)
        (omega (arith, length-items))
        once_fronted
        (λ k beyond. omega (arith, within_pushed k beyond, times_push k items g, times-cons k g items))

  module _ (g : ℕ) (within : g < end) (one : times g (items_of next end len) ≡ 1) where
    abbrev before : ℕ
    before = get_or prev g 0

    abbrev behind : ℕ
    behind = get_or next g 0

    amid_is : IsAmid next prev g end
    amid_is = amid next prev end items end end g ring.leads (omega arith) (omega arith) ring.within (omega (arith, one))

    pub before_within : get_or prev g 0 < end + 1
    before_within = omega (arith, amid_is.before)

    pub behind_within : get_or next g 0 < end + 1
    behind_within = omega (arith, amid_is.behind)

    left_is : IsLeft next prev (set next before behind) (set prev behind before) g
    left_is = record {
      links = λ k other. get_or-set_other next before k behind 0 (λ same. other (ap (λ (j : ℕ). get_or next j 0) same ∙ amid_is.forth));
      to = get_or-set_same next before behind 0 (omega (arith, before_within, ring.nexts));
      backs = λ k other. get_or-set_other prev behind k before 0 (λ same. other (ap (λ (j : ℕ). get_or prev j 0) same ∙ amid_is.back));
      back = get_or-set_same prev behind before 0 (omega (arith, behind_within, ring.prevs));
    }

    pub ring_left : IsRing (set next (get_or prev g 0) (get_or next g 0)) (set prev (get_or next g 0) (get_or prev g 0)) end (len - 1) ×
        (items_of (set next (get_or prev g 0) (get_or next g 0)) end (len - 1) ≡ without g (items_of next end len))
    ring_left =
        ring_of (set next before behind) (set prev behind before) end (len - 1) (without g items)
        (omega (arith, length-set next before behind, ring.nexts))
        (omega (arith, length-set prev behind before, ring.prevs))
        (leads_left next prev (set next before behind) (set prev behind before) end g left_is (λ same. omega (arith, same)) end items ring.leads (λ same. omega (arith, same)) one)
        (omega (arith, length-without g items, length-items, one))
        (λ k. omega (arith, times_without k g items, ring.once k))
        (λ k past. omega (arith, times_without k g items, ring.within k past))

-- who is behind the end's place stands at the head
pub head_is : (next : List ℕ) (end len : ℕ) → len ≢ 0 → head_of (items_of next end len) ≡ Some (get_or next end 0)
head_is next end zero some = absurd (some refl)
head_is next end (suc n) some = refl

-- nobody stands in the queue at first
pub ring_new : (end : ℕ) → IsRing (replicate (end + 1) end) (replicate (end + 1) end) end 0
ring_new end =
    let at : get_or (replicate (end + 1) end) end 0 ≡ end = get_or-replicate (end + 1) end end 0 (omega arith) in
    (ring_of (replicate (end + 1) end) (replicate (end + 1) end) end 0 []
    (length-replicate (end + 1) end)
    (length-replicate (end + 1) end)
    (record { behind = at; before = at })
    refl
    (λ k. omega arith)
    (λ k past. refl)).0
