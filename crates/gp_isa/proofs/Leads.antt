-- Ways of calls: how they are put together, taken apart and cut short.
use Rattle.std.proofs.Common.{◌≡◌, ℕ, zero, suc, ◌+◌, ◌<◌, ◌≤◌, ◌⊎◌, Bool, true, false, ◌||◌, ◌&&◌, ◌==◌, List, [], ◌∷◌, ◌++◌, length, get_or, refl, sym, ◌∙◌, subst, inl, inr, arith, eqb, eqb-true, eq-eqb, true≢false}
use Rattle.std.specs.List.{All, AllByRecursion, IsDistinct, list_any}
use Rattle.std.proofs.lemmas.Bool.{cases_lt, cases_Bool, or_cases, or_left, or_right, or_parts, and_parts, and_from, false_from_ne_true}
use Rattle.std.proofs.lemmas.List.Elements.{All-nil, All-cons, All-head, All-tail, All-append, All-weaker}
use Rattle.std.proofs.lemmas.Map.Steps.{length-le_from_distinct_below}
use Rattle.gp_isa.specs.declared.parts.Parts.{Parts}
use Rattle.gp_isa.specs.Calls.{callees, reaches, is_recursive, first_from, first_recursive}
use Rattle.gp_isa.specs.InLimits.{AreInLimits}
use Rattle.gp_isa.specs.kept.Ways.{is_among, marked, IsWay, LeadsBelow, AreLeads, AreCalls, GoThrough}
use Rattle.gp_isa.proofs.First.{first_from-same}
use Rattle.gp_isa.proofs.Named.{callees_there}

module _ (parts : Parts) where
  joined_way : (f g h : ℕ) (before after : List ℕ) → IsWay parts f before g → IsWay parts g after h → IsWay parts f (before ++ g ∷ after) h
  joined_way f g h [] after first second = (first, second)
  joined_way f g h (b ∷ before) after first second = (first.0, joined_way b g h before after first.1 second)

  joined_leads : (k f h : ℕ) → LeadsBelow parts k f k → LeadsBelow parts k k h → LeadsBelow parts (k + 1) f h
  joined_leads k f h first second = record {
    via = first.via ++ k ∷ second.via;
    below = All-append (λ g. g < k + 1) first.via (k ∷ second.via) (wider first.via first.below)
        (All-cons (λ g. g < k + 1) k second.via (omega arith) (wider second.via second.below));
    way = joined_way f k h first.via second.via first.way second.way;
  }
    where
      wider : (via : List ℕ) → All (λ g. g < k) via → All (λ g. g < k + 1) via
      wider via below = All-weaker (λ g. g < k) (λ g. g < k + 1) (λ g less. omega arith) via below

  wider_leads : (k f h : ℕ) → LeadsBelow parts k f h → LeadsBelow parts (k + 1) f h
  wider_leads k f h leads = record {
    via = leads.via;
    below = All-weaker (λ g. g < k) (λ g. g < k + 1) (λ g less. omega arith) leads.via leads.below;
    way = leads.way;
  }

  -- one function more in front
  pub leads_on : (k f g h : ℕ) → is_among g (callees parts f) ≡ true → g < k → LeadsBelow parts k g h → LeadsBelow parts k f h
  leads_on k f g h calls less leads = record {
    via = g ∷ leads.via;
    below = All-cons (λ j. j < k) g leads.via less leads.below;
    way = (calls, leads.way);
  }

  pub leads_at_once : (k f h : ℕ) → is_among h (callees parts f) ≡ true → LeadsBelow parts k f h
  leads_at_once k f h calls = record { via = []; below = All-nil (λ j. j < k); way = calls }

  -- a way through functions up to k doesn't pass k, or it is cut there
  apart : (k h : ℕ) (via : List ℕ) (f : ℕ) → All (λ g. g < k + 1) via → IsWay parts f via h →
      LeadsBelow parts k f h ⊎ (LeadsBelow parts k f k × LeadsBelow parts k k h)
  apart k h [] f below way = inl (leads_at_once k f h way)
  apart k h (g ∷ via) f below way =
      at (cases_lt g k) (apart k h via g (All-tail (λ j. j < k + 1) g via below) way.1)
    where
      least : g < k + 1
      least = All-head (λ j. j < k + 1) g via below

      at : (g < k) ⊎ (k ≤ g) → LeadsBelow parts k g h ⊎ (LeadsBelow parts k g k × LeadsBelow parts k k h) → LeadsBelow parts k f h ⊎ (LeadsBelow parts k f k × LeadsBelow parts k k h)
      at (inl less) (inl leads) = inl (leads_on k f g h way.0 less leads)
      at (inl less) (inr leads) = inr (leads_on k f g k way.0 less leads.0, leads.1)
      at (inr more) rest =
          let same : g ≡ k = omega (arith, least) in
          inr (subst (λ j. LeadsBelow parts k f j) same (leads_at_once k f g way.0), onward same rest)
        where
          onward : g ≡ k → LeadsBelow parts k g h ⊎ (LeadsBelow parts k g k × LeadsBelow parts k k h) → LeadsBelow parts k k h
          onward same (inl leads) = subst (λ j. LeadsBelow parts k j h) same leads
          onward same (inr leads) = leads.1

  pub leads_none : (rows : List (List Bool)) → AreCalls parts rows → AreLeads parts 0 rows
  leads_none rows calls = record { each = λ f h. (λ set. leads_at_once 0 f h (sym (calls.each f h) ∙ set), λ leads. calls.each f h ∙ direct f h leads.via leads.below leads.way) }
    where
      direct : (f h : ℕ) (via : List ℕ) → All (λ g. g < 0) via → IsWay parts f via h → is_among h (callees parts f) ≡ true
      direct f h [] below way = way
      direct f h (g ∷ via) below way = absurd (let never : g < 0 = All-head (λ j. j < 0) g via below in omega arith)

  pub leads_more : (k : ℕ) (old new : List (List Bool)) → AreLeads parts k old → GoThrough old new k → AreLeads parts (k + 1) new
  leads_more k old new leads go = record { each = λ f h. (to f h, from f h) }
    where
      to : (f h : ℕ) → marked (get_or new f []) h ≡ true → LeadsBelow parts (k + 1) f h
      to f h set = by (or_cases (marked (get_or old f []) h) (marked (get_or old f []) k && marked (get_or old k []) h) (sym (go.each f h) ∙ set))
        where
          by : (marked (get_or old f []) h ≡ true) ⊎ ((marked (get_or old f []) k && marked (get_or old k []) h) ≡ true) → LeadsBelow parts (k + 1) f h
          by (inl before) = wider_leads k f h ((leads.each f h).0 before)
          by (inr through) =
              let both = and_parts (marked (get_or old f []) k) (marked (get_or old k []) h) through in
              joined_leads k f h ((leads.each f k).0 both.0) ((leads.each k h).0 both.1)

      from : (f h : ℕ) → LeadsBelow parts (k + 1) f h → marked (get_or new f []) h ≡ true
      from f h way = go.each f h ∙ by (apart k h way.via f way.below way.way)
        where
          by : LeadsBelow parts k f h ⊎ (LeadsBelow parts k f k × LeadsBelow parts k k h) → (marked (get_or old f []) h || (marked (get_or old f []) k && marked (get_or old k []) h)) ≡ true
          by (inl before) = or_left (marked (get_or old f []) h) _ ((leads.each f h).1 before)
          by (inr through) = or_right (marked (get_or old f []) h) _ (and_from (marked (get_or old f []) k) (marked (get_or old k []) h) ((leads.each f k).1 through.0) ((leads.each k h).1 through.1))

  -- From what a way starts with, a way on from a function in it.
  record WayOn (g h : ℕ) : Type 0 where
    via : List ℕ
    way : IsWay parts g via h
    distinct : IsDistinct eqb (g ∷ via)
    below : All (λ j. j < length parts.functions) (g ∷ via)

  cut : (g h f : ℕ) (via : List ℕ) → is_among g via ≡ true → IsWay parts f via h → IsDistinct eqb via → All (λ j. j < length parts.functions) via → WayOn g h
  unfolding IsDistinct
  cut g h f [] among way distinct below = absurd (true≢false (sym among))
  cut g h f (j ∷ via) among way distinct below =
      at (or_cases (g == j) (is_among g via) among) (λ later. cut g h j via later way.1 distinct.1 (All-tail (λ j. j < length parts.functions) j via below))
    where
      at : ((g == j) ≡ true) ⊎ (is_among g via ≡ true) → (is_among g via ≡ true → WayOn g h) → WayOn g h
      at (inl here) rest =
          subst (λ k. WayOn k h) (sym (eqb-true g j here)) (record { via = via; way = way.1; distinct = distinct; below = below })
      at (inr later) rest = rest later

  -- A way without a function twice.
  record ShortWay (f h : ℕ) : Type 0 where
    via : List ℕ
    way : IsWay parts f via h
    distinct : IsDistinct eqb via
    below : All (λ j. j < length parts.functions) via

  other : (g : ℕ) (via : List ℕ) → is_among g via ≡ false → AllByRecursion (λ j. eqb g j ≡ false) via
  other g [] none = tt
  other g (j ∷ via) none = let parts = or_parts (g == j) (is_among g via) none in (parts.0, other g via parts.1)

  shorten : (h f : ℕ) (via : List ℕ) → IsWay parts f via h → All (λ j. j < length parts.functions) via → ShortWay f h
  unfolding IsDistinct
  shorten h f [] way below = record { via = []; way = way; distinct = tt; below = below }
  shorten h f (g ∷ via) way below = at (shorten h g via way.1 (All-tail (λ j. j < length parts.functions) g via below))
    where
      at : ShortWay g h → ShortWay f h
      at short = by (cases_Bool (is_among g short.via))
        where
          by : (is_among g short.via ≡ true) ⊎ (is_among g short.via ≡ false) → ShortWay f h
          by (inl twice) =
              let on = cut g h g short.via twice short.way short.distinct short.below in
              record { via = g ∷ on.via; way = (way.0, on.way); distinct = on.distinct; below = on.below }
          by (inr once) = record {
            via = g ∷ short.via;
            way = (way.0, short.way);
            distinct = (other g short.via once, short.distinct);
            below = All-cons (λ j. j < length parts.functions) g short.via (All-head (λ j. j < length parts.functions) g via below) short.below;
          }

  among_below : (via : List ℕ) → All (λ j. j < length parts.functions) via → (q : ℕ) → list_any (eqb q) via ≡ true → q < length parts.functions
  among_below [] below q among = absurd (true≢false (sym among))
  among_below (j ∷ via) below q among =
      at (or_cases (eqb q j) (list_any (eqb q) via) among) (among_below via (All-tail (λ j. j < length parts.functions) j via below) q)
    where
      at : (eqb q j ≡ true) ⊎ (list_any (eqb q) via ≡ true) → (list_any (eqb q) via ≡ true → q < length parts.functions) → q < length parts.functions
      at (inl here) rest = subst (λ k. k < length parts.functions) (sym (eqb-true q j here)) (All-head (λ j. j < length parts.functions) j via below)
      at (inr later) rest = rest later

  any_from_among : (test : ℕ → Bool) (g : ℕ) (hs : List ℕ) → is_among g hs ≡ true → test g ≡ true → list_any test hs ≡ true
  any_from_among test g [] among passes = absurd (true≢false (sym among))
  any_from_among test g (j ∷ hs) among passes =
      at (or_cases (g == j) (is_among g hs) among) (λ later. any_from_among test g hs later passes)
    where
      at : ((g == j) ≡ true) ⊎ (is_among g hs ≡ true) → (is_among g hs ≡ true → list_any test hs ≡ true) → (test j || list_any test hs) ≡ true
      at (inl here) rest = or_left (test j) (list_any test hs) (subst (λ k. test k ≡ true) (eqb-true g j here) passes)
      at (inr later) rest = or_right (test j) (list_any test hs) (rest later)

  -- what a way of at most so many steps reaches
  reached : (steps f h : ℕ) (via : List ℕ) → IsWay parts f via h → length via ≤ steps → reaches parts steps f h ≡ true
  unfolding reaches
  reached zero f h [] way few = way
  reached zero f h (g ∷ via) way few = absurd (omega arith)
  reached (suc steps) f h [] way few =
      any_from_among (λ g. (h == g) || reaches parts steps g h) h (callees parts f) way (or_left (h == h) (reaches parts steps h h) (eq-eqb h h refl))
  reached (suc steps) f h (g ∷ via) way few =
      any_from_among (λ j. (h == j) || reaches parts steps j h) g (callees parts f) way.0
      (or_right (h == g) (reaches parts steps g h) (reached steps g h via way.1 (omega arith)))

  -- a way to whoever is reached, through functions that are there
  module _ (limits : AreInLimits parts) where
    some_step : (f h : ℕ) (steps : ℕ) (hs : List ℕ) → All (λ j. j < length parts.functions) hs → list_any (λ g. (h == g) || reaches parts steps g h) hs ≡ true →
        (g : ℕ) × (is_among g hs ≡ true) × (g < length parts.functions) × ((h ≡ g) ⊎ (reaches parts steps g h ≡ true))
    some_step f h steps [] there passes = absurd (true≢false (sym passes))
    some_step f h steps (j ∷ hs) there passes =
        at (or_cases ((h == j) || reaches parts steps j h) (list_any (λ g. (h == g) || reaches parts steps g h) hs) passes)
        (some_step f h steps hs (All-tail (λ j. j < length parts.functions) j hs there))
      where
        here : j < length parts.functions
        here = All-head (λ j. j < length parts.functions) j hs there

        choice : ((h == j) ≡ true) ⊎ (reaches parts steps j h ≡ true) → (h ≡ j) ⊎ (reaches parts steps j h ≡ true)
        choice (inl same) = inl (eqb-true h j same)
        choice (inr far) = inr far

        at : (((h == j) || reaches parts steps j h) ≡ true) ⊎ (list_any (λ g. (h == g) || reaches parts steps g h) hs ≡ true) →
            (list_any (λ g. (h == g) || reaches parts steps g h) hs ≡ true → (g : ℕ) × (is_among g hs ≡ true) × (g < length parts.functions) × ((h ≡ g) ⊎ (reaches parts steps g h ≡ true))) →
            (g : ℕ) × (is_among g (j ∷ hs) ≡ true) × (g < length parts.functions) × ((h ≡ g) ⊎ (reaches parts steps g h ≡ true))
        at (inl now) rest = (j, or_left (j == j) (is_among j hs) (eq-eqb j j refl), here, choice (or_cases (h == j) (reaches parts steps j h) now))
        at (inr later) rest = let found = rest later in (found.0, or_right (found.0 == j) (is_among found.0 hs) found.1, found.2, found.3)

    leads_from : (steps f h : ℕ) → reaches parts steps f h ≡ true → LeadsBelow parts (length parts.functions) f h
    unfolding reaches
    leads_from zero f h reach = leads_at_once (length parts.functions) f h reach
    leads_from (suc steps) f h reach =
        at (some_step f h steps (callees parts f) (callees_there parts limits f) reach) (λ g. leads_from steps g h)
      where
        at : (g : ℕ) × (is_among g (callees parts f) ≡ true) × (g < length parts.functions) × ((h ≡ g) ⊎ (reaches parts steps g h ≡ true)) →
            ((g : ℕ) → reaches parts steps g h ≡ true → LeadsBelow parts (length parts.functions) g h) → LeadsBelow parts (length parts.functions) f h
        at (g, calls, there, inl same) rest = leads_at_once (length parts.functions) f h (subst (λ k. is_among k (callees parts f) ≡ true) (sym same) calls)
        at (g, calls, there, inr far) rest = leads_on (length parts.functions) f g h calls there (rest g far)

    reaches_from : (f h : ℕ) → LeadsBelow parts (length parts.functions) f h → reaches parts (length parts.functions) f h ≡ true
    reaches_from f h leads =
        let short = shorten h f leads.via leads.way leads.below in
        reached (length parts.functions) f h short.via short.way (length-le_from_distinct_below short.via (length parts.functions) short.distinct (among_below short.via short.below))

    pub recursive_is : (rows : List (List Bool)) → AreLeads parts (length parts.functions) rows → (f : ℕ) → marked (get_or rows f []) f ≡ is_recursive parts f
    recursive_is rows leads f = at (cases_Bool (is_recursive parts f))
      where
        at : (is_recursive parts f ≡ true) ⊎ (is_recursive parts f ≡ false) → marked (get_or rows f []) f ≡ is_recursive parts f
        at (inl is) = (leads.each f f).1 (leads_from (length parts.functions) f f is) ∙ sym is
        at (inr never) =
            false_from_ne_true (marked (get_or rows f []) f) (λ set. true≢false (sym (reaches_from f f ((leads.each f f).0 set)) ∙ never)) ∙ sym never

    pub first_recursive_is : (rows : List (List Bool)) → AreLeads parts (length parts.functions) rows →
        first_from (λ f. marked (get_or rows f []) f) 0 (length parts.functions) ≡ first_recursive parts
    first_recursive_is rows leads =
        first_from-same (λ f. marked (get_or rows f []) f) (is_recursive parts) 0 (length parts.functions) (recursive_is rows leads)
