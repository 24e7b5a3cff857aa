-- One of some acts is chosen.
use Rattle.std.proofs.Common.{◌≡◌, ◌<◌, ◌≤◌, ◌+◌, ◌%◌, ℕ, Bool, true, false, ◌==◌, List, [], ◌∷◌, length, get_or, Option, Some, None, refl, sym, ap, subst, arith, if◌then◌else◌}
use Rattle.std.proofs.lemmas.Bool.{eqb-true, eqb-false}
use Rattle.std.proofs.lemmas.List.{get_or_read}
use Rattle.gp_journal.specs.declared.settings.Settings.{Settings}
use Rattle.gp_sim.specs.declared.numbers.Act.{Act}
use Rattle.gp_sim.specs.declared.numbers.Draw.{Draw}
use Rattle.gp_sim.specs.Choice.{number, chosen}
use Rattle.gp_sim.specs.kept.Numbers.{drawn_of}

none_there : (settings : Settings) (taken : ℕ) (acts : List Act) → length acts ≡ 0 → chosen settings taken acts ≡ None
none_there settings taken [] e = refl
none_there settings taken (one ∷ more) e = absurd (omega arith)

one_there : (settings : Settings) (taken : ℕ) (acts : List Act) (act : Act) → length acts ≡ 1 → act ≡ get_or acts 0 act → chosen settings taken acts ≡ Some (record { act = act; taken = taken })
one_there settings taken [] act e is = absurd (omega arith)
one_there settings taken (one ∷ []) act e is = ap (λ (x : Act). Some (record { act = x; taken = taken })) (sym is)
one_there settings taken (one ∷ other ∷ more) act e is = absurd (omega arith)

more_there : (settings : Settings) (taken : ℕ) (acts : List Act) (act : Act) → 2 ≤ length acts → act ≡ get_or acts (number settings taken % length acts) act →
    chosen settings taken acts ≡ Some (record { act = act; taken = taken + 1 })
more_there settings taken [] act e is = absurd (omega arith)
more_there settings taken (one ∷ []) act e is = absurd (omega arith)
more_there settings taken (one ∷ other ∷ more) act e is =
    let among = one ∷ other ∷ more in
    ap (λ (x : Act). Some (record { act = x; taken = taken + 1 }))
    (sym (get_or_read among (number settings taken % length among) act (omega arith) is one))

-- what is drawn, by the tests of how many there are
abbrev drawn_by : Settings → ℕ → ℕ → Bool → Bool → Option Draw
drawn_by settings taken among none single =
    if none then None else if single then Some (record { place = 0; taken = taken }) else Some (record { place = number settings taken % among; taken = taken + 1 })

draw_is : {a b : Draw} → Some a ≡ Some b → a ≡ b
draw_is e = cc

by_tests : (settings : Settings) (taken among : ℕ) (P : Draw → Type 0) → ((among ≡ 1) → P (record { place = 0; taken = taken })) → (2 ≤ among → P (record { place = number settings taken % among; taken = taken + 1 })) →
    (draw : Draw) → drawn_of settings taken among ≡ Some draw → P draw
by_tests settings taken among P one more draw e = at (among == 0) refl (among == 1) refl e
  where
    at : (none : Bool) → (among == 0) ≡ none → (single : Bool) → (among == 1) ≡ single →
        drawn_by settings taken among none single ≡ Some draw → P draw
    at true e0 single e1 e = absurd (cc)
    at false e0 true e1 e = subst P (draw_is e) (one (eqb-true among 1 e1))
    at false e0 false e1 e =
        let apart0 : among ≡ 0 → ⊥ = eqb-false among 0 e0 in
        let apart1 : among ≡ 1 → ⊥ = eqb-false among 1 e1 in
        subst P (draw_is e) (more (omega arith))

-- it is the place of one of them
pub draw_within : (settings : Settings) (taken among : ℕ) (draw : Draw) → drawn_of settings taken among ≡ Some draw → draw.place < among
draw_within settings taken among draw e = by_tests settings taken among (λ d. d.place < among) (λ one. omega arith) (λ many. omega arith) draw e

-- and at most one number is taken
pub draw_takes : (settings : Settings) (taken among : ℕ) (draw : Draw) → drawn_of settings taken among ≡ Some draw → (taken ≤ draw.taken) × (draw.taken ≤ taken + 1)
draw_takes settings taken among draw e =
    by_tests settings taken among (λ d. (taken ≤ d.taken) × (d.taken ≤ taken + 1)) (λ one. (omega arith, omega arith)) (λ many. (omega arith, omega arith)) draw e

-- One of some acts is chosen by its place,
pub chosen_at : (settings : Settings) (taken : ℕ) (acts : List Act) (act : Act) (draw : Draw) → drawn_of settings taken (length acts) ≡ Some draw → act ≡ get_or acts draw.place act →
    chosen settings taken acts ≡ Some (record { act = act; taken = draw.taken })
chosen_at settings taken acts act draw e =
    by_tests settings taken (length acts) (λ d. act ≡ get_or acts d.place act → chosen settings taken acts ≡ Some (record { act = act; taken = d.taken }))
    (λ one is. one_there settings taken acts act one is)
    (λ many is. more_there settings taken acts act many is) draw e

-- and none where none is drawn.
pub none_chosen_of : (settings : Settings) (taken : ℕ) (acts : List Act) → drawn_of settings taken (length acts) ≡ None → chosen settings taken acts ≡ None
none_chosen_of settings taken acts e = none_there settings taken acts (at (length acts == 0) refl (length acts == 1) e)
  where
    at : (none : Bool) → (length acts == 0) ≡ none → (single : Bool) →
        drawn_by settings taken (length acts) none single ≡ None → length acts ≡ 0
    at true e0 single e = eqb-true (length acts) 0 e0
    at false e0 true e = absurd (cc)
    at false e0 false e = absurd (cc)
