-- How many actors can act, the reader too, and at which place each stands.
use Rattle.std.proofs.Common.{◌≡◌, ◌<◌, ◌≤◌, ◌+◌, ℕ, Bool, true, false, ◌==◌, List, [], ◌∷◌, map, length, get_or, refl, sym, ap, ◌∙◌, arith, if◌then◌else◌}
use Rattle.std.proofs.lemmas.List.{length-map, length-append, get_or_append_left, get_or-append-add}
use Rattle.std.proofs.lemmas.Bool.{eqb-true}
use Rattle.std.proofs.Math.ListN.{get_or-map}
use Rattle.gp_journal.specs.declared.entry.Entry.{Entry}
use Rattle.gp_sim.specs.Choice.{acts_of}
use Rattle.gp_sim.specs.declared.numbers.Act.{Act}
use Rattle.gp_sim.specs.declared.numbers.Act.TheVariants.{Make, Read}
use Rattle.gp_sim.specs.kept.Acting.{number_acting}

abbrev reader : Bool → List Act
reader reads = if reads then Read ∷ [] else []

reader_counted : (reads : Bool) → length (reader reads) ≡ (if reads then 1 else 0)
reader_counted true = refl
reader_counted false = refl

-- where some make entries the reader can act too
acting_some : (entries : ℕ) (reads : Bool) → 0 < entries → number_acting entries reads ≡ entries + (if reads then 1 else 0)
acting_some entries reads some = by (entries == 0) refl
  where
    by : (none : Bool) → (entries == 0) ≡ none → (if none then 0 else entries + (if reads then 1 else 0)) ≡ entries + (if reads then 1 else 0)
    by true e = let none = eqb-true entries 0 e in absurd (omega arith)
    by false e = refl

-- they are one more at most
pub acting_few : (entries : ℕ) (reads : Bool) → number_acting entries reads ≤ entries + 1
acting_few entries reads = by (entries == 0) reads
  where
    by : (none reads : Bool) → (if none then 0 else entries + (if reads then 1 else 0)) ≤ entries + 1
    by true reads = omega arith
    by false true = omega arith
    by false false = omega arith

pub acts_counted : (entries : List Entry) (reads : Bool) → length (acts_of entries reads) ≡ number_acting (length entries) reads
acts_counted [] reads = refl
acts_counted (entry ∷ entries) reads =
    length-append (map Make (entry ∷ entries)) (reader reads)
    ∙ (λ i. length-map (entry ∷ entries) Make i + reader_counted reads i)
    ∙ sym (acting_some (length (entry ∷ entries)) reads (omega arith))

-- an entry's place is that among the entries
pub made_there : (entries : List Entry) (reads : Bool) (place : ℕ) (entry : Entry) → place < length entries → entry ≡ get_or entries place entry →
    Make entry ≡ get_or (acts_of entries reads) place (Make entry)
made_there [] reads place entry within is = absurd (omega arith)
made_there (first ∷ entries) reads place entry within is =
    ap Make is
    ∙ sym (get_or-map Make (first ∷ entries) place entry)
    ∙ sym (get_or_append_left (map Make (first ∷ entries)) (reader reads) (Make entry) place (let e = length-map (first ∷ entries) Make in omega arith))

-- the reader's is behind them
pub read_there : (entries : List Entry) (reads : Bool) (place : ℕ) → place < number_acting (length entries) reads → place ≡ length entries → Read ≡ get_or (acts_of entries reads) place Read
read_there [] reads place within last = absurd (omega arith)
read_there (first ∷ entries) reads place within last = by reads within
  where
    by : (reads : Bool) → place < number_acting (length (first ∷ entries)) reads → Read ≡ get_or (acts_of (first ∷ entries) reads) place Read
    by false within = absurd (omega (arith, acting_some (length (first ∷ entries)) false (omega arith)))
    by true within =
        let at : place ≡ length (map Make (first ∷ entries)) + 0 = let e = length-map (first ∷ entries) Make in omega arith in
        sym (get_or-append-add (map Make (first ∷ entries)) (Read ∷ []) 0 Read) ∙ ap (λ n. get_or (acts_of (first ∷ entries) true) n Read) (sym at)
