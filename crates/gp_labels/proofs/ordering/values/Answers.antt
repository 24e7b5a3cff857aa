use Rattle.std.proofs.Common.{◌≡◌, ℕ, ◌+◌, [], ◌∷◌, List, length, refl, sym, ap, ◌∙◌, arith}
use Rattle.std.specs.Prelude.{fold, map, String, string_bytes}
use Rattle.std.specs.Global.{Global}
use Rattle.std.specs.String.{string_cmp}
use Rattle.std.specs.BTreeMap.{insert_entry}
use Rattle.std.specs.Vec.Iter.{into_iter_items}
use Rattle.gp_isa.specs.declared.parts.Pair.{Pair}
use Rattle.gp_labels.specs.LabelSet.{with_pair, canonical_of}
use Rattle.gp_labels.specs.Entry.{pair_of_entry}
use Rattle.gp_labels.proofs.Values.{put_entry}
use Rattle.gp_labels.proofs.ordering.values.Goals as goal

nothing_left : {X : Type 0} (l : List X) → length l ≡ 0 → l ≡ []
nothing_left [] h = refl
nothing_left (x ∷ xs) h = absurd (omega arith)

-- one more entry
more : (old new : List (String Global × String Global)) (key value : String Global) (pair : Pair) (items rest all : List Pair) → new ≡ insert_entry string_cmp old key value → string_bytes key ≡ pair.key →
    string_bytes value ≡ pair.value → items ≡ pair ∷ rest
    → fold with_pair (map pair_of_entry old) items ≡ fold with_pair [] all → fold with_pair (map pair_of_entry new) rest ≡ fold with_pair [] all
more old new key value pair items rest all is key_is value_is steps so_far =
    let entries = map pair_of_entry old in
    ap (λ es. fold with_pair (map pair_of_entry es) rest) is
    ∙ ap (λ ps. fold with_pair ps rest) (put_entry old key value)
    ∙ ap (λ k. fold with_pair (with_pair entries (record { key = k; value = string_bytes value })) rest) key_is
    ∙ ap (λ v. fold with_pair (with_pair entries (record { key = pair.key; value = v })) rest) value_is
    ∙ ap (λ ps. fold with_pair entries ps) (sym steps)
    ∙ so_far

one_fewer : (len now : ℕ) (items rest : List Pair) (pair : Pair) → items ≡ pair ∷ rest → now + 1 ≡ len → len ≡ length items → now ≡ length rest
one_fewer len now items rest pair steps gone was = let short = ap length steps in omega arith

pub loop-pair-preserved : goal.loop-pair-preserved
loop-pair-preserved c = record {
  ahead =
      more c.loop-pair.values.entries c.insert.new.self.entries c.into_string.result c.into_string-in-loop-pair.result c.in-Some.pair (into_iter_items c.loop-pair.pair-iterator) (into_iter_items
      c.next.new.self) (into_iter_items c.into_iter-pair-iterator.result) c.in_ok-insert.ensures.entries
      c.into_string.ensures c.into_string-in-loop-pair.ensures c.in-Some.ensures.steps.0 c.loop-pair.invariant.ahead;
  count = one_fewer _ _ (into_iter_items c.loop-pair.pair-iterator) (into_iter_items c.next.new.self) c.in-Some.pair c.in-Some.ensures.steps.0 c.in-Some.ensures.steps.1 c.loop-pair.invariant.count;
}

pub loop-pair-preserved-in_ok-insert : goal.loop-pair-preserved-in_ok-insert
loop-pair-preserved-in_ok-insert c = record {
  ahead =
      more c.loop-pair.values.entries c.insert.new.self.entries c.into_string.result c.into_string-in-loop-pair.result c.in-Some.pair (into_iter_items c.loop-pair.pair-iterator) (into_iter_items
      c.next.new.self) (into_iter_items c.into_iter-pair-iterator.result) c.in_ok-insert.ensures.entries
      c.into_string.ensures c.into_string-in-loop-pair.ensures c.in-Some.ensures.steps.0 c.loop-pair.invariant.ahead;
  count = one_fewer _ _ (into_iter_items c.loop-pair.pair-iterator) (into_iter_items c.next.new.self) c.in-Some.pair c.in-Some.ensures.steps.0 c.in-Some.ensures.steps.1 c.loop-pair.invariant.count;
}

pub returns : goal.returns
unfolding canonical_of
returns c =
    let at = c.loop-pair in
    let none = c.in-None.ensures.steps in
    let empty : into_iter_items at.pair-iterator ≡ [] = nothing_left _ (sym at.invariant.count ∙ none.0) in
    ap (λ ps. fold with_pair (map pair_of_entry at.values.entries) ps) (sym empty) ∙ at.invariant.ahead
    ∙ ap (λ ps. fold with_pair [] ps) (c.into_iter-pair-iterator.ensures.into_iter_gives.0 ∙ c.into_vec-pair-items.ensures)
