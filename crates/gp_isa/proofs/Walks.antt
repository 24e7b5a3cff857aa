-- What a walk over statements and functions finds.
use Rattle.std.proofs.Common.{◌≡◌, ◌⊎◌, ℕ, suc, true, ◌+◌, ◌<◌, ◌≤◌, max, List, ◌∷◌, ◌++◌, None, length, drop, get_or, set, replicate, sym, ap, ap₂, ◌∙◌, subst, inl, inr, arith}
use Rattle.std.proofs.lemmas.Bool.{cases_lt}
use Rattle.std.proofs.lemmas.List.{drop_more, length-set, length-replicate}
use Rattle.gp_isa.specs.declared.parts.Parts.{Parts}
use Rattle.gp_isa.specs.declared.size.Size.{Size}
use Rattle.gp_isa.specs.declared.statement.Stmt.{Stmt}
use Rattle.gp_isa.specs.declared.walk.Walk.{Walk}
use Rattle.gp_isa.specs.Calls.{callees, first_recursive}
use Rattle.gp_isa.specs.InLimits.{AreInLimits}
use Rattle.gp_isa.specs.Limits.{most_functions}
use Rattle.gp_isa.specs.Nesting.{loops_of, loops_in, nesting_of}
use Rattle.gp_isa.specs.Statement.{action_of, most_bodies}
use Rattle.gp_isa.specs.Trace.{Point, points_of_body, body_of, trace}
use Rattle.gp_isa.specs.kept.Blocks.{no_base, HasBlock, Grows, AreBlocks}
use Rattle.gp_isa.specs.kept.Sizes.{no_size, size_of, AreSizes, AreSomeSizes, AreRanks}
use Rattle.gp_isa.specs.kept.Walks.{Done, IsWalked}
use Rattle.gp_isa.specs.kept.Ways.{is_among}
use Rattle.gp_isa.proofs.Blocks.{block_same, blocks_set, blocks_none}
use Rattle.gp_isa.proofs.Named.{among_there}
use Rattle.gp_isa.proofs.NestedLoops.{nesting_least, nesting_there}
use Rattle.gp_isa.proofs.Points.{points_of_statement}
use Rattle.gp_isa.proofs.Tables.{some_sizes-none, some_sizes-less, some_sizes-more, done_before}

-- a statement before those behind it
cut : (body : List Stmt) (at next : ℕ) (s : Stmt) → next ≡ at + 1 → at < length body → s ≡ get_or body at s → drop at body ≡ s ∷ drop next body
cut body at next s on within is = drop_more body at s within ∙ ap (λ t. t ∷ drop (at + 1) body) (sym is) ∙ ap (λ n. s ∷ drop n body) (sym on)

pub size_before : (calls : ℕ → List Point) (f deep : ℕ) (body : List Stmt) (at next : ℕ) (s : Stmt) (here total new : Size) → next ≡ at + 1 → at < length body → s ≡ get_or body at s →
    ((points more : List Point) → here ≡ size_of points → total ≡ size_of more → new ≡ size_of (points ++ more)) → here ≡ size_of (points_of_statement calls f deep s) → total ≡ size_of (points_of_body calls f (suc deep) (drop next body)) →
    new ≡ size_of (points_of_body calls f (suc deep) (drop at body))
size_before calls f deep body at next s here total new on within is then first rest =
    then (points_of_statement calls f deep s) (points_of_body calls f (suc deep) (drop next body)) first rest ∙ ap (λ (b : List Stmt). size_of (points_of_body calls f (suc deep) b)) (sym (cut body at next s on within is))

pub loops_before : (deep : ℕ) (body : List Stmt) (at next : ℕ) (s : Stmt) (here total new : ℕ) → next ≡ at + 1 → at < length body → s ≡ get_or body at s →
    new ≡ max here total → here ≡ loops_of (loops_in deep) (action_of s) → total ≡ loops_in (suc deep) (drop next body) → new ≡ loops_in (suc deep) (drop at body)
loops_before deep body at next s here total new on within is most first rest = most ∙ ap₂ max first rest ∙ ap (loops_in (suc deep)) (sym (cut body at next s on within is))

-- less is told of what was walked over
pub walked_less : (parts : Parts) (walk : Walk) (done less : ℕ → Type 0) → IsWalked parts walk done → ((f : ℕ) → f < length parts.functions → less f → done f) → IsWalked parts walk less
walked_less parts walk done less is told = record {
  sizes = some_sizes-less parts walk.sizes.items done less is.sizes told;
  blocks = is.blocks;
  count = is.count;
  most = is.most;
  least = λ f within l. is.least f within (told f within l);
  few = is.few;
}

pub walked_none : (parts : Parts) (walk : Walk) → walk.sizes.items ≡ replicate (length parts.functions) no_size → walk.table.bases.items ≡ replicate (length parts.functions) no_base → walk.loops ≡ 0 → IsWalked parts walk (λ f. ⊥)
walked_none parts walk sizes_are bases_are loops_are = record {
  sizes = some_sizes-none parts walk.sizes.items (λ f. ⊥) sizes_are (λ f d. d);
  blocks = blocks_none parts walk.table.suffixes.items walk.table.bases.items (length parts.functions) bases_are;
  count = ap length bases_are ∙ length-replicate (length parts.functions) no_base;
  most = omega (arith, loops_are);
  least = λ f within d. absurd d;
  few = omega (arith, loops_are);
}

pub walked_all : (parts : Parts) (walk : Walk) (done : ℕ → Type 0) → IsWalked parts walk done → ((f : ℕ) → done f) → walk.loops ≡ nesting_of parts
walked_all parts walk done is all = omega (arith, is.most, nesting_least parts walk.loops (λ f within. is.least f within (all f)))

-- a function more, where those that it calls are there
module _ (parts : Parts) (limits : AreInLimits parts) (acyclic : first_recursive parts ≡ None) (ranks : List ℕ) (are : AreRanks parts most_functions ranks) where
  pub walked_more : (old new : Walk) (f : ℕ) (size : Size) (base loops : ℕ) → f < length parts.functions → new.sizes.items ≡ set old.sizes.items f size →
      Grows old.table.suffixes.items new.table.suffixes.items → new.table.bases.items ≡ set old.table.bases.items f base → new.loops ≡ max old.loops loops →
      (base < no_base → (calls : ℕ → List Point) → AreSizes old.sizes.items calls → HasBlock calls new.table.suffixes.items most_bodies base (body_of parts f)) →
      ((calls : ℕ → List Point) (g : ℕ) → AreSizes old.sizes.items calls → size ≡ size_of (points_of_body calls g most_bodies (body_of parts f))) →
      loops ≡ loops_in most_bodies (body_of parts f) → loops ≤ 9 → IsWalked parts old (Done ranks (get_or ranks f 0) f) → IsWalked parts new (Done ranks (get_or ranks f 0) (f + 1))
  walked_more old new f size base loops there sizes_are grows bases_are most_is block sized nested few_is is = record {
    sizes = subst (λ (table : List Size). AreSomeSizes parts table (Done ranks (get_or ranks f 0) (f + 1))) (sym sizes_are)
        (some_sizes-less parts (set old.sizes.items f size) (λ k. Done ranks (get_or ranks f 0) f k ⊎ (k ≡ f)) (Done ranks (get_or ranks f 0) (f + 1))
        (some_sizes-more parts limits acyclic old.sizes.items (Done ranks (get_or ranks f 0) f) is.sizes f size there called (sized is.sizes.calls f is.sizes.are))
        (λ k within done. done_before ranks (get_or ranks f 0) f k done));
    blocks = subst (λ (bs : List ℕ). AreBlocks parts new.table.suffixes.items bs) (sym bases_are)
        (blocks_set parts old.table.suffixes.items new.table.suffixes.items old.table.bases.items f base grows (omega (arith, is.count))
        (λ some. block_same is.sizes.calls (trace parts) f new.table.suffixes.items most_bodies base (body_of parts f)
        (λ h calls. is.sizes.whole h (among_there parts limits f h calls) (called h calls)) (block some is.sizes.calls is.sizes.are)) is.blocks);
    count = ap length bases_are ∙ length-set old.table.bases.items f base ∙ is.count;
    most = omega (arith, most_is, is.most, nested, nesting_there parts f);
    least = λ k within done. least_of k within (done_before ranks (get_or ranks f 0) f k done);
    few = omega (arith, most_is, is.few, few_is);
  }
    where
      called : (h : ℕ) → is_among h (callees parts f) ≡ true → Done ranks (get_or ranks f 0) f h
      called h calls = inl (are.rising f h there calls)

      least_of : (k : ℕ) → k < length parts.functions → Done ranks (get_or ranks f 0) f k ⊎ (k ≡ f) → loops_in most_bodies (body_of parts k) ≤ new.loops
      least_of k within (inl done) = omega (arith, most_is, is.least k within done)
      least_of k within (inr same) = let here : loops_in most_bodies (body_of parts k) ≡ loops_in most_bodies (body_of parts f) = ap (λ g. loops_in most_bodies (body_of parts g)) same in omega (arith, most_is, nested)

-- where no function of a rank is done, and where all are
pub done_first : (ranks : List ℕ) (rank k : ℕ) → Done ranks rank 0 k → get_or ranks k 0 < rank
done_first ranks rank k (inl lower) = lower
done_first ranks rank k (inr (same, below)) = absurd (omega (arith, below))

pub done_last : (ranks : List ℕ) (rank n k : ℕ) → k < n → get_or ranks k 0 < rank + 1 → Done ranks rank n k
done_last ranks rank n k within less = at (cases_lt (get_or ranks k 0) rank)
  where
    at : (get_or ranks k 0 < rank) ⊎ (rank ≤ get_or ranks k 0) → Done ranks rank n k
    at (inl lower) = inl lower
    at (inr same) = inr (omega arith, within)
