-- The test of equality of keys is an equivalence, and equal keys are hashed alike.
use Rattle.std.specs.Prelude.{◌≡◌, ◌==◌, ◌&&◌, ◌+◌, ◌*◌, ◌++◌, ℕ, true, List, [], refl}
use Rattle.std.proofs.Common.{sym, true≢false}
use Rattle.std.specs.Cmp.{IsEquivalence, and_equiv, on_equiv, nat_eq_equiv}
use Rattle.std.specs.Cmp.Lexicographic.{lists_equiv}
use Rattle.std.specs.Hash as fed
use Rattle.std.specs.Hash.{Alike, items_Alike}
use Rattle.std.proofs.lemmas.Bool.{and_parts, eqb-true}
use Rattle.gp_isa.specs.declared.frame.Frame.{Frame}
use Rattle.gp_stack.specs.Word.{word_of}
use Rattle.gp_cpu.specs.declared.sum.CpuKey.{CpuKey}
use Rattle.gp_cpu.specs.declared.sum.CpuKey.TheVariants.{At, Lost}
use Rattle.gp_cpu.specs.Sums.{same_frame, same_stack, same_key}

-- what a hasher is fed of a frame, one word; of a stack; and of a key
abbrev pub frame_input : Frame → List (List ℕ)
frame_input frame = fed.u64 (word_of frame)

abbrev pub stack_input : List Frame → List (List ℕ)
stack_input stack = fed.slice frame_input stack

abbrev pub key_input : CpuKey → List (List ℕ)
key_input (At stack tag) = stack_input stack ++ fed.u64 tag
key_input Lost = []

same_frame_equiv : IsEquivalence same_frame
same_frame_equiv =
    and_equiv
    (on_equiv (λ (frame : Frame). frame.function) nat_eq_equiv)
    (on_equiv (λ (frame : Frame). frame.line) nat_eq_equiv)

same_stack_equiv : IsEquivalence same_stack
same_stack_equiv = lists_equiv same_frame_equiv

-- a stack with a tag
same_pair_equiv : IsEquivalence (λ (a b : List Frame × ℕ). same_stack a.0 b.0 && (a.1 == b.1))
same_pair_equiv =
    and_equiv
    (on_equiv (λ (a : List Frame × ℕ). a.0) same_stack_equiv)
    (on_equiv (λ (a : List Frame × ℕ). a.1) nat_eq_equiv)

key-refl : (x : CpuKey) → same_key x x ≡ true
key-refl (At s t) = same_pair_equiv.refl (s, t)
key-refl Lost = refl

key-symm : (x y : CpuKey) → same_key x y ≡ same_key y x
key-symm (At s t) (At u v) = same_pair_equiv.symm (s, t) (u, v)
key-symm (At s t) Lost = refl
key-symm Lost (At u v) = refl
key-symm Lost Lost = refl

key-congr : (x y z : CpuKey) → same_key x y ≡ true → same_key x z ≡ same_key y z
key-congr (At s t) (At u v) (At w m) e = same_pair_equiv.congr (s, t) (u, v) (w, m) e
key-congr (At s t) (At u v) Lost e = refl
key-congr (At s t) Lost z e = absurd (true≢false (sym e))
key-congr Lost (At u v) z e = absurd (true≢false (sym e))
key-congr Lost Lost z e = refl

pub same_key_equiv : IsEquivalence same_key
same_key_equiv = record { refl = key-refl; symm = key-symm; congr = key-congr }

frame_input-same : (a b : Frame) → same_frame a b ≡ true → frame_input a ≡ frame_input b
frame_input-same a b h =
    let both = and_parts (a.function == b.function) (a.line == b.line) h in
    let function = eqb-true a.function b.function both.0 in
    let line = eqb-true a.line b.line both.1 in
    λ i. fed.u64 (function i * 4294967296 + line i)

frame_alike : Alike same_frame frame_input
frame_alike = record { fed = frame_input-same }

pub key_input-same : (a b : CpuKey) → same_key a b ≡ true → key_input a ≡ key_input b
key_input-same (At s t) (At u v) h =
    let both = and_parts (same_stack s u) (t == v) h in
    let stacks = (items_Alike frame_alike).fed s u both.0 in
    let tags = eqb-true t v both.1 in
    λ i. stacks i ++ fed.u64 (tags i)
key_input-same (At s t) Lost h = absurd (true≢false (sym h))
key_input-same Lost (At u v) h = absurd (true≢false (sym h))
key_input-same Lost Lost h = refl
