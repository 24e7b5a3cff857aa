-- The tests of equality are equivalences, and equal keys are hashed alike.
use Rattle.std.specs.Prelude.{◌≡◌, ◌++◌, ◌==◌, ◌&&◌, ℕ, Bool, true, false, List}
use Rattle.std.specs.Cmp.{IsEquivalence, and_equiv, on_equiv, nat_eq_equiv}
use Rattle.std.specs.Cmp.Lexicographic.{bytes_decides, lists_equiv, nat_list_eq_equiv, pointwise}
use Rattle.std.proofs.lemmas.Bool.Decides.{Decides-eqb}
use Rattle.std.proofs.Common.{refl, sym, true≢false, ap}
use Rattle.gp_isa.specs.declared.frame.Frame.{Frame}
use Rattle.gp_isa.specs.declared.parts.Pair.{Pair}
use Rattle.gp_stack.specs.Word.{word_of}
use Rattle.gp_build.specs.declared.site.Routine.{Routine}
use Rattle.gp_build.specs.declared.site.Routine.TheVariants.{Numbered, LostEvents}
use Rattle.gp_build.specs.declared.site.Site.{Site}
use Rattle.gp_build.specs.Site.{same_routine, same_site}
use Rattle.gp_build.specs.Shown.{Shown, same_frame, same_pair, same_shown}
use Rattle.gp_build.specs.Numbers.{Need, text, no_value, same_need, text_of}
use Rattle.std.specs.Hash as fed
use Rattle.std.specs.Hash.{Alike, on_Alike, same_Alike, and-Alike, items_Alike}

-- what a hasher is fed of a function, of a site, of a frame, of a pair, of a stack with labels, and of a text

abbrev pub routine_input : Routine → List (List ℕ)
routine_input (Numbered f) = fed.u32 f
routine_input LostEvents = fed.u32 0

abbrev pub site_input : Site → List (List ℕ)
site_input site = routine_input site.routine ++ fed.u32 site.line

abbrev pub frame_input : Frame → List (List ℕ)
frame_input frame = fed.u64 (word_of frame)

abbrev pub pair_input : Pair → List (List ℕ)
pair_input pair = fed.str pair.key ++ fed.str pair.value

abbrev pub shown_input : Shown → List (List ℕ)
shown_input shown = fed.slice frame_input shown.stack ++ fed.slice pair_input shown.labels

abbrev pub need_input : Need → List (List ℕ)
need_input need = fed.str (text_of need)

-- functions and sites

module _ where
  itself : (a : Routine) → same_routine a a ≡ true
  itself (Numbered f) = nat_eq_equiv.refl f
  itself LostEvents = refl

  turned : (a b : Routine) → same_routine a b ≡ same_routine b a
  turned (Numbered f) (Numbered g) = nat_eq_equiv.symm f g
  turned (Numbered f) LostEvents = refl
  turned LostEvents (Numbered g) = refl
  turned LostEvents LostEvents = refl

  alike : (a b c : Routine) → same_routine a b ≡ true → same_routine a c ≡ same_routine b c
  alike (Numbered f) (Numbered g) (Numbered k) h = nat_eq_equiv.congr f g k h
  alike (Numbered f) (Numbered g) LostEvents h = refl
  alike (Numbered f) LostEvents c h = absurd (true≢false (sym h))
  alike LostEvents (Numbered g) c h = absurd (true≢false (sym h))
  alike LostEvents LostEvents c h = refl

  pub same_routine_equiv : IsEquivalence same_routine
  same_routine_equiv = record { refl = itself; symm = turned; congr = alike }

pub routine_input-same : (a b : Routine) → same_routine a b ≡ true → routine_input a ≡ routine_input b
routine_input-same (Numbered f) (Numbered g) h = ap fed.u32 ((Decides-eqb f g).0 h)
routine_input-same (Numbered f) LostEvents h = absurd (true≢false (sym h))
routine_input-same LostEvents (Numbered g) h = absurd (true≢false (sym h))
routine_input-same LostEvents LostEvents h = refl

pub same_site_equiv : IsEquivalence same_site
same_site_equiv =
    and_equiv
    (on_equiv (λ (site : Site). site.routine) same_routine_equiv)
    (on_equiv (λ (site : Site). site.line) nat_eq_equiv)

routine_alike : Alike same_routine routine_input
routine_alike = record { fed = routine_input-same }

site_alike : Alike same_site site_input
site_alike =
    and-Alike
    (on_Alike (λ (site : Site). site.routine) routine_alike)
    (on_Alike (λ (site : Site). site.line) (same_Alike fed.u32 Decides-eqb))

pub site_input-same : (a b : Site) → same_site a b ≡ true → site_input a ≡ site_input b
site_input-same = site_alike.fed

-- stacks with labels

same_frame_equiv : IsEquivalence same_frame
same_frame_equiv =
    and_equiv
    (on_equiv (λ (frame : Frame). frame.function) nat_eq_equiv)
    (on_equiv (λ (frame : Frame). frame.line) nat_eq_equiv)

same_pair_equiv : IsEquivalence same_pair
same_pair_equiv =
    and_equiv
    (on_equiv (λ (pair : Pair). pair.key) nat_list_eq_equiv)
    (on_equiv (λ (pair : Pair). pair.value) nat_list_eq_equiv)

pub same_frames_equiv : IsEquivalence (pointwise same_frame)
same_frames_equiv = lists_equiv same_frame_equiv

pub same_shown_equiv : IsEquivalence same_shown
same_shown_equiv =
    and_equiv
    (on_equiv (λ (shown : Shown). shown.stack) same_frames_equiv)
    (on_equiv (λ (shown : Shown). shown.labels) (lists_equiv same_pair_equiv))

pub both_first : (a b : Bool) → (a && b) ≡ true → a ≡ true
both_first true b h = refl
both_first false b h = absurd (true≢false (sym h))

pub both_second : (a b : Bool) → (a && b) ≡ true → b ≡ true
both_second true b h = h
both_second false b h = absurd (true≢false (sym h))

-- frames that are the same are equal
pub same_frame-is : (a b : Frame) → same_frame a b ≡ true → a ≡ b
same_frame-is a b h =
    let f : a.function ≡ b.function = (Decides-eqb a.function b.function).0 (both_first (a.function == b.function) (a.line == b.line) h) in
    let l : a.line ≡ b.line = (Decides-eqb a.line b.line).0 (both_second (a.function == b.function) (a.line == b.line) h) in
    λ i. record { function = f i; line = l i }

frame_alike : Alike same_frame frame_input
frame_alike = record { fed = λ a b h. ap frame_input (same_frame-is a b h) }

pair_alike : Alike same_pair pair_input
pair_alike =
    and-Alike
    (on_Alike (λ (pair : Pair). pair.key) (same_Alike fed.str bytes_decides))
    (on_Alike (λ (pair : Pair). pair.value) (same_Alike fed.str bytes_decides))

frames_alike : Alike (pointwise same_frame) (fed.slice frame_input)
frames_alike = items_Alike frame_alike

pub frames_input-same : (a b : List Frame) → pointwise same_frame a b ≡ true → fed.slice frame_input a ≡ fed.slice frame_input b
frames_input-same = frames_alike.fed

shown_alike : Alike same_shown shown_input
shown_alike =
    and-Alike
    (on_Alike (λ (shown : Shown). shown.stack) frames_alike)
    (on_Alike (λ (shown : Shown). shown.labels) (items_Alike pair_alike))

pub shown_input-same : (a b : Shown) → same_shown a b ≡ true → shown_input a ≡ shown_input b
shown_input-same = shown_alike.fed

-- texts

module _ where
  itself_need : (need : Need) → same_need need need ≡ true
  itself_need (text a) = nat_list_eq_equiv.refl a
  itself_need no_value = refl

  turned_need : (a b : Need) → same_need a b ≡ same_need b a
  turned_need (text a) (text b) = nat_list_eq_equiv.symm a b
  turned_need (text a) no_value = refl
  turned_need no_value (text b) = refl
  turned_need no_value no_value = refl

  alike_need : (a b c : Need) → same_need a b ≡ true → same_need a c ≡ same_need b c
  alike_need (text a) (text b) (text c) h = nat_list_eq_equiv.congr a b c h
  alike_need (text a) (text b) no_value h = refl
  alike_need (text a) no_value c h = absurd (true≢false (sym h))
  alike_need no_value (text b) c h = absurd (true≢false (sym h))
  alike_need no_value no_value c h = refl

  pub same_need_equiv : IsEquivalence same_need
  same_need_equiv = record { refl = itself_need; symm = turned_need; congr = alike_need }

pub need_input-same : (a b : Need) → same_need a b ≡ true → need_input a ≡ need_input b
need_input-same (text a) (text b) h = ap fed.str ((bytes_decides a b).0 h)
need_input-same (text a) no_value h = absurd (true≢false (sym h))
need_input-same no_value (text b) h = absurd (true≢false (sym h))
need_input-same no_value no_value h = refl
