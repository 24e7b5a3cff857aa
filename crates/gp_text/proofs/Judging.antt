-- What each pass makes of a file.
use Rattle.std.proofs.Common.{◌≡◌, inl, inr, ℕ, ◌+◌, ◌≤◌, Bool, true, false, List, [], ◌∷◌, length, refl, sym, ap, subst, ◌∙◌, arith, Some, None, nat_lt, Result, Ok, Err}
use Rattle.std.proofs.lemmas.Bool.Decides.{nat_tests}
use Rattle.std.specs.Result.{IsErrAnd, IfErr}
use Rattle.std.specs.Prelude.{position, All}
use Rattle.std.specs.List.{AllByRecursion, position_or_len}
use Rattle.gp_isa.specs.declared.parts.Parts.{Parts}
use Rattle.gp_isa.specs.declared.parts.Function.{Function}
use Rattle.gp_isa.specs.declared.parts.ChannelDecl.{ChannelDecl}
use Rattle.gp_isa.specs.declared.parts.MutexDecl.{MutexDecl}
use Rattle.gp_isa.specs.declared.parts.LabelSet.{LabelSet}
use Rattle.gp_isa.specs.Checked.{main_of}
use Rattle.gp_isa.specs.Calls.{IsProgram}
use Rattle.gp_isa.specs.InLimits.{AreInLimits}
use Rattle.gp_text.specs.declared.cause.Cause.{Cause}
use Rattle.gp_text.specs.declared.cause.Cause.TheVariants as cause
use Rattle.gp_text.specs.declared.error.TextError.{TextError}
use Rattle.gp_text.specs.declared.error.TextError.TheVariants.{Refused, Memory}
use Rattle.gp_text.specs.declared.said.Said.{Said}
use Rattle.gp_text.specs.Pieces.{lines_of}
use Rattle.gp_text.specs.Line.{said_from}
use Rattle.gp_text.specs.Fault.{Known, known_of, names, is_unknown, first_fault}
use Rattle.gp_text.specs.Refused.{IsRefusal}
use Rattle.gp_text.specs.Reading.{functions_at, channel_of, mutex_of, label_set_of, each_at, parts_of, Gives, Refuses, checked, judged, program_of, IsRefusalOf}
use Rattle.gp_text.specs.CanBuild.{CanBuild, AreFew}
use Rattle.gp_text.proofs.Told.{told, told_option}
use Rattle.gp_text.proofs.WordCuts.{lines_are}
use Rattle.gp_text.proofs.InLimits.{AllDeep, Named, all_named, sound_of, buildable}
use Rattle.gp_text.proofs.Fitting.{in_limits}

-- the parts that are built
pub parts_are : (fs : List Function) (cs : List ChannelDecl) (ms : List MutexDecl) (ls : List LabelSet) (known : Known) (said : List Said) → fs ≡ functions_at known 1 said → cs ≡ each_at channel_of 1 said →
    ms ≡ each_at mutex_of 1 said → ls ≡ each_at label_set_of 1 said →
    known ≡ known_of said
    → record { functions = fs; channels = cs; mutexes = ms; labels = ls } ≡ parts_of said
parts_are fs cs ms ls known said f c m l k =
    let whole : fs ≡ functions_at (known_of said) 1 said = f ∙ ap (λ (n : Known). functions_at n 1 said) k in
    rw (whole, c, m, l) refl

-- a program passes the third pass
pub gives : (parts program : Parts) → IsProgram parts → program ≡ parts → checked parts ≡ Gives program
unfolding checked
gives parts program is same = elim (told_option (main_of parts)) [
  | inl none ↦ let e : false ≡ true = rw none at is.has_main in absurd cc
  | inr some ↦
      let main = some.1 in let empty = is.none_empty in let recursive = is.none_recursive in let long = is.none_too_long in
      rw (main, checked, empty, recursive, long) (ap Gives (sym same))
]

-- the first fault of the first pass, and that of the second
first_refuses : (said : List Said) (line : ℕ) (cause : Cause) → first_fault [] said ≡ Some (record { line = line; cause = cause }) → judged said ≡ Refuses line cause
unfolding judged
first_refuses said line cause h = rw (h, judged) refl

second_refuses : (said : List Said) (at : ℕ) → first_fault [] said ≡ None → position (is_unknown (known_of said)) said ≡ Some at → judged said ≡ Refuses (at + 1) cause.UnknownName
unfolding judged
second_refuses said at first h = rw (first, judged, h) refl

pub third_judges : (said : List Said) → first_fault [] said ≡ None → position (is_unknown (known_of said)) said ≡ None → judged said ≡ checked (parts_of said)
unfolding judged
third_judges said first h = rw (first, judged, h) refl

pub judged_of : (bytes : List ℕ) (said : List Said) → said ≡ said_from 0 (lines_of bytes) → program_of bytes ≡ judged said
unfolding program_of
judged_of bytes said is = ap judged (sym is)

pub refused_first : (bytes : List ℕ) (said : List Said) (e : TextError) → said ≡ said_from 0 (lines_of bytes) → IsRefusal (first_fault [] said) e → IsRefusalOf (program_of bytes) e
refused_first bytes said (Refused line cause) is h = judged_of bytes said is ∙ first_refuses said line cause h
refused_first bytes said Memory is h = tt

pub refused_second : (bytes : List ℕ) (said : List Said) (known : Known) (at : ℕ) → said ≡ said_from 0 (lines_of bytes) → first_fault [] said ≡ None → known ≡ known_of said → position (is_unknown known) said ≡ Some at →
    program_of bytes ≡ Refuses (at + 1) cause.UnknownName
refused_second bytes said known at is first same h = judged_of bytes said is ∙ second_refuses said at first (ap (λ (k : Known). position (is_unknown k) said) (sym same) ∙ h)

pub judged_third : (bytes : List ℕ) (said : List Said) (known : Known) (parts : Parts) → said ≡ said_from 0 (lines_of bytes) → first_fault [] said ≡ None → known ≡ known_of said → position (is_unknown known) said ≡ None → parts ≡ parts_of said →
    checked parts ≡ program_of bytes
judged_third bytes said known parts is first same h built = ap checked built ∙ sym (judged_of bytes said is ∙ third_judges said first (ap (λ (k : Known). position (is_unknown k) said) (sym same) ∙ h))

pub named_of : (bytes : List ℕ) (said : List Said) → said ≡ said_from 0 (lines_of bytes) → AllDeep Named 0 said
named_of bytes said is = subst (AllDeep Named 0) (sym is) (all_named 0 (lines_of bytes) (lines_are bytes))

-- as many names are known as there may be at most
pub few_known : (known : Known) (said : List Said) → first_fault [] said ≡ None → known ≡ known_of said → AreFew known
few_known known said first is = λ space. let few = (sound_of said first).few space in let e : length (known space) ≡ length (names space said) = ap (λ (k : Known). length (k space)) is in omega arith

pub can_build : (bytes : List ℕ) (said : List Said) → said ≡ said_from 0 (lines_of bytes) → first_fault [] said ≡ None → All CanBuild said
can_build bytes said is first = buildable said (named_of bytes said is) (sound_of said first)

-- none passes a test
none_before : {X : Type 0} (p : X → Bool) (xs : List X) → length xs ≤ position_or_len p xs → AllByRecursion (λ x. p x ≡ false) xs
none_before p [] h = tt
none_before p (x ∷ xs) h = elim (told (p x)) [
  | inl t ↦ let e : length (x ∷ xs) ≤ 0 = rw t at h in absurd (omega arith)
  | inr f ↦ let e : length (x ∷ xs) ≤ 1 + position_or_len p xs = rw f at h in (f, none_before p xs (omega arith))
]

pub none_passes : {X : Type 0} (p : X → Bool) (xs : List X) → position p xs ≡ None → AllByRecursion (λ x. p x ≡ false) xs
none_passes p xs h = elim (told (nat_lt (position_or_len p xs) (length xs))) [
  | inl t ↦ let e : Some (position_or_len p xs) ≡ None = rw t at h in absurd cc
  | inr f ↦ none_before p xs (grind (arith, nat_tests))
]

pub limits : (bytes : List ℕ) (said : List Said) (known : Known) (parts : Parts) → said ≡ said_from 0 (lines_of bytes) → first_fault [] said ≡ None → known ≡ known_of said → position (is_unknown known) said ≡ None → parts ≡ parts_of said →
    AreInLimits parts
limits bytes said known parts is first same none built =
    let usable = none_passes (is_unknown (known_of said)) said (ap (λ (k : Known). position (is_unknown k) said) (sym same) ∙ none) in
    subst AreInLimits (sym built) (in_limits said (named_of bytes said is) (sound_of said first) usable)

-- a refusal that is passed on by `?`
pub passed_on : {T : Type 0} (r : Result T TextError) (x : TextError) (P : TextError → Type 0) → IsErrAnd r (λ e. e ≡ x) → P x → IfErr r P
passed_on (Ok t) x P h p = tt
passed_on (Err e) x P h p = subst P (sym h) p
