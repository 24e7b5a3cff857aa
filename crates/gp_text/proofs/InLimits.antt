-- What lines without fault are, one behind another, and what each says.
use Rattle.std.proofs.Common.{◌≡◌, inl, inr, ℕ, ◌<◌, ◌≤◌, true, false, ◌&&◌, List, [], ◌∷◌, ◌++◌, length, refl, sym, ◌∙◌, arith, Option, Some, None, nat_le, nat_lt, append_assoc, length-append}
use Rattle.std.specs.Prelude.{All, codes, fold}
use Rattle.std.specs.List.{IsDistinct, AllByRecursion, list_all}
use Rattle.std.specs.Str.{IsUtf8, bytes_eq, is_utf8}
use Rattle.std.specs.Cmp.Lexicographic.{nat_list_eq_equiv}
use Rattle.std.proofs.lemmas.List.{append-nil}
use Rattle.std.proofs.lemmas.List.Elements.{All-from_recursion}
use Rattle.std.proofs.lemmas.Map.Keys.{IsDistinct-push}
use Rattle.std.proofs.lemmas.Bool.Decides.{nat_tests}
use Rattle.std.proofs.lemmas.Str.{IsUtf8-from_is_utf8}
use Rattle.gp_text.specs.declared.verb.Verb.{Verb}
use Rattle.gp_text.specs.declared.space.Space.{Space}
use Rattle.gp_text.specs.declared.space.Space.TheVariants.{Functions, Channels, Mutexes, LabelSets}
use Rattle.gp_text.specs.declared.said.Declared.{Declared}
use Rattle.gp_text.specs.declared.said.Declared.TheVariants.{Function, Channel, Mutex, LabelSet}
use Rattle.gp_text.specs.declared.said.Said.{Said}
use Rattle.gp_text.specs.declared.said.Said.TheVariants.{NotUtf8, Nonsense, Silent, Declares, Loop, Work, Use, Close}
use Rattle.gp_text.specs.Pieces.{words_of}
use Rattle.gp_text.specs.Line.{is_name, is_pair, number, one, two, is_open, header_of, capacity_of, channel_of, mutex_of, label_set_of, outside, count_of, work_of, turns_of, loop_of, close_of, verb_of, name_of, use_of, inside, is_comment, spoken, said_of, deep_after, said_from}
use Rattle.gp_text.specs.Fault.{Known, known_of, names, declared_in, most_names, fits, is_count, depth, fault, first_fault}
use Rattle.gp_text.specs.CanBuild.{CanDeclare, CanBuild}
use Rattle.gp_text.proofs.Told.{told, either}
use Rattle.gp_text.proofs.Texts.{both_left, both_right}
use Rattle.gp_text.proofs.WordCuts.{IsClean, IsLine, words_texts, words_clean}
use Rattle.gp_text.proofs.Behind.{Adds, adds, names_more, no_fault, first_passed, fresh}

-- what holds of each line, with how many bodies are open before it
abbrev pub AllDeep : (ℕ → Said → Type 0) → ℕ → List Said → Type 0
AllDeep P deep [] = Unit {0}
AllDeep P deep (s ∷ said) = P deep s × AllDeep P (deep_after deep s) said

deep_push : (P : ℕ → Said → Type 0) (deep : ℕ) (xs : List Said) (x : Said) → AllDeep P deep xs → P (fold deep_after deep xs) x → AllDeep P deep (xs ++ x ∷ [])
deep_push P deep [] x h p = (p, tt)
deep_push P deep (y ∷ xs) x h p = (h.0, deep_push P (deep_after deep y) xs x h.1 p)

-- The numbers of a line are in their ranges.
unfoldable pub Fits : ℕ → Said → Type 0
Fits deep (Work n) = (1 ≤ n) × (n ≤ 4294967295)
Fits deep (Loop n) = ((1 ≤ n) × (n ≤ 4294967295)) × (deep ≤ 8)
Fits deep (Declares name declared) = fits declared ≡ true
Fits deep NotUtf8 = ⊥
Fits deep Nonsense = ⊥
Fits deep _ = Unit {0}

-- What lines without fault are, one behind another.
pub record AreSound (said : List Said) : Type 0 where
  pub distinct : (space : Space) → IsDistinct bytes_eq (names space said)
  pub few : (space : Space) → length (names space said) ≤ most_names space
  pub fit : AllDeep Fits 0 said

is_range : (n : ℕ) → is_count n ≡ true → (1 ≤ n) × (n ≤ 4294967295)
is_range n h = (grind (arith, nat_tests), grind (arith, nat_tests))

fits_work : (deep : ℕ) (known : Known) (n : ℕ) → fault deep known (Work n) ≡ None → (1 ≤ n) × (n ≤ 4294967295)
unfolding fault
fits_work deep known n h = elim (told (is_count n)) [
  | inl t ↦ is_range n t
  | inr f ↦ let e = rw f at h in absurd cc
]

fits_loop : (deep : ℕ) (known : Known) (n : ℕ) → fault deep known (Loop n) ≡ None → ((1 ≤ n) × (n ≤ 4294967295)) × (deep ≤ 8)
unfolding fault
fits_loop deep known n h = elim (told (is_count n && nat_le deep 8)) [
  | inl t ↦
      let less = both_right (is_count n) (nat_le deep 8) t in
      (is_range n (both_left (is_count n) (nat_le deep 8) t), grind (arith, nat_tests))
  | inr f ↦ let e = rw f at h in absurd cc
]

fits_declared : (deep : ℕ) (known : Known) (name : List ℕ) (declared : Declared) → fault deep known (Declares name declared) ≡ None → fits declared ≡ true
unfolding fault
fits_declared deep known name declared h = (fresh known name declared h).fitting

line_fits : (deep : ℕ) (known : Known) (s : Said) → fault deep known s ≡ None → Fits deep s
unfolding Fits fault
line_fits deep known NotUtf8 h = absurd cc
line_fits deep known Nonsense h = absurd cc
line_fits deep known (Work n) h = fits_work deep known n h
line_fits deep known (Loop n) h = fits_loop deep known n h
line_fits deep known (Declares name declared) h = fits_declared deep known name declared h
line_fits deep known s h = tt

-- one more name in a space, or none
distinct_more : (known : Known) (space : Space) (added : List (List ℕ)) → Adds known space added → IsDistinct bytes_eq (known space) → IsDistinct bytes_eq (known space ++ added)
unfolding Adds
distinct_more known space added (inl none) h = rw (none, append-nil (known space)) h
distinct_more known space added (inr one) h = let e = one.1 in rw e (IsDistinct-push nat_list_eq_equiv (known space) one.0 h one.2)

few_more : (known : Known) (space : Space) (added : List (List ℕ)) → Adds known space added → length (known space) ≤ most_names space → length (known space ++ added) ≤ most_names space
unfolding Adds
few_more known space added (inl none) h = rw (none, append-nil (known space)) h
few_more known space added (inr one) h =
    let e = one.1 in let room = one.3 in
    let less : length (known space) < most_names space = grind (arith, nat_tests) in
    rw (e, length-append (known space) (one.0 ∷ [])) (omega arith)

sound_more : (before : List Said) (s : Said) → AreSound before → fault (depth before) (known_of before) s ≡ None → AreSound (before ++ s ∷ [])
sound_more before s sound h = record {
  distinct = λ space. rw (names_more before s space) (distinct_more (known_of before) space (declared_in space s) (adds (depth before) (known_of before) s space h) (sound.distinct space));
  few = λ space. rw (names_more before s space) (few_more (known_of before) space (declared_in space s) (adds (depth before) (known_of before) s space h) (sound.few space));
  fit = deep_push Fits 0 before s sound.fit (line_fits (depth before) (known_of before) s h);
}

sound_all : (before after : List Said) → AreSound before → first_fault before after ≡ None → AreSound (before ++ after)
sound_all before [] sound h = rw (append-nil before) sound
sound_all before (s ∷ after) sound h =
    let none = no_fault before s after h in
    let rest = sound_all (before ++ s ∷ []) after (sound_more before s sound none) (sym (first_passed before s after none) ∙ h) in
    rw (← append_assoc before (s ∷ []) after) rest

few_none : (space : Space) → 0 ≤ most_names space
few_none Functions = omega arith
few_none Channels = omega arith
few_none Mutexes = omega arith
few_none LabelSets = omega arith

sound_none : AreSound []
unfolding IsDistinct
sound_none = record { distinct = λ space. tt; few = few_none; fit = tt }

pub sound_of : (said : List Said) → first_fault [] said ≡ None → AreSound said
sound_of said h = sound_all [] said sound_none h

-- Pairs are texts, each with a key.
pub record ArePairWords (pairs : List (List ℕ)) : Type 0 where
  pub texts : AllByRecursion IsUtf8 pairs
  pub clean : AllByRecursion IsClean pairs
  pub formed : list_all is_pair pairs ≡ true

unfoldable pub Written : Declared → Type 0
Written (LabelSet pairs) = ArePairWords pairs
Written _ = Unit {0}

-- What a line declares stands outside functions, and its name is one; statements and braces stand inside.
unfoldable pub Named : ℕ → Said → Type 0
Named deep (Declares name declared) = (deep ≡ 0) × (is_name name ≡ true) × Written declared
Named deep (Loop turns) = 0 < deep
Named deep (Work n) = 0 < deep
Named deep (Use verb name) = (0 < deep) × (is_name name ≡ true)
Named deep Close = 0 < deep
Named deep _ = Unit {0}

header_named : (o : Option (List ℕ × List ℕ)) → Named 0 (header_of o)
unfolding Named Written
header_named (Some w) = either (Named 0) (is_name w.0 && is_open w.1) (Declares w.0 Function) Nonsense (λ t. (refl, both_left (is_name w.0) (is_open w.1) t, tt)) tt
header_named None = tt

capacity_named : (name : List ℕ) (o : Option ℕ) → is_name name ≡ true → Named 0 (capacity_of name o)
unfolding Named Written
capacity_named name (Some capacity) h = (refl, h, tt)
capacity_named name None h = tt

channel_named : (o : Option (List ℕ × List ℕ)) → Named 0 (channel_of o)
unfolding Named
channel_named (Some w) = either (Named 0) (is_name w.0) (capacity_of w.0 (number w.1)) Nonsense (λ t. capacity_named w.0 (number w.1) t) tt
channel_named None = tt

mutex_named : (o : Option (List ℕ)) → Named 0 (mutex_of o)
unfolding Named Written
mutex_named (Some name) = either (Named 0) (is_name name) (Declares name Mutex) Nonsense (λ t. (refl, t, tt)) tt
mutex_named None = tt

labels_named : (words : List (List ℕ)) → AllByRecursion IsUtf8 words → AllByRecursion IsClean words → Named 0 (label_set_of words)
unfolding Named Written
labels_named [] all clean = tt
labels_named (name ∷ pairs) all clean =
    either (Named 0) (is_name name && list_all is_pair pairs) (Declares name (LabelSet pairs)) Nonsense
    (λ t. (refl, both_left (is_name name) (list_all is_pair pairs) t, record { texts = all.1; clean = clean.1; formed = both_right (is_name name) (list_all is_pair pairs) t })) tt

outside_named : (word : List ℕ) (after : List (List ℕ)) → AllByRecursion IsUtf8 after → AllByRecursion IsClean after → Named 0 (outside word after)
unfolding outside Named
outside_named word after all clean =
    either (Named 0) (bytes_eq word (codes "func")) _ _ (λ t. header_named (two after))
    (either (Named 0) (bytes_eq word (codes "chan")) _ _ (λ t. channel_named (two after))
    (either (Named 0) (bytes_eq word (codes "mutex")) _ _ (λ t. mutex_named (one after))
    (either (Named 0) (bytes_eq word (codes "labels")) _ _ (λ t. labels_named after all clean) tt)))

-- What stands inside functions.
abbrev Inner : Said → Type 0
Inner s = (deep : ℕ) → 0 < deep → Named deep s

count_inner : (o : Option ℕ) → Inner (count_of o)
unfolding Named
count_inner (Some n) = λ deep open_. open_
count_inner None = λ deep open_. tt

work_inner : (o : Option (List ℕ)) → Inner (work_of o)
unfolding Named
work_inner (Some digits) = count_inner (number digits)
work_inner None = λ deep open_. tt

turns_inner : (o : Option ℕ) → Inner (turns_of o)
unfolding Named
turns_inner (Some n) = λ deep open_. open_
turns_inner None = λ deep open_. tt

loop_inner : (o : Option (List ℕ × List ℕ)) → Inner (loop_of o)
unfolding Named
loop_inner (Some w) = either Inner (is_open w.1) (turns_of (number w.0)) Nonsense (λ t. turns_inner (number w.0)) (λ deep open_. tt)
loop_inner None = λ deep open_. tt

close_inner : (words : List (List ℕ)) → Inner (close_of words)
unfolding Named
close_inner [] = λ deep open_. open_
close_inner (word ∷ words) = λ deep open_. tt

name_inner : (verb : Verb) (o : Option (List ℕ)) → Inner (name_of verb o)
unfolding Named
name_inner verb (Some name) = either Inner (is_name name) (Use verb name) Nonsense (λ t deep open_. (open_, t)) (λ deep open_. tt)
name_inner verb None = λ deep open_. tt

use_inner : (verb : Option Verb) (o : Option (List ℕ)) → Inner (use_of verb o)
unfolding Named
use_inner (Some verb) o = name_inner verb o
use_inner None o = λ deep open_. tt

inside_inner : (word : List ℕ) (after : List (List ℕ)) → Inner (inside word after)
unfolding inside
inside_inner word after =
    either Inner (bytes_eq word (codes "work")) _ _ (λ t. work_inner (one after))
    (either Inner (bytes_eq word (codes "loop")) _ _ (λ t. loop_inner (two after))
    (either Inner (bytes_eq word (codes "}")) _ _ (λ t. close_inner after) (use_inner (verb_of word) (one after))))

-- nothing is open where a line stands outside
none_open : (deep : ℕ) → nat_lt 0 deep ≡ false → deep ≡ 0
none_open deep h = grind (arith, nat_tests)

spoken_named : (deep : ℕ) (words : List (List ℕ)) → AllByRecursion IsUtf8 words → AllByRecursion IsClean words → Named deep (spoken (nat_lt 0 deep) words)
unfolding Named
spoken_named deep [] all clean = tt
spoken_named deep (word ∷ after) all clean =
    either (Named deep) (is_comment word) Silent _ (λ t. tt)
    (elim (told (nat_lt 0 deep)) [
      | inl t ↦ rw t (inside_inner word after deep (grind (arith, nat_tests)))
      | inr f ↦ let none = none_open deep f in rw none (outside_named word after all.1 clean.1)
    ])

said_named : (deep : ℕ) (line : List ℕ) → IsLine line → Named deep (said_of (nat_lt 0 deep) line)
unfolding said_of Named
said_named deep line single = elim (told (is_utf8 line)) [
  | inl t ↦ rw t (spoken_named deep (words_of line) (words_texts line (IsUtf8-from_is_utf8 line t)) (words_clean line single))
  | inr f ↦ rw f tt
]

pub all_named : (deep : ℕ) (lines : List (List ℕ)) → AllByRecursion IsLine lines → AllDeep Named deep (said_from deep lines)
unfolding said_from
all_named deep [] single = tt
all_named deep (line ∷ lines) single = (said_named deep line single.0, all_named (deep_after deep (said_of (nat_lt 0 deep) line)) lines single.1)

can_declare : (declared : Declared) → Written declared → fits declared ≡ true → CanDeclare declared
unfolding Written
can_declare (Channel capacity) written fit = let less : capacity ≤ 65535 = grind (arith, nat_tests) in omega arith
can_declare (LabelSet pairs) written fit = All-from_recursion IsUtf8 pairs written.texts
can_declare Function written fit = tt
can_declare Mutex written fit = tt

can_build : (deep : ℕ) (s : Said) → Named deep s → Fits deep s → CanBuild s
unfolding Named Fits
can_build deep (Declares name declared) named fit = (named.1, can_declare declared named.2 fit)
can_build deep (Loop turns) named fit = omega (arith, fit.0.1)
can_build deep (Work n) named fit = omega (arith, fit.1)
can_build deep NotUtf8 named fit = absurd fit
can_build deep Nonsense named fit = absurd fit
can_build deep Silent named fit = tt
can_build deep (Use verb name) named fit = tt
can_build deep Close named fit = tt

can_build_all : (deep : ℕ) (said : List Said) → AllDeep Named deep said → AllDeep Fits deep said → AllByRecursion CanBuild said
can_build_all deep [] named fit = tt
can_build_all deep (s ∷ said) named fit = (can_build deep s named.0 fit.0, can_build_all (deep_after deep s) said named.1 fit.1)

-- parts can be built from lines without fault
pub buildable : (said : List Said) → AllDeep Named 0 said → AreSound said → All CanBuild said
buildable said named sound = All-from_recursion CanBuild said (can_build_all 0 said named sound.fit)
