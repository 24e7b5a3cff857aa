-- Lines that are spelled anew give the same program: empty lines at the end are gone, and label sets stand in their order.
use Rattle.std.proofs.Common.{◌≡◌, inl, inr, ℕ, zero, suc, ◌+◌, ◌<◌, ◌≤◌, Bool, true, false, ◌&&◌, cond, List, [], ◌∷◌, ◌++◌, length, get_or, take, drop, refl, sym, ap, subst, ◌∙◌, arith, append_assoc, Option, Some, None, nat_le, nat_lt}
use Rattle.std.proofs.Math.Path.{fun_ext}
use Rattle.std.specs.Prelude.{map, fold, position, option_to_list}
use Rattle.std.specs.List.{AllByRecursion, list_all, position_or_len}
use Rattle.std.proofs.lemmas.List.{append-nil, map-append, length-map, take-append-drop}
use Rattle.std.proofs.lemmas.List.Concat.{flat_map-append}
use Rattle.std.proofs.lemmas.Bool.Decides.{nat_tests}
use Rattle.gp_isa.specs.declared.parts.Parts.{Parts}
use Rattle.gp_isa.specs.declared.parts.ChannelDecl.{ChannelDecl}
use Rattle.gp_isa.specs.declared.parts.MutexDecl.{MutexDecl}
use Rattle.gp_isa.specs.declared.parts.LabelSet.{LabelSet}
use Rattle.gp_isa.specs.declared.parts.Pair.{Pair}
use Rattle.gp_isa.specs.Checked.{main_of, first_empty}
use Rattle.gp_isa.specs.Calls.{first_recursive, first_too_long}
use Rattle.gp_labels.specs.LabelSet.{canonical_of}
use Rattle.gp_labels.proofs.Puts.{canonical-few, canonical-each, canonical-twice}
use Rattle.gp_text.specs.declared.verb.Verb.{Verb}
use Rattle.gp_text.specs.declared.verb.Verb.TheVariants.{Call, Spawn, Send, Recv, Lock, Unlock, Labels}
use Rattle.gp_text.specs.declared.space.Space.{Space}
use Rattle.gp_text.specs.declared.space.Space.TheVariants.{Channels, Mutexes, LabelSets}
use Rattle.gp_text.specs.declared.said.Declared.{Declared}
use Rattle.gp_text.specs.declared.said.Declared.TheVariants.{Function as AFunction, Channel, Mutex, LabelSet as ALabelSet}
use Rattle.gp_text.specs.declared.said.Said.{Said}
use Rattle.gp_text.specs.declared.said.Said.TheVariants.{NotUtf8, Nonsense, Silent, Declares, Loop, Work, Use, Close}
use Rattle.gp_text.specs.Pieces.{lines_of}
use Rattle.gp_text.specs.Line.{pair_of, deep_after, said_from}
use Rattle.gp_text.specs.Fault.{Known, known_of, names, declared_in, same_space, kind_of, pair_fits, fits, depth, declaration_fault, fault, first_fault, is_unknown}
use Rattle.gp_text.specs.Reading.{line_in_front, first, blocks_at, function_with, function_of, functions_at, channel_of, mutex_of, label_set_of, each_at, parts_of, Gives, checked, judged, program_of}
use Rattle.gp_text.specs.Text.{last_line, text_of}
use Rattle.gp_text.proofs.Told.{told, told_option}
use Rattle.gp_text.proofs.Texts.{both_left, both_right}
use Rattle.gp_text.proofs.Behind.{fresh, depth_more, no_fault, first_passed, first_over}
use Rattle.gp_text.proofs.InLimits.{AllDeep, Fits, Named, Written, ArePairWords, sound_of}
use Rattle.gp_text.proofs.Judging.{named_of, none_passes, third_judges, judged_of}
use Rattle.gp_text.proofs.Fitting.{IsKnown, function_names, each_names, channel_name, mutex_name, label_name}
use Rattle.gp_text.proofs.Forms.{pair_word, set_words, normal, normal_of, spell, labels_again, set_labels, pair_again, IsLabel}
use Rattle.gp_text.proofs.Placing.{AreNamed, Whole}
use Rattle.gp_text.proofs.WordCuts.{next_of}
use Rattle.gp_text.proofs.Again.{by_kind, line_at, beyond, text_said, deep_normal, front_deep}

abbrev AllSilent : List Said → Type 0
AllSilent tail = AllByRecursion (λ s. s ≡ Silent) tail

-- where nothing is spelled nothing was said
verb_says : (verb : Verb) (name : List ℕ) → spell (Use verb name) ≡ [] → ⊥
unfolding spell
verb_says Call name h = cc
verb_says Spawn name h = cc
verb_says Send name h = cc
verb_says Recv name h = cc
verb_says Lock name h = cc
verb_says Unlock name h = cc
verb_says Labels name h = cc

declares_says : (name : List ℕ) (declared : Declared) → spell (Declares name declared) ≡ [] → ⊥
unfolding spell
declares_says name AFunction h = cc
declares_says name (Channel capacity) h = cc
declares_says name Mutex h = cc
declares_says name (ALabelSet pairs) h = cc

silent_of : (deep : ℕ) (s : Said) → Fits deep s → spell s ≡ [] → s ≡ Silent
unfolding spell Fits
silent_of deep (Declares name declared) fit h = absurd (declares_says name declared h)
silent_of deep (Use verb name) fit h = absurd (verb_says verb name h)
silent_of deep (Loop n) fit h = absurd cc
silent_of deep (Work n) fit h = absurd cc
silent_of deep Close fit h = absurd cc
silent_of deep Silent fit h = refl
silent_of deep NotUtf8 fit h = absurd fit
silent_of deep Nonsense fit h = absurd fit

fit_at : (deep : ℕ) (said : List Said) (k : ℕ) → AllDeep Fits deep said → k < length said → (d : ℕ) × Fits d (get_or said k Silent)
fit_at deep [] k all within = absurd (omega arith)
fit_at deep (s ∷ said) zero all within = (deep, all.0)
fit_at deep (s ∷ said) (suc k) all within = fit_at (deep_after deep s) said k all.1 (omega arith)

silent_rest : (said : List Said) (m : ℕ) → ((k : ℕ) → m ≤ k → k < length said → get_or said k Silent ≡ Silent) → AllSilent (drop m said)
silent_rest [] zero each = tt
silent_rest [] (suc m) each = tt
silent_rest (s ∷ said) zero each = (each 0 (omega arith) (omega arith), silent_rest said zero (λ k from within. each (suc k) (omega arith) (omega arith)))
silent_rest (s ∷ said) (suc m) each = silent_rest said m (λ k from within. each (suc k) (omega arith) (omega arith))

tail_silent : (said : List Said) → AllDeep Fits 0 said → AllSilent (drop (last_line (by_kind said)) said)
tail_silent said fit = silent_rest said (last_line (by_kind said)) (λ k from within.
    let f = fit_at 0 said k fit within in
    silent_of f.0 (get_or said k Silent) f.1 (sym (line_at said k within) ∙ beyond (by_kind said) (k + 1) (omega arith)))

-- Silent lines at the end give nothing.
blocks_silent : (known : Known) (line : ℕ) (tail : List Said) → AllSilent tail → blocks_at known line tail ≡ []
unfolding blocks_at
blocks_silent known line [] all = refl
blocks_silent known line (s ∷ tail) all = ap (λ x. line_in_front known line x (blocks_at known (line + 1) tail)) all.0 ∙ blocks_silent known (line + 1) tail all.1

blocks_front : (known : Known) (line : ℕ) (said tail : List Said) → AllSilent tail → blocks_at known line (said ++ tail) ≡ blocks_at known line said
unfolding blocks_at
blocks_front known line [] tail all = blocks_silent known line tail all
blocks_front known line (s ∷ said) tail all = ap (line_in_front known line s) (blocks_front known (line + 1) said tail all)

function_front : (known : Known) (line : ℕ) (s : Said) (said tail : List Said) → AllSilent tail → function_of known line s (said ++ tail) ≡ function_of known line s said
function_front known line (Declares name AFunction) said tail all = ap (λ bs. Some (function_with name line (first bs))) (blocks_front known (line + 1) said tail all)
function_front known line s said tail all = refl

functions_silent : (known : Known) (line : ℕ) (tail : List Said) → AllSilent tail → functions_at known line tail ≡ []
unfolding functions_at
functions_silent known line [] all = refl
functions_silent known line (s ∷ tail) all = ap (λ x. option_to_list (function_of known line x tail) ++ functions_at known (line + 1) tail) all.0 ∙ functions_silent known (line + 1) tail all.1

functions_front : (known : Known) (line : ℕ) (said tail : List Said) → AllSilent tail → functions_at known line (said ++ tail) ≡ functions_at known line said
unfolding functions_at
functions_front known line [] tail all = functions_silent known line tail all
functions_front known line (s ∷ said) tail all =
    ap (λ o. option_to_list o ++ functions_at known (line + 1) (said ++ tail)) (function_front known line s said tail all) ∙ ap (λ l. option_to_list (function_of known line s said) ++ l) (functions_front known (line + 1) said tail all)

each_silent : {X : Type 0} (of : ℕ → Said → Option X) → ((line : ℕ) → of line Silent ≡ None) → (line : ℕ) (tail : List Said) → AllSilent tail → each_at of line tail ≡ []
unfolding each_at
each_silent of none line [] all = refl
each_silent of none line (s ∷ tail) all = ap (λ x. option_to_list (of line x) ++ each_at of (line + 1) tail) all.0 ∙ ap (λ o. option_to_list o ++ each_at of (line + 1) tail) (none line) ∙ each_silent of none (line + 1) tail all.1

each_front : {X : Type 0} (of : ℕ → Said → Option X) → ((line : ℕ) → of line Silent ≡ None) → (line : ℕ) (said tail : List Said) → AllSilent tail → each_at of line (said ++ tail) ≡ each_at of line said
unfolding each_at
each_front of none line [] tail all = each_silent of none line tail all
each_front of none line (s ∷ said) tail all = ap (λ l. option_to_list (of line s) ++ l) (each_front of none (line + 1) said tail all)

names_silent : (space : Space) (tail : List Said) → AllSilent tail → names space tail ≡ []
names_silent space [] all = refl
names_silent space (s ∷ tail) all = ap (λ x. declared_in space x ++ names space tail) all.0 ∙ names_silent space tail all.1

known_front : (said tail : List Said) → AllSilent tail → known_of (said ++ tail) ≡ known_of said
known_front said tail all = fun_ext (λ space. flat_map-append (declared_in space) said tail ∙ ap (λ l. names space said ++ l) (names_silent space tail all) ∙ append-nil (names space said))

parts_front : (said tail : List Said) → AllSilent tail → parts_of (said ++ tail) ≡ parts_of said
parts_front said tail all =
    let known = known_front said tail all in
    rw (known, functions_front (known_of said) 1 said tail all, each_front channel_of (λ line. refl) 1 said tail all, each_front mutex_of (λ line. refl) 1 said tail all, each_front label_set_of (λ line. refl) 1 said tail all) refl

-- no function is open behind lines without fault
shut : (before : List Said) → first_fault before [] ≡ None → depth before ≡ 0
shut before h = elim (told (nat_lt 0 (depth before))) [
  | inl t ↦ let e = sym (first_over before) ∙ h in let f = rw t at e in absurd cc
  | inr f ↦ grind (arith, nat_tests)
]

shut_none : (before : List Said) → depth before ≡ 0 → first_fault before [] ≡ None
shut_none before h = let test : nat_lt 0 (depth before) ≡ false = grind (arith, nat_tests) in first_over before ∙ rw test refl

first_silent : (before tail : List Said) → AllSilent tail → first_fault before tail ≡ None → first_fault before [] ≡ None
first_silent before [] all h = h
first_silent before (s ∷ tail) all h =
    let none = no_fault before s tail h in
    let rest = first_silent (before ++ s ∷ []) tail all.1 (sym (first_passed before s tail none) ∙ h) in
    let same : depth (before ++ s ∷ []) ≡ depth before = depth_more before s ∙ ap (deep_after (depth before)) all.0 in
    shut_none before (sym same ∙ shut (before ++ s ∷ []) rest)

first_front : (before said tail : List Said) → AllSilent tail → first_fault before (said ++ tail) ≡ None → first_fault before said ≡ None
first_front before [] tail all h = first_silent before tail all h
first_front before (s ∷ said) tail all h =
    let none = no_fault before s (said ++ tail) h in
    first_passed before s said none ∙ first_front (before ++ s ∷ []) said tail all (sym (first_passed before s (said ++ tail) none) ∙ h)

-- Label sets in their order are the same label sets.
kind_normal : (declared : Declared) → kind_of (normal_of declared) ≡ kind_of declared
kind_normal AFunction = refl
kind_normal (Channel capacity) = refl
kind_normal Mutex = refl
kind_normal (ALabelSet pairs) = refl

declared_normal : (space : Space) (s : Said) → declared_in space (normal s) ≡ declared_in space s
declared_normal space (Declares name declared) = ap (λ k. cond (same_space space k) (name ∷ []) []) (kind_normal declared)
declared_normal space s = refl

names_normal : (space : Space) (said : List Said) → names space (map normal said) ≡ names space said
names_normal space [] = refl
names_normal space (s ∷ said) = ap (λ l. l ++ names space (map normal said)) (declared_normal space s) ∙ ap (λ l. declared_in space s ++ l) (names_normal space said)

known_normal : (said : List Said) → known_of (map normal said) ≡ known_of said
known_normal said = fun_ext (λ space. names_normal space said)

front_normal : (known : Known) (line : ℕ) (s : Said) (blocks : List _) → line_in_front known line (normal s) blocks ≡ line_in_front known line s blocks
front_normal known line (Declares name declared) blocks = refl
front_normal known line s blocks = refl

blocks_normal : (known : Known) (line : ℕ) (said : List Said) → blocks_at known line (map normal said) ≡ blocks_at known line said
unfolding blocks_at
blocks_normal known line [] = refl
blocks_normal known line (s ∷ said) = front_normal known line s (blocks_at known (line + 1) (map normal said)) ∙ ap (line_in_front known line s) (blocks_normal known (line + 1) said)

function_normal : (known : Known) (line : ℕ) (s : Said) (said : List Said) → function_of known line (normal s) (map normal said) ≡ function_of known line s said
function_normal known line (Declares name AFunction) said = ap (λ bs. Some (function_with name line (first bs))) (blocks_normal known (line + 1) said)
function_normal known line s said = refl

functions_normal : (known : Known) (line : ℕ) (said : List Said) → functions_at known line (map normal said) ≡ functions_at known line said
unfolding functions_at
functions_normal known line [] = refl
functions_normal known line (s ∷ said) =
    ap (λ o. option_to_list o ++ functions_at known (line + 1) (map normal said)) (function_normal known line s said) ∙ ap (λ l. option_to_list (function_of known line s said) ++ l) (functions_normal known (line + 1) said)

each_normal : {X : Type 0} (of : ℕ → Said → Option X) (P : ℕ → Said → Type 0) → ((deep line : ℕ) (s : Said) → P deep s → of line (normal s) ≡ of line s) → (deep line : ℕ) (said : List Said) → AllDeep P deep said →
    each_at of line (map normal said) ≡ each_at of line said
unfolding each_at
each_normal of P one deep line [] all = refl
each_normal of P one deep line (s ∷ said) all =
    ap (λ o. option_to_list o ++ each_at of (line + 1) (map normal said)) (one deep line s all.0) ∙ ap (λ l. option_to_list (of line s) ++ l) (each_normal of P one (deep_after deep s) (line + 1) said all.1)

channel_normal : (deep line : ℕ) (s : Said) → Named deep s → channel_of line (normal s) ≡ channel_of line s
channel_normal deep line (Declares name (ALabelSet pairs)) named = refl
channel_normal deep line s named = refl

mutex_normal : (deep line : ℕ) (s : Said) → Named deep s → mutex_of line (normal s) ≡ mutex_of line s
mutex_normal deep line (Declares name (ALabelSet pairs)) named = refl
mutex_normal deep line s named = refl

words_of_set : (deep : ℕ) (name : List ℕ) (pairs : List (List ℕ)) → Named deep (Declares name (ALabelSet pairs)) → ArePairWords pairs
unfolding Named Written
words_of_set deep name pairs named = named.2

same_set : (pairs : List (List ℕ)) → ArePairWords pairs → canonical_of (map pair_of (set_words pairs)) ≡ canonical_of (map pair_of pairs)
same_set pairs words = ap canonical_of (labels_again (canonical_of (map pair_of pairs)) (set_labels pairs words)) ∙ canonical-twice (map pair_of pairs)

label_normal : (deep line : ℕ) (s : Said) → Named deep s → label_set_of line (normal s) ≡ label_set_of line s
label_normal deep line (Declares name (ALabelSet pairs)) named = ap (λ ps. Some (record { name = name; line = line; pairs = ps })) (same_set pairs (words_of_set deep name pairs named))
label_normal deep line s named = refl

parts_normal : (said : List Said) → AllDeep Named 0 said → parts_of (map normal said) ≡ parts_of said
parts_normal said named =
    rw (known_normal said, functions_normal (known_of said) 1 said, each_normal channel_of Named channel_normal 0 1 said named, each_normal mutex_of Named mutex_normal 0 1 said named, each_normal label_set_of Named label_normal 0 1 said named) refl

-- they have no fault
test_le : (m n : ℕ) → nat_le m n ≡ true → m ≤ n
test_le m n h = grind (arith, nat_tests)

le_test : (m n : ℕ) → m ≤ n → nat_le m n ≡ true
le_test m n h = grind (arith, nat_tests)

abbrev IsShort : List ℕ → Type 0
IsShort bytes = length bytes ≤ 64

short_pairs : (pairs : List (List ℕ)) → list_all pair_fits pairs ≡ true → AllByRecursion (λ (q : Pair). IsShort q.key × IsShort q.value) (map pair_of pairs)
short_pairs [] fit = tt
short_pairs (word ∷ pairs) fit =
    let one = both_left (pair_fits word) (list_all pair_fits pairs) fit in
    let key = both_left (nat_le (length (pair_of word).key) 64) (nat_le (length (pair_of word).value) 64) one in
    let value = both_right (nat_le (length (pair_of word).key) 64) (nat_le (length (pair_of word).value) 64) one in
    ((test_le (length (pair_of word).key) 64 key, test_le (length (pair_of word).value) 64 value), short_pairs pairs (both_right (pair_fits word) (list_all pair_fits pairs) fit))

fits_word : (q : Pair) → IsLabel q → IsShort q.key × IsShort q.value → pair_fits (pair_word q) ≡ true
fits_word q label short =
    ap (λ (p : Pair). nat_le (length p.key) 64 && nat_le (length p.value) 64) (pair_again q label.0.1)
    ∙ rw (le_test (length q.key) 64 short.0, le_test (length q.value) 64 short.1) refl

fits_words : (qs : List Pair) → AllByRecursion IsLabel qs → AllByRecursion (λ (q : Pair). IsShort q.key × IsShort q.value) qs → list_all pair_fits (map pair_word qs) ≡ true
fits_words [] labels short = refl
fits_words (q ∷ qs) labels short = rw (fits_word q labels.0 short.0, fits_words qs labels.1 short.1) refl

set_fits : (pairs : List (List ℕ)) → ArePairWords pairs → fits (ALabelSet pairs) ≡ true → fits (ALabelSet (set_words pairs)) ≡ true
set_fits pairs words fit =
    let few = test_le (length pairs) 16 (both_left (nat_le (length pairs) 16) (list_all pair_fits pairs) fit) in
    let short = canonical-each IsShort IsShort (map pair_of pairs) (short_pairs pairs (both_right (nat_le (length pairs) 16) (list_all pair_fits pairs) fit)) in
    let count : length (set_words pairs) ≤ 16 = omega (arith, length-map (canonical_of (map pair_of pairs)) pair_word, canonical-few (map pair_of pairs), length-map pairs pair_of) in
    rw (le_test (length (set_words pairs)) 16 count, fits_words (canonical_of (map pair_of pairs)) (set_labels pairs words) short) refl

set_fault : (known : Known) (name : List ℕ) (pairs : List (List ℕ)) → ArePairWords pairs → declaration_fault known name (ALabelSet pairs) ≡ None → declaration_fault known name (ALabelSet (set_words pairs)) ≡ None
unfolding declaration_fault
set_fault known name pairs words h =
    let f = fresh known name (ALabelSet pairs) h in
    let fit = set_fits pairs words f.fitting in
    rw (fit, f.room, f.fresh) refl

fault_normal : (deep at : ℕ) (known : Known) (s : Said) → Named at s → fault deep known s ≡ None → fault deep known (normal s) ≡ None
unfolding fault
fault_normal deep at known (Declares name (ALabelSet pairs)) named h = set_fault known name pairs (words_of_set at name pairs named) h
fault_normal deep at known (Declares name declared) named h = h
fault_normal deep at known s named h = h

depth_normal : (deep : ℕ) (said : List Said) → fold deep_after deep (map normal said) ≡ fold deep_after deep said
depth_normal deep [] = refl
depth_normal deep (s ∷ said) = ap (λ n. fold deep_after n (map normal said)) (deep_normal deep s) ∙ depth_normal (deep_after deep s) said

first_normal : (before after : List Said) → AllDeep Named (depth before) after → first_fault before after ≡ None → first_fault (map normal before) (map normal after) ≡ None
first_normal before [] named h = shut_none (map normal before) (depth_normal 0 before ∙ shut before h)
first_normal before (s ∷ after) named h =
    let none = no_fault before s after h in
    let again : fault (depth (map normal before)) (known_of (map normal before)) (normal s) ≡ None = rw (depth_normal 0 before, known_normal before) (fault_normal (depth before) (depth before) (known_of before) s named.0 none) in
    let more : map normal (before ++ s ∷ []) ≡ map normal before ++ normal s ∷ [] = map-append normal before (s ∷ []) in
    let rest = first_normal (before ++ s ∷ []) after (subst (λ n. AllDeep Named n after) (sym (depth_more before s)) named.1) (sym (first_passed before s after none) ∙ h) in
    first_passed (map normal before) (normal s) (map normal after) again ∙ ap (λ l. first_fault l (map normal after)) (sym more) ∙ rest

-- they use names that are known
unknown_normal : (known : Known) (s : Said) → is_unknown known (normal s) ≡ is_unknown known s
unknown_normal known (Declares name declared) = refl
unknown_normal known s = refl

known_lines : (known : Known) (n : ℕ) (said : List Said) → AllByRecursion (IsKnown known) said → AllByRecursion (IsKnown known) (map normal (take n said))
known_lines known zero said all = tt
known_lines known (suc n) [] all = tt
known_lines known (suc n) (s ∷ said) all = (unknown_normal known s ∙ all.0, known_lines known n said all.1)

none_place : (p : Said → Bool) (xs : List Said) → AllByRecursion (λ x. p x ≡ false) xs → position_or_len p xs ≡ length xs
none_place p [] all = refl
none_place p (x ∷ xs) all = let one = all.0 in rw (one, next_of (position_or_len p xs)) (ap suc (none_place p xs all.1))

none_position : (p : Said → Bool) (xs : List Said) → AllByRecursion (λ x. p x ≡ false) xs → position p xs ≡ None
none_position p xs all =
    let e = none_place p xs all in
    let test : nat_lt (position_or_len p xs) (length xs) ≡ false = grind (arith, nat_tests) in
    rw test refl

-- what was read
checked_parts : (parts program : Parts) → checked parts ≡ Gives program → parts ≡ program
unfolding checked
checked_parts parts program h = elim (told_option (main_of parts)) [
  | inl none ↦ let e = rw (none, checked) at h in absurd cc
  | inr main ↦ elim (told_option (first_empty parts)) [
    | inr some ↦ let e = rw (main.1, checked, some.1) at h in absurd cc
    | inl empty ↦ elim (told_option (first_recursive parts)) [
      | inr some ↦ let e = rw (main.1, checked, empty, some.1) at h in absurd cc
      | inl recursive ↦ elim (told_option (first_too_long parts)) [
        | inr some ↦ let e = rw (main.1, checked, empty, recursive, some.1) at h in absurd cc
        | inl long ↦ let e = rw (main.1, checked, empty, recursive, long) at h in cc
      ]
    ]
  ]
]

-- what lines are that give a program
pub record Given (said : List Said) (program : Parts) : Type 0 where
  pub first : first_fault [] said ≡ None
  pub second : position (is_unknown (known_of said)) said ≡ None
  pub third : checked (parts_of said) ≡ Gives program

given : (said : List Said) (program : Parts) → judged said ≡ Gives program → Given said program
unfolding judged
given said program h = elim (told_option (first_fault [] said)) [
  | inr some ↦ let e = rw (some.1, judged) at h in absurd cc
  | inl first ↦ elim (told_option (position (is_unknown (known_of said)) said)) [
    | inr some ↦ let e = rw (first, judged, some.1) at h in absurd cc
    | inl second ↦ record { first = first; second = second; third = sym (third_judges said first second) ∙ h }
  ]
]

names_are : (said : List Said) → AreNamed (parts_of said) (known_of said)
names_are said = record {
  functions = function_names (known_of said) 1 said;
  channels = each_names channel_of (λ (c : ChannelDecl). c.name) Channels channel_name 1 said;
  mutexes = each_names mutex_of (λ (m : MutexDecl). m.name) Mutexes mutex_name 1 said;
  labels = each_names label_set_of (λ (l : LabelSet). l.name) LabelSets label_name 1 said;
}

whole_first_from : (before after : List Said) → first_fault before after ≡ None → first_fault (before ++ after) [] ≡ None
whole_first_from before [] h = ap (λ l. first_fault l []) (append-nil before) ∙ h
whole_first_from before (s ∷ after) h =
    let none = no_fault before s after h in
    ap (λ l. first_fault l []) (sym (append_assoc before (s ∷ []) after)) ∙ whole_first_from (before ++ s ∷ []) after (sym (first_passed before s after none) ∙ h)

again_of : (bytes : List ℕ) (said : List Said) (program : Parts) → said ≡ said_from 0 (lines_of bytes) → Given said program → program_of (text_of (parts_of said)) ≡ Gives program
again_of bytes said program is given =
    let named = named_of bytes said is in
    let fit = (sound_of said given.first).fit in
    let usable = none_passes (is_unknown (known_of said)) said given.second in
    let whole : Whole (known_of said) 0 said = record { fit = fit; named = named; usable = usable; closed = shut said (whole_first_from [] said given.first) } in
    let m = last_line (by_kind said) in
    let tail = drop m said in
    let silent = tail_silent said fit in
    let split : take m said ++ tail ≡ said = take-append-drop m said in
    let lines = map normal (take m said) in
    let front_named = front_deep Named m 0 said named in
    let none = first_normal [] (take m said) front_named (first_front [] (take m said) tail silent (ap (first_fault []) split ∙ given.first)) in
    let known : known_of lines ≡ known_of said = known_normal (take m said) ∙ sym (known_front (take m said) tail silent) ∙ ap known_of split in
    let unknown : position (is_unknown (known_of lines)) lines ≡ None = ap (λ (k : Known). position (is_unknown k) lines) known ∙ none_position (is_unknown (known_of said)) lines (known_lines (known_of said) m said usable) in
    let parts : parts_of lines ≡ parts_of said = parts_normal (take m said) front_named ∙ sym (parts_front (take m said) tail silent) ∙ ap parts_of split in
    judged_of (text_of (parts_of said)) lines (sym (text_said said (names_are said) whole))
    ∙ third_judges lines none unknown ∙ ap checked parts ∙ given.third

-- The text of a program that was read is read as that program.
pub again : (bytes : List ℕ) (program : Parts) → program_of bytes ≡ Gives program → program_of (text_of program) ≡ Gives program
unfolding program_of
again bytes program h =
    let said = said_from 0 (lines_of bytes) in
    let g = given said program h in
    ap (λ (p : Parts). program_of (text_of p)) (sym (checked_parts (parts_of said) program g.third)) ∙ again_of bytes said program refl g
