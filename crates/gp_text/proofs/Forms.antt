-- Each line that says something is spelled in words, and what is spelled says the same, label sets in their order.
use Rattle.std.proofs.Common.{◌≡◌, inl, inr, ℕ, suc, ◌+◌, ◌^◌, ◌<◌, ◌≤◌, Bool, true, false, not, cond, List, [], ◌∷◌, ◌++◌, length, get_or, take, drop, refl, ap, subst, ◌∙◌, arith, length-append, nat_lt, lit<}
use Rattle.std.specs.Prelude.{map, codes, decimal}
use Rattle.std.specs.List.{AllByRecursion, list_all, list_any, position_or_len}
use Rattle.std.specs.Str.{IsUtf8}
use Rattle.std.proofs.lemmas.List.{take_at}
use Rattle.std.proofs.lemmas.Str.{IsUtf8-nil, IsUtf8-append, is_utf8-from_IsUtf8}
use Rattle.std.proofs.lemmas.Bool.Decides.{nat_tests}
use Rattle.gp_isa.specs.declared.parts.Pair.{Pair}
use Rattle.gp_labels.specs.LabelSet.{canonical_of}
use Rattle.gp_labels.proofs.Puts.{canonical-each}
use Rattle.gp_text.specs.declared.verb.Verb.{Verb}
use Rattle.gp_text.specs.declared.verb.Verb.TheVariants.{Call, Spawn, Send, Recv, Lock, Unlock, Labels}
use Rattle.gp_text.specs.declared.said.Declared.{Declared}
use Rattle.gp_text.specs.declared.said.Declared.TheVariants.{Function, Channel, Mutex, LabelSet}
use Rattle.gp_text.specs.declared.said.Said.{Said}
use Rattle.gp_text.specs.declared.said.Said.TheVariants.{NotUtf8, Nonsense, Silent, Declares, Loop, Work, Use, Close}
use Rattle.gp_text.specs.Line.{is_name, is_equals, is_pair, pair_of, outside, inside, verb_of, spoken, said_of}
use Rattle.gp_text.specs.Fault.{fits}
use Rattle.gp_text.proofs.Told.{told}
use Rattle.gp_text.proofs.Texts.{both_left, both_right, name_utf8}
use Rattle.gp_text.proofs.WordCuts.{is_clean, IsClean, next_of, cut_text, split_word}
use Rattle.gp_text.proofs.Fitting.{keyed}
use Rattle.gp_text.proofs.InLimits.{Fits, Named, Written, ArePairWords}
use Rattle.gp_text.proofs.Spelled.{IsWord, behind, ascii_text, word_of, name_word, number_word, number_text, number_decimal, said_joined, no_bytes}

abbrev pub pair_word : Pair → List ℕ
pair_word p = p.key ++ 61 ∷ p.value

-- the words of a set's pairs, in its order
abbrev pub set_words : List (List ℕ) → List (List ℕ)
set_words pairs = map pair_word (canonical_of (map pair_of pairs))

abbrev pub verb_word : Verb → List ℕ
verb_word Call = codes "call"
verb_word Spawn = codes "spawn"
verb_word Send = codes "send"
verb_word Recv = codes "recv"
verb_word Lock = codes "lock"
verb_word Unlock = codes "unlock"
verb_word Labels = codes "labels"

abbrev pub declared_word : Declared → List ℕ
declared_word Function = codes "func"
declared_word (Channel capacity) = codes "chan"
declared_word Mutex = codes "mutex"
declared_word (LabelSet pairs) = codes "labels"

abbrev pub declared_words : Declared → List (List ℕ)
declared_words Function = codes "{" ∷ []
declared_words (Channel capacity) = decimal capacity ∷ []
declared_words Mutex = []
declared_words (LabelSet pairs) = set_words pairs

-- the first word of what a line says, and the others
abbrev pub first_word : Said → List ℕ
first_word (Declares name declared) = declared_word declared
first_word (Loop turns) = codes "loop"
first_word (Work n) = codes "work"
first_word (Use verb name) = verb_word verb
first_word Close = codes "}"
first_word _ = []

abbrev pub more_words : Said → List (List ℕ)
more_words (Declares name declared) = name ∷ declared_words declared
more_words (Loop turns) = decimal turns ∷ codes "{" ∷ []
more_words (Work n) = decimal n ∷ []
more_words (Use verb name) = name ∷ []
more_words _ = []

unfoldable pub spell : Said → List ℕ
spell s = first_word s ++ behind (more_words s)

-- what is said of it again
abbrev pub normal_of : Declared → Declared
normal_of (LabelSet pairs) = LabelSet (set_words pairs)
normal_of declared = declared

abbrev pub normal : Said → Said
normal (Declares name declared) = Declares name (normal_of declared)
normal s = s

-- a pair's word is one: its key has bytes and no `=`
abbrev NoEquals : List ℕ → Type 0
NoEquals key = AllByRecursion (λ b. is_equals b ≡ false) key

abbrev IsKey : List ℕ → Type 0
IsKey key = (0 < length key) × NoEquals key × IsClean key × IsUtf8 key

abbrev IsValue : List ℕ → Type 0
IsValue value = IsClean value × IsUtf8 value

abbrev pub IsLabel : Pair → Type 0
IsLabel p = IsKey p.key × IsValue p.value

equals_place : (key value : List ℕ) → NoEquals key → position_or_len is_equals (key ++ 61 ∷ value) ≡ length key
equals_place [] value none = refl
equals_place (b ∷ key) value none = let other = none.0 in rw (other, next_of (position_or_len is_equals (key ++ 61 ∷ value))) (ap suc (equals_place key value none.1))

drop_past : (key value : List ℕ) → drop (length key + 1) (key ++ 61 ∷ value) ≡ value
drop_past [] value = refl
drop_past (b ∷ key) value = let e : suc (length key) + 1 ≡ suc (length key + 1) = omega arith in rw e (drop_past key value)

pub pair_again : (p : Pair) → NoEquals p.key → pair_of (pair_word p) ≡ p
pair_again p none =
    let e = equals_place p.key p.value none in
    rw (e, take_at p.key (61 ∷ p.value) (length p.key) refl, drop_past p.key p.value) refl

has_equals : (key value : List ℕ) → list_any is_equals (key ++ 61 ∷ value) ≡ true
has_equals [] value = refl
has_equals (b ∷ key) value = elim (told (is_equals b)) [
  | inl t ↦ rw t refl
  | inr f ↦ rw f (has_equals key value)
]

begins_other : (key value : List ℕ) → 0 < length key → NoEquals key → is_equals (get_or (key ++ 61 ∷ value) 0 0) ≡ false
begins_other [] value some none = absurd (omega arith)
begins_other (b ∷ key) value some none = none.0

pair_is : (p : Pair) → IsLabel p → is_pair (pair_word p) ≡ true
unfolding is_pair
pair_is p label = rw (begins_other p.key p.value label.0.0 label.0.1, has_equals p.key p.value) refl

clean_append : (a b : List ℕ) → IsClean a → IsClean b → IsClean (a ++ b)
clean_append [] b p q = q
clean_append (c ∷ a) b p q = (p.0, clean_append a b p.1 q)

label_word : (p : Pair) → IsLabel p → IsWord (pair_word p)
label_word p label = (omega (arith, label.0.0, length-append p.key (61 ∷ p.value)), clean_append p.key (61 ∷ p.value) label.0.2 (refl, label.1.0))

label_text : (p : Pair) → IsLabel p → IsUtf8 (pair_word p)
label_text p label = IsUtf8-append p.key (61 ∷ p.value) label.0.3 (IsUtf8-append (codes "=") p.value (ascii_text (codes "=") refl) label.1.1)

pub labels_words : (ps : List Pair) → AllByRecursion IsLabel ps → AllByRecursion IsWord (map pair_word ps)
labels_words [] all = tt
labels_words (p ∷ ps) all = (label_word p all.0, labels_words ps all.1)

labels_texts : (ps : List Pair) → AllByRecursion IsLabel ps → AllByRecursion IsUtf8 (map pair_word ps)
labels_texts [] all = tt
labels_texts (p ∷ ps) all = (label_text p all.0, labels_texts ps all.1)

labels_pairs : (ps : List Pair) → AllByRecursion IsLabel ps → list_all is_pair (map pair_word ps) ≡ true
labels_pairs [] all = refl
labels_pairs (p ∷ ps) all = rw (pair_is p all.0, labels_pairs ps all.1) refl

pub labels_again : (ps : List Pair) → AllByRecursion IsLabel ps → map pair_of (map pair_word ps) ≡ ps
labels_again [] all = refl
labels_again (p ∷ ps) all = ap (λ q. q ∷ map pair_of (map pair_word ps)) (pair_again p all.0.0.1) ∙ ap (λ l. p ∷ l) (labels_again ps all.1)

no_equals : (w : List ℕ) → NoEquals (take (position_or_len is_equals w) w)
no_equals [] = tt
no_equals (b ∷ w) = elim (told (is_equals b)) [
  | inl t ↦ rw t tt
  | inr f ↦ rw (f, next_of (position_or_len is_equals w)) (f, no_equals w)
]

clean_left : (a b : List ℕ) → IsClean (a ++ b) → IsClean a
clean_left [] b h = tt
clean_left (c ∷ a) b h = (h.0, clean_left a b h.1)

clean_right : (a b : List ℕ) → IsClean (a ++ b) → IsClean b
clean_right [] b h = h
clean_right (c ∷ a) b h = clean_right a b h.1

label_of : (w : List ℕ) → is_pair w ≡ true → IsUtf8 w → IsClean w → IsLabel (pair_of w)
unfolding is_pair
label_of w pair text clean =
    let some = both_right (not (is_equals (get_or w 0 0))) (list_any is_equals w) pair in
    let split = split_word w some in
    let key = (pair_of w).key in
    let value = (pair_of w).value in
    let texts = cut_text key value 61 (lit< tt) (subst IsUtf8 split text) in
    let whole : IsClean (key ++ 61 ∷ value) = subst IsClean split clean in
    ((keyed w pair, no_equals w, clean_left key (61 ∷ value) whole, texts.0), (let rest = clean_right key (61 ∷ value) whole in rest.1, texts.1))

labels_of : (pairs : List (List ℕ)) → list_all is_pair pairs ≡ true → AllByRecursion IsUtf8 pairs → AllByRecursion IsClean pairs → AllByRecursion IsLabel (map pair_of pairs)
labels_of [] named texts clean = tt
labels_of (w ∷ pairs) named texts clean =
    (label_of w (both_left (is_pair w) (list_all is_pair pairs) named) texts.0 clean.0, labels_of pairs (both_right (is_pair w) (list_all is_pair pairs) named) texts.1 clean.1)

pub set_labels : (pairs : List (List ℕ)) → ArePairWords pairs → AllByRecursion IsLabel (canonical_of (map pair_of pairs))
set_labels pairs words = canonical-each IsKey IsValue (map pair_of pairs) (labels_of pairs words.formed words.texts words.clean)

-- What is spelled of a declaration declares the same.
declared_spelled : (name : List ℕ) (declared : Declared) → is_name name ≡ true → Written declared → fits declared ≡ true → said_of false (declared_word declared ++ behind (name ∷ declared_words declared)) ≡ Declares name (normal_of declared)
unfolding outside Written
declared_spelled name Function named written fit =
    said_joined false (codes "func") (name ∷ codes "{" ∷ []) (word_of (codes "func") refl refl, (name_word name named, (word_of (codes "{") refl refl, tt))) (ascii_text (codes "func") refl) (name_utf8 name named, (ascii_text (codes "{") refl, tt))
    ∙ rw named refl
declared_spelled name (Channel capacity) named written fit =
    let small : capacity ≤ 65535 = grind (arith, nat_tests) in
    let h : capacity < 2 ^ 64 = omega arith in
    said_joined false (codes "chan") (name ∷ decimal capacity ∷ []) (word_of (codes "chan") refl refl, (name_word name named, (number_word capacity h, tt))) (ascii_text (codes "chan") refl) (name_utf8 name named, (number_text capacity h, tt))
    ∙ rw (named, number_decimal capacity h) refl
declared_spelled name Mutex named written fit =
    said_joined false (codes "mutex") (name ∷ []) (word_of (codes "mutex") refl refl, (name_word name named, tt)) (ascii_text (codes "mutex") refl) (name_utf8 name named, tt)
    ∙ rw named refl
declared_spelled name (LabelSet pairs) named written fit =
    let labels = set_labels pairs written in
    said_joined false (codes "labels") (name ∷ set_words pairs) (word_of (codes "labels") refl refl, (name_word name named, labels_words (canonical_of (map pair_of pairs)) labels)) (ascii_text (codes "labels") refl)
    (name_utf8 name named, labels_texts (canonical_of (map pair_of pairs)) labels)
    ∙ rw (named, labels_pairs (canonical_of (map pair_of pairs)) labels) refl

loop_spelled : (n : ℕ) → n < 2 ^ 64 → said_of true (codes "loop" ++ behind (decimal n ∷ codes "{" ∷ [])) ≡ Loop n
unfolding inside
loop_spelled n h =
    said_joined true (codes "loop") (decimal n ∷ codes "{" ∷ []) (word_of (codes "loop") refl refl, (number_word n h, (word_of (codes "{") refl refl, tt))) (ascii_text (codes "loop") refl) (number_text n h, (ascii_text (codes "{") refl, tt))
    ∙ rw (number_decimal n h) refl

work_spelled : (n : ℕ) → n < 2 ^ 64 → said_of true (codes "work" ++ behind (decimal n ∷ [])) ≡ Work n
unfolding inside
work_spelled n h =
    said_joined true (codes "work") (decimal n ∷ []) (word_of (codes "work") refl refl, (number_word n h, tt)) (ascii_text (codes "work") refl) (number_text n h, tt)
    ∙ rw (number_decimal n h) refl

use_spelled : (word name : List ℕ) (verb : Verb) → list_all is_clean word ≡ true → nat_lt 0 (length word) ≡ true → list_all (λ b. nat_lt b 128) word ≡ true →
    spoken true (word ∷ name ∷ []) ≡ cond (is_name name) (Use verb name) Nonsense → is_name name ≡ true
    → said_of true (word ++ behind (name ∷ [])) ≡ Use verb name
use_spelled word name verb clean some ascii spoken_is named =
    said_joined true word (name ∷ []) (word_of word clean some, (name_word name named, tt)) (ascii_text word ascii) (name_utf8 name named, tt) ∙ spoken_is ∙ rw named refl

verb_spelled : (verb : Verb) (name : List ℕ) → is_name name ≡ true → said_of true (verb_word verb ++ behind (name ∷ [])) ≡ Use verb name
unfolding inside verb_of
verb_spelled Call name named = use_spelled (codes "call") name Call refl refl refl refl named
verb_spelled Spawn name named = use_spelled (codes "spawn") name Spawn refl refl refl refl named
verb_spelled Send name named = use_spelled (codes "send") name Send refl refl refl refl named
verb_spelled Recv name named = use_spelled (codes "recv") name Recv refl refl refl refl named
verb_spelled Lock name named = use_spelled (codes "lock") name Lock refl refl refl refl named
verb_spelled Unlock name named = use_spelled (codes "unlock") name Unlock refl refl refl refl named
verb_spelled Labels name named = use_spelled (codes "labels") name Labels refl refl refl refl named

close_spelled : said_of true (codes "}" ++ behind []) ≡ Close
unfolding inside
close_spelled = said_joined true (codes "}") [] (word_of (codes "}") refl refl, tt) (ascii_text (codes "}") refl) tt

nothing_spelled : (within : Bool) → said_of within [] ≡ Silent
unfolding said_of
nothing_spelled within = rw (is_utf8-from_IsUtf8 [] IsUtf8-nil, no_bytes) refl

open_test : (deep : ℕ) → 0 < deep → nat_lt 0 deep ≡ true
open_test deep h = grind (arith, nat_tests)

-- What is spelled of a line says the same where the line stood.
pub said_spelled : (deep : ℕ) (s : Said) → Named deep s → Fits deep s → said_of (nat_lt 0 deep) (spell s) ≡ normal s
unfolding spell Named Fits
said_spelled deep (Declares name declared) named fit = let none = named.0 in rw none (declared_spelled name declared named.1 named.2 fit)
said_spelled deep (Loop turns) named fit = rw (open_test deep named) (loop_spelled turns (omega (arith, fit.0.1)))
said_spelled deep (Work n) named fit = rw (open_test deep named) (work_spelled n (omega (arith, fit.1)))
said_spelled deep (Use verb name) named fit = rw (open_test deep named.0) (verb_spelled verb name named.1)
said_spelled deep Close named fit = rw (open_test deep named) close_spelled
said_spelled deep Silent named fit = nothing_spelled (nat_lt 0 deep)
said_spelled deep NotUtf8 named fit = absurd fit
said_spelled deep Nonsense named fit = absurd fit
