-- The text of a program that was read: its lines are those of the file, spelled anew.
use Rattle.std.proofs.Common.{◌≡◌, ◌⊎◌, inl, inr, ℕ, zero, suc, ◌+◌, ◌<◌, ◌≤◌, ◌==◌, Bool, true, false, cond, List, [], ◌∷◌, ◌++◌, length, get_or, take, refl, sym, ap, ◌∙◌, arith, add-one, append_assoc}
use Rattle.std.specs.Prelude.{map, codes, decimal}
use Rattle.std.specs.List.{AllByRecursion, flat_map}
use Rattle.std.proofs.lemmas.List.{append-nil, take_more, map-append}
use Rattle.std.proofs.lemmas.List.Concat.{flat_map-append}
use Rattle.std.proofs.lemmas.Bool.Decides.{nat_tests}
use Rattle.gp_labels.specs.LabelSet.{canonical_of}
use Rattle.gp_text.specs.declared.verb.Verb.{Verb}
use Rattle.gp_text.specs.declared.verb.Verb.TheVariants.{Call, Spawn, Send, Recv, Lock, Unlock, Labels}
use Rattle.gp_text.specs.declared.said.Declared.{Declared}
use Rattle.gp_text.specs.declared.said.Declared.TheVariants.{Function as AFunction, Channel, Mutex, LabelSet as ALabelSet}
use Rattle.gp_text.specs.declared.said.Said.{Said}
use Rattle.gp_text.specs.declared.said.Said.TheVariants.{NotUtf8, Nonsense, Silent, Declares, Loop, Work, Use, Close}
use Rattle.gp_text.specs.Pieces.{with_byte, lines_of}
use Rattle.gp_text.specs.Line.{is_name, pair_of, deep_after, said_from}
use Rattle.gp_text.specs.Fault.{known_of, fits}
use Rattle.gp_text.specs.Reading.{blocks_at, functions_at, channel_of, mutex_of, label_set_of, each_at, parts_of}
use Rattle.gp_text.specs.Text.{Item, item, function_items, channel_item, mutex_item, set_item, items_of, line_text, last_line, lines_text, text_of}
use Rattle.gp_text.proofs.WordCuts.{IsLine}
use Rattle.gp_text.proofs.InLimits.{AllDeep, Fits, Named, Written}
use Rattle.gp_text.proofs.Puts.{text-append, last-append}
use Rattle.gp_text.proofs.Spelled.{IsWord, behind, word_of, name_word, number_word, joined_line}
use Rattle.gp_text.proofs.Forms.{spell, normal, said_spelled, set_labels, labels_words, set_words, declared_word, declared_words, verb_word}
use Rattle.gp_text.proofs.Placing.{lines_items, is_code, is_channel, is_mutex, is_set, AreNamed, Whole, code_lines, channel_items, mutex_items, set_items, no_blocks}

-- What stands on one line of a list of lines' items.
same_number : (n : ℕ) → (n == n) ≡ true
same_number n = grind (arith, nat_tests)

head_here : (b : Bool) (line : ℕ) (t : List ℕ) → line_text (cond b (item line t ∷ []) []) line ≡ cond b t []
head_here true line t = rw (same_number line) (append-nil t)
head_here false line t = refl

head_other : (b : Bool) (line n : ℕ) (t : List ℕ) → (line == n) ≡ false → line_text (cond b (item line t ∷ []) []) n ≡ []
head_other true line n t other = rw other refl
head_other false line n t other = refl

other_number : (line n : ℕ) → (line < n) ⊎ (n < line) → (line == n) ≡ false
other_number line n (inl h) = grind (arith, nat_tests)
other_number line n (inr h) = grind (arith, nat_tests)

text_before : (kind : Said → Bool) (line : ℕ) (said : List Said) (n : ℕ) → n < line → line_text (lines_items kind line said) n ≡ []
text_before kind line [] n less = refl
text_before kind line (s ∷ after) n less =
    text-append (cond (kind s) (item line (spell s) ∷ []) []) (lines_items kind (line + 1) after) n
    ∙ ap (λ t. t ++ line_text (lines_items kind (line + 1) after) n) (head_other (kind s) line n (spell s) (other_number line n (inr less)))
    ∙ text_before kind (line + 1) after n (omega arith)

text_at : (kind : Said → Bool) (line : ℕ) (said : List Said) (k : ℕ) → k < length said → line_text (lines_items kind line said) (line + k) ≡ cond (kind (get_or said k Silent)) (spell (get_or said k Silent)) []
text_at kind line [] k within = absurd (omega arith)
text_at kind line (s ∷ after) zero within =
    let here : line + 0 ≡ line = omega arith in
    ap (line_text (lines_items kind line (s ∷ after))) here
    ∙ text-append (cond (kind s) (item line (spell s) ∷ []) []) (lines_items kind (line + 1) after) line
    ∙ ap (λ t. line_text (cond (kind s) (item line (spell s) ∷ []) []) line ++ t) (text_before kind (line + 1) after line (omega arith))
    ∙ append-nil _ ∙ head_here (kind s) line (spell s)
text_at kind line (s ∷ after) (suc k) within =
    let there : line + suc k ≡ line + 1 + k = omega arith in
    text-append (cond (kind s) (item line (spell s) ∷ []) []) (lines_items kind (line + 1) after) (line + suc k)
    ∙ ap (λ t. t ++ line_text (lines_items kind (line + 1) after) (line + suc k)) (head_other (kind s) line (line + suc k) (spell s) (other_number line (line + suc k) (inl (omega arith))))
    ∙ ap (line_text (lines_items kind (line + 1) after)) there
    ∙ text_at kind (line + 1) after k (omega arith)

twice : (t : List ℕ) → t ++ [] ++ [] ≡ t
twice t = append-nil (t ++ []) ∙ append-nil t

thrice : (t : List ℕ) → t ++ [] ++ [] ++ [] ≡ t
thrice t = append-nil (t ++ [] ++ []) ∙ twice t

-- a line is of one kind, or nothing stands there
kinds : (s : Said) → cond (is_code s) (spell s) [] ++ cond (is_channel s) (spell s) [] ++ cond (is_mutex s) (spell s) [] ++ cond (is_set s) (spell s) [] ≡ spell s
unfolding spell
kinds (Declares name AFunction) = thrice _
kinds (Declares name (Channel capacity)) = twice _
kinds (Declares name Mutex) = append-nil _
kinds (Declares name (ALabelSet pairs)) = refl
kinds (Loop turns) = thrice _
kinds (Work n) = thrice _
kinds (Use verb name) = thrice _
kinds Close = refl
kinds Silent = refl
kinds NotUtf8 = refl
kinds Nonsense = refl

abbrev pub by_kind : List Said → List Item
by_kind said = lines_items is_code 1 said ++ lines_items is_channel 1 said ++ lines_items is_mutex 1 said ++ lines_items is_set 1 said

items_lines : (said : List Said) → AreNamed (parts_of said) (known_of said) → Whole (known_of said) 0 said → items_of (parts_of said) ≡ by_kind said
unfolding items_of
items_lines said names whole =
    let parts = parts_of said in
    let code : flat_map (function_items parts) (functions_at (known_of said) 1 said) ≡ lines_items is_code 1 said = sym (ap (λ l. l ++ flat_map (function_items parts) (functions_at (known_of said) 1
    said)) (no_blocks parts 0 9 (blocks_at (known_of said) 1 said) refl)) ∙ code_lines parts (known_of said) 0 9 1 said refl names whole in
    ap (λ l. l ++ map channel_item (each_at channel_of 1 said) ++ map mutex_item (each_at mutex_of 1 said) ++ map set_item (each_at label_set_of 1 said)) code
    ∙ ap (λ l. lines_items is_code 1 said ++ l ++ map mutex_item (each_at mutex_of 1 said) ++ map set_item (each_at label_set_of 1 said)) (channel_items 1 said)
    ∙ ap (λ l. lines_items is_code 1 said ++ lines_items is_channel 1 said ++ l ++ map set_item (each_at label_set_of 1 said)) (mutex_items 1 said)
    ∙ ap (λ l. lines_items is_code 1 said ++ lines_items is_channel 1 said ++ lines_items is_mutex 1 said ++ l) (set_items 1 said)

pub line_at : (said : List Said) (k : ℕ) → k < length said → line_text (by_kind said) (k + 1) ≡ spell (get_or said k Silent)
line_at said k within =
    let n : k + 1 ≡ 1 + k = omega arith in
    let s = get_or said k Silent in
    let c = lines_items is_code 1 said in let h = lines_items is_channel 1 said in let m = lines_items is_mutex 1 said in let l = lines_items is_set 1 said in
    ap (line_text (by_kind said)) n
    ∙ text-append (c ++ h ++ m) l (1 + k) ∙ ap (λ t. t ++ line_text l (1 + k)) (text-append (c ++ h) m (1 + k) ∙ ap (λ t. t ++ line_text m (1 + k)) (text-append c h (1 + k)))
    ∙ ap (λ t. t ++ line_text h (1 + k) ++ line_text m (1 + k) ++ line_text l (1 + k)) (text_at is_code 1 said k within)
    ∙ ap (λ t. cond (is_code s) (spell s) [] ++ t ++ line_text m (1 + k) ++ line_text l (1 + k)) (text_at is_channel 1 said k within)
    ∙ ap (λ t. cond (is_code s) (spell s) [] ++ cond (is_channel s) (spell s) [] ++ t ++ line_text l (1 + k)) (text_at is_mutex 1 said k within)
    ∙ ap (λ t. cond (is_code s) (spell s) [] ++ cond (is_channel s) (spell s) [] ++ cond (is_mutex s) (spell s) [] ++ t) (text_at is_set 1 said k within)
    ∙ kinds s

-- the last line used is one of the file
head_last : (b : Bool) (line : ℕ) (t : List ℕ) → last_line (cond b (item line t ∷ []) []) ≤ line
head_last true line t = omega arith
head_last false line t = omega arith

last_within : (kind : Said → Bool) (line : ℕ) (said : List Said) → 0 < line → last_line (lines_items kind line said) < line + length said
last_within kind line [] some = omega arith
last_within kind line (s ∷ after) some =
    let e = last-append (cond (kind s) (item line (spell s) ∷ []) []) (lines_items kind (line + 1) after) in
    let f = head_last (kind s) line (spell s) in
    let g = last_within kind (line + 1) after (omega arith) in
    omega arith

last_few : (said : List Said) → last_line (by_kind said) ≤ length said
last_few said =
    let c = lines_items is_code 1 said in let h = lines_items is_channel 1 said in let m = lines_items is_mutex 1 said in let l = lines_items is_set 1 said in
    omega (
      arith,
      last-append (c ++ h ++ m) l,
      last-append (c ++ h) m,
      last-append c h,
      last_within is_code 1 said (omega arith),
      last_within is_channel 1 said (omega arith),
      last_within is_mutex 1
          said (omega arith),
      last_within is_set 1 said (omega arith),
    )

pub beyond : (items : List Item) (n : ℕ) → last_line items < n → line_text items n ≡ []
beyond [] n more = refl
beyond (i ∷ items) n more =
    let other = other_number i.line n (inl (omega arith)) in
    rw other (beyond items n (omega arith))

-- the text, line by line
abbrev pub ended : List ℕ → List ℕ
ended line = line ++ 10 ∷ []

text_lines : (said : List Said) (n : ℕ) → n ≤ length said → lines_text (by_kind said) n ≡ flat_map ended (map spell (take n said))
text_lines said zero within = refl
text_lines said (suc n) within =
    let s = get_or said n Silent in
    let grown : take (suc n) said ≡ take n said ++ s ∷ [] = ap (λ m. take m said) (sym (add-one n)) ∙ take_more said n Silent (omega arith) in
    ap (λ t. lines_text (by_kind said) n ++ t ++ 10 ∷ []) (ap (line_text (by_kind said)) (sym (add-one n)) ∙ line_at said n (omega arith))
    ∙ append_assoc (lines_text (by_kind said) n) (spell s) (10 ∷ [])
    ∙ ap (λ t. t ++ ended (spell s)) (text_lines said n (omega arith))
    ∙ ap (λ l. flat_map ended (map spell (take n said)) ++ l) (sym (append-nil (ended (spell s))))
    ∙ sym (flat_map-append ended (map spell (take n said)) (spell s ∷ []))
    ∙ ap (flat_map ended) (sym (map-append spell (take n said) (s ∷ [])) ∙ ap (map spell) (sym grown))

one_line : (line rest : List ℕ) → IsLine line → lines_of (ended line ++ rest) ≡ line ∷ lines_of rest
one_line [] rest no_lf = refl
one_line (b ∷ line) rest no_lf = let other = no_lf.0 in rw other (ap (with_byte b) (one_line line rest no_lf.1))

lines_again : (lines : List (List ℕ)) → AllByRecursion IsLine lines → lines_of (flat_map ended lines) ≡ lines
lines_again [] all = refl
lines_again (line ∷ lines) all = one_line line (flat_map ended lines) all.0 ∙ ap (λ l. line ∷ l) (lines_again lines all.1)

-- What is spelled has no LF.
declared_line : (name : List ℕ) (declared : Declared) → is_name name ≡ true → Written declared → fits declared ≡ true → IsLine (declared_word declared ++ behind (name ∷ declared_words declared))
unfolding Written
declared_line name AFunction named written fit = joined_line (codes "func") (name ∷ codes "{" ∷ []) (word_of (codes "func") refl refl, (name_word name named, (word_of (codes "{") refl refl, tt)))
declared_line name (Channel capacity) named written fit =
    let small : capacity ≤ 65535 = grind (arith, nat_tests) in
    joined_line (codes "chan") (name ∷ decimal capacity ∷ []) (word_of (codes "chan") refl refl, (name_word name named, (number_word capacity (omega arith), tt)))
declared_line name Mutex named written fit = joined_line (codes "mutex") (name ∷ []) (word_of (codes "mutex") refl refl, (name_word name named, tt))
declared_line name (ALabelSet pairs) named written fit =
    joined_line (codes "labels") (name ∷ set_words pairs) (word_of (codes "labels") refl refl, (name_word name named, labels_words (canonical_of (map pair_of pairs)) (set_labels pairs written)))

verb_is : (verb : Verb) → IsWord (verb_word verb)
verb_is Call = word_of (codes "call") refl refl
verb_is Spawn = word_of (codes "spawn") refl refl
verb_is Send = word_of (codes "send") refl refl
verb_is Recv = word_of (codes "recv") refl refl
verb_is Lock = word_of (codes "lock") refl refl
verb_is Unlock = word_of (codes "unlock") refl refl
verb_is Labels = word_of (codes "labels") refl refl

spelled_line : (deep : ℕ) (s : Said) → Named deep s → Fits deep s → IsLine (spell s)
unfolding spell Named Fits
spelled_line deep (Declares name declared) named fit = declared_line name declared named.1 named.2 fit
spelled_line deep (Loop n) named fit = joined_line (codes "loop") (decimal n ∷ codes "{" ∷ []) (word_of (codes "loop") refl refl, (number_word n (omega (arith, fit.0.1)), (word_of (codes "{") refl refl, tt)))
spelled_line deep (Work n) named fit = joined_line (codes "work") (decimal n ∷ []) (word_of (codes "work") refl refl, (number_word n (omega (arith, fit.1)), tt))
spelled_line deep (Use verb name) named fit = joined_line (verb_word verb) (name ∷ []) (verb_is verb, (name_word name named.1, tt))
spelled_line deep Close named fit = joined_line (codes "}") [] (word_of (codes "}") refl refl, tt)
spelled_line deep Silent named fit = tt
spelled_line deep NotUtf8 named fit = tt
spelled_line deep Nonsense named fit = tt

spelled_lines : (deep : ℕ) (said : List Said) → AllDeep Named deep said → AllDeep Fits deep said → AllByRecursion IsLine (map spell said)
spelled_lines deep [] named fit = tt
spelled_lines deep (s ∷ said) named fit = (spelled_line deep s named.0 fit.0, spelled_lines (deep_after deep s) said named.1 fit.1)

pub deep_normal : (deep : ℕ) (s : Said) → deep_after deep (normal s) ≡ deep_after deep s
deep_normal deep (Declares name AFunction) = refl
deep_normal deep (Declares name declared) = refl
deep_normal deep s = refl

said_again : (deep : ℕ) (said : List Said) → AllDeep Named deep said → AllDeep Fits deep said → said_from deep (map spell said) ≡ map normal said
unfolding said_from
said_again deep [] named fit = refl
said_again deep (s ∷ said) named fit =
    ap (λ x. x ∷ said_from (deep_after deep x) (map spell said)) (said_spelled deep s named.0 fit.0)
    ∙ ap (λ n. normal s ∷ said_from n (map spell said)) (deep_normal deep s)
    ∙ ap (λ l. normal s ∷ l) (said_again (deep_after deep s) said named.1 fit.1)

pub front_deep : (P : ℕ → Said → Type 0) (n deep : ℕ) (said : List Said) → AllDeep P deep said → AllDeep P deep (take n said)
front_deep P zero deep said all = tt
front_deep P (suc n) deep [] all = tt
front_deep P (suc n) deep (s ∷ said) all = (all.0, front_deep P n (deep_after deep s) said all.1)

-- What the lines of a program's text say.
abbrev pub front : List Said → List Said
front said = take (last_line (by_kind said)) said

pub text_said : (said : List Said) → AreNamed (parts_of said) (known_of said) → Whole (known_of said) 0 said → said_from 0 (lines_of (text_of (parts_of said))) ≡ map normal (front said)
unfolding text_of
text_said said names whole =
    let m = last_line (by_kind said) in
    let named = front_deep Named m 0 said whole.named in
    let fit = front_deep Fits m 0 said whole.fit in
    ap (λ (items : List Item). said_from 0 (lines_of (lines_text items (last_line items)))) (items_lines said names whole)
    ∙ ap (λ (t : List ℕ). said_from 0 (lines_of t)) (text_lines said m (last_few said))
    ∙ ap (said_from 0) (lines_again (map spell (take m said)) (spelled_lines 0 (take m said) named fit))
    ∙ said_again 0 (take m said) named fit
