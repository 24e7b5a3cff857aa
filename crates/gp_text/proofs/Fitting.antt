-- The parts of lines without fault lie in their limits.
use Rattle.std.proofs.Common.{◌≡◌, inl, inr, ℕ, zero, suc, ◌+◌, ◌<◌, ◌≤◌, Bool, true, false, not, ◌&&◌, cond, List, [], ◌∷◌, ◌++◌, length, get_or, refl, sym, ap, subst, ◌∙◌, arith, nat_le, nat_lt, Option}
use Rattle.std.specs.Prelude.{map, position, unwrap_or, option_to_list}
use Rattle.std.specs.List.{list_any, list_all, AllByRecursion, position_or_len, before_first}
use Rattle.std.specs.Str.{bytes_eq}
use Rattle.std.proofs.lemmas.List.{length-map, map-append}
use Rattle.std.proofs.lemmas.List.Elements.{All-from_recursion}
use Rattle.std.proofs.lemmas.Bool.Decides.{nat_tests}
use Rattle.gp_isa.specs.declared.parts.Parts.{Parts}
use Rattle.gp_isa.specs.declared.parts.Function.{Function}
use Rattle.gp_isa.specs.declared.parts.ChannelDecl.{ChannelDecl}
use Rattle.gp_isa.specs.declared.parts.MutexDecl.{MutexDecl}
use Rattle.gp_isa.specs.declared.parts.LabelSet.{LabelSet}
use Rattle.gp_isa.specs.declared.parts.Pair.{Pair}
use Rattle.gp_isa.specs.declared.statement.Stmt.{Stmt}
use Rattle.gp_isa.specs.declared.statement.What.TheVariants as what
use Rattle.gp_isa.specs.Limits.{most_loops}
use Rattle.gp_isa.specs.Statement.{action_of, most_bodies}
use Rattle.gp_isa.proofs.Actions.{action-work, action-call, action-loop, action-send, action-recv, action-lock, action-unlock, action-spawn, action-labels}
use Rattle.gp_isa.specs.InLimits.{AreNames, IsPair, ArePairs, IsAction, AreStatements, AreInLimits}
use Rattle.gp_labels.specs.LabelSet.{canonical_of}
use Rattle.gp_labels.proofs.Puts.{canonical-few, canonical-each, canonical-keys_rise}
use Rattle.gp_text.specs.declared.verb.Verb.{Verb}
use Rattle.gp_text.specs.declared.verb.Verb.TheVariants.{Call, Spawn, Send, Recv, Lock, Unlock, Labels}
use Rattle.gp_text.specs.declared.space.Space.{Space}
use Rattle.gp_text.specs.declared.space.Space.TheVariants.{Functions, Channels, Mutexes, LabelSets}
use Rattle.gp_text.specs.declared.said.Declared.{Declared}
use Rattle.gp_text.specs.declared.said.Declared.TheVariants.{Function as AFunction, Channel, Mutex, LabelSet as ALabelSet}
use Rattle.gp_text.specs.declared.said.Said.{Said}
use Rattle.gp_text.specs.declared.said.Said.TheVariants.{NotUtf8, Nonsense, Silent, Declares, Loop, Work, Use, Close}
use Rattle.gp_text.specs.Line.{is_name, has_length, begins_name, continues_name, is_equals, is_pair, pair_of, deep_after}
use Rattle.gp_text.specs.Fault.{Known, known_of, names, declared_in, same_space, kind_of, pair_fits, space_of, is_among, is_unknown}
use Rattle.gp_text.specs.Reading.{place_of, action, statement, Block, first, others, in_front, blocks_at, function_with, functions_at, channel_of, mutex_of, label_set_of, each_at, parts_of}
use Rattle.gp_text.proofs.Told.{told}
use Rattle.gp_text.proofs.Texts.{both_left, both_right}
use Rattle.gp_text.proofs.WordCuts.{next_of}
use Rattle.gp_text.proofs.InLimits.{AllDeep, Fits, Written, Named, AreSound}

-- the names of the parts are those that the lines declare
pub function_names : (known : Known) (line : ℕ) (said : List Said) → map (λ (f : Function). f.name) (functions_at known line said) ≡ names Functions said
unfolding functions_at
function_names known line [] = refl
function_names known line (Declares name AFunction ∷ after) = ap (λ l. name ∷ l) (function_names known (line + 1) after)
function_names known line (s ∷ after) = function_names known (line + 1) after

pub each_names : {X : Type 0} (of : ℕ → Said → Option X) (name : X → List ℕ) (space : Space) → ((line : ℕ) (s : Said) → map name (option_to_list (of line s)) ≡ declared_in space s) → (line : ℕ) (said : List Said) →
    map name (each_at of line said) ≡ names space said
unfolding each_at
each_names of name space one line [] = refl
each_names of name space one line (s ∷ after) =
    map-append name (option_to_list (of line s)) (each_at of (line + 1) after) ∙ ap (λ l. l ++ map name (each_at of (line + 1) after)) (one line s) ∙ ap (λ l. declared_in space s ++ l) (each_names of name space one (line + 1) after)

pub channel_name : (line : ℕ) (s : Said) → map (λ (c : ChannelDecl). c.name) (option_to_list (channel_of line s)) ≡ declared_in Channels s
channel_name line (Declares name (Channel capacity)) = refl
channel_name line s = refl

pub mutex_name : (line : ℕ) (s : Said) → map (λ (m : MutexDecl). m.name) (option_to_list (mutex_of line s)) ≡ declared_in Mutexes s
mutex_name line (Declares name Mutex) = refl
mutex_name line s = refl

pub label_name : (line : ℕ) (s : Said) → map (λ (l : LabelSet). l.name) (option_to_list (label_set_of line s)) ≡ declared_in LabelSets s
label_name line (Declares name (ALabelSet pairs)) = refl
label_name line s = refl

-- names are short
short_name : (name : List ℕ) → is_name name ≡ true → length name ≤ 64
unfolding is_name
short_name name h =
    let l = both_left (has_length 64 name) (begins_name (get_or name 0 0) && list_all continues_name name) h in
    let m = both_right (nat_le 1 (length name)) (nat_le (length name) 64) l in
    grind (arith, nat_tests)

abbrev IsShort : List ℕ → Type 0
IsShort name = length name ≤ 64

short_if : (b : Bool) (name : List ℕ) → IsShort name → AllByRecursion IsShort (cond b (name ∷ []) [])
short_if true name short = (short, tt)
short_if false name short = tt

short_declared : (deep : ℕ) (s : Said) → Named deep s → (space : Space) → AllByRecursion IsShort (declared_in space s)
unfolding Named
short_declared deep (Declares name declared) named space = short_if (same_space space (kind_of declared)) name (short_name name named.1)
short_declared deep s named space = tt

short_append : (xs ys : List (List ℕ)) → AllByRecursion IsShort xs → AllByRecursion IsShort ys → AllByRecursion IsShort (xs ++ ys)
short_append [] ys p q = q
short_append (x ∷ xs) ys p q = (p.0, short_append xs ys p.1 q)

short_names : (deep : ℕ) (said : List Said) (space : Space) → AllDeep Named deep said → AllByRecursion IsShort (names space said)
short_names deep [] space named = tt
short_names deep (s ∷ said) space named = short_append (declared_in space s) (names space said) (short_declared deep s named.0 space) (short_names (deep_after deep s) said space named.1)

are_names : (said : List Said) (space : Space) → AllDeep Named 0 said → AreSound said → AreNames (names space said)
are_names said space named sound = record { short = All-from_recursion IsShort (names space said) (short_names 0 said space named); distinct = sound.distinct space }

-- a known name has a place
pub found_below : {X : Type 0} (p : X → Bool) (xs : List X) → list_any p xs ≡ true → position_or_len p xs < length xs
found_below p [] h = absurd cc
found_below p (x ∷ xs) h = elim (told (p x)) [
  | inl t ↦ rw t (omega arith)
  | inr f ↦ let rest : list_any p xs ≡ true = rw f at h in rw f (omega (arith, found_below p xs rest))
]

pub place_below : (p : List ℕ → Bool) (xs : List (List ℕ)) → list_any p xs ≡ true → unwrap_or (position p xs) 0 < length xs
place_below p xs h =
    let less = found_below p xs h in
    let test : nat_lt (position_or_len p xs) (length xs) ≡ true = grind (arith, nat_tests) in
    rw test less

-- The names of parts are as many as lines declare.
record Counts (parts : Parts) (known : Known) : Type 0 where
  functions : length parts.functions ≡ length (known Functions)
  channels : length parts.channels ≡ length (known Channels)
  mutexes : length parts.mutexes ≡ length (known Mutexes)
  labels : length parts.labels ≡ length (known LabelSets)

use_fits : (parts : Parts) (known : Known) (W : List Stmt → Type 0) (line : ℕ) (verb : Verb) (name : List ℕ) → Counts parts known → is_among name (known (space_of verb)) ≡ true →
    IsAction parts W (action_of (statement line (action verb (place_of known verb name))))
use_fits parts known W line Call name counts among = let less = place_below (bytes_eq name) (known Functions) among in subst (IsAction parts W) (sym (action-call (place_of known Call name))) (omega (arith, counts.functions, less))
use_fits parts known W line Spawn name counts among = let less = place_below (bytes_eq name) (known Functions) among in subst (IsAction parts W) (sym (action-spawn (place_of known Spawn name))) (omega (arith, counts.functions, less))
use_fits parts known W line Send name counts among = let less = place_below (bytes_eq name) (known Channels) among in subst (IsAction parts W) (sym (action-send (place_of known Send name))) (omega (arith, counts.channels, less))
use_fits parts known W line Recv name counts among = let less = place_below (bytes_eq name) (known Channels) among in subst (IsAction parts W) (sym (action-recv (place_of known Recv name))) (omega (arith, counts.channels, less))
use_fits parts known W line Lock name counts among = let less = place_below (bytes_eq name) (known Mutexes) among in subst (IsAction parts W) (sym (action-lock (place_of known Lock name))) (omega (arith, counts.mutexes, less))
use_fits parts known W line Unlock name counts among = let less = place_below (bytes_eq name) (known Mutexes) among in subst (IsAction parts W) (sym (action-unlock (place_of known Unlock name))) (omega (arith, counts.mutexes, less))
use_fits parts known W line Labels name counts among =
    let less = place_below (bytes_eq name) (known LabelSets) among in subst (IsAction parts W) (sym (action-labels (place_of known Labels name + 1))) (omega arith, omega (arith, counts.labels, less))

pub known_name : (known : Known) (verb : Verb) (name : List ℕ) → is_unknown known (Use verb name) ≡ false → is_among name (known (space_of verb)) ≡ true
known_name known verb name h = elim (told (is_among name (known (space_of verb)))) [
  | inl t ↦ t
  | inr f ↦ let e : true ≡ false = rw f at h in absurd cc
]

abbrev pub IsKnown : Known → Said → Type 0
IsKnown known s = is_unknown known s ≡ false

-- Statements that fit where so many loops may stand inside.
abbrev Acts : Parts → ℕ → Stmt → Type 0
Acts parts room s = IsAction parts (AreStatements parts room) (action_of s)

-- Blocks that so many bodies are open for, the innermost first: one body around another has room for one loop more.
Within : Parts → ℕ → ℕ → List Block → Type 0
Within parts zero room blocks = Unit {0}
Within parts (suc deep) room [] = Unit {0}
Within parts (suc deep) room (block ∷ blocks) = AllByRecursion (Acts parts room) block.body × Within parts deep (suc room) blocks

within_none : (parts : Parts) (deep room : ℕ) → Within parts deep room []
unfolding Within
within_none parts zero room = tt
within_none parts (suc deep) room = tt

within_first : (parts : Parts) (deep room : ℕ) (blocks : List Block) → Within parts (suc deep) room blocks → AllByRecursion (Acts parts room) (first blocks).body
unfolding Within
within_first parts deep room [] within = tt
within_first parts deep room (block ∷ blocks) within = within.0

within_others : (parts : Parts) (deep room : ℕ) (blocks : List Block) → Within parts (suc deep) room blocks → Within parts deep (suc room) (others blocks)
unfolding Within
within_others parts deep room [] within = within_none parts deep (suc room)
within_others parts deep room (block ∷ blocks) within = within.1

within_front : (parts : Parts) (deep room : ℕ) (s : Stmt) (blocks : List Block) → Acts parts room s → Within parts (suc deep) room blocks → Within parts (suc deep) room (in_front s blocks)
unfolding Within
within_front parts deep room s [] acts within = ((acts, tt), within_none parts deep (suc room))
within_front parts deep room s (block ∷ blocks) acts within = ((acts, within.0), within.1)

within_close : (parts : Parts) (deep room line : ℕ) (blocks : List Block) → Within parts deep (suc room) blocks → Within parts (suc deep) room (record { body = []; end = line } ∷ blocks)
unfolding Within
within_close parts deep room line blocks within = (tt, within)

within_outside : (parts : Parts) (room : ℕ) (blocks : List Block) → Within parts zero room blocks
unfolding Within
within_outside parts room blocks = tt

loop_fits : (parts : Parts) (deep room line turns : ℕ) (blocks : List Block) → 1 ≤ turns → Within parts (suc (suc deep)) room blocks →
    Within parts (suc deep) (suc room) (in_front (statement line (what.Loop turns (first blocks).body (first blocks).end)) (others blocks))
loop_fits parts deep room line turns blocks one within =
    let body = All-from_recursion (Acts parts room) (first blocks).body (within_first parts (suc deep) room blocks within) in
    let acts : Acts parts (suc room) (statement line (what.Loop turns (first blocks).body (first blocks).end)) =
    subst (IsAction parts (AreStatements parts (suc room))) (sym (action-loop turns (first blocks).body (first blocks).end)) (one, body) in
    within_front parts deep (suc room) _ (others blocks) acts (within_others parts (suc deep) room blocks within)

-- What is asked of lines where their blocks fit.
record Sound (parts : Parts) (known : Known) (deep : ℕ) (said : List Said) : Type 0 where
  fit : AllDeep Fits deep said
  named : AllDeep Named deep said
  usable : AllByRecursion (IsKnown known) said

sound_next : (parts : Parts) (known : Known) (deep next : ℕ) (s : Said) (after : List Said) → Sound parts known deep (s ∷ after) → deep_after deep s ≡ next → Sound parts known next after
sound_next parts known deep next s after sound e = record {
  fit = subst (λ n. AllDeep Fits n after) e sound.fit.1;
  named = subst (λ n. AllDeep Named n after) e sound.named.1;
  usable = sound.usable.1;
}

pub loop_room : (deep turns : ℕ) → Fits deep (Loop turns) → (1 ≤ turns) × (deep ≤ 8)
unfolding Fits
loop_room deep turns fit = (fit.0.0, fit.1)

work_count : (deep n : ℕ) → Fits deep (Work n) → 1 ≤ n
unfolding Fits
work_count deep n fit = fit.0

pub outside_of : (deep : ℕ) (name : List ℕ) (declared : Declared) → Named deep (Declares name declared) → deep ≡ 0
unfolding Named
outside_of deep name declared named = named.0

blocks_fit : (parts : Parts) (known : Known) (deep room line : ℕ) (said : List Said) → deep + room ≡ 9 → Counts parts known → Sound parts known deep said → Within parts deep room (blocks_at known line said)
unfolding blocks_at
blocks_fit parts known deep room line [] e counts sound = within_none parts deep room
blocks_fit parts known zero room line (s ∷ after) e counts sound = within_outside parts room _
blocks_fit parts known (suc deep) room line (Close ∷ after) e counts sound =
    within_close parts deep room line _ (blocks_fit parts known deep (suc room) (line + 1) after (omega arith) counts (sound_next parts known (suc deep) deep Close after sound (omega arith)))
blocks_fit parts known (suc deep) zero line (Loop turns ∷ after) e counts sound = let few = loop_room (suc deep) turns sound.fit.0 in absurd (omega arith)
blocks_fit parts known (suc deep) (suc room) line (Loop turns ∷ after) e counts sound =
    let fit = loop_room (suc deep) turns sound.fit.0 in
    loop_fits parts deep room line turns _ fit.0 (blocks_fit parts known (suc (suc deep)) room (line + 1) after (omega arith) counts (sound_next parts known (suc deep) (suc (suc deep)) (Loop turns) after sound (omega arith)))
blocks_fit parts known (suc deep) room line (Work n ∷ after) e counts sound =
    within_front parts deep room _ _ (subst (IsAction parts (AreStatements parts room)) (sym (action-work n)) (work_count (suc deep) n sound.fit.0))
    (blocks_fit parts known (suc deep) room (line + 1) after e counts (sound_next parts known (suc deep) (suc deep) (Work n) after sound refl))
blocks_fit parts known (suc deep) room line (Use verb name ∷ after) e counts sound =
    within_front parts deep room _ _ (use_fits parts known (AreStatements parts room) line verb name counts (known_name known verb name sound.usable.0))
    (blocks_fit parts known (suc deep) room (line + 1) after e counts (sound_next parts known (suc deep) (suc deep) (Use verb name) after sound refl))
blocks_fit parts known (suc deep) room line (Declares name declared ∷ after) e counts sound = let none = outside_of (suc deep) name declared sound.named.0 in absurd (omega arith)
blocks_fit parts known (suc deep) room line (NotUtf8 ∷ after) e counts sound = blocks_fit parts known (suc deep) room (line + 1) after e counts (sound_next parts known (suc deep) (suc deep) NotUtf8 after sound refl)
blocks_fit parts known (suc deep) room line (Nonsense ∷ after) e counts sound = blocks_fit parts known (suc deep) room (line + 1) after e counts (sound_next parts known (suc deep) (suc deep) Nonsense after sound refl)
blocks_fit parts known (suc deep) room line (Silent ∷ after) e counts sound = blocks_fit parts known (suc deep) room (line + 1) after e counts (sound_next parts known (suc deep) (suc deep) Silent after sound refl)

abbrev BodyFits : Parts → Function → Type 0
BodyFits parts f = AreStatements parts most_bodies f.body

function_fits : (parts : Parts) (known : Known) (deep line : ℕ) (name : List ℕ) (after : List Said) → Counts parts known → Sound parts known deep (Declares name AFunction ∷ after) →
    BodyFits parts (function_with name line (first (blocks_at known (line + 1) after)))
function_fits parts known deep line name after counts sound =
    let none = outside_of deep name AFunction sound.named.0 in
    let inner = sound_next parts known deep (suc zero) (Declares name AFunction) after sound (omega arith) in
    All-from_recursion (Acts parts most_loops) _ (within_first parts zero most_loops _ (blocks_fit parts known (suc zero) most_loops (line + 1) after refl counts inner))

functions_fit : (parts : Parts) (known : Known) (deep line : ℕ) (said : List Said) → Counts parts known → Sound parts known deep said → AllByRecursion (BodyFits parts) (functions_at known line said)
unfolding functions_at
functions_fit parts known deep line [] counts sound = tt
functions_fit parts known deep line (Declares name AFunction ∷ after) counts sound =
    (function_fits parts known deep line name after counts sound, functions_fit parts known (deep + 1) (line + 1) after counts (sound_next parts known deep (deep + 1) (Declares name AFunction) after sound refl))
functions_fit parts known deep line (s ∷ after) counts sound = functions_fit parts known (deep_after deep s) (line + 1) after counts (sound_next parts known deep (deep_after deep s) s after sound refl)

capacity_fits : (deep capacity : ℕ) (name : List ℕ) → Fits deep (Declares name (Channel capacity)) → capacity ≤ 65535
unfolding Fits
capacity_fits deep capacity name fit = grind (arith, nat_tests)

channels_fit : (deep line : ℕ) (said : List Said) → AllDeep Fits deep said → AllByRecursion (λ (c : ChannelDecl). c.capacity ≤ 65535) (each_at channel_of line said)
unfolding each_at
channels_fit deep line [] fit = tt
channels_fit deep line (Declares name (Channel capacity) ∷ after) fit = (capacity_fits deep capacity name fit.0, channels_fit deep (line + 1) after fit.1)
channels_fit deep line (s ∷ after) fit = channels_fit (deep_after deep s) (line + 1) after fit.1

-- the pairs of a label set
abbrev IsKey : List ℕ → Type 0
IsKey key = (1 ≤ length key) × (length key ≤ 64)

abbrev IsValue : List ℕ → Type 0
IsValue value = length value ≤ 64

short : {m n : ℕ} → nat_le m n ≡ true → m ≤ n
short {m} {n} h = grind (arith, nat_tests)

pub keyed : (word : List ℕ) → is_pair word ≡ true → 1 ≤ length (before_first is_equals word)
unfolding is_pair
keyed [] h = absurd cc
keyed (b ∷ word) h =
    let other = both_left (not (is_equals b)) (list_any is_equals (b ∷ word)) h in
    rw (other, next_of (position_or_len is_equals word)) (omega arith)

pair_words : (pairs : List (List ℕ)) → list_all is_pair pairs ≡ true → list_all pair_fits pairs ≡ true → AllByRecursion (λ (q : Pair). IsKey q.key × IsValue q.value) (map pair_of pairs)
pair_words [] named fit = tt
pair_words (word ∷ pairs) named fit =
    let one = both_left (pair_fits word) (list_all pair_fits pairs) fit in
    let key = both_left (nat_le (length (pair_of word).key) 64) (nat_le (length (pair_of word).value) 64) one in
    let value = both_right (nat_le (length (pair_of word).key) 64) (nat_le (length (pair_of word).value) 64) one in
    (((keyed word (both_left (is_pair word) (list_all is_pair pairs) named), short key), short value), pair_words pairs (both_right (is_pair word) (list_all is_pair pairs) named) (both_right (pair_fits word) (list_all pair_fits pairs) fit))

is_pair_each : (pairs : List Pair) → AllByRecursion (λ (q : Pair). IsKey q.key × IsValue q.value) pairs → AllByRecursion IsPair pairs
is_pair_each [] all = tt
is_pair_each (q ∷ pairs) all = (record { named = all.0.0.0; key = all.0.0.1; value = all.0.1 }, is_pair_each pairs all.1)

set_fits : (deep : ℕ) (name : List ℕ) (pairs : List (List ℕ)) → Fits deep (Declares name (ALabelSet pairs)) → Named deep (Declares name (ALabelSet pairs)) → ArePairs (canonical_of (map pair_of pairs))
unfolding Fits Named Written
set_fits deep name pairs fit named =
    let few = short (both_left (nat_le (length pairs) 16) (list_all pair_fits pairs) fit) in
    record {
      few = omega (arith, canonical-few (map pair_of pairs), length-map pairs pair_of, few);
      each = All-from_recursion IsPair (canonical_of (map pair_of pairs)) (is_pair_each (canonical_of (map pair_of pairs)) (canonical-each IsKey IsValue (map pair_of pairs) (pair_words pairs
          named.2.formed (both_right (nat_le (length pairs) 16) (list_all pair_fits pairs) fit))));
      rising = canonical-keys_rise (map pair_of pairs);
    }

sets_fit : (deep line : ℕ) (said : List Said) → AllDeep Fits deep said → AllDeep Named deep said → AllByRecursion (λ (l : LabelSet). ArePairs l.pairs) (each_at label_set_of line said)
unfolding each_at
sets_fit deep line [] fit named = tt
sets_fit deep line (Declares name (ALabelSet pairs) ∷ after) fit named = (set_fits deep name pairs fit.0 named.0, sets_fit deep (line + 1) after fit.1 named.1)
sets_fit deep line (s ∷ after) fit named = sets_fit (deep_after deep s) (line + 1) after fit.1 named.1

counts_of : (said : List Said) → Counts (parts_of said) (known_of said)
counts_of said = record {
  functions = sym (length-map (functions_at (known_of said) 1 said) (λ (f : Function). f.name)) ∙ ap length (function_names (known_of said) 1 said);
  channels = sym (length-map (each_at channel_of 1 said) (λ (c : ChannelDecl). c.name)) ∙ ap length (each_names channel_of (λ (c : ChannelDecl). c.name) Channels channel_name 1 said);
  mutexes = sym (length-map (each_at mutex_of 1 said) (λ (m : MutexDecl). m.name)) ∙ ap length (each_names mutex_of (λ (m : MutexDecl). m.name) Mutexes mutex_name 1 said);
  labels = sym (length-map (each_at label_set_of 1 said) (λ (l : LabelSet). l.name)) ∙ ap length (each_names label_set_of (λ (l : LabelSet). l.name) LabelSets label_name 1 said);
}

pub in_limits : (said : List Said) → AllDeep Named 0 said → AreSound said → AllByRecursion (IsKnown (known_of said)) said → AreInLimits (parts_of said)
in_limits said named sound usable =
    let counts = counts_of said in
    let lines : Sound (parts_of said) (known_of said) 0 said = record { fit = sound.fit; named = named; usable = usable } in
    record {
      functions = omega (arith, counts.functions, sound.few Functions);
      function_names = subst AreNames (sym (function_names (known_of said) 1 said)) (are_names said Functions named sound);
      statements = All-from_recursion (BodyFits (parts_of said)) (functions_at (known_of said) 1 said) (functions_fit (parts_of said) (known_of said) 0 1 said counts lines);
      channels = omega (arith, counts.channels, sound.few Channels);
      channel_names = subst AreNames (sym (each_names channel_of (λ (c : ChannelDecl). c.name) Channels channel_name 1 said)) (are_names said Channels named sound);
      capacities = All-from_recursion (λ (c : ChannelDecl). c.capacity ≤ 65535) (each_at channel_of 1 said) (channels_fit 0 1 said sound.fit);
      mutexes = omega (arith, counts.mutexes, sound.few Mutexes);
      mutex_names = subst AreNames (sym (each_names mutex_of (λ (m : MutexDecl). m.name) Mutexes mutex_name 1 said)) (are_names said Mutexes named sound);
      labels = omega (arith, counts.labels, sound.few LabelSets);
      label_names = subst AreNames (sym (each_names label_set_of (λ (l : LabelSet). l.name) LabelSets label_name 1 said)) (are_names said LabelSets named sound);
      pairs = All-from_recursion (λ (l : LabelSet). ArePairs l.pairs) (each_at label_set_of 1 said) (sets_fit 0 1 said sound.fit named);
    }
