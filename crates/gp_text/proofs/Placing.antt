-- Where the parts of lines stand in the text: each on the line that it was read from.
use Rattle.std.proofs.Common.{◌≡◌, inl, inr, ℕ, zero, suc, ◌+◌, Bool, true, false, cond, List, [], ◌∷◌, ◌++◌, length, refl, sym, ap, subst, ◌∙◌, arith, add-one, append_assoc, nat_lt}
use Rattle.std.specs.Prelude.{map, codes, decimal, fold, unwrap_or, position, slice_get}
use Rattle.std.specs.Option.{option_map_or}
use Rattle.std.specs.List.{AllByRecursion, flat_map, list_any, position_or_len}
use Rattle.std.specs.Str.{bytes_eq}
use Rattle.std.proofs.lemmas.List.{append-nil}
use Rattle.std.proofs.lemmas.Slice.Eq.{bytes_eq-Decides}
use Rattle.std.proofs.lemmas.Bool.Decides.{nat_tests}
use Rattle.gp_isa.specs.declared.parts.Parts.{Parts}
use Rattle.gp_isa.specs.declared.parts.Function.{Function}
use Rattle.gp_isa.specs.declared.parts.ChannelDecl.{ChannelDecl}
use Rattle.gp_isa.specs.declared.parts.MutexDecl.{MutexDecl}
use Rattle.gp_isa.specs.declared.parts.LabelSet.{LabelSet}
use Rattle.gp_isa.specs.declared.parts.Pair.{Pair}
use Rattle.gp_isa.specs.declared.statement.Stmt.{Stmt}
use Rattle.gp_isa.specs.declared.statement.What.TheVariants as what
use Rattle.gp_isa.specs.Limits.{most_loops}
use Rattle.gp_isa.specs.Statement.{action_of, line_of}
use Rattle.gp_isa.proofs.Actions.{action-work, action-call, action-loop, action-send, action-recv, action-lock, action-unlock, action-spawn, action-labels}
use Rattle.gp_labels.specs.LabelSet.{canonical_of}
use Rattle.gp_text.specs.declared.verb.Verb.{Verb}
use Rattle.gp_text.specs.declared.verb.Verb.TheVariants.{Call, Spawn, Send, Recv, Lock, Unlock, Labels}
use Rattle.gp_text.specs.declared.said.Declared.TheVariants.{Function as AFunction, Channel, Mutex, LabelSet as ALabelSet}
use Rattle.gp_text.specs.declared.said.Said.{Said}
use Rattle.gp_text.specs.declared.said.Said.TheVariants.{NotUtf8, Nonsense, Silent, Declares, Loop, Work, Use, Close}
use Rattle.gp_text.specs.Line.{pair_of, deep_after}
use Rattle.gp_text.specs.Fault.{Known, space_of, is_among}
use Rattle.gp_text.specs.Reading.{place_of, action, statement, Block, first, others, in_front, blocks_at, function_with, functions_at, channel_of, mutex_of, label_set_of, each_at}
use Rattle.gp_text.specs.Text.{Item, item, action_items, body_items, function_items, channel_item, mutex_item, pair_text, set_item, set_name}
use Rattle.gp_text.proofs.Told.{told}
use Rattle.gp_text.proofs.InLimits.{AllDeep, Fits, Named}
use Rattle.gp_text.proofs.WordCuts.{next_of}
use Rattle.gp_text.proofs.Fitting.{IsKnown, found_below, known_name, loop_room, outside_of}
use Rattle.gp_text.proofs.Spelled.{behind}
use Rattle.gp_text.proofs.Forms.{pair_word, spell}

-- what lines of a kind put on their lines
abbrev pub lines_items : (Said → Bool) → ℕ → List Said → List Item
lines_items kind line [] = []
lines_items kind line (s ∷ after) = cond (kind s) (item line (spell s) ∷ []) [] ++ lines_items kind (line + 1) after

-- the four kinds
abbrev pub is_code : Said → Bool
is_code (Declares name AFunction) = true
is_code (Loop turns) = true
is_code (Work n) = true
is_code (Use verb name) = true
is_code Close = true
is_code _ = false

abbrev pub is_channel : Said → Bool
is_channel (Declares name (Channel capacity)) = true
is_channel _ = false

abbrev pub is_mutex : Said → Bool
is_mutex (Declares name Mutex) = true
is_mutex _ = false

abbrev pub is_set : Said → Bool
is_set (Declares name (ALabelSet pairs)) = true
is_set _ = false

text_same : (line : ℕ) (a b : List ℕ) (rest more : List Item) → a ≡ b → rest ≡ more → item line a ∷ rest ≡ item line b ∷ more
text_same line a b rest more e f = ap (λ t. item line t ∷ rest) e ∙ ap (λ l. item line b ∷ l) f

pub channel_items : (line : ℕ) (said : List Said) → map channel_item (each_at channel_of line said) ≡ lines_items is_channel line said
unfolding each_at spell
channel_items line [] = refl
channel_items line (Declares name (Channel capacity) ∷ after) =
    text_same line _ _ _ _ (ap (λ t. codes "chan " ++ t) (append_assoc name (codes " ") (decimal capacity) ∙ ap (λ t. name ++ (32 ∷ t)) (sym (append-nil (decimal capacity))))) (channel_items (line + 1) after)
channel_items line (s ∷ after) = channel_items (line + 1) after

pub mutex_items : (line : ℕ) (said : List Said) → map mutex_item (each_at mutex_of line said) ≡ lines_items is_mutex line said
unfolding each_at spell
mutex_items line [] = refl
mutex_items line (Declares name Mutex ∷ after) = text_same line _ _ _ _ (ap (λ t. codes "mutex " ++ t) (sym (append-nil name))) (mutex_items (line + 1) after)
mutex_items line (s ∷ after) = mutex_items (line + 1) after

pair_spelled : (p : Pair) → pair_text p ≡ 32 ∷ pair_word p
pair_spelled p = ap (λ t. 32 ∷ t) (append_assoc p.key (codes "=") p.value)

pairs_behind : (ps : List Pair) → flat_map pair_text ps ≡ behind (map pair_word ps)
pairs_behind [] = refl
pairs_behind (p ∷ ps) = ap (λ t. t ++ flat_map pair_text ps) (pair_spelled p) ∙ ap (λ t. 32 ∷ (pair_word p ++ t)) (pairs_behind ps)

pub set_items : (line : ℕ) (said : List Said) → map set_item (each_at label_set_of line said) ≡ lines_items is_set line said
unfolding each_at spell
set_items line [] = refl
set_items line (Declares name (ALabelSet pairs) ∷ after) = text_same line _ _ _ _ (ap (λ t. codes "labels " ++ name ++ t) (pairs_behind (canonical_of (map pair_of pairs)))) (set_items (line + 1) after)
set_items line (s ∷ after) = set_items (line + 1) after

-- The names of parts are those that are known.
pub record AreNamed (parts : Parts) (known : Known) : Type 0 where
  pub functions : map (λ (f : Function). f.name) parts.functions ≡ known (space_of Call)
  pub channels : map (λ (c : ChannelDecl). c.name) parts.channels ≡ known (space_of Send)
  pub mutexes : map (λ (m : MutexDecl). m.name) parts.mutexes ≡ known (space_of Lock)
  pub labels : map (λ (l : LabelSet). l.name) parts.labels ≡ known (space_of Labels)

same_bytes : (a b : List ℕ) → bytes_eq a b ≡ true → a ≡ b
same_bytes a b h = (bytes_eq-Decides a b).0 h

-- what stands at a name's place has this name
named_there : {X : Type 0} (name_of : X → List ℕ) (xs : List X) (name : List ℕ) → list_any (bytes_eq name) (map name_of xs) ≡ true → option_map_or name_of (slice_get xs (position_or_len (bytes_eq name) (map name_of xs))) [] ≡ name
named_there name_of [] name h = absurd cc
named_there name_of (x ∷ xs) name h = elim (told (bytes_eq name (name_of x))) [
  | inl t ↦ rw t (sym (same_bytes name (name_of x) t))
  | inr f ↦
      let rest : list_any (bytes_eq name) (map name_of xs) ≡ true = rw f at h in
      rw (f, next_of (position_or_len (bytes_eq name) (map name_of xs))) (named_there name_of xs name rest)
]

place_found : (p : List ℕ → Bool) (xs : List (List ℕ)) → list_any p xs ≡ true → unwrap_or (position p xs) 0 ≡ position_or_len p xs
place_found p xs h =
    let less = found_below p xs h in
    let test : nat_lt (position_or_len p xs) (length xs) ≡ true = grind (arith, nat_tests) in
    rw test refl

name_at : {X : Type 0} (name_of : X → List ℕ) (xs : List X) (names : List (List ℕ)) (name : List ℕ) → map name_of xs ≡ names → is_among name names ≡ true → option_map_or name_of (slice_get xs (unwrap_or (position (bytes_eq name) names) 0)) [] ≡ name
name_at name_of xs names name is among =
    let here : list_any (bytes_eq name) (map name_of xs) ≡ true = rw is among in
    ap (λ (ns : List (List ℕ)). option_map_or name_of (slice_get xs (unwrap_or (position (bytes_eq name) ns) 0)) []) (sym is)
    ∙ ap (λ n. option_map_or name_of (slice_get xs n) []) (place_found (bytes_eq name) (map name_of xs) here)
    ∙ named_there name_of xs name here

abbrev no_items : List Stmt → List Item
no_items body = []

-- a statement that uses a name is spelled with it
use_items : (parts : Parts) (known : Known) (inner : List Stmt → List Item) (line : ℕ) (verb : Verb) (name : List ℕ) → AreNamed parts known → is_among name (known (space_of verb)) ≡ true →
    action_items parts inner line (action_of (statement line (action verb (place_of known verb name)))) ≡ item line (spell (Use verb name)) ∷ []
unfolding action_items spell
use_items parts known inner line Call name named among =
    ap (action_items parts inner line) (action-call (place_of known Call name)) ∙ ap (λ t. item line (codes "call " ++ t) ∷ []) (name_at (λ (f : Function). f.name) parts.functions _ name named.functions among ∙ sym (append-nil name))
use_items parts known inner line Spawn name named among =
    ap (action_items parts inner line) (action-spawn (place_of known Spawn name)) ∙ ap (λ t. item line (codes "spawn " ++ t) ∷ []) (name_at (λ (f : Function). f.name) parts.functions _ name named.functions among ∙ sym (append-nil name))
use_items parts known inner line Send name named among =
    ap (action_items parts inner line) (action-send (place_of known Send name)) ∙ ap (λ t. item line (codes "send " ++ t) ∷ []) (name_at (λ (c : ChannelDecl). c.name) parts.channels _ name named.channels among ∙ sym (append-nil name))
use_items parts known inner line Recv name named among =
    ap (action_items parts inner line) (action-recv (place_of known Recv name)) ∙ ap (λ t. item line (codes "recv " ++ t) ∷ []) (name_at (λ (c : ChannelDecl). c.name) parts.channels _ name named.channels among ∙ sym (append-nil name))
use_items parts known inner line Lock name named among =
    ap (action_items parts inner line) (action-lock (place_of known Lock name)) ∙ ap (λ t. item line (codes "lock " ++ t) ∷ []) (name_at (λ (m : MutexDecl). m.name) parts.mutexes _ name named.mutexes among ∙ sym (append-nil name))
use_items parts known inner line Unlock name named among =
    ap (action_items parts inner line) (action-unlock (place_of known Unlock name)) ∙ ap (λ t. item line (codes "unlock " ++ t) ∷ []) (name_at (λ (m : MutexDecl). m.name) parts.mutexes _ name named.mutexes among ∙ sym (append-nil name))
use_items parts known inner line Labels name named among =
    ap (action_items parts inner line) (action-labels (place_of known Labels name + 1)) ∙ ap (λ n. item line (codes "labels " ++ set_name parts n) ∷ []) (add-one (place_of known Labels name))
    ∙ ap (λ t. item line (codes "labels " ++ t) ∷ []) (name_at (λ (l : LabelSet). l.name) parts.labels _ name named.labels among ∙ sym (append-nil name))

work_items : (parts : Parts) (inner : List Stmt → List Item) (line n : ℕ) → action_items parts inner line (action_of (statement line (what.Work n))) ≡ item line (spell (Work n)) ∷ []
unfolding action_items spell
work_items parts inner line n = ap (action_items parts inner line) (action-work n) ∙ ap (λ t. item line (codes "work " ++ t) ∷ []) (sym (append-nil (decimal n)))

loop_items : (parts : Parts) (inner : List Stmt → List Item) (line n end : ℕ) (body : List Stmt) →
    action_items parts inner line (action_of (statement line (what.Loop n body end))) ≡ item line (spell (Loop n)) ∷ inner body ++ item end (spell Close) ∷ []
unfolding action_items spell
loop_items parts inner line n end body = ap (action_items parts inner line) (action-loop n body end)

-- What the blocks that so many bodies are open for put on lines, the innermost first, each with its brace.
pub block_items : Parts → ℕ → ℕ → List Block → List Item
block_items parts zero room blocks = []
block_items parts (suc deep) room blocks = body_items parts (suc room) (first blocks).body ++ item (first blocks).end (spell Close) ∷ block_items parts deep (suc room) (others blocks)

front_items : (parts : Parts) (deep room : ℕ) (s : Stmt) (blocks : List Block) → block_items parts (suc deep) room (in_front s blocks) ≡ action_items parts (body_items parts room) (line_of s) (action_of s) ++ block_items parts (suc deep) room blocks
unfolding block_items body_items
front_items parts deep room s blocks =
    append_assoc (action_items parts (body_items parts room) (line_of s) (action_of s)) (body_items parts (suc room) (first blocks).body) (item (first blocks).end (spell Close) ∷ block_items parts deep (suc room) (others blocks))

loop_front_items : (parts : Parts) (deep room line n : ℕ) (blocks : List Block) →
    block_items parts (suc deep) (suc room) (in_front (statement line (what.Loop n (first blocks).body (first blocks).end)) (others blocks)) ≡ item line (spell (Loop n)) ∷ block_items parts (suc (suc deep)) room blocks
unfolding block_items
loop_front_items parts deep room line n blocks =
    let rest = block_items parts (suc deep) (suc room) (others blocks) in
    front_items parts deep (suc room) _ (others blocks) ∙ ap (λ l. l ++ rest) (loop_items parts (body_items parts (suc room)) line n (first blocks).end (first blocks).body)
    ∙ ap (λ l. item line (spell (Loop n)) ∷ l) (append_assoc (body_items parts (suc room) (first blocks).body) (item (first blocks).end (spell Close) ∷ []) rest)

-- What is asked of lines where their items stand on their lines: no fault, and all that is opened is closed.
pub record Whole (known : Known) (deep : ℕ) (said : List Said) : Type 0 where
  pub fit : AllDeep Fits deep said
  pub named : AllDeep Named deep said
  pub usable : AllByRecursion (IsKnown known) said
  pub closed : fold deep_after deep said ≡ 0

whole_next : (known : Known) (deep next : ℕ) (s : Said) (after : List Said) → Whole known deep (s ∷ after) → deep_after deep s ≡ next → Whole known next after
whole_next known deep next s after whole e = record {
  fit = subst (λ n. AllDeep Fits n after) e whole.fit.1;
  named = subst (λ n. AllDeep Named n after) e whole.named.1;
  usable = whole.usable.1;
  closed = ap (λ n. fold deep_after n after) (sym e) ∙ whole.closed;
}

-- the items of blocks, and of functions behind them
abbrev pub CodeItems : Parts → Known → ℕ → ℕ → ℕ → List Said → Type 0
CodeItems parts known deep room line said = block_items parts deep room (blocks_at known line said) ++ flat_map (function_items parts) (functions_at known line said) ≡ lines_items is_code line said

one_more : (parts : Parts) (line : ℕ) (s : Said) (blocks : List Item) (functions code : List Item) (front : List Item) → front ≡ item line (spell s) ∷ blocks → blocks ++ functions ≡ code → front ++ functions ≡ item line (spell s) ∷ code
one_more parts line s blocks functions code front is rest = ap (λ l. l ++ functions) is ∙ ap (λ l. item line (spell s) ∷ l) rest

close_items : (parts : Parts) (deep room line : ℕ) (blocks : List Block) → block_items parts (suc deep) room (record { body = []; end = line } ∷ blocks) ≡ item line (spell Close) ∷ block_items parts deep (suc room) blocks
unfolding block_items body_items
close_items parts deep room line blocks = refl

pub no_blocks : (parts : Parts) (deep room : ℕ) (blocks : List Block) → deep ≡ 0 → block_items parts deep room blocks ≡ []
unfolding block_items
no_blocks parts zero room blocks e = refl
no_blocks parts (suc deep) room blocks e = absurd (omega arith)

-- what the items of a function and of the lines behind its header are
function_front : (parts : Parts) (line : ℕ) (name : List ℕ) (blocks : List Block) (functions code : List Item) → block_items parts (suc zero) most_loops blocks ++ functions ≡ code →
    function_items parts (function_with name line (first blocks)) ++ functions ≡ item line (spell (Declares name AFunction)) ∷ code
unfolding block_items spell
function_front parts line name blocks functions code rest = ap (λ l. item line (codes "func " ++ name ++ codes " {") ∷ l) rest

shut_work : (n : ℕ) → Named 0 (Work n) → ⊥
unfolding Named
shut_work n named = omega arith

shut_loop : (n : ℕ) → Named 0 (Loop n) → ⊥
unfolding Named
shut_loop n named = omega arith

shut_use : (verb : Verb) (name : List ℕ) → Named 0 (Use verb name) → ⊥
unfolding Named
shut_use verb name named = let open_ = named.0 in omega arith

shut_close : Named 0 Close → ⊥
unfolding Named
shut_close named = omega arith

-- Lines of code stand on their lines, as blocks and functions have them.
pub code_lines : (parts : Parts) (known : Known) (deep room line : ℕ) (said : List Said) → deep + room ≡ 9 → AreNamed parts known → Whole known deep said → CodeItems parts known deep room line said
unfolding blocks_at functions_at
code_lines parts known deep room line [] e names whole = ap (λ l. l ++ []) (no_blocks parts deep room [] whole.closed)
code_lines parts known zero room line (Declares name AFunction ∷ after) e names whole =
    let rest = code_lines parts known (suc zero) most_loops (line + 1) after refl names (whole_next known zero (suc zero) (Declares name AFunction) after whole (omega arith)) in
    ap (λ l. l ++ flat_map (function_items parts) (functions_at known line (Declares name AFunction ∷ after))) (no_blocks parts zero room _ refl)
    ∙ function_front parts line name (blocks_at known (line + 1) after) (flat_map (function_items parts) (functions_at known (line + 1) after)) _ rest
code_lines parts known zero room line (Work n ∷ after) e names whole = absurd (shut_work n whole.named.0)
code_lines parts known zero room line (Loop n ∷ after) e names whole = absurd (shut_loop n whole.named.0)
code_lines parts known zero room line (Use verb name ∷ after) e names whole = absurd (shut_use verb name whole.named.0)
code_lines parts known zero room line (Close ∷ after) e names whole = absurd (shut_close whole.named.0)
code_lines parts known zero room line (Silent ∷ after) e names whole = code_lines parts known zero room (line + 1) after e names (whole_next known zero zero Silent after whole refl)
code_lines parts known zero room line (NotUtf8 ∷ after) e names whole = code_lines parts known zero room (line + 1) after e names (whole_next known zero zero NotUtf8 after whole refl)
code_lines parts known zero room line (Nonsense ∷ after) e names whole = code_lines parts known zero room (line + 1) after e names (whole_next known zero zero Nonsense after whole refl)
code_lines parts known zero room line (Declares name Mutex ∷ after) e names whole = code_lines parts known zero room (line + 1) after e names (whole_next known zero zero (Declares name Mutex) after whole refl)
code_lines parts known zero room line (Declares name (Channel capacity) ∷ after) e names whole = code_lines parts known zero room (line + 1) after e names (whole_next known zero zero (Declares name (Channel capacity)) after whole refl)
code_lines parts known zero room line (Declares name (ALabelSet pairs) ∷ after) e names whole = code_lines parts known zero room (line + 1) after e names (whole_next known zero zero (Declares name (ALabelSet pairs)) after whole refl)
code_lines parts known (suc deep) room line (Close ∷ after) e names whole =
    one_more parts line Close _ _ _ _ (close_items parts deep room line (blocks_at known (line + 1) after))
    (code_lines parts known deep (suc room) (line + 1) after (omega arith) names (whole_next known (suc deep) deep Close after whole (omega arith)))
code_lines parts known (suc deep) zero line (Loop n ∷ after) e names whole = let few = loop_room (suc deep) n whole.fit.0 in absurd (omega arith)
code_lines parts known (suc deep) (suc room) line (Loop n ∷ after) e names whole =
    one_more parts line (Loop n) _ _ _ _ (loop_front_items parts deep room line n (blocks_at known (line + 1) after))
    (code_lines parts known (suc (suc deep)) room (line + 1) after (omega arith) names (whole_next known (suc deep) (suc (suc deep)) (Loop n) after whole (omega arith)))
code_lines parts known (suc deep) room line (Work n ∷ after) e names whole =
    one_more parts line (Work n) _ _ _ _ (front_items parts deep room _ (blocks_at known (line + 1) after) ∙ ap (λ l. l ++ block_items parts (suc deep) room (blocks_at known (line + 1) after)) (work_items parts (body_items parts room) line n))
    (code_lines parts known (suc deep) room (line + 1) after e names (whole_next known (suc deep) (suc deep) (Work n) after whole refl))
code_lines parts known (suc deep) room line (Use verb name ∷ after) e names whole =
    one_more parts line (Use verb name) _ _ _ _ (front_items parts deep room _ (blocks_at known (line + 1) after)
    ∙ ap (λ l. l ++ block_items parts (suc deep) room (blocks_at known (line + 1) after)) (use_items parts known (body_items parts room) line verb name names (known_name known verb name whole.usable.0)))
    (code_lines parts known (suc deep) room (line + 1) after e names (whole_next known (suc deep) (suc deep) (Use verb name) after whole refl))
code_lines parts known (suc deep) room line (Declares name declared ∷ after) e names whole = let none = outside_of (suc deep) name declared whole.named.0 in absurd (omega arith)
code_lines parts known (suc deep) room line (Silent ∷ after) e names whole = code_lines parts known (suc deep) room (line + 1) after e names (whole_next known (suc deep) (suc deep) Silent after whole refl)
code_lines parts known (suc deep) room line (NotUtf8 ∷ after) e names whole = code_lines parts known (suc deep) room (line + 1) after e names (whole_next known (suc deep) (suc deep) NotUtf8 after whole refl)
code_lines parts known (suc deep) room line (Nonsense ∷ after) e names whole = code_lines parts known (suc deep) room (line + 1) after e names (whole_next known (suc deep) (suc deep) Nonsense after whole refl)
