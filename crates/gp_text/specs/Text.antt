-- The text of a program: each declaration, statement and closing brace on its own line, and nothing on the lines between.
use Rattle.std.specs.Prelude.{ℕ, zero, suc, ◌==◌, max, if◌then◌else◌, List, [], ◌∷◌, ◌++◌, map, slice_get, codes, decimal}
use Rattle.std.specs.List.{flat_map}
use Rattle.std.specs.Option.{option_map_or}
use Rattle.gp_isa.specs.declared.parts.Parts.{Parts}
use Rattle.gp_isa.specs.declared.parts.Function.{Function}
use Rattle.gp_isa.specs.declared.parts.ChannelDecl.{ChannelDecl}
use Rattle.gp_isa.specs.declared.parts.MutexDecl.{MutexDecl}
use Rattle.gp_isa.specs.declared.parts.LabelSet.{LabelSet}
use Rattle.gp_isa.specs.declared.parts.Pair.{Pair}
use Rattle.gp_isa.specs.declared.statement.Stmt.{Stmt}
use Rattle.gp_isa.specs.declared.statement.What.TheOpen.{Work, Call, Loop, Send, Recv, Lock, Unlock, Spawn, Labels}
use Rattle.gp_isa.specs.Statement.{Action, action_of, line_of, most_bodies}

-- A line, counted from 1, and what stands there.
pub record Item : Type 0 where
  pub line : ℕ
  pub text : List ℕ

abbrev pub item : ℕ → List ℕ → Item
item line text = record { line = line; text = text }

-- the names of what statements name by number
abbrev pub function_name : Parts → ℕ → List ℕ
function_name parts f = option_map_or (λ (function : Function). function.name) (slice_get parts.functions f) []

abbrev pub channel_name : Parts → ℕ → List ℕ
channel_name parts c = option_map_or (λ (channel : ChannelDecl). channel.name) (slice_get parts.channels c) []

abbrev pub mutex_name : Parts → ℕ → List ℕ
mutex_name parts m = option_map_or (λ (mutex : MutexDecl). mutex.name) (slice_get parts.mutexes m) []

-- label sets count from 1
abbrev pub set_name : Parts → ℕ → List ℕ
set_name parts zero = []
set_name parts (suc s) = option_map_or (λ (set : LabelSet). set.name) (slice_get parts.labels s) []

-- What a statement at a line puts on lines, a loop on those of its body and of its brace too, which `inner` tells.
unfoldable pub action_items : Parts → (List Stmt → List Item) → ℕ → Action → List Item
action_items parts inner line (Work n) = item line (codes "work " ++ decimal n) ∷ []
action_items parts inner line (Call f) = item line (codes "call " ++ function_name parts f) ∷ []
action_items parts inner line (Loop n body end) =
    item line (codes "loop " ++ decimal n ++ codes " {") ∷ inner body ++ item end (codes "}") ∷ []
action_items parts inner line (Send c) = item line (codes "send " ++ channel_name parts c) ∷ []
action_items parts inner line (Recv c) = item line (codes "recv " ++ channel_name parts c) ∷ []
action_items parts inner line (Lock m) = item line (codes "lock " ++ mutex_name parts m) ∷ []
action_items parts inner line (Unlock m) = item line (codes "unlock " ++ mutex_name parts m) ∷ []
action_items parts inner line (Spawn f) = item line (codes "spawn " ++ function_name parts f) ∷ []
action_items parts inner line (Labels s) = item line (codes "labels " ++ set_name parts s) ∷ []

-- the statements of a body in which bodies stand at most `deep` inside each other, this one included
unfoldable pub body_items : Parts → ℕ → List Stmt → List Item
body_items parts zero body = []
body_items parts (suc deep) body = flat_map (λ s. action_items parts (body_items parts deep) (line_of s) (action_of s)) body

abbrev pub function_items : Parts → Function → List Item
function_items parts f =
    item f.line (codes "func " ++ f.name ++ codes " {") ∷ body_items parts most_bodies f.body ++ item f.end (codes "}") ∷ []

abbrev pub channel_item : ChannelDecl → Item
channel_item c = item c.line (codes "chan " ++ c.name ++ codes " " ++ decimal c.capacity)

abbrev pub mutex_item : MutexDecl → Item
mutex_item m = item m.line (codes "mutex " ++ m.name)

-- a blank, a key, `=` and a value
abbrev pub pair_text : Pair → List ℕ
pair_text pair = codes " " ++ pair.key ++ codes "=" ++ pair.value

abbrev pub set_item : LabelSet → Item
set_item set = item set.line (codes "labels " ++ set.name ++ flat_map pair_text set.pairs)

-- What all of a program puts on lines, whatever their order.
unfoldable pub items_of : Parts → List Item
items_of parts =
    flat_map (function_items parts) parts.functions ++ map channel_item parts.channels ++ map mutex_item parts.mutexes
    ++ map set_item parts.labels

-- what stands on a line
abbrev pub line_text : List Item → ℕ → List ℕ
line_text items line = flat_map (λ (i : Item). if i.line == line then i.text else []) items

-- the last line on which something stands
abbrev pub last_line : List Item → ℕ
last_line [] = 0
last_line (i ∷ items) = max i.line (last_line items)

-- so many lines, each with an LF behind it
abbrev pub lines_text : List Item → ℕ → List ℕ
lines_text items zero = []
lines_text items (suc n) = lines_text items n ++ line_text items (suc n) ++ 10 ∷ []

-- The text of a program's parts.
unfoldable pub text_of : Parts → List ℕ
text_of parts = lines_text (items_of parts) (last_line (items_of parts))
