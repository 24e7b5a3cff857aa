-- The program of a file, or why it is refused.
use Rattle.std.specs.Prelude.{◌≡◌, ℕ, ◌+◌, Bool, true, false, List, [], ◌∷◌, ◌++◌, map, Option, Some, None, unwrap_or, option_to_list, position, slice_get}
use Rattle.std.specs.Option.{option_map_or}
use Rattle.std.specs.Str.{bytes_eq}
use Rattle.gp_isa.specs.declared.parts.Parts.{Parts}
use Rattle.gp_isa.specs.declared.parts.Function.{Function}
use Rattle.gp_isa.specs.declared.parts.ChannelDecl.{ChannelDecl}
use Rattle.gp_isa.specs.declared.parts.MutexDecl.{MutexDecl}
use Rattle.gp_isa.specs.declared.parts.LabelSet.{LabelSet}
use Rattle.gp_isa.specs.declared.statement.Stmt.{Stmt, roll-Stmt}
use Rattle.gp_isa.specs.declared.statement.What.{What}
use Rattle.gp_isa.specs.declared.statement.What.TheVariants as what
use Rattle.gp_isa.specs.Checked.{main_of, first_empty}
use Rattle.gp_isa.specs.Calls.{first_recursive, first_too_long}
use Rattle.gp_labels.specs.LabelSet.{canonical_of}
use Rattle.gp_text.specs.declared.cause.Cause.{Cause}
use Rattle.gp_text.specs.declared.cause.Cause.TheVariants as cause
use Rattle.gp_text.specs.declared.error.TextError.{TextError}
use Rattle.gp_text.specs.declared.error.TextError.TheVariants.{Refused, Memory as OutOfMemory}
use Rattle.gp_text.specs.declared.verb.Verb.{Verb}
use Rattle.gp_text.specs.declared.verb.Verb.TheVariants.{Call, Spawn, Send, Recv, Lock, Unlock, Labels}
use Rattle.gp_text.specs.declared.said.Declared.TheVariants.{Function as AFunction, Channel, Mutex, LabelSet as ALabelSet}
use Rattle.gp_text.specs.declared.said.Said.{Said}
use Rattle.gp_text.specs.declared.said.Said.TheVariants.{Declares, Loop, Work, Use, Close}
use Rattle.gp_text.specs.Pieces.{lines_of}
use Rattle.gp_text.specs.Line.{pair_of, said_from}
use Rattle.gp_text.specs.Fault.{Known, known_of, space_of, first_fault, first_unknown}

-- the number of a name among those of the space of a word
abbrev pub place_of : Known → Verb → List ℕ → ℕ
place_of known verb name = unwrap_or (position (bytes_eq name) (known (space_of verb))) 0

-- What a word does to the thing of a number. Label sets are numbered from 1.
abbrev pub action : Verb → ℕ → What
action Call f = what.Call f
action Spawn f = what.Spawn f
action Send c = what.Send c
action Recv c = what.Recv c
action Lock m = what.Lock m
action Unlock m = what.Unlock m
action Labels s = what.Labels (s + 1)

abbrev pub statement : ℕ → What → Stmt
statement line what = roll-Stmt (record { line = line; what = what })

-- the statement of a line, where it is one without a body
abbrev pub statement_of : Known → ℕ → Said → Option Stmt
statement_of known line (Work n) = Some (statement line (what.Work n))
statement_of known line (Use verb name) = Some (statement line (action verb (place_of known verb name)))
statement_of known line _ = None

abbrev pub is_close : Said → Bool
is_close Close = true
is_close _ = false

-- Statements up to the closing brace that ends them, and its line.
pub record Block : Type 0 where
  pub body : List Stmt
  pub end : ℕ

-- the first of blocks, an empty one where there is none, and the blocks behind it
abbrev pub first : List Block → Block
first [] = record { body = []; end = 0 }
first (block ∷ blocks) = block

abbrev pub others : List Block → List Block
others [] = []
others (block ∷ blocks) = blocks

-- a statement in front of the first block
abbrev pub in_front : Stmt → List Block → List Block
in_front s blocks = record { body = s ∷ (first blocks).body; end = (first blocks).end } ∷ others blocks

abbrev pub each_in_front : Option Stmt → List Block → List Block
each_in_front (Some s) blocks = in_front s blocks
each_in_front None blocks = blocks

-- A line in front of lines that end these blocks, the innermost first: a brace ends one block more, which is empty so far; a
-- loop takes the first block as its body, and is a statement of the one around it.
abbrev pub line_in_front : Known → ℕ → Said → List Block → List Block
line_in_front known line Close blocks = record { body = []; end = line } ∷ blocks
line_in_front known line (Loop turns) blocks =
    in_front (statement line (what.Loop turns (first blocks).body (first blocks).end)) (others blocks)
line_in_front known line s blocks = each_in_front (statement_of known line s) blocks

-- The blocks that lines end, the innermost first, each with what these lines have of it; the first line is at a line.
unfoldable pub blocks_at : Known → ℕ → List Said → List Block
blocks_at known line [] = []
blocks_at known line (s ∷ after) = line_in_front known line s (blocks_at known (line + 1) after)

-- the function that a line opens, with the lines after it, the first of whose blocks is its own
abbrev pub function_with : List ℕ → ℕ → Block → Function
function_with name line block = record { name = name; line = line; end = block.end; body = block.body }

abbrev pub function_of : Known → ℕ → Said → List Said → Option Function
function_of known line (Declares name AFunction) after = Some (function_with name line (first (blocks_at known (line + 1) after)))
function_of known line _ after = None

-- the channel, the mutex and the label set that a line declares
abbrev pub channel_of : ℕ → Said → Option ChannelDecl
channel_of line (Declares name (Channel capacity)) = Some (record { name = name; line = line; capacity = capacity })
channel_of line _ = None

abbrev pub mutex_of : ℕ → Said → Option MutexDecl
mutex_of line (Declares name Mutex) = Some (record { name = name; line = line })
mutex_of line _ = None

abbrev pub label_set_of : ℕ → Said → Option LabelSet
label_set_of line (Declares name (ALabelSet pairs)) = Some (record { name = name; line = line; pairs = canonical_of (map pair_of pairs) })
label_set_of line _ = None

-- what lines declare, the first of them at a line
unfoldable pub functions_at : Known → ℕ → List Said → List Function
functions_at known line [] = []
functions_at known line (s ∷ after) = option_to_list (function_of known line s after) ++ functions_at known (line + 1) after

unfoldable pub each_at : {X : Type 0} → (ℕ → Said → Option X) → ℕ → List Said → List X
each_at of line [] = []
each_at of line (s ∷ after) = option_to_list (of line s) ++ each_at of (line + 1) after

-- What the lines of a file declare, each on its line, counted from 1. Names may be declared behind their use.
abbrev pub parts_of : List Said → Parts
parts_of said = record {
  functions = functions_at (known_of said) 1 said;
  channels = each_at channel_of 1 said;
  mutexes = each_at mutex_of 1 said;
  labels = each_at label_set_of 1 said;
}

-- A file gives parts that are a program, or is refused.
pub data Reading : Type 0 where
  Gives : (parts : Parts) → Reading
  Refuses : (line : ℕ) (cause : Cause) → Reading

-- the line of a function's header
abbrev pub header_line : Parts → ℕ → ℕ
header_line parts f = option_map_or (λ (function : Function). function.line) (slice_get parts.functions f) 0

-- Parts that lie in their limits are a program, or refused for the first of four causes.
unfoldable pub checked : Parts → Reading
checked parts = elim (main_of parts) as (λ _. Reading) [
  | None ↦ Refuses 0 cause.NoMain
  | Some main ↦ elim (first_empty parts) as (λ _. Reading) [
    | Some f ↦ Refuses (header_line parts f) cause.Empty
    | None ↦ elim (first_recursive parts) as (λ _. Reading) [
      | Some f ↦ Refuses (header_line parts f) cause.Recursion
      | None ↦ elim (first_too_long parts) as (λ _. Reading) [
        | Some f ↦ Refuses (header_line parts f) cause.TooLong
        | None ↦ Gives parts
      ]
    ]
  ]
]

-- a fault of the first pass, else one of the second, else what the third makes of the parts
unfoldable pub judged : List Said → Reading
judged said = elim (first_fault [] said) as (λ _. Reading) [
  | Some refusal ↦ Refuses refusal.line refusal.cause
  | None ↦ elim (first_unknown said) as (λ _. Reading) [
    | Some refusal ↦ Refuses refusal.line refusal.cause
    | None ↦ checked (parts_of said)
  ]
]

-- The program whose text the bytes are, or the place and the cause of the first fault.
unfoldable pub program_of : List ℕ → Reading
program_of bytes = judged (said_from 0 (lines_of bytes))

-- A refusal says where and why; nothing is said of want of memory.
abbrev pub IsRefusalOf : Reading → TextError → Type 0
IsRefusalOf reading (Refused line cause) = reading ≡ Refuses line cause
IsRefusalOf reading OutOfMemory = Unit {0}
