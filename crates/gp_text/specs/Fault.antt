-- The first fault of a file: what its lines say is tested line by line for what may stand there, and then line by
-- line for names that nobody declares.
use Rattle.std.specs.Prelude.{ℕ, ◌+◌, Bool, true, false, not, ◌||◌, ◌&&◌, if◌then◌else◌, nat_le, nat_lt, List, [], ◌∷◌, ◌++◌, length, Option, Some, None, position, fold}
use Rattle.std.specs.List.{flat_map, list_any, list_all}
use Rattle.std.specs.Str.{bytes_eq}
use Rattle.gp_isa.specs.Limits.{name_bytes, most_functions, most_channels, most_mutexes, most_label_sets, most_pairs, most_capacity, most_count, most_loops}
use Rattle.gp_text.specs.declared.cause.Cause.{Cause}
use Rattle.gp_text.specs.declared.cause.Cause.TheVariants.{BadLine, UnknownName, Twice, OutOfRange, NotClosed, NotUtf8 as NoText}
use Rattle.gp_text.specs.declared.verb.Verb.{Verb}
use Rattle.gp_text.specs.declared.verb.Verb.TheVariants.{Call, Spawn, Send, Recv, Lock, Unlock, Labels}
use Rattle.gp_text.specs.declared.space.Space.{Space}
use Rattle.gp_text.specs.declared.space.Space.TheVariants.{Functions, Channels, Mutexes, LabelSets}
use Rattle.gp_text.specs.declared.said.Declared.{Declared}
use Rattle.gp_text.specs.declared.said.Declared.TheVariants.{Function, Channel, Mutex, LabelSet}
use Rattle.gp_text.specs.declared.said.Said.{Said}
use Rattle.gp_text.specs.declared.said.Said.TheVariants.{NotUtf8, Nonsense, Declares, Loop, Work, Use}
use Rattle.gp_text.specs.Line.{pair_of, deep_after}

-- the space of the names that a word is followed by
abbrev pub space_of : Verb → Space
space_of Call = Functions
space_of Spawn = Functions
space_of Send = Channels
space_of Recv = Channels
space_of Lock = Mutexes
space_of Unlock = Mutexes
space_of Labels = LabelSets

-- the space of a declaration's name
abbrev pub kind_of : Declared → Space
kind_of Function = Functions
kind_of (Channel capacity) = Channels
kind_of Mutex = Mutexes
kind_of (LabelSet pairs) = LabelSets

abbrev pub same_space : Space → Space → Bool
same_space Functions Functions = true
same_space Channels Channels = true
same_space Mutexes Mutexes = true
same_space LabelSets LabelSets = true
same_space _ _ = false

-- the name that a line declares in a space
abbrev pub declared_in : Space → Said → List (List ℕ)
declared_in space (Declares name declared) = if same_space space (kind_of declared) then name ∷ [] else []
declared_in space _ = []

-- the names that lines declare in a space, in file order
abbrev pub names : Space → List Said → List (List ℕ)
names space said = flat_map (declared_in space) said

abbrev pub is_among : List ℕ → List (List ℕ) → Bool
is_among name others = list_any (bytes_eq name) others

-- How many bodies are open behind lines.
abbrev pub depth : List Said → ℕ
depth before = fold deep_after 0 before

-- the most names of a space
abbrev pub most_names : Space → ℕ
most_names Functions = most_functions
most_names Channels = most_channels
most_names Mutexes = most_mutexes
most_names LabelSets = most_label_sets

-- The names of each space.
abbrev pub Known : Type 0
Known = Space → List (List ℕ)

-- what lines declare
abbrev pub known_of : List Said → Known
known_of said = λ space. names space said

-- whether a key and a value have so many bytes at most
abbrev pub pair_fits : List ℕ → Bool
pair_fits word = nat_le (length (pair_of word).key) name_bytes && nat_le (length (pair_of word).value) name_bytes

-- whether there are so many pairs at most, and each fits
abbrev pub pairs_fit : ℕ → List (List ℕ) → Bool
pairs_fit most pairs = nat_le (length pairs) most && list_all pair_fits pairs

-- Whether what is declared lies in its limits: a capacity; how many pairs are written, and what is in them.
abbrev pub fits : Declared → Bool
fits (Channel capacity) = nat_le capacity most_capacity
fits (LabelSet pairs) = pairs_fit most_pairs pairs
fits _ = true

-- the fault of a line that declares a name, where these names are declared before
unfoldable pub declaration_fault : Known → List ℕ → Declared → Option Cause
declaration_fault known name declared =
    if not (fits declared) || nat_le (most_names (kind_of declared)) (length (known (kind_of declared))) then Some OutOfRange else
    if is_among name (known (kind_of declared)) then Some Twice else None

-- whether a number may be that of instructions, or of turns
abbrev pub is_count : ℕ → Bool
is_count n = nat_le 1 n && nat_le n most_count

-- The fault of a line before which so many bodies are open and these names are declared. Of a loop the function's body is
-- one of them, so as many loops may be around it as bodies less one.
unfoldable pub fault : ℕ → Known → Said → Option Cause
fault deep known NotUtf8 = Some NoText
fault deep known Nonsense = Some BadLine
fault deep known (Declares name declared) = declaration_fault known name declared
fault deep known (Loop turns) = if is_count turns && nat_le deep most_loops then None else Some OutOfRange
fault deep known (Work n) = if is_count n then None else Some OutOfRange
fault deep known _ = None

-- A place in the file, lines counted from 1, and what is wrong there.
pub record Refusal : Type 0 where
  pub line : ℕ
  pub cause : Cause

-- The first fault that a line has behind the ones before it; where none has one, a function may be open at the last line.
unfoldable pub first_fault : List Said → List Said → Option Refusal
first_fault before [] = if nat_lt 0 (depth before) then Some (record { line = length before; cause = NotClosed }) else None
first_fault before (s ∷ after) = elim (fault (depth before) (known_of before) s) as (λ _. Option Refusal) [
  | Some cause ↦ Some (record { line = length before + 1; cause = cause })
  | None ↦ first_fault (before ++ s ∷ []) after
]

-- whether a line uses a name that isn't among these
abbrev pub is_unknown : Known → Said → Bool
is_unknown known (Use verb name) = not (is_among name (known (space_of verb)))
is_unknown known _ = false

-- the first line that uses a name which no line declares
abbrev pub first_unknown : List Said → Option Refusal
first_unknown said = elim (position (is_unknown (known_of said)) said) as (λ _. Option Refusal) [
  | Some at ↦ Some (record { line = at + 1; cause = UnknownName })
  | None ↦ None
]
