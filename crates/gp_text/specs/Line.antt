-- What a line of a program file says.
use Rattle.std.specs.Prelude.{◌≡◌, refl, ℕ, ◌+◌, ◌-◌, Bool, not, ◌||◌, ◌&&◌, ◌==◌, if◌then◌else◌, nat_le, nat_lt, List, [], ◌∷◌, length, Option, Some, None, slice_index, codes}
use Rattle.std.specs.List.{list_all, list_any, before_first, after_first}
use Rattle.std.specs.Char.{is_ascii_digit, is_ascii_alphabetic, is_ascii_alphanumeric}
use Rattle.std.specs.Str.{bytes_eq, is_utf8}
use Rattle.std.specs.Str.Parse.{digits_value}
use Rattle.gp_isa.specs.declared.parts.Pair.{Pair}
use Rattle.gp_isa.specs.Limits.{name_bytes, number_digits}
use Rattle.gp_text.specs.Pieces.{words_of}
use Rattle.gp_text.specs.declared.verb.Verb.{Verb}
use Rattle.gp_text.specs.declared.verb.Verb.TheVariants.{Call, Spawn, Send, Recv, Lock, Unlock, Labels}
use Rattle.gp_text.specs.declared.said.Declared.TheVariants.{Function, Channel, Mutex, LabelSet}
use Rattle.gp_text.specs.declared.said.Said.{Said}
use Rattle.gp_text.specs.declared.said.Said.TheVariants.{NotUtf8, Nonsense, Silent, Declares, Loop, Work, Use, Close}

-- A name begins with a letter or `_`, and goes on with letters, digits, `_` and `.`, all ASCII.
abbrev pub begins_name : ℕ → Bool
begins_name b = is_ascii_alphabetic b || b == 95

abbrev pub continues_name : ℕ → Bool
continues_name b = is_ascii_alphanumeric b || (b == 95 || b == 46)

-- at least one byte, and at most so many
abbrev pub has_length : ℕ → List ℕ → Bool
has_length most bytes = nat_le 1 (length bytes) && nat_le (length bytes) most

-- A name has so many bytes at most.
unfoldable pub is_name : List ℕ → Bool
is_name name = has_length name_bytes name && (begins_name (slice_index name 0) && list_all continues_name name)

-- A number is written with digits, so many at most; zeros may lead.
unfoldable pub is_numeral : List ℕ → Bool
is_numeral digits = has_length number_digits digits && list_all is_ascii_digit digits

abbrev pub number : List ℕ → Option ℕ
number digits = if is_numeral digits then Some (digits_value 10 digits) else None

abbrev pub is_equals : ℕ → Bool
is_equals b = b == 61

-- A pair is a key, `=` and a value. The key isn't empty: the word has an `=`, but not as its first byte.
unfoldable pub is_pair : List ℕ → Bool
is_pair word = not (is_equals (slice_index word 0)) && list_any is_equals word

-- The first `=` ends the key; the value may be empty, and may have further ones.
abbrev pub pair_of : List ℕ → Pair
pair_of word = record { key = before_first is_equals word; value = after_first is_equals word }

cut_once : pair_of (codes "a=b=") ≡ record { key = codes "a"; value = codes "b=" }
cut_once = refl

-- the word, where there is one alone, and the words, where there are two
abbrev pub one : List (List ℕ) → Option (List ℕ)
one (word ∷ []) = Some word
one _ = None

abbrev pub two : List (List ℕ) → Option (List ℕ × List ℕ)
two (first ∷ second ∷ []) = Some (first, second)
two _ = None

abbrev pub is_open : List ℕ → Bool
is_open word = bytes_eq word (codes "{")

-- `func NAME {`
abbrev pub header_of : Option (List ℕ × List ℕ) → Said
header_of (Some words) = if is_name words.0 && is_open words.1 then Declares words.0 Function else Nonsense
header_of None = Nonsense

-- `chan NAME NUM`
abbrev pub capacity_of : List ℕ → Option ℕ → Said
capacity_of name (Some capacity) = Declares name (Channel capacity)
capacity_of name None = Nonsense

abbrev pub channel_of : Option (List ℕ × List ℕ) → Said
channel_of (Some words) = if is_name words.0 then capacity_of words.0 (number words.1) else Nonsense
channel_of None = Nonsense

-- `mutex NAME`
abbrev pub mutex_of : Option (List ℕ) → Said
mutex_of (Some name) = if is_name name then Declares name Mutex else Nonsense
mutex_of None = Nonsense

-- `labels NAME PAIR..`
abbrev pub label_set_of : List (List ℕ) → Said
label_set_of [] = Nonsense
label_set_of (name ∷ pairs) = if is_name name && list_all is_pair pairs then Declares name (LabelSet pairs) else Nonsense

-- What stands outside functions: a word, and what follows it.
unfoldable pub outside : List ℕ → List (List ℕ) → Said
outside word after =
    if bytes_eq word (codes "func") then header_of (two after) else
    if bytes_eq word (codes "chan") then channel_of (two after) else
    if bytes_eq word (codes "mutex") then mutex_of (one after) else
    if bytes_eq word (codes "labels") then label_set_of after else Nonsense

-- `work NUM`
abbrev pub count_of : Option ℕ → Said
count_of (Some n) = Work n
count_of None = Nonsense

abbrev pub work_of : Option (List ℕ) → Said
work_of (Some digits) = count_of (number digits)
work_of None = Nonsense

-- `loop NUM {`
abbrev pub turns_of : Option ℕ → Said
turns_of (Some turns) = Loop turns
turns_of None = Nonsense

abbrev pub loop_of : Option (List ℕ × List ℕ) → Said
loop_of (Some words) = if is_open words.1 then turns_of (number words.0) else Nonsense
loop_of None = Nonsense

-- `}`, with nothing behind it
abbrev pub close_of : List (List ℕ) → Said
close_of [] = Close
close_of _ = Nonsense

-- `call NAME` and the like
unfoldable pub verb_of : List ℕ → Option Verb
verb_of word =
    if bytes_eq word (codes "call") then Some Call else
    if bytes_eq word (codes "spawn") then Some Spawn else
    if bytes_eq word (codes "send") then Some Send else
    if bytes_eq word (codes "recv") then Some Recv else
    if bytes_eq word (codes "lock") then Some Lock else
    if bytes_eq word (codes "unlock") then Some Unlock else
    if bytes_eq word (codes "labels") then Some Labels else None

abbrev pub name_of : Verb → Option (List ℕ) → Said
name_of verb (Some name) = if is_name name then Use verb name else Nonsense
name_of verb None = Nonsense

abbrev pub use_of : Option Verb → Option (List ℕ) → Said
use_of (Some verb) name = name_of verb name
use_of None name = Nonsense

-- What stands inside a function.
unfoldable pub inside : List ℕ → List (List ℕ) → Said
inside word after =
    if bytes_eq word (codes "work") then work_of (one after) else
    if bytes_eq word (codes "loop") then loop_of (two after) else
    if bytes_eq word (codes "}") then close_of after else
    use_of (verb_of word) (one after)

abbrev pub is_comment : List ℕ → Bool
is_comment word = slice_index word 0 == 35

-- A line without words says nothing, and so does a comment, which begins with `#`. Any other has a form that is allowed
-- where it stands, or is nonsense.
abbrev pub spoken : Bool → List (List ℕ) → Said
spoken within [] = Silent
spoken within (word ∷ after) = if is_comment word then Silent else if within then inside word after else outside word after

-- What a line says, within a function or not.
unfoldable pub said_of : Bool → List ℕ → Said
said_of within line = if not (is_utf8 line) then NotUtf8 else spoken within (words_of line)

-- How many bodies are open behind a line, where so many are before it: that of the function, and one for each loop.
abbrev pub deep_after : ℕ → Said → ℕ
deep_after deep (Declares name Function) = deep + 1
deep_after deep (Loop turns) = deep + 1
deep_after deep Close = deep - 1
deep_after deep _ = deep

-- What lines say one after another, where so many bodies are open before them.
unfoldable pub said_from : ℕ → List (List ℕ) → List Said
said_from deep [] = []
said_from deep (line ∷ lines) = let s = said_of (nat_lt 0 deep) line in s ∷ said_from (deep_after deep s) lines
