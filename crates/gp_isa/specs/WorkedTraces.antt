-- Traces of small programs, worked out by hand.
use Rattle.std.specs.Prelude.{◌≡◌, ℕ, [], ◌∷◌, codes, Some, None}
use Rattle.gp_isa.specs.declared.parts.Parts.{Parts}
use Rattle.gp_isa.specs.declared.statement.Stmt.{Stmt, roll-Stmt}
use Rattle.gp_isa.specs.declared.statement.What.{What}
use Rattle.gp_isa.specs.declared.statement.What.TheVariants as what
use Rattle.gp_isa.specs.Trace.{Instruction, Local, Labels, Send, Point, point_at, trace}
use Rattle.gp_isa.specs.Calls.{callees, first_recursive}

abbrev statement : ℕ → What → Stmt
statement line what = roll-Stmt (record { line = line; what = what })

-- func main { labels red, loop 2 { call f } }; func f { work 1, send c }
abbrev pub looping : Parts
looping = record {
  functions =
      record {
        name = codes "main";
        line = 3;
        end = 8;
        body =
            statement 4 (what.Labels 1) ∷ statement 5 (what.Loop 2 (statement 6 (what.Call 1) ∷ []) 7) ∷ [];
      }
      ∷ record { name = codes "f"; line = 9; end = 12; body = statement 10 (what.Work 1) ∷ statement 11 (what.Send 0) ∷ [] } ∷ [];
  channels = record { name = codes "c"; line = 2; capacity = 0 } ∷ [];
  mutexes = [];
  labels = record { name = codes "red"; line = 1; pairs = [] } ∷ [];
}

-- a point of f, called from line 6 of main
abbrev within_call : ℕ → Instruction → Point
within_call line instruction = record {
  stack = record { function = 1; line = line } ∷ record { function = 0; line = 6 } ∷ [];
  instruction = instruction;
}

-- A call has no point of its own, and a loop repeats its body's points.
pub record LoopOfACall (program : Parts) : Type 0 where
  pub of_f : trace program 1 ≡ point_at 1 10 Local ∷ point_at 1 11 (Send 0) ∷ []
  pub of_main : trace program 0 ≡ point_at 0 4 (Labels 1)
      ∷ within_call 10 Local ∷ within_call 11 (Send 0) ∷ within_call 10 Local ∷ within_call 11 (Send 0) ∷ []
  pub calls : callees program 0 ≡ 1 ∷ []
  pub checked : first_recursive program ≡ None

-- func main { work 1 }; func f { call g }; func g { call f }: the first function that can call itself is f
abbrev pub circular : Parts
circular = record {
  functions =
      record { name = codes "main"; line = 1; end = 3; body = statement 2 (what.Work 1) ∷ [] }
      ∷ record { name = codes "f"; line = 4; end = 6; body = statement 5 (what.Call 2) ∷ [] }
      ∷ record { name = codes "g"; line = 7; end = 9; body = statement 8 (what.Call 1) ∷ [] } ∷ [];
  channels = [];
  mutexes = [];
  labels = [];
}

abbrev pub FirstOfACircle : Type 0
FirstOfACircle = first_recursive circular ≡ Some 1
