-- The generated program, for a number n and a number q of rounds of 16 goroutines.
--
--   line                            line                               line
--      1  chan done <16 q>             22  func main {                  45 + 8 j  func k<j> {
--      2  mutex m0                     23  loop <q> {                             labels l<j>
--     ..  ..                           24  spawn k0                               loop 4 {
--      5  mutex m3                     ..  ..                                     work <a of j>
--      6  labels l0 kind=0             39  spawn k15                              call s<j>
--     ..  ..                           40  }                                      }
--     21  labels l15 kind=15           41  loop <16 q> {                          send done
--                                      42  recv done                              }
--                                      43  }                           173 + 5 j  func s<j> {
--                                      44  }                                      lock m<j mod 4>
--                                                                                 work <b of j>
--                                                                                 unlock m<j mod 4>
--                                                                                 }
use Rattle.std.specs.Prelude.{ℕ, zero, suc, ◌+◌, ◌*◌, ◌%◌, List, [], ◌∷◌, ◌++◌, codes}
use Rattle.std.specs.Fmt.{decimal}
use Rattle.gp_isa.specs.declared.parts.Parts.{Parts}
use Rattle.gp_isa.specs.declared.parts.Function.{Function}
use Rattle.gp_isa.specs.declared.parts.ChannelDecl.{ChannelDecl}
use Rattle.gp_isa.specs.declared.parts.MutexDecl.{MutexDecl}
use Rattle.gp_isa.specs.declared.parts.LabelSet.{LabelSet}
use Rattle.gp_isa.specs.declared.statement.Stmt.{Stmt, roll-Stmt}
use Rattle.gp_isa.specs.declared.statement.What.{What}
use Rattle.gp_isa.specs.declared.statement.What.TheVariants.{Work, Call, Loop, Send, Recv, Lock, Unlock, Spawn, Labels}

-- those of 0, of 1, and so on, below a number
abbrev pub each_below : {X : Type 0} → (ℕ → X) → ℕ → List X
each_below of zero = []
each_below of (suc n) = each_below of n ++ of n ∷ []

-- a name: a text with a number behind it
abbrev pub numbered : List ℕ → ℕ → List ℕ
numbered text j = text ++ decimal j

-- ---- how much work there is

-- what the caller, and what the callee of number j works, in instructions
abbrev pub caller_work : ℕ → ℕ → ℕ
caller_work n j = 1000 + (31 * n + 17 * j) % 97

abbrev pub callee_work : ℕ → ℕ → ℕ
callee_work n j = 10 + (7 * n + 5 * j) % 13

-- ---- declarations

-- the channel that never fills: as many values as there are goroutines beside main
abbrev pub done_channel : ℕ → ChannelDecl
done_channel q = record { name = codes "done"; line = 1; capacity = 16 * q }

abbrev pub mutex_of : ℕ → MutexDecl
mutex_of m = record { name = numbered (codes "m") m; line = 2 + m }

abbrev pub label_set_of : ℕ → LabelSet
label_set_of j = record {
  name = numbered (codes "l") j;
  line = 6 + j;
  pairs = record { key = codes "kind"; value = decimal j } ∷ [];
}

-- ---- functions: main has number 0, caller j number 1 + j, callee j number 17 + j; label set j has number 1 + j

abbrev pub statement : ℕ → What → Stmt
statement line what = roll-Stmt (record { line = line; what = what })

abbrev pub spawn_of : ℕ → Stmt
spawn_of j = statement (24 + j) (Spawn (1 + j))

abbrev pub main_function : ℕ → Function
main_function q = record {
  name = codes "main";
  line = 22;
  end = 44;
  body =
      statement 23 (Loop q (each_below spawn_of 16) 40)
      ∷ statement 41 (Loop (16 * q) (statement 42 (Recv 0) ∷ []) 43)
      ∷ [];
}

abbrev pub caller_at : ℕ → ℕ → ℕ → Function
caller_at n j at = record {
  name = numbered (codes "k") j;
  line = at;
  end = at + 7;
  body =
      statement (at + 1) (Labels (1 + j))
      ∷ statement (at + 2) (Loop 4 (statement (at + 3) (Work (caller_work n j)) ∷ statement (at + 4) (Call (17 + j)) ∷ []) (at + 5))
      ∷ statement (at + 6) (Send 0)
      ∷ [];
}

abbrev pub callee_at : ℕ → ℕ → ℕ → Function
callee_at n j at = record {
  name = numbered (codes "s") j;
  line = at;
  end = at + 4;
  body =
      statement (at + 1) (Lock (j % 4))
      ∷ statement (at + 2) (Work (callee_work n j))
      ∷ statement (at + 3) (Unlock (j % 4))
      ∷ [];
}

abbrev pub caller_of : ℕ → ℕ → Function
caller_of n j = caller_at n j (45 + 8 * j)

abbrev pub callee_of : ℕ → ℕ → Function
callee_of n j = callee_at n j (173 + 5 * j)

-- ---- the program

unfoldable pub generated : ℕ → ℕ → Parts
generated n q = record {
  functions = main_function q ∷ (each_below (caller_of n) 16 ++ each_below (callee_of n) 16);
  channels = done_channel q ∷ [];
  mutexes = each_below mutex_of 4;
  labels = each_below label_set_of 16;
}
