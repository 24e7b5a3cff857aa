-- So many rows were issued, all blank, and the shares are theirs.
use Rattle.std.proofs.Common.{◌≡◌, map, replicate}
use Rattle.std.specs.List.{range_with_len}
use Rattle.gp_world.specs.Rows.{blank, share_of}
use Rattle.gp_world.proofs.making.issued.Given as goal

abbrev pub invariant-loop : goal.invariant-loop
invariant-loop l = record {
  rows : l.book.rows ≡ replicate l.counter blank;
  room : l.book.room ≡ l.count;
  shares : l.shares.items ≡ map (share_of l.book.book) (range_with_len 0 l.counter);
}
