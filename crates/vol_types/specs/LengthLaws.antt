-- No key is long.
use Rattle.std.proofs.Common.{◌*◌, ◌≤◌, Option, Some, None, List, length, sum_by, arith}
use Rattle.std.proofs.lemmas.List.Sums.{sum_by-le}
use Rattle.vol_types.specs.declared.values.Link.{Link}
use Rattle.vol_types.specs.declared.values.Sub.{Sub}
use Rattle.vol_types.specs.declared.values.Value.{Value}
use Rattle.vol_types.specs.declared.values.Value.TheVariants.{Inode, Names, Extent, Hole, White, Subs, Snap, Live, Back, Gone, Counter, Node}
use Rattle.vol_types.specs.Lengths.{key_length_of, link_length, sub_length}
use Rattle.vol_types.specs.Ranges.{AreLinks, AreSubs, IsKeyValue}

short_links : (links : List Link) → AreLinks links → sum_by link_length links ≤ length links * 265
short_links links are = sum_by-le link_length 265 links (λ k d lt. omega (arith, (are.each k d lt).1))

short_subs : (subs : List Sub) → AreSubs subs → sum_by sub_length subs ≤ length subs * 269
short_subs subs are = sum_by-le sub_length 269 subs (λ k d lt. omega (arith, (are.each k d lt).1))

-- A key whose value is in range takes at most 2,221 bytes.
pub short_key : (value : Option Value) → IsKeyValue value → key_length_of value ≤ 2221
short_key None is = omega arith
short_key (Some (Inode inode)) is = omega arith
short_key (Some (Names links)) is = omega (arith, is.count.1, short_links links is)
short_key (Some (Extent extent)) is = omega (arith, is.blocks.1, is.copies.1)
short_key (Some (Hole blocks)) is = omega arith
short_key (Some White) is = omega arith
short_key (Some (Subs subs)) is = omega (arith, is.count.1, short_subs subs is)
short_key (Some (Snap snap)) is = omega arith
short_key (Some (Live live)) is = omega arith
short_key (Some (Back extent)) is = omega arith
short_key (Some Gone) is = omega arith
short_key (Some (Counter next)) is = omega arith
short_key (Some (Node node)) is = omega (arith, is.copies.1)
