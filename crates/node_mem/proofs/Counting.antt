-- What stays true of a node when a value is put or taken away.
use Rattle.std.proofs.Common.{◌≡◌, ℕ, ◌+◌, ◌-◌, ◌^◌, ◌<◌, ◌≤◌, Option, Some, None, length, refl, sym, ap, subst, arith, add-zero}
use Rattle.std.specs.Prelude.{All, IfSome}
use Rattle.std.specs.Map.{keys_of, values_of}
use Rattle.vol_types.specs.KeyMaps.{Entries, keys_in}
use Rattle.vol_types.specs.Maps.{IsMap, value_at, put_at}
use Rattle.vol_types.specs.Positions.{pos_cmp, IsWithin}
use Rattle.vol_types.specs.Ranges.{IsValue, IsKeyValue}
use Rattle.vol_types.specs.Sets.{set_length_of}
use Rattle.vol_types.specs.declared.positions.Pos.{Pos}
use Rattle.vol_types.specs.declared.values.Value.{Value}
use Rattle.node_mem.specs.Counts.{IsCounted, length_of}
use Rattle.node_mem.specs.CountLaws.{length-put_at, set_length-le, value_at-in_range, values-put_at, keys-put_at, keys-without}
use Rattle.node_mem.specs.Nodes.{Node, IsNode, with_entries}

in_range : (value : Option Value) → IsKeyValue value → IfSome value IsValue
in_range None is = tt
in_range (Some value) is = is

-- the node with a value put or taken away is one
pub node-put_at : (node : Node) (pos : Pos) (value : Option Value) (new : Entries) → IsNode node → IsWithin node.least node.greatest pos → IsKeyValue value → IsMap pos_cmp new → new ≡ put_at pos_cmp pos value node.entries → IsNode (with_entries node new)
node-put_at node pos value new is covered range rises eq = record {
  rises = rises;
  covered = subst (λ es. All (IsWithin node.least node.greatest) (keys_of es)) (sym eq) (keys-put_at (IsWithin node.least node.greatest) pos value node.entries is.covered covered);
  in_range = subst (λ es. All IsValue (values_of es)) (sym eq) (values-put_at IsValue pos value node.entries is.in_range (in_range value range));
}

-- the node without a value is one
pub node-without : (node : Node) (pos : Pos) (new : Entries) → IsNode node → IsMap pos_cmp new → new ≡ put_at pos_cmp pos None node.entries → IsNode (with_entries node new)
node-without node pos new is rises eq = record {
  rises = rises;
  covered = subst (λ es. All (IsWithin node.least node.greatest) (keys_of es)) (sym eq) (keys-without (IsWithin node.least node.greatest) pos node.entries is.covered);
  in_range = subst (λ es. All IsValue (values_of es)) (sym eq) (values-put_at IsValue pos None node.entries is.in_range tt);
}

-- and its bytes are counted
pub counted-put_at : (pos : Pos) (value before : Option Value) (entries new : Entries) (bytes added removed : ℕ) → IsMap pos_cmp entries → IsCounted entries bytes → new ≡ put_at pos_cmp pos value entries
    → before ≡ value_at pos_cmp pos entries → added ≡ length_of value → removed ≡ length_of before → IsCounted new (bytes + added - removed)
counted-put_at pos value before entries new bytes added removed rises c eq was a r = record {
  total = omega (arith, c.total, a, r, ap length_of was, ap (λ es. set_length_of (keys_in es)) eq, length-put_at pos entries rises value);
}

-- what was there weighs no more than all
pub removed-le : (pos : Pos) (value before : Option Value) (entries : Entries) (bytes added removed : ℕ) → IsMap pos_cmp entries → IsCounted entries bytes
    → before ≡ value_at pos_cmp pos entries → added ≡ length_of value → removed ≡ length_of before → removed ≤ bytes + added
removed-le pos value before entries bytes added removed rises c was a r = omega (arith, c.total, a, r, ap length_of was, length-put_at pos entries rises value)

-- the bytes fit, and one key more
pub bytes-fit : (entries : Entries) (bytes added : ℕ) → IsCounted entries bytes → All IsValue (values_of entries) → length entries < 2 ^ 63 → added < 2 ^ 32 → bytes + added < 2 ^ 96
bytes-fit entries bytes added c values few lt = omega (arith, c.total, set_length-le entries values)

-- what was there is in range
pub before-in_range : (pos : Pos) (before : Option Value) (node : Node) → IsNode node → before ≡ value_at pos_cmp pos node.entries → IsKeyValue before
before-in_range pos before node is was = subst IsKeyValue (sym was) (value_at-in_range pos node.entries is.in_range)

-- what is taken away weighs no more than all
pub taken-le : (pos : Pos) (before : Option Value) (entries : Entries) (bytes taken : ℕ) → IsMap pos_cmp entries → IsCounted entries bytes → before ≡ value_at pos_cmp pos entries → taken ≡ length_of before → taken ≤ bytes
taken-le pos before entries bytes taken rises c was t = omega (arith, removed-le pos None before entries bytes 0 taken rises c was refl t)

-- and the bytes without it are counted
pub counted-without : (pos : Pos) (before : Option Value) (entries new : Entries) (bytes taken : ℕ) → IsMap pos_cmp entries → IsCounted entries bytes → new ≡ put_at pos_cmp pos None entries → before ≡ value_at pos_cmp pos entries → taken ≡ length_of before
    → IsCounted new (bytes - taken)
counted-without pos before entries new bytes taken rises c eq was t =
    let counted = counted-put_at pos None before entries new bytes 0 taken rises c eq was refl t in
    subst (λ n. IsCounted new (n - taken)) (add-zero bytes) counted
