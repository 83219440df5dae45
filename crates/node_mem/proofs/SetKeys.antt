-- The keys of a node may be written as a set, and a node is made again from them.
use Rattle.std.proofs.Common.{◌≡◌, ℕ, ◌*◌, ◌<◌, ◌≤◌, ◌^◌, Option, Some, None, List, [], ◌∷◌, ◌++◌, length, map, refl, sym, ap, ◌∙◌, subst, arith}
use Rattle.std.specs.Prelude.{All, IsSome, sum_by}
use Rattle.std.specs.Map.{keys_of, values_of}
use Rattle.std.proofs.lemmas.List.Elements.{All-nil, All-cons, All-head, All-tail}
use Rattle.std.proofs.lemmas.List.{append-nil, append_assoc}
use Rattle.std.proofs.lemmas.List.Sums.{sum_by-cons}
use Rattle.vol_types.specs.KeyMaps.{Entries, key_of, keys_in}
use Rattle.vol_types.specs.Lengths.{key_length_of}
use Rattle.vol_types.specs.MapLaws.{IsMap-put_at}
use Rattle.vol_types.specs.Maps.{IsMap, put_at}
use Rattle.vol_types.specs.PositionLaws.{pos_total}
use Rattle.vol_types.specs.Positions.{pos_cmp, IsWithin}
use Rattle.vol_types.specs.Ranges.{IsValue, IsKeyValue, Rise}
use Rattle.vol_types.specs.Rising.{Rise-from_sorted}
use Rattle.vol_types.specs.Sets.{set_length_of}
use Rattle.vol_types.specs.Standing.{MayStand, Stands}
use Rattle.vol_types.specs.declared.keys.Key.{Key}
use Rattle.vol_types.specs.declared.positions.Btree.{Btree}
use Rattle.vol_types.specs.declared.positions.Pos.{Pos}
use Rattle.vol_types.specs.declared.values.Value.{Value}
use Rattle.node_mem.specs.Nodes.{Node, IsNode, with_entries, with_keys}
use Rattle.node_mem.specs.Sets.{AreSetKeys}
use Rattle.vol_types.specs.CopyLaws.{insert_entry-greatest}
use Rattle.node_mem.proofs.Counting.{node-put_at}

module _ {X Y Z : Type 0} (f : X → Y) (g : X → Z) (P : Y → Type 0) (Q : Z → Type 0) (so : (x : X) → P (f x) → Q (g x)) where
  -- what holds of one part of each member tells of another part
  All-of : (xs : List X) → All P (map f xs) → All Q (map g xs)
  All-of [] all = All-nil Q
  All-of (x ∷ xs) all = All-cons Q (g x) (map g xs) (so x (All-head P (f x) (map f xs) all)) (All-of xs (All-tail P (f x) (map f xs) all))

positions : (entries : Entries) → map (λ key. key.pos) (keys_in entries) ≡ keys_of entries
positions [] = refl
positions (e ∷ entries) = ap (λ ps. e.0 ∷ ps) (positions entries)

length-at_least : (value : Value) → 21 ≤ key_length_of (Some value)
length-at_least value = omega arith

-- each key takes 21 bytes or more
keys-le : (keys : List Key) → 21 * length keys ≤ sum_by (λ key. key_length_of key.value) keys
keys-le [] = omega arith
keys-le (key ∷ keys) = omega (arith, keys-le keys, sum_by-cons (λ key. key_length_of key.value) key keys, at_least key.value)
  where
    at_least : (value : Option Value) → 21 ≤ key_length_of value
    at_least None = omega arith
    at_least (Some value) = length-at_least value

-- the keys of a node may be written as a set
pub set_of_node : (btree : Btree) (level : ℕ) (node : Node) → IsNode node → set_length_of (keys_in node.entries) < 2 ^ 32 → All (MayStand btree level) (values_of node.entries) → AreSetKeys btree level node.least node.greatest (keys_in node.entries)
set_of_node btree level node is short stand = record {
  few = omega (arith, short, keys-le (keys_in node.entries));
  rise = subst (Rise pos_cmp) (sym (positions node.entries)) (Rise-from_sorted pos_cmp (keys_of node.entries) is.rises);
  covered = All-of (λ (e : Pos × Value). e.0) key_of (IsWithin node.least node.greatest) (λ key. IsWithin node.least node.greatest key.pos) (λ e w. w) node.entries is.covered;
  stand = All-of (λ (e : Pos × Value). e.1) key_of (MayStand btree level) (λ key. Stands btree level key.value) (λ e s. s) node.entries stand;
  in_range = All-of (λ (e : Pos × Value). e.1) key_of IsValue (λ key. IsKeyValue key.value) (λ e v. v) node.entries is.in_range;
}

-- and none of them is removed
pub all_present : (entries : Entries) → All (λ key. IsSome key.value) (keys_in entries)
all_present [] = All-nil (λ key. IsSome key.value)
all_present (e ∷ entries) = All-cons (λ key. IsSome key.value) (key_of e) (keys_in entries) refl (all_present entries)

-- entries that are put after those that are there, the least position first, stand after them
put_after : (done left : Entries) → IsMap pos_cmp (done ++ left) → with_keys (keys_in left) done ≡ done ++ left
put_after done [] rises = sym (append-nil done)
put_after done (e ∷ left) rises =
    let joined = append_assoc done (e ∷ []) left in
    let put = insert_entry-greatest pos_total e.0 e.1 left done rises in
    ap (with_keys (keys_in left)) put ∙ put_after (done ++ e ∷ []) left (subst (IsMap pos_cmp) (sym joined) rises) ∙ joined

-- the keys of a map make it from nothing
pub keys_make : (entries : Entries) → IsMap pos_cmp entries → with_keys (keys_in entries) [] ≡ entries
keys_make entries rises = put_after [] entries rises

-- a node with keys put that it covers is one
pub node-with_keys : (keys : List Key) (node : Node) → IsNode node → All (λ key. IsWithin node.least node.greatest key.pos) keys → All (λ key. IsKeyValue key.value) keys → IsNode (with_entries node (with_keys keys node.entries))
node-with_keys [] node is covered range = is
node-with_keys (key ∷ keys) node is covered range =
    let here = node-put_at node key.pos key.value (put_at pos_cmp key.pos key.value node.entries) is (All-head (λ key. IsWithin node.least node.greatest key.pos) key keys covered) (All-head (λ key. IsKeyValue key.value) key keys range)
    (IsMap-put_at pos_total key.pos key.value node.entries is.rises) refl in
    node-with_keys keys (with_entries node (put_at pos_cmp key.pos key.value node.entries)) here (All-tail (λ key. IsWithin node.least node.greatest key.pos) key keys covered) (All-tail (λ key. IsKeyValue key.value) key keys range)
