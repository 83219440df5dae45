-- A leaf as a set: how large it is, and on how many devices it lies.
use Rattle.std.proofs.Common.{◌≡◌, ℕ, suc, ◌<◌, ◌≤◌, ◌^◌, true, List, [], ◌∷◌, length, refl, sym, ap, subst, arith}
use Rattle.std.specs.Prelude.{take}
use Rattle.std.proofs.lemmas.List.{length-take}
use Rattle.bucket_pool.specs.Places.{each_from}
use Rattle.bucket_pool.specs.Space.{Space, node_place, node_places}
use Rattle.node_mem.specs.CountLaws.{set_length-le}
use Rattle.node_mem.specs.Nodes.{IsNode, Node, size_of}
use Rattle.node_mem.specs.Sets.{AreSetKeys}
use Rattle.record_codec.specs.Sets.{IsSetInRange}
use Rattle.vol_types.specs.KeyMaps.{Entries, keys_in}
use Rattle.vol_types.specs.Layouts.{is_layout}
use Rattle.vol_types.specs.LayoutLaws.{layout_found}
use Rattle.vol_types.specs.Limits.{node_limit}
use Rattle.vol_types.specs.Sets.{set_length_of}
use Rattle.vol_types.specs.declared.keys.Key.{Key}
use Rattle.vol_types.specs.declared.layout.Layout.{Layout}
use Rattle.vol_types.specs.declared.positions.Btree.{Btree}
use Rattle.vol_types.specs.declared.positions.Pos.{Pos}

-- What is larger than nodes may be has two values at least.
pub large_has_two : (node : Node) → IsNode node → node_limit < size_of node.entries → 2 ≤ length node.entries
large_has_two node is large = omega (arith, large, set_length-le node.entries is.in_range)

-- What isn't has bytes that fit 32 bits.
pub small_fits : (entries : Entries) → size_of entries ≤ node_limit → set_length_of (keys_in entries) < 2 ^ 32
small_fits entries small = omega (arith, small)

-- The keys of a node are those of a set.
pub set_in_range : (birth : ℕ) (btree : Btree) (node : Node) (least greatest : Pos) (keys : List Key) → least ≡ node.least → greatest ≡ node.greatest → keys ≡ keys_in node.entries → AreSetKeys btree 0 node.least node.greatest (keys_in node.entries)
    → IsSetInRange (record { birth = birth; btree = btree; level = 0; least = least; greatest = greatest; keys = keys })
set_in_range birth btree node least greatest keys first last same are =
    let set : AreSetKeys btree 0 least greatest keys =
    subst (λ (ks : List Key). AreSetKeys btree 0 least greatest ks) (sym same)
    (subst (λ (p : Pos). AreSetKeys btree 0 p greatest (keys_in node.entries)) (sym first) (subst (λ (p : Pos). AreSetKeys btree 0 node.least p (keys_in node.entries)) (sym last) are)) in
    record { few = set.few; rise = set.rise; covered = set.covered; stand = set.stand; in_range = set.in_range }

length-each_from : {X Y : Type 0} (f : ℕ → X → Y) (first : ℕ) (xs : List X) → length (each_from f first xs) ≡ length xs
length-each_from f first [] = refl
length-each_from f first (x ∷ xs) = ap suc (length-each_from f (suc first) xs)

-- A node lies on one device at least.
pub some_places : (layout : Layout) (space : Space) → is_layout layout ≡ true → layout.metadata_replicas ≤ length space → 0 < length (node_places layout.metadata_replicas space)
some_places layout space is within =
    let count = layout.metadata_replicas in
    let few = (layout_found layout is).metadata.0 in
    omega (arith, length-each_from node_place 0 (take count space), length-take count space, few, within)
