-- Images that hold the same of the blocks of a key map give it the same forest.
use Rattle.std.proofs.Common.{◌≡◌, ℕ, ◌+◌, ◌-◌, ◌/◌, ◌%◌, ◌<◌, Bool, true, false, cond, Option, Some, None, List, [], ◌∷◌, refl, sym, ap, ◌∙◌, subst, arith, length, map}
use Rattle.std.specs.Prelude.{All, ◌&&◌, ◌==◌, nat_lt, nat_le, find, option_map, option_and_then}
use Rattle.std.specs.List.{range_with_len}
use Rattle.std.specs.Option.{option_or}
use Rattle.std.specs.Ordering.{nat_cmp}
use Rattle.std.proofs.lemmas.Bool.{leb-true, ltb-true, true≢false}
use Rattle.std.proofs.lemmas.List.Elements.{All-head, All-tail}
use Rattle.std.proofs.lemmas.Option.{same_Some, none-some as none_some}
use Rattle.snap_tree.specs.Snaps.{chain_of}
use Rattle.vol_types.specs.KeyMaps.{KeyMap}
use Rattle.vol_types.specs.Limits.{block_size}
use Rattle.vol_types.specs.Ranges.{name_cmp}
use Rattle.vol_types.specs.declared.positions.Pos.{Pos}
use Rattle.vol_types.specs.declared.values.Sub.{Sub}
use Rattle.vol_types.specs.declared.values.Value.{Value}
use Rattle.vol_types.specs.declared.values.Value.TheVariants as values
use Rattle.key_meaning.specs.Blocks.{Block, block_of, cover_in, covers, first_cover, is_cover, own_cover, shown_of}
use Rattle.key_meaning.specs.Forest.{Read, all_subs, byte_at, bytes_in, directories_in, file_in, forest_in, inode_in, next_in, numbers_of, size_of, sub_named, tree_named, tree_of}
use Rattle.key_meaning.specs.Reads.{AgreeOnBlocks, AgreeOnEntry}
use Rattle.key_meaning.specs.TableLaws.{map_over-agree}
use Rattle.key_meaning.specs.Visible.{snaps_of}

-- What is found has what all have, and passes the test.
pub find_has : {X : Type 0} (P : X → Type 0) (test : X → Bool) (xs : List X) (x : X) → All P xs → find test xs ≡ Some x → P x × (test x ≡ true)
find_has P test [] x all found = absurd (none_some x found)
find_has P test (y ∷ xs) x all found = by (test y) refl found (find_has P test xs x (All-tail P y xs all))
  where
    by : (b : Bool) → test y ≡ b → cond b (Some y) (find test xs) ≡ Some x → (find test xs ≡ Some x → P x × (test x ≡ true)) → P x × (test x ≡ true)
    by true passes here later = let same = same_Some y x here in (subst P same (All-head P y xs all), ap test (sym same) ∙ passes)
    by false passes here later = later here

-- What a block belongs to is an entry of the extents that covers it.
pub cover_has : (P : Pos × Value → Type 0) (keys : KeyMap) (file block : ℕ) (ids : List ℕ) (entry : Pos × Value) → All P keys.extents → first_cover keys file block ids ≡ Some entry → P entry × (covers entry.0.offset entry.1 block ≡ true)
cover_has P keys file block [] entry all found = absurd (none_some entry found)
cover_has P keys file block (id ∷ ids) entry all found = by (own_cover keys file block id) refl found (cover_has P keys file block ids entry all)
  where
    last_of : (a b c : Bool) → (a && b && c) ≡ true → c ≡ true
    last_of true true c are = are
    last_of true false c are = absurd (true≢false (sym are))
    last_of false b c are = absurd (true≢false (sym are))

    by : (own : Option (Pos × Value)) → own_cover keys file block id ≡ own → option_or own (first_cover keys file block ids) ≡ Some entry
        → (first_cover keys file block ids ≡ Some entry → P entry × (covers entry.0.offset entry.1 block ≡ true)) → P entry × (covers entry.0.offset entry.1 block ≡ true)
    by None is here later = later here
    by (Some own) is here later =
        let has = find_has P (is_cover id file block) keys.extents entry all (is ∙ here) in (has.0, last_of (entry.0.inode == file) (entry.0.snapshot == id) (covers entry.0.offset entry.1 block) has.1)

-- A covered block is one of the blocks of its range.
index_fits : (end blocks block : ℕ) → (nat_lt block end && nat_le end (block + blocks)) ≡ true → block - (end - blocks) < blocks
index_fits end blocks block covered = by (nat_lt block end) refl covered
  where
    by : (b : Bool) → nat_lt block end ≡ b → (b && nat_le end (block + blocks)) ≡ true → block - (end - blocks) < blocks
    by true below within = omega (arith, ltb-true block end below, leb-true end (block + blocks) within)
    by false below within = absurd (true≢false (sym within))

module _ (keys : KeyMap) (one other : Read) (agree : AgreeOnBlocks keys one other) where
  same_shown : (block : ℕ) (entry : Pos × Value) (shown : Block) → AgreeOnEntry one other entry → covers entry.0.offset entry.1 block ≡ true → shown_of block entry ≡ Some shown → one shown.places shown.digest ≡ other shown.places shown.digest
  same_shown block (pos, values.Extent extent) shown agrees covered is =
      subst (λ (s : Block). one s.places s.digest ≡ other s.places s.digest) (same_Some (block_of extent (block - (pos.offset - length extent.digests))) shown is) ((agrees extent refl).each (block - (pos.offset - length extent.digests)) (index_fits pos.offset (length extent.digests) block covered))
  same_shown block (pos, value) shown agrees covered is = absurd (none_some shown is)

  -- Both give the same for a block of a file that shows in an id.
  pub bytes_in-agree : (id file block : ℕ) → bytes_in keys one id file block ≡ bytes_in keys other id file block
  bytes_in-agree id file block = covered_by (cover_in keys id file block) refl
    where
      shown_by : (entry : Pos × Value) (shown : Option Block) → cover_in keys id file block ≡ Some entry → shown_of block entry ≡ shown → option_and_then (λ (s : Block). one s.places s.digest) shown ≡ option_and_then (λ (s : Block). other s.places s.digest) shown
      shown_by entry None at is = refl
      shown_by entry (Some shown) at is = let has = cover_has (AgreeOnEntry one other) keys file block (chain_of (snaps_of keys) id) entry agree.each at in same_shown block entry shown has.0 has.1 is

      covered_by : (cover : Option (Pos × Value)) → cover_in keys id file block ≡ cover → option_and_then (λ (s : Block). one s.places s.digest) (option_and_then (shown_of block) cover) ≡ option_and_then (λ (s : Block). other s.places s.digest) (option_and_then (shown_of block) cover)
      covered_by None at = refl
      covered_by (Some entry) at = shown_by entry (shown_of block entry) at refl

  -- So files have the same bytes,
  pub file_in-agree : (id number : ℕ) → file_in keys one id number ≡ file_in keys other id number
  file_in-agree id number = λ i. option_map (λ (size : ℕ). map (λ (index : ℕ). byte_at (bytes_in-agree id number (index / block_size) i) (index % block_size)) (range_with_len 0 size)) (option_and_then size_of (inode_in keys id number))

  -- trees are the same,
  pub tree_of-agree : (sub : Sub) → tree_of keys one sub ≡ tree_of keys other sub
  tree_of-agree sub = λ i. record { locked = sub.read_only; root = sub.root; files = map_over-agree nat_cmp (file_in keys one sub.id) (file_in keys other sub.id) (numbers_of keys) (file_in-agree sub.id) i; directories = directories_in keys sub.id }

  -- and so is the forest.
  pub forest_in-agree : forest_in keys one ≡ forest_in keys other
  forest_in-agree = λ i. record {
    subvolumes = map_over-agree name_cmp (tree_named keys one) (tree_named keys other) (map (λ sub. sub.name) (all_subs keys)) (λ name j. option_map (λ (sub : Sub). tree_of-agree sub j) (sub_named keys name)) i;
    next = map (next_in keys) (range_with_len 0 16);
    ids_left = next_in keys 16;
  }
