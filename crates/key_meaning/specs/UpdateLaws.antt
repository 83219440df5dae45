-- What one update of an inode, of names, of an extent or hole, or of a counter changes.
use Rattle.std.proofs.Common.{◌≡◌, ℕ, zero, suc, ◌+◌, ◌-◌, ◌<◌, ◌≤◌, Bool, true, false, cond, Option, Some, None, List, ◌∷◌, refl, sym, ap, ◌∙◌, arith, map, slice_set}
use Rattle.std.specs.Prelude.{◌≢◌, ◌==◌, ◌&&◌, IsSome, option_map, unwrap_or}
use Rattle.std.specs.List.{range_with_len}
use Rattle.std.specs.Ordering.{nat_cmp}
use Rattle.std.proofs.lemmas.Bool.{and_parts, eq-eqb, eqb-true, ne_eqb, true≢false}
use Rattle.std.proofs.lemmas.Cmp.{nat_list_cmp_total}
use Rattle.std.proofs.lemmas.Map.Lookups.{exact_bytes}
use Rattle.snap_tree.specs.Snaps.{IsSnapTree}
use Rattle.vol_digest.specs.Digests.{slot_of}
use Rattle.vol_types.specs.Btrees.{btree_code}
use Rattle.vol_types.specs.KeyMapLaws.{entries_of-with_update}
use Rattle.vol_types.specs.KeyMaps.{Entries, IsKeyMap, KeyMap, is_update_of, with_update}
use Rattle.vol_types.specs.Maps.{put_at, value_at}
use Rattle.vol_types.specs.Positions.{pos_cmp}
use Rattle.vol_types.specs.declared.keys.Update.{Update}
use Rattle.vol_types.specs.declared.positions.Btree.{Btree}
use Rattle.vol_types.specs.declared.positions.Btree.TheVariants.{Extents, Inodes, Dirents, Subvols, Snapshots, Counters}
use Rattle.vol_types.specs.declared.values.Link.{Link}
use Rattle.vol_types.specs.declared.values.Sub.{Sub}
use Rattle.vol_types.specs.declared.values.Value.{Value}
use Rattle.vol_types.specs.declared.values.Value.TheVariants as values
use Rattle.key_meaning.specs.Alike.{ShowAlike}
use Rattle.key_meaning.specs.AlikeLaws.{tree_of-alike}
use Rattle.key_meaning.specs.BlockLaws.{block_in-other, block_in-other_file}
use Rattle.key_meaning.specs.ChangeLaws.{alike_unseen}
use Rattle.key_meaning.specs.Changes.{ChangesBlocks, ChangesInode, ChangesName, IsUnseen, KeepsOtherNames}
use Rattle.key_meaning.specs.Forest.{Read, all_subs, counter_in, counter_of, forest_in, inode_in, inode_of, link_named, links_in, links_of, next_in, number_in, sub_named, tree_named, tree_of}
use Rattle.key_meaning.specs.ForestLaws.{links_shown, trees_within}
use Rattle.key_meaning.specs.TableLaws.{map_over-same}
use Rattle.key_meaning.specs.TreeLaws.{sub_named-same}
use Rattle.key_meaning.specs.Visible.{own_value, shown, snaps_of, visible_above}
use Rattle.key_meaning.specs.VisibleLaws.{is_put_at, own_value-with_update, visible-other, visible-put, visible-removed}

nothing : (b : Bool) → (b && false) ≡ false
nothing true = refl
nothing false = refl

-- An update of one btree is of no other.
pub of_no_other : (update : Update) (one other : Btree) → is_update_of one update ≡ true → (btree_code one == btree_code other) ≡ false → is_update_of other update ≡ false
of_no_other update one other is apart =
    let code : btree_code update.btree ≡ btree_code one = eqb-true (btree_code update.btree) (btree_code one) (and_parts (update.level == 0) (btree_code update.btree == btree_code one) is).1 in
    ap (λ c. update.level == 0 && c == btree_code other) code ∙ ap (λ b. update.level == 0 && b) apart ∙ nothing (update.level == 0)

module _ (update : Update) (keys : KeyMap) (is : IsKeyMap keys) where
  -- An update of an inode changes in each id at most the inode of its number.
  pub inode_update : is_update_of Inodes update ≡ true → (id : ℕ) → ChangesInode keys (with_update update keys) id update.pos.offset
  inode_update of id = record {
    inodes = λ number apart. ap inode_of (visible-other update keys is snaps Inodes 0 number id (ap (λ b. is_update_of Inodes update && (update.pos.inode == 0 && b)) (ne_eqb update.pos.offset number (λ same. apart (sym same))) ∙ ap (λ b. is_update_of Inodes update && b) (nothing (update.pos.inode == 0)) ∙ nothing (is_update_of Inodes update)));
    names = λ directory name. ap (λ value. option_map (λ (link : Link). link.number) (link_named name (links_of value))) (visible-other update keys is snaps Dirents directory (slot_of name) id (ap (λ b. b && (update.pos.inode == directory && update.pos.offset == slot_of name)) (of_no_other update Inodes Dirents of refl)));
    blocks = block_in-other update keys is snaps (of_no_other update Inodes Extents of refl) id;
  }
    where
      snaps : is_update_of Snapshots update ≡ false
      snaps = of_no_other update Inodes Snapshots of refl

  -- An update of an extent or hole changes in each id at most the blocks of its file.
  pub extent_update : is_update_of Extents update ≡ true → (id : ℕ) → ChangesBlocks keys (with_update update keys) id update.pos.inode
  extent_update of id = record {
    inodes = λ number. ap inode_of (visible-other update keys is snaps Inodes 0 number id (ap (λ b. b && (update.pos.inode == 0 && update.pos.offset == number)) (of_no_other update Extents Inodes of refl)));
    names = λ directory name. ap (λ value. option_map (λ (link : Link). link.number) (link_named name (links_of value))) (visible-other update keys is snaps Dirents directory (slot_of name) id (ap (λ b. b && (update.pos.inode == directory && update.pos.offset == slot_of name)) (of_no_other update Extents Dirents of refl)));
    blocks = λ other block apart. block_in-other_file update keys is snaps id other block (ne_eqb update.pos.inode other (λ same. apart (sym same)));
  }
    where
      snaps : is_update_of Snapshots update ≡ false
      snaps = of_no_other update Extents Snapshots of refl

  -- An update of the names of a directory under a slot, which keeps all of them but one, changes in each id at most this name.
  pub names_update : is_update_of Dirents update ≡ true → (id : ℕ) (name : List ℕ) → KeepsOtherNames (links_in keys id update.pos.inode update.pos.offset) (links_in (with_update update keys) id update.pos.inode update.pos.offset) name
      → ChangesName keys (with_update update keys) id update.pos.inode name
  names_update of id name keeps = record {
    inodes = λ number. ap inode_of (visible-other update keys is snaps Inodes 0 number id (ap (λ b. b && (update.pos.inode == 0 && update.pos.offset == number)) (of_no_other update Dirents Inodes of refl)));
    elsewhere = λ other another apart. under (visible-other update keys is snaps Dirents other (slot_of another) id (ap (λ b. is_update_of Dirents update && (b && update.pos.offset == slot_of another)) (ne_eqb update.pos.inode other (λ same. apart (sym same))) ∙ nothing (is_update_of Dirents update))) another;
    names = λ another apart. by another apart (update.pos.offset == slot_of another) refl;
    blocks = block_in-other update keys is snaps (of_no_other update Dirents Extents of refl) id;
  }
    where
      snaps : is_update_of Snapshots update ≡ false
      snaps = of_no_other update Dirents Snapshots of refl

      under : {one other : Option Value} → one ≡ other → (another : List ℕ) → option_map (λ (link : Link). link.number) (link_named another (links_of one)) ≡ option_map (λ (link : Link). link.number) (link_named another (links_of other))
      under same another = ap (λ value. option_map (λ (link : Link). link.number) (link_named another (links_of value))) same

      by : (another : List ℕ) → another ≢ name → (b : Bool) → (update.pos.offset == slot_of another) ≡ b → number_in (with_update update keys) id update.pos.inode another ≡ number_in keys id update.pos.inode another
      by another apart true at = let slot : update.pos.offset ≡ slot_of another = eqb-true update.pos.offset (slot_of another) at in
          ap (λ s. option_map (λ (link : Link). link.number) (link_named another (links_in (with_update update keys) id update.pos.inode s))) (sym slot)
          ∙ ap (option_map (λ (link : Link). link.number)) (keeps.others another apart)
          ∙ ap (λ s. option_map (λ (link : Link). link.number) (link_named another (links_in keys id update.pos.inode s))) slot
      by another apart false at = under (visible-other update keys is snaps Dirents update.pos.inode (slot_of another) id (ap (λ b. is_update_of Dirents update && (update.pos.inode == update.pos.inode && b)) at ∙ ap (λ b. is_update_of Dirents update && b) (nothing (update.pos.inode == update.pos.inode)) ∙ nothing (is_update_of Dirents update))) another

  -- the update is at its own inode and offset
  at_itself : (btree : Btree) → is_update_of btree update ≡ true → is_put_at update btree update.pos.inode update.pos.offset ≡ true
  at_itself btree of = λ i. of i && (eq-eqb update.pos.inode update.pos.inode refl i && eq-eqb update.pos.offset update.pos.offset refl i)

  module _ (tree : IsSnapTree (snaps_of keys)) (there : IsSome (value_at nat_cmp update.pos.snapshot (snaps_of keys))) where
    -- An inode that was put shows in its id, and a whiteout shows none;
    pub inode_in-put : is_update_of Inodes update ≡ true → update.pos.inode ≡ 0 → (value : Value) → update.value ≡ Some value → inode_in (with_update update keys) update.pos.snapshot update.pos.offset ≡ inode_of (Some value)
    inode_in-put of at value put =
        ap inode_of (visible-put update keys is (of_no_other update Inodes Snapshots of refl) tree there Inodes 0 update.pos.offset value (ap (λ n. is_put_at update Inodes n update.pos.offset) (sym at) ∙ at_itself Inodes of) put) ∙ held value
      where
        held : (value : Value) → inode_of (shown (Some value)) ≡ inode_of (Some value)
        held values.White = refl
        held value = refl

    -- where one was removed, that of the parent shows.
    pub inode_in-removed : is_update_of Inodes update ≡ true → update.pos.inode ≡ 0 → update.value ≡ None → inode_in (with_update update keys) update.pos.snapshot update.pos.offset ≡ inode_of (visible_above keys Inodes 0 update.pos.offset update.pos.snapshot)
    inode_in-removed of at removed = ap inode_of (visible-removed update keys is (of_no_other update Inodes Snapshots of refl) tree there Inodes 0 update.pos.offset (ap (λ n. is_put_at update Inodes n update.pos.offset) (sym at) ∙ at_itself Inodes of) removed)

    -- Names that were put show in their id, and a whiteout shows none;
    pub links_in-put : is_update_of Dirents update ≡ true → (value : Value) → update.value ≡ Some value → links_in (with_update update keys) update.pos.snapshot update.pos.inode update.pos.offset ≡ links_of (Some value)
    links_in-put of value put = ap links_of (visible-put update keys is (of_no_other update Dirents Snapshots of refl) tree there Dirents update.pos.inode update.pos.offset value (at_itself Dirents of) put) ∙ links_shown (Some value)

    -- where some were removed, those of the parent show.
    pub links_in-removed : is_update_of Dirents update ≡ true → update.value ≡ None → links_in (with_update update keys) update.pos.snapshot update.pos.inode update.pos.offset ≡ links_of (visible_above keys Dirents update.pos.inode update.pos.offset update.pos.snapshot)
    links_in-removed of removed = ap links_of (visible-removed update keys is (of_no_other update Dirents Snapshots of refl) tree there Dirents update.pos.inode update.pos.offset (at_itself Dirents of) removed)

-- A name under a slot leads where the names there lead it.
pub number_in-slot : (keys : KeyMap) (id directory slot : ℕ) (name : List ℕ) → slot_of name ≡ slot → number_in keys id directory name ≡ option_map (λ (link : Link). link.number) (link_named name (links_in keys id directory slot))
number_in-slot keys id directory slot name at = ap (λ s. option_map (λ (link : Link). link.number) (link_named name (links_in keys id directory s))) at

-- Key maps with the same subvolumes of which each id shows the same have the same trees of subvolumes.
pub subvolumes-same : (keys new : KeyMap) (read : Read) → new.subvols ≡ keys.subvols → ((id : ℕ) → ShowAlike new id keys id) → (forest_in new read).subvolumes ≡ (forest_in keys read).subvolumes
subvolumes-same keys new read same alike =
    map_over-same nat_list_cmp_total exact_bytes (tree_named new read) (tree_named keys read) (map (λ (s : Sub). s.name) (all_subs new)) (map (λ (s : Sub). s.name) (all_subs keys)) (trees_within new read) (trees_within keys read)
    (λ name. ap (option_map (tree_of new read)) (sub_named-same keys new same name) ∙ (λ i. option_map (λ (sub : Sub). tree_of-alike new keys read sub sub (alike sub.id) refl refl i) (sub_named keys name)))

module _ (update : Update) (keys : KeyMap) (is : IsKeyMap keys) where
  -- An update of another btree leaves the counters.
  pub counter_in-other : is_update_of Counters update ≡ false → (counter : ℕ) → counter_in (with_update update keys) counter ≡ counter_in keys counter
  counter_in-other other counter = ap (λ (entries : Entries). counter_of (value_at pos_cmp (record { inode = 0; offset = counter; snapshot = 0 }) entries)) (entries_of-with_update update keys Counters ∙ ap (λ b. cond b (put_at pos_cmp update.pos update.value keys.counters) keys.counters) other)

  -- An update of a counter sets it, and leaves the others.
  pub counter_in-put : is_update_of Counters update ≡ true → (counter next : ℕ) → update.pos ≡ record { inode = 0; offset = counter; snapshot = 0 } → update.value ≡ Some (values.Counter next) → (other : ℕ) → counter_in (with_update update keys) other ≡ cond (counter == other) (Some next) (counter_in keys other)
  counter_in-put of counter next at put other =
      ap counter_of (own_value-with_update update keys is (of_no_other update Counters Snapshots of refl) Counters 0 other 0 ∙ (λ i. cond ((of i && ((at i).inode == 0 && (at i).offset == other)) && (at i).snapshot == 0) (put i) (own_value keys Counters 0 other 0)))
      ∙ by (counter == other)
    where
      by : (b : Bool) → counter_of (cond ((true && (true && b)) && true) (Some (values.Counter next)) (own_value keys Counters 0 other 0)) ≡ cond b (Some next) (counter_in keys other)
      by true = refl
      by false = refl

  unseen_counter : is_update_of Counters update ≡ true → IsUnseen update
  unseen_counter of = record { extents = of_no_other update Counters Extents of refl; inodes = of_no_other update Counters Inodes of refl; dirents = of_no_other update Counters Dirents of refl }

  -- An update of a counter leaves the trees of all subvolumes.
  pub subvolumes-counter : is_update_of Counters update ≡ true → (read : Read) → (forest_in (with_update update keys) read).subvolumes ≡ (forest_in keys read).subvolumes
  subvolumes-counter of read = subvolumes-same keys (with_update update keys) read
      (entries_of-with_update update keys Subvols ∙ ap (λ b. cond b (put_at pos_cmp update.pos update.value keys.subvols) keys.subvols) (of_no_other update Counters Subvols of refl))
      (alike_unseen update keys is (of_no_other update Counters Snapshots of refl) (unseen_counter of))

  -- So its counter stands at another number, and the others where they stood.
  pub next_in-put : is_update_of Counters update ≡ true → (counter next : ℕ) → update.pos ≡ record { inode = 0; offset = counter; snapshot = 0 } → update.value ≡ Some (values.Counter next) → (other : ℕ) → next_in (with_update update keys) other ≡ cond (counter == other) next (next_in keys other)
  next_in-put of counter next at put other = ap (λ o. unwrap_or o 0) (counter_in-put of counter next at put other) ∙ by (counter == other)
    where
      by : (b : Bool) → unwrap_or (cond b (Some next) (counter_in keys other)) 0 ≡ cond b next (next_in keys other)
      by true = refl
      by false = refl

-- functions that agree from a number on give the same list from there
same_from : (old new : ℕ → ℕ) (count first : ℕ) → ((n : ℕ) → first ≤ n → new n ≡ old n) → map new (range_with_len first count) ≡ map old (range_with_len first count)
same_from old new zero first same = refl
same_from old new (suc count) first same = λ i. same first (omega arith) i ∷ same_from old new count (first + 1) (λ n (le : first + 1 ≤ n). same n (omega (arith, le))) i

-- functions that agree but at one number give lists that differ at its place
pub set_one : (old new : ℕ → ℕ) (at count first : ℕ) → first ≤ at → at < first + count → ((n : ℕ) → n ≢ at → new n ≡ old n) → map new (range_with_len first count) ≡ slice_set (map old (range_with_len first count)) (at - first) (new at)
set_one old new at zero first le lt same = absurd (omega (arith, le, lt))
set_one old new at (suc count) first le lt same = by (first == at) refl (λ up. set_one old new at count (first + 1) up (omega (arith, lt)) same)
  where
    by : (b : Bool) → (first == at) ≡ b → (first + 1 ≤ at → map new (range_with_len (first + 1) count) ≡ slice_set (map old (range_with_len (first + 1) count)) (at - (first + 1)) (new at))
        → new first ∷ map new (range_with_len (first + 1) count) ≡ slice_set (old first ∷ map old (range_with_len (first + 1) count)) (at - first) (new at)
    by true is later = let same_place : first ≡ at = eqb-true first at is in let none : at - first ≡ 0 = omega (arith, same_place) in
        (λ i. new (same_place i) ∷ same_from old new count (first + 1) (λ n (up : first + 1 ≤ n). same n (λ equal. absurd (omega (arith, up, equal, same_place)))) i)
        ∙ ap (λ place. slice_set (old first ∷ map old (range_with_len (first + 1) count)) place (new at)) (sym none)
    by false apart later = let differ : first ≢ at = λ equal. true≢false (sym (eq-eqb first at equal) ∙ apart) in let up : first + 1 ≤ at = omega (arith, le, differ) in let more : suc (at - (first + 1)) ≡ at - first = omega (arith, up) in
        (λ i. same first differ i ∷ later up i)
        ∙ ap (λ place. slice_set (old first ∷ map old (range_with_len (first + 1) count)) place (new at)) more

module _ (update : Update) (keys : KeyMap) (is : IsKeyMap keys) (of : is_update_of Counters update ≡ true) (counter next : ℕ) (at : update.pos ≡ record { inode = 0; offset = counter; snapshot = 0 }) (put : update.value ≡ Some (values.Counter next)) (read : Read) where
  next_other : (other : ℕ) → other ≢ counter → next_in (with_update update keys) other ≡ next_in keys other
  next_other other apart = next_in-put update keys is of counter next at put other ∙ ap (λ b. cond b next (next_in keys other)) (ne_eqb counter other (λ same. apart (sym same)))

  next_itself : next_in (with_update update keys) counter ≡ next
  next_itself = next_in-put update keys is of counter next at put counter ∙ ap (λ b. cond b next (next_in keys counter)) (eq-eqb counter counter refl)

  -- The counter of a client changes its next number in the forest, and nothing else.
  pub forest_in-client : counter < 16 → forest_in (with_update update keys) read ≡ record (forest_in keys read) { next = slice_set (forest_in keys read).next counter next }
  forest_in-client lt = λ i. record {
    subvolumes = subvolumes-counter update keys is of read i;
    next = (set_one (next_in keys) (next_in (with_update update keys)) counter 16 0 (omega arith) (omega (arith, lt)) next_other
        ∙ (λ j. slice_set (map (next_in keys) (range_with_len 0 16)) (counter_from_0 j) (next_itself j))) i;
    ids_left = next_other 16 (λ same. absurd (omega (arith, lt, same))) i;
  }
    where
      counter_from_0 : counter - 0 ≡ counter
      counter_from_0 = omega arith

  -- The counter of the snapshot ids changes how many are left, and nothing else.
  pub forest_in-ids : counter ≡ 16 → forest_in (with_update update keys) read ≡ record (forest_in keys read) { ids_left = next }
  forest_in-ids same = λ i. record {
    subvolumes = subvolumes-counter update keys is of read i;
    next = below 16 0 (omega arith) i;
    ids_left = (ap (next_in (with_update update keys)) (sym same) ∙ next_itself) i;
  }
    where
      below : (count first : ℕ) → first + count ≤ 16 → map (next_in (with_update update keys)) (range_with_len first count) ≡ map (next_in keys) (range_with_len first count)
      below zero first le = refl
      below (suc count) first le = λ i. next_other first (λ equal. absurd (omega (arith, le, equal, same))) i ∷ below count (first + 1) (omega (arith, le)) i
