-- Updates that take blocks over do so wherever extents and ids are the same.
use Rattle.std.proofs.Common.{◌≡◌, ℕ, Bool, false, cond, Option, List, [], ◌∷◌, refl, sym, ap, ◌∙◌, inl}
use Rattle.std.specs.Prelude.{◌≢◌, All, find, option_and_then, option_map}
use Rattle.std.specs.List.{list_any}
use Rattle.std.specs.Option.{option_or}
use Rattle.std.proofs.lemmas.List.Elements.{All-head, All-tail}
use Rattle.content_steps.proofs.Apart.{of_no_other_btree}
use Rattle.content_steps.proofs.Same.{SameButContent, inodes_stay, links_stay}
use Rattle.extent_ops.specs.Content.{AreOfContent, TakesBlocks, is_covered_above, is_extent_over}
use Rattle.key_meaning.specs.Blocks.{Block, block_in, first_cover, is_cover, shown_of}
use Rattle.key_meaning.specs.ChangeLaws.{updates_change_only}
use Rattle.key_meaning.specs.Changes.{StaysIn}
use Rattle.key_meaning.specs.Checks.{AreBlocksPlaced}
use Rattle.key_meaning.specs.CounterLaws.{entries_other}
use Rattle.key_meaning.specs.Forest.{link_named}
use Rattle.key_meaning.specs.KeptLaws.{blocks_stay_placed}
use Rattle.key_meaning.specs.Visible.{own_value, snaps_of}
use Rattle.snap_tree.specs.Snaps.{Snaps, chain_of, chain_of_maybe, parent_of, snaps_in}
use Rattle.vol_digest.specs.Digests.{slot_of}
use Rattle.vol_types.specs.KeyMapLaws.{entries_of-with_update}
use Rattle.vol_types.specs.KeyMaps.{Entries, IsKeyMap, KeyMap, entries_of, is_update_of, keys_in, updated_entries, with_update, with_updates}
use Rattle.vol_types.specs.Maps.{value_at}
use Rattle.vol_types.specs.Positions.{pos_cmp}
use Rattle.vol_types.specs.declared.keys.Update.{Update}
use Rattle.vol_types.specs.declared.layout.Layout.{Layout}
use Rattle.vol_types.specs.declared.pointers.Place.{Place}
use Rattle.vol_types.specs.declared.positions.Btree.{Btree}
use Rattle.vol_types.specs.declared.positions.Btree.TheVariants.{Counters, Deleted, Dirents, Extents, Inodes, Snapshots, Subvols}
use Rattle.vol_types.specs.declared.values.Link.{Link}

-- Updates make the same of a btree's entries where these are the same.
updates_alike : (btree : Btree) (updates : List Update) (one other : KeyMap) → entries_of one btree ≡ entries_of other btree → entries_of (with_updates updates one) btree ≡ entries_of (with_updates updates other) btree
updates_alike btree [] one other same = same
updates_alike btree (update ∷ updates) one other same = updates_alike btree updates (with_update update one) (with_update update other)
    (entries_of-with_update update one btree ∙ ap (updated_entries btree update) same ∙ sym (entries_of-with_update update other btree))

-- Updates of other btrees leave a btree's entries.
pub updates_leave : (btree : Btree) (updates : List Update) (keys : KeyMap) → All (λ (update : Update). is_update_of btree update ≡ false) updates → entries_of (with_updates updates keys) btree ≡ entries_of keys btree
updates_leave btree [] keys none = refl
updates_leave btree (update ∷ updates) keys none =
    updates_leave btree updates (with_update update keys) (All-tail (λ (u : Update). is_update_of btree u ≡ false) update updates none) ∙ entries_other update keys btree (All-head (λ (u : Update). is_update_of btree u ≡ false) update updates none)

-- What blocks belong to hangs on the extents alone.
covers_alike : (one other : KeyMap) → one.extents ≡ other.extents → (file block : ℕ) (ids : List ℕ) → first_cover one file block ids ≡ first_cover other file block ids
covers_alike one other extents file block [] = refl
covers_alike one other extents file block (id ∷ ids) = λ i. option_or (find (is_cover id file block) (extents i)) (covers_alike one other extents file block ids i)

blocks_alike : (one other : KeyMap) → one.extents ≡ other.extents → snaps_of one ≡ snaps_of other → (id file block : ℕ) → block_in one id file block ≡ block_in other id file block
blocks_alike one other extents snaps id file block =
    ap (λ (s : Snaps). option_and_then (shown_of block) (first_cover one file block (chain_of s id))) snaps ∙ ap (option_and_then (shown_of block)) (covers_alike one other extents file block (chain_of (snaps_of other) id))

-- The blocks of all extents lie where they may, where they did after the same updates of the same extents.
pub placed_alike : (keys middle : KeyMap) (updates : List Update) (nodes : List Place) (layout : Layout) → middle.extents ≡ keys.extents → AreBlocksPlaced (with_updates updates keys) nodes layout → AreBlocksPlaced (with_updates updates middle) nodes layout
placed_alike keys middle updates nodes layout extents placed = blocks_stay_placed (with_updates updates keys) (with_updates updates middle) nodes layout (updates_alike Extents updates middle keys extents) placed

module _ (keys middle : KeyMap) (updates : List Update) (id : ℕ) (is_map : IsKeyMap middle) (extents : middle.extents ≡ keys.extents) (snaps : snaps_of middle ≡ snaps_of keys) (own : AreOfContent id updates) where
  abbrev old_new : KeyMap
  old_new = with_updates updates keys

  abbrev new : KeyMap
  new = with_updates updates middle

  extents_same : new.extents ≡ old_new.extents
  extents_same = updates_alike Extents updates middle keys extents

  others_stay : (btree : Btree) → btree ≢ Extents → entries_of new btree ≡ entries_of middle btree
  others_stay btree differ = updates_leave btree updates middle (of_no_other_btree id updates own btree differ)

  same : SameButContent middle new
  same = record {
    inodes = others_stay Inodes (λ (is : Inodes ≡ Extents). cc);
    dirents = others_stay Dirents (λ (is : Dirents ≡ Extents). cc);
    subvols = others_stay Subvols (λ (is : Subvols ≡ Extents). cc);
    snapshots = others_stay Snapshots (λ (is : Snapshots ≡ Extents). cc);
    deleted = others_stay Deleted (λ (is : Deleted ≡ Extents). cc);
    counters = others_stay Counters (λ (is : Counters ≡ Extents). cc);
  }

  stay : All (StaysIn id) updates
  stay = λ k d lt. record { snaps = of_no_other_btree id updates own Snapshots (λ (is : Snapshots ≡ Extents). cc) k d lt; subvols = of_no_other_btree id updates own Subvols (λ (is : Subvols ≡ Extents). cc) k d lt; place = inl (own.each k d lt).2 }

  module _ (file : ℕ) where
    -- what entries have of the file's block in the id itself
    abbrev own_of : ℕ → Entries → Option (Option Block)
    own_of block entries = option_map (shown_of block) (find (is_cover id file block) entries)

    -- The same blocks are taken over,
    pub taken_alike : (cut : ℕ → Bool) (given : ℕ → Option (Option Block)) → TakesBlocks keys old_new file id cut given → TakesBlocks middle new file id cut given
    taken_alike cut given takes = record {
      here = λ block. ap (own_of block) extents_same ∙ takes.here block ∙ ap (λ (entries : Entries). cond (cut block) (given block) (own_of block entries)) (sym extents);
      once = record { once = λ block first second one other at also. takes.once.once block first second one other (value first ∙ at) (value second ∙ also) };
      others = λ other block another apart. ap (find (is_cover another other block)) extents_same ∙ takes.others other block another apart ∙ ap (find (is_cover another other block)) (sym extents);
      btrees = others_stay;
      only = updates_change_only updates middle id is_map stay;
      files = λ another. record {
        inodes = inodes_stay middle new same another;
        names = λ directory name. ap (λ (links : List Link). option_map (λ (link : Link). link.number) (link_named name links)) (links_stay middle new same another directory (slot_of name));
        blocks = λ other block differ.
            blocks_alike new old_new extents_same (ap (λ (entries : Entries). snaps_in (keys_in entries)) same.snapshots ∙ snaps ∙ sym takes.only.snaps) another other block
            ∙ (takes.files another).blocks other block differ ∙ sym (blocks_alike middle keys extents snaps another other block);
      };
    }
      where
        value : (offset : ℕ) → own_value old_new Extents file offset id ≡ own_value new Extents file offset id
        value offset = ap (value_at pos_cmp (record { inode = file; offset = offset; snapshot = id })) (sym extents_same)

    -- and the same is hidden.
    pub hidden_alike : (block : ℕ) → is_covered_above middle id file block ≡ is_covered_above keys id file block
    hidden_alike block = λ i. list_any (is_extent_over file (chain_of_maybe (snaps i) (parent_of (snaps i) id)) block) (extents i)
