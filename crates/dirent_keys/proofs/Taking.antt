-- What a directory has in a tree after an id sees one of its names lead elsewhere.
use Rattle.std.proofs.Common.{◌≡◌, ℕ, Bool, true, false, cond, Option, Some, None, List, [], ◌∷◌, refl, sym, ap, ◌∙◌, arith, inl}
use Rattle.std.specs.Ordering.{nat_cmp}
use Rattle.std.specs.Option.{option_or}
use Rattle.std.proofs.lemmas.Bool.{eq-eqb, eqb-true, true≢false}
use Rattle.std.specs.Prelude.{◌≢◌, ◌==◌, All, find, is_some, option_and_then, option_map}
use Rattle.std.proofs.lemmas.List.Elements.{All-cons, All-nil}
use Rattle.dirent_keys.specs.Names.{SeesName, Target}
use Rattle.key_meaning.specs.AlikeLaws.{alike_from_visible}
use Rattle.key_meaning.specs.Blocks.{block_in, first_cover, is_cover, shown_of}
use Rattle.key_meaning.specs.Changes.{ChangesName, ChangesOnly, StaysIn}
use Rattle.key_meaning.specs.Forest.{Read, directories_in, files_in, inode_of, link_named, links_in, links_of, names_in, number_in}
use Rattle.key_meaning.specs.TreeLaws.{directories_in-name, files_in-name, names_in-name}
use Rattle.key_meaning.specs.Visible.{own_value, snaps_of, visible}
use Rattle.key_view.specs.Changes.{needs_whiteout, own_update, updates_to_see}
use Rattle.plain_forest.specs.Maps.{changed_at}
use Rattle.snap_tree.specs.Snaps.{Snaps, chain_of}
use Rattle.vol_digest.specs.Digests.{slot_of}
use Rattle.vol_types.specs.Btrees.{btree_code}
use Rattle.vol_types.specs.KeyMaps.{KeyMap}
use Rattle.vol_types.specs.Maps.{put_at}
use Rattle.vol_types.specs.Ranges.{name_cmp}
use Rattle.vol_types.specs.declared.positions.Btree.{Btree}
use Rattle.vol_types.specs.declared.positions.Btree.TheVariants.{Extents, Inodes, Dirents, Subvols}
use Rattle.vol_types.specs.declared.values.Link.{Link}
use Rattle.vol_types.specs.declared.values.Value.{Value}
use Rattle.vol_types.specs.declared.values.Value.TheVariants as values

-- btrees with other numbers are others
apart_by : (one other : Btree) → btree_code one ≢ btree_code other → one ≢ other
apart_by one other codes same = codes (ap btree_code same)

-- key maps with the same extents have the same covers
same_cover : (one other : KeyMap) (file block : ℕ) (ids : List ℕ) → one.extents ≡ other.extents → first_cover one file block ids ≡ first_cover other file block ids
same_cover one other file block [] same = refl
same_cover one other file block (id ∷ ids) same = λ i. option_or (find (is_cover id file block) (same i)) (same_cover one other file block ids same i)

module _ (old new : KeyMap) (id directory : ℕ) (name : List ℕ) (target : Option Target) (sees : SeesName old new id directory name target) where
  extents : new.extents ≡ old.extents
  extents = sees.btrees Extents (apart_by Extents Dirents (λ same. absurd (omega (arith, same))))

  -- all blocks are as they were
  blocks : (other file block : ℕ) → block_in new other file block ≡ block_in old other file block
  blocks other file block =
      ap (option_and_then (shown_of block)) (ap (λ (snaps : Snaps). first_cover new file block (chain_of snaps other)) sees.ids ∙ same_cover new old file block (chain_of (snaps_of old) other) extents)

  -- only what the id and those below it show changes,
  pub changes_only : ChangesOnly old new id
  changes_only = record {
    snaps = sees.ids;
    subvols = sees.btrees Subvols (apart_by Subvols Dirents (λ same. absurd (omega (arith, same))));
    elsewhere = λ other apart. alike_from_visible new old other other (λ number. sees.others other apart Inodes 0 number) (λ d s. sees.others other apart Dirents d s) (blocks other);
  }

  -- where another name leads under this slot or another one
  led : (another : List ℕ) (one other : Option Value) → one ≡ other → option_map (λ (link : Link). link.number) (link_named another (links_of one)) ≡ option_map (λ (link : Link). link.number) (link_named another (links_of other))
  led another one other same = ap (λ (o : Option Value). option_map (λ (link : Link). link.number) (link_named another (links_of o))) same

  -- in the id the name alone does,
  pub changes_name : ChangesName old new id directory name
  changes_name = record {
    inodes = λ number. ap inode_of (sees.elsewhere Inodes 0 number (λ same. absurd (omega (arith, ap btree_code same.0))));
    elsewhere = λ other another apart. led another (visible new Dirents other (slot_of another) id) (visible old Dirents other (slot_of another) id) (sees.elsewhere Dirents other (slot_of another) (λ same. apart same.1));
    names = λ another apart. by another apart (slot_of another == slot_of name) refl;
    blocks = blocks id;
  }
    where
      by : (another : List ℕ) → another ≢ name → (b : Bool) → (slot_of another == slot_of name) ≡ b → number_in new id directory another ≡ number_in old id directory another
      by another apart true at =
          let slot : slot_of another ≡ slot_of name = eqb-true (slot_of another) (slot_of name) at in
          ap (λ s. option_map (λ (link : Link). link.number) (link_named another (links_in new id directory s))) slot
          ∙ ap (option_map (λ (link : Link). link.number)) (sees.names.others another apart)
          ∙ ap (λ s. option_map (λ (link : Link). link.number) (link_named another (links_in old id directory s))) (sym slot)
      by another apart false at = led another (visible new Dirents directory (slot_of another) id) (visible old Dirents directory (slot_of another) id) (sees.elsewhere Dirents directory (slot_of another) (λ same. true≢false (sym (eq-eqb (slot_of another) (slot_of name) same.2) ∙ at)))

  -- which leads where it was put,
  pub number_is : number_in new id directory name ≡ option_map (λ (leads : Target). leads.0) target
  number_is = first (link_named name (links_in new id directory (slot_of name))) ∙ ap (option_map (λ (leads : Target). leads.0)) sees.here
    where
      first : (link : Option Link) → option_map (λ (l : Link). l.number) link ≡ option_map (λ (leads : Target). leads.0) (option_map (λ (l : Link). (l.number, l.kind)) link)
      first None = refl
      first (Some link) = refl

  -- so the directory takes it or loses it,
  pub names_are : names_in new id directory ≡ put_at name_cmp name (option_map (λ (leads : Target). leads.0) target) (names_in old id directory)
  names_are = names_in-name old new id directory name changes_name ∙ ap (λ (o : Option ℕ). put_at name_cmp name o (names_in old id directory)) number_is

  pub directories_are : directories_in new id ≡ changed_at nat_cmp directory (put_at name_cmp name (option_map (λ (leads : Target). leads.0) target)) (directories_in old id)
  directories_are = directories_in-name old new id directory name changes_name ∙ ap (λ (o : Option ℕ). changed_at nat_cmp directory (put_at name_cmp name o) (directories_in old id)) number_is

  -- and all files stay.
  pub files_are : (read : Read) → files_in new read id ≡ files_in old read id
  files_are read = files_in-name old new id directory name changes_name read

-- The update of an id's own names stays in it,
one_stays : (directory slot id : ℕ) (value : Option Value) → StaysIn id (own_update Dirents directory slot id value)
one_stays directory slot id value = record { snaps = refl; subvols = refl; place = inl refl }

-- and so do those after which it sees others.
pub updates_stay : (keys : KeyMap) (directory slot id : ℕ) (value : Option Value) → All (StaysIn id) (updates_to_see keys Dirents directory slot id value)
updates_stay keys directory slot id (Some value) = All-cons (StaysIn id) (own_update Dirents directory slot id (Some value)) [] (one_stays directory slot id (Some value)) (All-nil (StaysIn id))
updates_stay keys directory slot id None = by (needs_whiteout keys Dirents directory slot id) (is_some (own_value keys Dirents directory slot id))
  where
    by : (hides has : Bool) → All (StaysIn id) (cond hides (own_update Dirents directory slot id (Some values.White) ∷ []) (cond has (own_update Dirents directory slot id None ∷ []) []))
    by true has = All-cons (StaysIn id) (own_update Dirents directory slot id (Some values.White)) [] (one_stays directory slot id (Some values.White)) (All-nil (StaysIn id))
    by false true = All-cons (StaysIn id) (own_update Dirents directory slot id None) [] (one_stays directory slot id None) (All-nil (StaysIn id))
    by false false = All-nil (StaysIn id)
