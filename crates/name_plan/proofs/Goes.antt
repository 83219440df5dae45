-- A name that goes from a directory is a step, what becomes of the inode behind it is another, and at their end a volume is sound again.
use Rattle.std.proofs.Common.{◌≡◌, ℕ, Bool, true, false, cond, Option, Some, None, List, [], ◌∷◌, ◌++◌, refl, sym, ap, ◌∙◌, subst, arith, inl, length}
use Rattle.std.specs.Prelude.{◌≢◌, ◌⊎◌, All, IfSome, is_some, option_map}
use Rattle.std.proofs.lemmas.Bool.{true≢false}
use Rattle.std.proofs.lemmas.List.Elements.{All-head, All-take, All-weaker}
use Rattle.std.proofs.Math.Seq.{take-append_seam}
use Rattle.std.proofs.lemmas.Option.{same_Some, none-some as none_some}
use Rattle.dirent_keys.specs.Links.{names_value, without_name}
use Rattle.dirent_keys.specs.Names.{Target, removal_of, target_in, updates_to_remove}
use Rattle.forest_ops.specs.Steps.{in_subvolume}
use Rattle.key_meaning.specs.Checks.{IsLiveLeaf, IsSound}
use Rattle.key_meaning.specs.Forest.{Read, counter_in, forest_in, inode_of, kind_in, link_named, links_in, links_of, number_in, sub_named, tree_of}
use Rattle.key_meaning.specs.SoundLaws.{IsIn}
use Rattle.key_meaning.specs.Tidy.{IsTidy}
use Rattle.key_meaning.specs.Visible.{shown}
use Rattle.key_meaning.specs.VisibleLaws.{is_put_at}
use Rattle.key_steps.specs.Good.{IsGoodShown}
use Rattle.key_steps.specs.Kept.{IsKept}
use Rattle.key_steps.specs.Names.{TakesName}
use Rattle.key_steps.specs.Shown.{AreDirectoriesOf, IsTreeOf, Shown, kind_of, shown_in, with_inode, with_links}
use Rattle.key_steps.specs.Steps.{IsNewLink, MayStandUnder, Steps}
use Rattle.key_view.specs.Changes.{own_update, updates_to_see}
use Rattle.name_plan.proofs.ChangedForests.{AreOfChange}
use Rattle.plain_forest.specs.Forest.{Names, Tree}
use Rattle.shown_changes.specs.Changes.{MeansGoodTree}
use Rattle.vol_digest.specs.Digests.{slot_of}
use Rattle.vol_types.specs.Btrees.{btree_code}
use Rattle.vol_types.specs.KeyMapLaws.{with_updates-append}
use Rattle.vol_types.specs.KeyMaps.{IsKeyMap, KeyMap, is_update_of, with_updates}
use Rattle.vol_types.specs.Ranges.{IsInode, IsKeyValue}
use Rattle.vol_types.specs.Standing.{IsUpdate}
use Rattle.vol_types.specs.declared.keys.Update.{Update}
use Rattle.vol_types.specs.declared.layout.Layout.{Layout}
use Rattle.vol_types.specs.declared.pointers.Place.{Place}
use Rattle.vol_types.specs.declared.positions.Btree.{Btree}
use Rattle.vol_types.specs.declared.positions.Btree.TheVariants.{Dirents, Inodes, Snapshots}
use Rattle.vol_types.specs.declared.values.FileKind.{FileKind}
use Rattle.vol_types.specs.declared.values.FileKind.TheVariants as kinds
use Rattle.vol_types.specs.declared.values.Inode.{Inode}
use Rattle.vol_types.specs.declared.values.Link.{Link}
use Rattle.vol_types.specs.declared.values.Sub.{Sub}
use Rattle.vol_types.specs.declared.values.Value.{Value}
use Rattle.vol_types.specs.declared.values.Value.TheVariants as values

-- The laws of steps that a name which goes hangs on.
pub record GoingLaws : Type 0 where
  pub names : (keys : KeyMap) (nodes : List Place) (layout : Layout) (id directory slot : ℕ) (value : Option Value) → IsKept keys nodes layout → IsLiveLeaf keys id → IsUpdate (own_update Dirents directory slot id value) → shown value ≡ value
      → kind_in keys id directory ≡ Some kinds.Directory → MayStandUnder keys id directory slot (links_of value)
      → Steps keys (with_updates (updates_to_see keys Dirents directory slot id value) keys) nodes layout id (with_links directory slot (links_of value) (shown_in keys id)) (counter_in keys)
  pub then : (keys middle new : KeyMap) (nodes : List Place) (layout : Layout) (id : ℕ) (one : Shown) (counters : ℕ → Option ℕ) (change : Shown → Shown) → Steps keys middle nodes layout id one counters
      → Steps middle new nodes layout id (change (shown_in middle id)) (counter_in middle) → Steps keys new nodes layout id (change one) counters
  pub same : (keys : KeyMap) (updates : List Update) (btree : Btree) (inode offset id : ℕ) (value : Option Value) → IsKeyMap keys → All (λ (update : Update). is_update_of Snapshots update ≡ false) updates
      → All (λ (update : Update). is_put_at update btree inode offset ≡ false) updates → updates_to_see (with_updates updates keys) btree inode offset id value ≡ updates_to_see keys btree inode offset id value
  pub elsewhere : (keys : KeyMap) (btree other : Btree) (inode offset id i o : ℕ) (value : Option Value) → ¬ ((other ≡ btree) × (i ≡ inode) × (o ≡ offset)) → All (λ (update : Update). is_put_at update other i o ≡ false) (updates_to_see keys btree inode offset id value)
  pub ids : (keys : KeyMap) (btree : Btree) (inode offset id : ℕ) (value : Option Value) → btree ≢ Snapshots → All (λ (update : Update). is_update_of Snapshots update ≡ false) (updates_to_see keys btree inode offset id value)
  pub sound : (keys new : KeyMap) (nodes : List Place) (layout : Layout) (name : List ℕ) (sub : Sub) (shown : Shown) (counters : ℕ → Option ℕ) (directories : List (ℕ × Names)) → IsKeyMap keys → IsSound keys nodes layout → IsTidy keys
      → sub_named keys name ≡ Some sub → Steps keys new nodes layout sub.id shown counters → AreDirectoriesOf shown directories → IsGoodShown sub.root shown directories → IsSound new nodes layout × IsTidy new
  pub uncounted : (keys new : KeyMap) (nodes : List Place) (layout : Layout) (name : List ℕ) (sub : Sub) (shown : Shown) (read : Read) (change : Tree → Tree) → IsSound keys nodes layout → sub_named keys name ≡ Some sub
      → Steps keys new nodes layout sub.id shown (counter_in keys) → IsTreeOf read sub shown (change (tree_of keys read sub)) → forest_in new read ≡ in_subvolume name change (forest_in keys read)

-- the names that are left under the slot of one that goes
abbrev pub links_left : KeyMap → ℕ → ℕ → List ℕ → List Link
links_left keys id directory name = without_name name (links_in keys id directory (slot_of name))

-- what an id shows where a name is gone and its inode is this one, or none
abbrev pub shown_gone : KeyMap → ℕ → ℕ → List ℕ → ℕ → Option Inode → Shown
shown_gone keys id directory name number inode = with_links directory (slot_of name) (links_left keys id directory name) (with_inode number inode (shown_in keys id))

-- names shown as a value hide nothing
names_show : (links : List Link) → shown (names_value links) ≡ names_value links
names_show [] = refl
names_show (link ∷ links) = refl

-- the value of some names holds them
held : (links : List Link) → links_of (names_value links) ≡ links
held [] = refl
held (link ∷ links) = refl

-- Names that are left under a slot may stand there still.
left_stand : (keys : KeyMap) (id directory : ℕ) (name : List ℕ) → TakesName name (links_in keys id directory (slot_of name)) (links_left keys id directory name)
    → MayStandUnder keys id directory (slot_of name) (links_left keys id directory name)
left_stand keys id directory name takes =
    All-weaker (λ (l : Link). IsIn l (links_in keys id directory (slot_of name))) (λ (l : Link). IsIn l (links_in keys id directory (slot_of name)) ⊎ IsNewLink keys l) (λ (l : Link) (is : IsIn l (links_in keys id directory (slot_of name))). inl is)
    (links_left keys id directory name) takes.members

-- The names that are left may be put, where the updates of the removal may be made.
left_may : (keys : KeyMap) (id directory slot : ℕ) (links : List Link) → All IsUpdate (updates_to_see keys Dirents directory slot id (names_value links)) → IsUpdate (own_update Dirents directory slot id (names_value links))
left_may keys id directory slot [] each = record { stands = tt; in_range = tt }
left_may keys id directory slot (link ∷ links) each = All-head IsUpdate (own_update Dirents directory slot id (names_value (link ∷ links))) [] each

module _ (laws : GoingLaws) (keys : KeyMap) (nodes : List Place) (layout : Layout) (id directory : ℕ) (name : List ℕ) where
  -- the keys without the name
  abbrev pub unnamed : KeyMap
  unnamed = with_updates (updates_to_remove keys id directory name) keys

  -- A name that goes is a step.
  pub name_goes : IsKept keys nodes layout → IsLiveLeaf keys id → kind_in keys id directory ≡ Some kinds.Directory → All IsUpdate (updates_to_remove keys id directory name)
      → TakesName name (links_in keys id directory (slot_of name)) (links_left keys id directory name)
      → Steps keys unnamed nodes layout id (with_links directory (slot_of name) (links_left keys id directory name) (shown_in keys id)) (counter_in keys)
  name_goes kept leaf kind each takes =
      let slot = slot_of name in
      let left = links_left keys id directory name in
      subst (λ (ls : List Link). Steps keys unnamed nodes layout id (with_links directory slot ls (shown_in keys id)) (counter_in keys)) (held left)
      (laws.names keys nodes layout id directory slot (names_value left) kept leaf (left_may keys id directory slot left each) (names_show left) kind
      (subst (MayStandUnder keys id directory slot) (sym (held left)) (left_stand keys id directory name takes)))

  -- The updates of an inode are the same before and after a name went.
  pub planned_once : IsKeyMap keys → (number : ℕ) (value : Option Value) → updates_to_see unnamed Inodes 0 number id value ≡ updates_to_see keys Inodes 0 number id value
  planned_once is_map number value =
      let slot = slot_of name in
      let left = names_value (links_left keys id directory name) in
      laws.same keys (updates_to_remove keys id directory name) Inodes 0 number id value is_map
      (laws.ids keys Dirents directory slot id left (λ same. omega (arith, ap btree_code same)))
      (laws.elsewhere keys Dirents Inodes directory slot id 0 number left (λ same. omega (arith, ap btree_code same.0)))

  -- With what becomes of the inode, the name that went is gone with it.
  pub inode_goes : (number : ℕ) (inode : Option Inode) (planned updates : List Update) → planned ≡ updates
      → Steps keys unnamed nodes layout id (with_links directory (slot_of name) (links_left keys id directory name) (shown_in keys id)) (counter_in keys)
      → Steps unnamed (with_updates planned unnamed) nodes layout id (with_inode number inode (shown_in unnamed id)) (counter_in unnamed)
      → Steps keys (with_updates (updates_to_remove keys id directory name ++ updates) keys) nodes layout id (shown_gone keys id directory name number inode) (counter_in keys)
  inode_goes number inode planned updates same first second =
      subst (λ (k : KeyMap). Steps keys k nodes layout id (shown_gone keys id directory name number inode) (counter_in keys))
      (ap (λ (us : List Update). with_updates us unnamed) same ∙ sym (with_updates-append (updates_to_remove keys id directory name) updates keys))
      (laws.then keys unnamed (with_updates planned unnamed) nodes layout id (with_links directory (slot_of name) (links_left keys id directory name) (shown_in keys id)) (counter_in keys) (with_inode number inode) first second)

-- Steps that draw no number end in a changed tree, where what shows then is good and means it.
pub change_ends : GoingLaws → (keys : KeyMap) (updates : List Update) (nodes : List Place) (layout : Layout) (name : List ℕ) (sub : Sub) (shown : Shown) (change : Tree → Tree) → IsKeyMap keys → IsSound keys nodes layout → IsTidy keys → sub_named keys name ≡ Some sub
    → Steps keys (with_updates updates keys) nodes layout sub.id shown (counter_in keys) → ((read : Read) → MeansGoodTree read sub shown (change (tree_of keys read sub))) → AreOfChange keys nodes layout (in_subvolume name change) updates
change_ends laws keys updates nodes layout name sub shown change is_map sound tidy found steps is_good =
    let new = with_updates updates keys in
    let nothing : Read = λ places digest. None in
    let good = laws.sound keys new nodes layout name sub shown (counter_in keys) (change (tree_of keys nothing sub)).directories is_map sound tidy found steps (is_good nothing).means.directories (is_good nothing).good in record {
      sound = good.0;
      tidy = good.1;
      means = λ read. laws.uncounted keys new nodes layout name sub shown read change sound found steps (is_good read).means;
    }

-- A name that leads to a number has a link of it.
pub link_there : (o : Option Link) (number : ℕ) → option_map (λ (l : Link). l.number) o ≡ Some number → (link : Link) × (o ≡ Some link) × (link.number ≡ number)
link_there None number none = absurd (none_some number none)
link_there (Some link) number is = (link, refl, same_Some link.number number is)

-- A name that leads somewhere shows, so that there are updates which remove it.
pub removal_there : (keys : KeyMap) (id directory : ℕ) (name : List ℕ) (number : ℕ) → number_in keys id directory name ≡ Some number → removal_of keys id directory name ≡ Some (updates_to_remove keys id directory name)
removal_there keys id directory name number leads =
    let there = link_there (link_named name (links_in keys id directory (slot_of name))) number leads in
    ap (λ (o : Option Link). cond (is_some {T = ℕ × FileKind} (option_map (λ (l : Link). (l.number, l.kind)) o)) (Some (updates_to_remove keys id directory name)) None) there.1

-- What holds of two lists holds of the first one.
pub all_first : (P : Update → Type 0) (first second : List Update) → All P (first ++ second) → All P first
all_first P first second all = subst (All P) (take-append_seam first second) (All-take P (length first) (first ++ second) all)

-- An inode that shows is in range where its value is.
pub inode_fits : (value : Option Value) (inode : Inode) → inode_of value ≡ Some inode → IsKeyValue value → IsInode inode
inode_fits (Some (values.Inode there)) inode is fits = subst IsInode (same_Some there inode is) fits
inode_fits other inode is fits = absurd (none_some inode is)

-- The number to which a name leads is that of where it leads.
pub number_found : (keys : KeyMap) (id directory : ℕ) (name : List ℕ) → option_map (λ (t : Target). t.0) (target_in keys id directory name) ≡ number_in keys id directory name
number_found keys id directory name = by (link_named name (links_in keys id directory (slot_of name)))
  where
    by : (o : Option Link) → option_map (λ (t : Target). t.0) (option_map (λ (l : Link). (l.number, l.kind)) o) ≡ option_map (λ (l : Link). l.number) o
    by None = refl
    by (Some link) = refl

-- The updates that remove a name which leads somewhere are those of its removal.
pub removal_is : (keys : KeyMap) (id directory : ℕ) (name : List ℕ) (number : ℕ) (named : List Update) → number_in keys id directory name ≡ Some number → Some named ≡ removal_of keys id directory name → named ≡ updates_to_remove keys id directory name
removal_is keys id directory name number named leads is = same_Some named (updates_to_remove keys id directory name) (is ∙ removal_there keys id directory name number leads)

-- What is said of updates that there may be is said of those that there are.
pub some_has : (P : List Update → Type 0) {planned : Option (List Update)} {updates : List Update} → planned ≡ Some updates → IfSome planned P → P updates
some_has P is has = subst (λ (o : Option (List Update)). IfSome o P) is has
