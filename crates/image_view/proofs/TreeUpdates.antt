-- What roots and updates mean with more updates, of leaves alone: the same nodes, and the keys with these updates.
use Rattle.std.proofs.Common.{◌≡◌, ℕ, zero, suc, List, [], ◌∷◌, ◌++◌, length, map, Option, Some, None, Result, Ok, Err, get_or, refl, sym, ap, subst, ◌∙◌, arith}
use Rattle.std.specs.Prelude.{slice_get}
use Rattle.std.specs.List.{AllByRecursion, flat_map}
use Rattle.std.specs.Map.{keys_of, values_of}
use Rattle.std.specs.Option.{option_map_or}
use Rattle.key_codec.specs.Combined.{bind_ok, ok_is}
use Rattle.key_codec.specs.Formats.{◌>>=◌}
use Rattle.tree_nodes.specs.Levels.{Level}
use Rattle.vol_types.specs.Btrees.{btree_code}
use Rattle.vol_types.specs.FollowerLaws.{least-first}
use Rattle.vol_types.specs.KeyMapLaws.{entries_of-key_map, entries_of-with_update, same_key_maps}
use Rattle.vol_types.specs.KeyMaps.{KeyMap, entries_of, with_update, with_updates}
use Rattle.vol_types.specs.Positions.{greatest_pos, least_pos}
use Rattle.vol_types.specs.declared.keys.Update.{Update}
use Rattle.vol_types.specs.declared.pointers.NodePtr.{NodePtr}
use Rattle.vol_types.specs.declared.pointers.Place.{Place}
use Rattle.vol_types.specs.declared.positions.Btree.{Btree}
use Rattle.vol_types.specs.declared.positions.Btree.TheVariants.{Extents, Inodes, Dirents, Subvols, Snapshots, Alloc, Backptrs, Deleted, Counters}
use Rattle.image_view.specs.Trees.{BtreeRead, NodeRead, SetsOf, TreesRead, btree_of, children_of, each_of, ends_of, first_place, first_twin, joined, no_btree, nodes_of, read_down, read_level, trees_of, with_own_births, with_roots}
use Rattle.image_view.specs.UpdatedTrees.{IsOfLeaf, with_key_updates}
use Rattle.image_view.proofs.ChildEnds.{all_children, numbered_children, rising_children}
use Rattle.image_view.proofs.LeafUpdates.{AreRising, all_entries, entries_with, leaves_joined}
use Rattle.image_view.proofs.LevelUpdates.{AreNumbered, AreOrdered, above_leaves, ends-with, level_is_read, level_more, ok_reads}

-- ---- one btree

-- a btree that was read, with updates of its keys
abbrev pub btree_with : Btree → List Update → BtreeRead → BtreeRead
btree_with btree updates read = record { entries = entries_with btree updates read.entries; levels = read.levels; ends = read.ends }

-- a btree that was read, and no fault
abbrev was_read : BtreeRead → Result BtreeRead Place
was_read read = Ok read

-- a btree of which the leaves were read
abbrev of_leaves : Level → List NodeRead → BtreeRead
of_leaves nodes reads = record { entries = all_entries reads; levels = nodes ∷ []; ends = ends_of reads }

-- a btree of which a level was read over those below it
abbrev of_level : Level → List NodeRead → BtreeRead → BtreeRead
of_level nodes reads rest = record { entries = rest.entries; levels = rest.levels ++ nodes ∷ []; ends = ends_of reads ++ rest.ends }

-- A level that was read leads to the levels below, which were read.
level_read : (sets : SetsOf) (updates : List Update) (btree : Btree) (level : ℕ) (nodes : Level) (reads : List NodeRead) (lists : List Level) (rest read : BtreeRead) → read_level sets updates btree least_pos nodes ≡ Ok reads
    → each_of (children_of level) reads ≡ Ok lists → read_down sets updates btree level (all_children lists) ≡ Ok rest → was_read (of_level nodes reads rest) ≡ was_read read → read_down sets updates btree (suc level) nodes ≡ was_read read
level_read sets updates btree level nodes reads lists rest read are lead down made =
    let with_rest : List NodeRead → BtreeRead → Result BtreeRead Place = λ rs below. was_read (of_level nodes rs below) in
    let down_by : List NodeRead → List Level → Result BtreeRead Place = λ rs ls. read_down sets updates btree level (flat_map (λ children. children) ls) >>= with_rest rs in
    let children_by : List NodeRead → Result BtreeRead Place = λ rs. each_of (children_of level) rs >>= down_by rs in
    ap (λ r. r >>= children_by) are ∙ ap (λ r. r >>= down_by reads) lead ∙ ap (λ r. r >>= with_rest reads) down ∙ made

same_with : (btree : Btree) (updates : List Update) (one other : BtreeRead) → was_read one ≡ was_read other → was_read (btree_with btree updates one) ≡ was_read (btree_with btree updates other)
same_with btree updates one other same = ap (λ (read : BtreeRead). was_read (btree_with btree updates read)) (ok_is one other same)

levels_zero : (updates : List Update) → AllByRecursion IsOfLeaf updates → AllByRecursion (λ (update : Update). update.level ≡ 0) updates
levels_zero [] leaves = tt
levels_zero (update ∷ updates) leaves = (leaves.0.level, levels_zero updates leaves.1)

module _ (sets : SetsOf) (ordered : AreOrdered sets) (updates more : List Update) (leaves : AllByRecursion IsOfLeaf more) where
  -- From a level down a btree is read with more updates as it was, but for its keys.
  down_more : (btree : Btree) (level : ℕ) (nodes : Level) (read : BtreeRead) → AreNumbered level (values_of nodes) → AreRising greatest_pos (keys_of nodes) → read_down sets updates btree level nodes ≡ Ok read
      → read_down sets (updates ++ more) btree level nodes ≡ Ok (btree_with btree more read)
  down_more btree zero nodes read numbered rise is =
      let step = bind_ok (read_level sets updates btree least_pos nodes) (λ reads. was_read (of_leaves nodes reads)) read is in
      let are = level_is_read sets updates btree ordered 0 least_pos nodes step.0 numbered step.1 in
      let entries = leaves_joined btree more least_pos step.0 least-first leaves (subst (AreRising greatest_pos) (sym are.1) rise) are.0 in
      let ends = ends-with btree more least_pos step.0 in
      ap (λ r. r >>= (λ reads. was_read (of_leaves nodes reads))) (level_more sets updates btree more least_pos nodes step.0 step.1)
      ∙ (λ i. was_read (record { entries = entries i; levels = nodes ∷ []; ends = ends i }))
      ∙ same_with btree more (of_leaves nodes step.0) read step.2
  down_more btree (suc level) nodes read numbered rise is =
      let with_rest : List NodeRead → BtreeRead → Result BtreeRead Place = λ reads rest. was_read (of_level nodes reads rest) in
      let down_by : List NodeRead → List Level → Result BtreeRead Place = λ reads lists. read_down sets updates btree level (flat_map (λ children. children) lists) >>= with_rest reads in
      let children_by : List NodeRead → Result BtreeRead Place = λ reads. each_of (children_of level) reads >>= down_by reads in
      let first = bind_ok (read_level sets updates btree least_pos nodes) children_by read is in
      let lists = bind_ok (each_of (children_of level) first.0) (down_by first.0) read first.2 in
      let rest = bind_ok (read_down sets updates btree level (all_children lists.0)) (with_rest first.0) read lists.2 in
      let are = level_is_read sets updates btree ordered (suc level) least_pos nodes first.0 numbered first.1 in
      let below = rising_children level least_pos first.0 lists.0 (subst (AreRising greatest_pos) (sym are.1) rise) are.0 lists.1 in
      let lower = down_more btree level (all_children lists.0) rest.0 (numbered_children level first.0 lists.0 lists.1) below rest.1 in
      let same = level_more sets updates btree more least_pos nodes first.0 first.1 ∙ ap ok_reads (above_leaves btree level more least_pos first.0 (levels_zero more leaves) are.0) in
      level_read sets (updates ++ more) btree level nodes first.0 lists.0 (btree_with btree more rest.0) (btree_with btree more read) same lists.1 lower (same_with btree more (of_level nodes first.0 rest.0) read rest.2)

  -- So is a btree.
  btree_more : (pair : Btree × NodePtr) (read : BtreeRead) → btree_of sets updates pair ≡ Ok read → btree_of sets (updates ++ more) pair ≡ Ok (btree_with pair.0 more read)
  btree_more pair read is = down_more pair.0 pair.1.level ((greatest_pos, pair.1) ∷ []) read (refl, tt) refl is

-- ---- all btrees

-- btrees that were read, each with updates of its keys
abbrev bwith_key_updates : List Update → List (Btree × NodePtr) → List BtreeRead → List BtreeRead
bwith_key_updates updates [] reads = reads
bwith_key_updates updates (pair ∷ pairs) [] = []
bwith_key_updates updates (pair ∷ pairs) (read ∷ reads) = btree_with pair.0 updates read ∷ bwith_key_updates updates pairs reads

abbrev were_read : List BtreeRead → Result (List BtreeRead) Place
were_read reads = Ok reads

-- All are read with more updates as they were, but for their keys.
btrees_more : (sets : SetsOf) (ordered : AreOrdered sets) (updates more : List Update) (leaves : AllByRecursion IsOfLeaf more) (pairs : List (Btree × NodePtr)) (reads : List BtreeRead) → each_of (btree_of sets updates) pairs ≡ Ok reads
    → (each_of (btree_of sets (updates ++ more)) pairs ≡ Ok (bwith_key_updates more pairs reads)) × (length reads ≡ length pairs)
btrees_more sets ordered updates more leaves [] reads is = (is, ap length (sym (ok_is [] reads is)))
btrees_more sets ordered updates more leaves (pair ∷ pairs) reads is =
    let with_first : BtreeRead → List BtreeRead → Result (List BtreeRead) Place = λ read rest. were_read (read ∷ rest) in
    let others_by : List Update → BtreeRead → Result (List BtreeRead) Place = λ us read. each_of (btree_of sets us) pairs >>= with_first read in
    let first = bind_ok (btree_of sets updates pair) (others_by updates) reads is in
    let rest = bind_ok (each_of (btree_of sets updates) pairs) (with_first first.0) reads first.2 in
    let later = btrees_more sets ordered updates more leaves pairs rest.0 rest.1 in
    let all : first.0 ∷ rest.0 ≡ reads = ok_is (first.0 ∷ rest.0) reads rest.2 in (
      ap (λ r. r >>= others_by (updates ++ more)) (btree_more sets ordered updates more leaves pair first.0 first.1)
          ∙ ap (λ r. r >>= with_first (btree_with pair.0 more first.0)) later.0
          ∙ ap (λ rs. were_read (bwith_key_updates more (pair ∷ pairs) rs)) all,
      ap length (sym all) ∙ ap suc later.1,
    )

-- They have the nodes that they had, and their sets end where they did.
levels_stay : (updates : List Update) (pairs : List (Btree × NodePtr)) (reads : List BtreeRead) → length reads ≡ length pairs → map (λ (btree : BtreeRead). btree.levels) (bwith_key_updates updates pairs reads) ≡ map (λ (btree : BtreeRead). btree.levels) reads
levels_stay updates [] reads count = refl
levels_stay updates (pair ∷ pairs) [] count = refl
levels_stay updates (pair ∷ pairs) (read ∷ reads) count = ap (λ rest. read.levels ∷ rest) (levels_stay updates pairs reads (omega (arith, count)))

ends_stay : (updates : List Update) (pairs : List (Btree × NodePtr)) (reads : List BtreeRead) → length reads ≡ length pairs → flat_map (λ (btree : BtreeRead). btree.ends) (bwith_key_updates updates pairs reads) ≡ flat_map (λ (btree : BtreeRead). btree.ends) reads
ends_stay updates [] reads count = refl
ends_stay updates (pair ∷ pairs) [] count = refl
ends_stay updates (pair ∷ pairs) (read ∷ reads) count = ap (λ rest. read.ends ++ rest) (ends_stay updates pairs reads (omega (arith, count)))

-- Each has its entries with the updates.
entries_at : (updates : List Update) (pairs : List (Btree × NodePtr)) (reads : List BtreeRead) (place : ℕ) (pair : Btree × NodePtr) → length reads ≡ length pairs → slice_get pairs place ≡ Some pair
    → (get_or (bwith_key_updates updates pairs reads) place no_btree).entries ≡ entries_with pair.0 updates (get_or reads place no_btree).entries
entries_at updates [] reads place pair count at = absurd cc
entries_at updates (one ∷ pairs) [] place pair count at = absurd (omega (arith, count))
entries_at updates (one ∷ pairs) (read ∷ reads) zero pair count at =
    let same : one ≡ pair = cc in
    ap (λ (p : Btree × NodePtr). entries_with p.0 updates read.entries) same
entries_at updates (one ∷ pairs) (read ∷ reads) (suc place) pair count at = entries_at updates pairs reads place pair (omega (arith, count)) at

-- Each btree has a root, where there are nine.
root_at : (roots : List NodePtr) → length roots ≡ 9 → (btree : Btree) → (root : NodePtr) × (slice_get (with_roots roots) (btree_code btree) ≡ Some (btree, root))
root_at [] nine btree = absurd (omega (arith, nine))
root_at (a ∷ []) nine btree = absurd (omega (arith, nine))
root_at (a ∷ b ∷ []) nine btree = absurd (omega (arith, nine))
root_at (a ∷ b ∷ c ∷ []) nine btree = absurd (omega (arith, nine))
root_at (a ∷ b ∷ c ∷ d ∷ []) nine btree = absurd (omega (arith, nine))
root_at (a ∷ b ∷ c ∷ d ∷ e ∷ []) nine btree = absurd (omega (arith, nine))
root_at (a ∷ b ∷ c ∷ d ∷ e ∷ f ∷ []) nine btree = absurd (omega (arith, nine))
root_at (a ∷ b ∷ c ∷ d ∷ e ∷ f ∷ g ∷ []) nine btree = absurd (omega (arith, nine))
root_at (a ∷ b ∷ c ∷ d ∷ e ∷ f ∷ g ∷ h ∷ []) nine btree = absurd (omega (arith, nine))
root_at (a ∷ b ∷ c ∷ d ∷ e ∷ f ∷ g ∷ h ∷ i ∷ more) nine Extents = (a, refl)
root_at (a ∷ b ∷ c ∷ d ∷ e ∷ f ∷ g ∷ h ∷ i ∷ more) nine Inodes = (b, refl)
root_at (a ∷ b ∷ c ∷ d ∷ e ∷ f ∷ g ∷ h ∷ i ∷ more) nine Dirents = (c, refl)
root_at (a ∷ b ∷ c ∷ d ∷ e ∷ f ∷ g ∷ h ∷ i ∷ more) nine Subvols = (d, refl)
root_at (a ∷ b ∷ c ∷ d ∷ e ∷ f ∷ g ∷ h ∷ i ∷ more) nine Snapshots = (e, refl)
root_at (a ∷ b ∷ c ∷ d ∷ e ∷ f ∷ g ∷ h ∷ i ∷ more) nine Alloc = (f, refl)
root_at (a ∷ b ∷ c ∷ d ∷ e ∷ f ∷ g ∷ h ∷ i ∷ more) nine Backptrs = (g, refl)
root_at (a ∷ b ∷ c ∷ d ∷ e ∷ f ∷ g ∷ h ∷ i ∷ more) nine Deleted = (h, refl)
root_at (a ∷ b ∷ c ∷ d ∷ e ∷ f ∷ g ∷ h ∷ i ∷ more) nine Counters = (i, refl)

-- A key map with updates has in each btree the entries with them.
pub entries_of-with_updates : (updates : List Update) (keys : KeyMap) (btree : Btree) → entries_of (with_updates updates keys) btree ≡ entries_with btree updates (entries_of keys btree)
entries_of-with_updates [] keys btree = refl
entries_of-with_updates (update ∷ updates) keys btree = entries_of-with_updates updates (with_update update keys) btree ∙ ap (entries_with btree updates) (entries_of-with_update update keys btree)

joined_more : (updates : List Update) (roots : List NodePtr) (reads : List BtreeRead) → length roots ≡ 9 → length reads ≡ length (with_roots roots) → joined (bwith_key_updates updates (with_roots roots) reads) ≡ with_key_updates updates (joined reads)
joined_more updates roots reads nine count =
    let made : List BtreeRead = bwith_key_updates updates (with_roots roots) reads in
    let keys : (joined made).keys ≡ with_updates updates (joined reads).keys = same_key_maps (joined made).keys (with_updates updates (joined reads).keys) (λ btree.
    let root = root_at roots nine btree in
    entries_of-key_map (λ b. (get_or made (btree_code b) no_btree).entries) btree
    ∙ entries_at updates (with_roots roots) reads (btree_code btree) (btree, root.0) count root.1
    ∙ ap (entries_with btree updates) (sym (entries_of-key_map (λ b. (get_or reads (btree_code b) no_btree).entries) btree))
    ∙ sym (entries_of-with_updates updates (joined reads).keys btree)) in
    let levels = levels_stay updates (with_roots roots) reads count in
    let ends = ends_stay updates (with_roots roots) reads count in
    λ i. record { keys = keys i; nodes = levels i; ends = ends i }

-- ---- what roots and updates mean

own_births : (twin : Option NodePtr) (all read : TreesRead) → option_map_or (λ (node : NodePtr). Err (first_place node)) twin (Ok all) ≡ Ok read → (twin ≡ None) × (all ≡ read)
own_births None all read is = (refl, ok_is all read is)
own_births (Some node) all read is = absurd cc

abbrev trees_read : TreesRead → Result TreesRead Place
trees_read read = Ok read

-- With more updates, of leaves alone, roots mean the same nodes, and the keys with these updates.
pub trees_of-more : (sets : SetsOf) (updates more : List Update) (roots : List NodePtr) (read : TreesRead) → AreOrdered sets → AllByRecursion IsOfLeaf more → length roots ≡ 9 → trees_of sets updates roots ≡ Ok read
    → trees_of sets (updates ++ more) roots ≡ Ok (with_key_updates more read)
unfolding trees_of
trees_of-more sets updates more roots read ordered leaves nine is =
    let btrees = bind_ok (each_of (btree_of sets updates) (with_roots roots)) with_own_trees read is in
    let own = own_births (first_twin (nodes_of (joined btrees.0).nodes)) (joined btrees.0) read btrees.2 in
    let all = btrees_more sets ordered updates more leaves (with_roots roots) btrees.0 btrees.1 in
    ap (λ r. r >>= with_own_trees) all.0
    ∙ ap with_own_births (joined_more more roots btrees.0 nine all.1)
    ∙ ap (λ twin. option_map_or (λ (node : NodePtr). Err (first_place node)) twin (trees_read (with_key_updates more (joined btrees.0)))) own.0
    ∙ ap (λ (r : TreesRead). trees_read (with_key_updates more r)) own.1
  where
    with_own_trees : List BtreeRead → Result TreesRead Place
    with_own_trees btrees = with_own_births (joined btrees)
