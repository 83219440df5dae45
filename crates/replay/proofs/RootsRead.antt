-- The roots that the newest entry names are among the nodes that were read, each once; and no two of them share a block.
use Rattle.std.proofs.Common.{◌≡◌, inl, ⊎_elim, ℕ, zero, suc, ◌+◌, ◌-◌, ◌/◌, ◌<◌, ◌≤◌, Bool, true, cond, List, [], ◌∷◌, ◌++◌, length, map, get_or, Some, Result, Ok, Err, refl, sym, ap, subst, ◌∙◌, arith}
use Rattle.std.specs.List.{AllByRecursion, flat_map, zip}
use Rattle.std.specs.Map.{values_of}
use Rattle.std.specs.Prelude.{◌==◌, ◌&&◌, All, Contains}
use Rattle.std.proofs.lemmas.Bool.{cases_lt, eq-eqb}
use Rattle.std.proofs.lemmas.Grind.{flat_map-append}
use Rattle.std.proofs.lemmas.List.{length-append}
use Rattle.std.proofs.lemmas.List.Elements.{All-contains, All-from_recursion}
use Rattle.std.proofs.lemmas.List.Sums.{sum_by-append, sum_by-cons}
use Rattle.dev_model.specs.Disk.{Image}
use Rattle.image_view.specs.BaseLaws.{found-newest, found-trees}
use Rattle.image_view.specs.Found.{Found, found, node_places, sets_in, updates_of}
use Rattle.image_view.specs.Trees.{BtreeRead, NodeRead, SetsOf, TreesRead, all_btrees, btree_of, children_of, each_of, ends_of, first_twin, joined, nodes_of, read_down, read_level, trees_of, with_own_births, with_roots}
use Rattle.image_reader.specs.Volumes.{last_of, no_entry}
use Rattle.journal_ring.specs.Counting.{counting, entries_from, with_one}
use Rattle.journal_ring.specs.Parts.{area_of}
use Rattle.journal_ring.specs.declared.found.FoundEntry.{FoundEntry}
use Rattle.key_codec.specs.Combined.{bind_ok, ok_is}
use Rattle.key_codec.specs.Formats.{◌>>=◌}
use Rattle.key_meaning.specs.Checks.{AreNodesPlaced, count_in_bucket, is_in_bucket}
use Rattle.record_codec.specs.Entries.{IsEntry}
use Rattle.tree_nodes.specs.Levels.{Level, Levels}
use Rattle.vol_types.specs.Limits.{bucket_blocks}
use Rattle.vol_types.specs.Positions.{greatest_pos, least_pos}
use Rattle.vol_types.specs.Ranges.{IsBucket, IsNode}
use Rattle.vol_types.specs.declared.keys.Update.{Update}
use Rattle.vol_types.specs.declared.pointers.NodePtr.{NodePtr}
use Rattle.vol_types.specs.declared.pointers.Place.{Place}
use Rattle.vol_types.specs.declared.positions.Btree.{Btree}
use Rattle.replay.specs.Roots.{IsBlockOf, ShareNoBlock, no_node}
use Rattle.replay.proofs.EndsRead.{IsIn, in_left, in_right, own_births}

-- ---- the newest entry

-- The newest entry is the last one of those that are needed.
pub last_is : (image : Image) (f : Found) → found image ≡ Ok f → f.last ≡ last_of f.needed
last_is image f is = by (entries_from (counting f.layout (area_of image)) f.last.entry.oldest (f.last.entry.sequence - f.last.entry.oldest)) f.last.entry.sequence f.last f.needed (found-newest image f is).needed
  where
    at_end : (entries : List FoundEntry) (last : FoundEntry) → get_or (entries ++ last ∷ []) (length entries) no_entry ≡ last
    at_end [] last = refl
    at_end (e ∷ es) last = at_end es last

    by : (before : Result (List FoundEntry) ℕ) (sequence : ℕ) (last : FoundEntry) (needed : List FoundEntry) → with_one before sequence (Some last) ≡ Ok needed → last ≡ last_of needed
    by (Err missing) sequence last needed is = absurd cc
    by (Ok entries) sequence last needed is =
        let all : entries ++ last ∷ [] ≡ needed = ok_is (entries ++ last ∷ []) needed is in
        let long = length-append entries (last ∷ []) in
        let end : length entries ≡ length (entries ++ last ∷ []) - 1 = omega (arith, long) in
        sym (at_end entries last) ∙ ap (λ n. get_or (entries ++ last ∷ []) n no_entry) end ∙ ap last_of all

-- So it is in the grammar where these are.
pub newest_entry : (image : Image) (f : Found) → found image ≡ Ok f → 0 < length f.needed → All (λ (e : FoundEntry). IsEntry e.entry) f.needed → IsEntry f.last.entry
newest_entry image f is some all = subst (λ (e : FoundEntry). IsEntry e.entry) (sym (last_is image f is)) (all (length f.needed - 1) no_entry (omega (arith, some)))

-- ---- each btree's root

-- The topmost level of a btree that was read.
record IsUnder (nodes : Level) (levels : Levels) : Type 0 where
  lower : Levels
  levels_are : levels ≡ lower ++ nodes ∷ []

module _ (sets : SetsOf) (updates : List Update) where
  top_is : (btree : Btree) (level : ℕ) (nodes : Level) (read : BtreeRead) → read_down sets updates btree level nodes ≡ Ok read → IsUnder nodes read.levels
  top_is btree zero nodes read is =
      let leaves : List NodeRead → BtreeRead = λ reads. record { entries = flat_map (λ (node : NodeRead). node.entries) reads; levels = nodes ∷ []; ends = ends_of reads } in
      let level = bind_ok (read_level sets updates btree least_pos nodes) (λ (reads : List NodeRead). Ok (leaves reads)) read is in
      record { lower = []; levels_are = ap (λ (r : BtreeRead). r.levels) (sym (ok_is (leaves level.0) read level.2)) }
  top_is btree (suc level) nodes read is =
      let over : List NodeRead → BtreeRead → BtreeRead = λ reads rest. record { entries = rest.entries; levels = rest.levels ++ nodes ∷ []; ends = ends_of reads ++ rest.ends } in
      let with_rest : List NodeRead → BtreeRead → Result BtreeRead Place = λ reads rest. Ok (over reads rest) in
      let down_from : List NodeRead → List Level → Result BtreeRead Place = λ reads below. read_down sets updates btree level (flat_map (λ children. children) below) >>= with_rest reads in
      let first = bind_ok (read_level sets updates btree least_pos nodes) (λ (reads : List NodeRead). each_of (children_of level) reads >>= down_from reads) read is in
      let below = bind_ok (each_of (children_of level) first.0) (down_from first.0) read first.2 in
      let rest = bind_ok (read_down sets updates btree level (flat_map (λ children. children) below.0)) (with_rest first.0) read below.2 in
      record { lower = rest.0.levels; levels_are = ap (λ (r : BtreeRead). r.levels) (sym (ok_is (over first.0 rest.0) read rest.2)) }

  -- The nodes of a btree are those below its root, and the root.
  under_root : (pair : Btree × NodePtr) (read : BtreeRead) → btree_of sets updates pair ≡ Ok read → (lower : List NodePtr) × (flat_map values_of read.levels ≡ lower ++ pair.1 ∷ [])
  under_root pair read is =
      let top = top_is pair.0 pair.1.level ((greatest_pos, pair.1) ∷ []) read is in
      (flat_map values_of top.lower, ap (λ (ls : Levels). flat_map values_of ls) top.levels_are ∙ flat_map-append values_of top.lower (((greatest_pos, pair.1) ∷ []) ∷ []))

  -- ---- the roots among all nodes

  more_in : (xs ys : List NodePtr) (pairs : List (Btree × NodePtr)) → AllByRecursion (λ (pair : Btree × NodePtr). IsIn pair.1 ys) pairs → AllByRecursion (λ (pair : Btree × NodePtr). IsIn pair.1 (xs ++ ys)) pairs
  more_in xs ys [] all = tt
  more_in xs ys (pair ∷ pairs) all = (in_right pair.1 xs ys all.0, more_in xs ys pairs all.1)

  roots_in : (pairs : List (Btree × NodePtr)) (reads : List BtreeRead) → each_of (btree_of sets updates) pairs ≡ Ok reads → AllByRecursion (λ (pair : Btree × NodePtr). IsIn pair.1 (nodes_of (map (λ btree. btree.levels) reads))) pairs
  roots_in [] reads is = tt
  roots_in (pair ∷ pairs) reads is =
      let with_rest : BtreeRead → List BtreeRead → Result (List BtreeRead) Place = λ read rest. Ok (read ∷ rest) in
      let first = bind_ok (btree_of sets updates pair) (λ (read : BtreeRead). each_of (btree_of sets updates) pairs >>= with_rest read) reads is in
      let rest = bind_ok (each_of (btree_of sets updates) pairs) (with_rest first.0) reads first.2 in
      let under = under_root pair first.0 first.1 in
      let here : IsIn pair.1 (flat_map values_of first.0.levels) = subst (λ (ns : List NodePtr). IsIn pair.1 ns) (sym under.1) (in_right pair.1 under.0 (pair.1 ∷ []) (inl refl)) in
      subst (λ (rs : List BtreeRead). AllByRecursion (λ (p : Btree × NodePtr). IsIn p.1 (nodes_of (map (λ btree. btree.levels) rs))) (pair ∷ pairs)) (ok_is (first.0 ∷ rest.0) reads rest.2) (
        in_left pair.1 (flat_map values_of first.0.levels) (nodes_of (map (λ btree. btree.levels) rest.0)) here,
        more_in (flat_map values_of first.0.levels) (nodes_of (map (λ btree. btree.levels) rest.0)) pairs (roots_in pairs rest.0 rest.1),
      )

-- ---- how often nodes lie in a bucket

module _ (dev bucket : ℕ) where
  abbrev pub counted : List NodePtr → ℕ
  counted nodes = count_in_bucket (flat_map (λ (node : NodePtr). node.places) nodes) dev bucket

  abbrev one_or_none : Place → ℕ
  one_or_none place = cond {A = ℕ} (is_in_bucket dev bucket place) 1 0

  counted_both : (xs ys : List NodePtr) → counted (xs ++ ys) ≡ counted xs + counted ys
  counted_both xs ys =
      ap (λ (ps : List Place). count_in_bucket ps dev bucket) (flat_map-append (λ (node : NodePtr). node.places) xs ys)
      ∙ sum_by-append one_or_none (flat_map (λ (node : NodePtr). node.places) xs) (flat_map (λ (node : NodePtr). node.places) ys)

  -- The roots lie there no more often than all nodes.
  counted_roots : (sets : SetsOf) (updates : List Update) (pairs : List (Btree × NodePtr)) (reads : List BtreeRead) → each_of (btree_of sets updates) pairs ≡ Ok reads
      → counted (map (λ (pair : Btree × NodePtr). pair.1) pairs) ≤ counted (nodes_of (map (λ btree. btree.levels) reads))
  counted_roots sets updates [] reads is = omega arith
  counted_roots sets updates (pair ∷ pairs) reads is =
      let with_rest : BtreeRead → List BtreeRead → Result (List BtreeRead) Place = λ read rest. Ok (read ∷ rest) in
      let first = bind_ok (btree_of sets updates pair) (λ (read : BtreeRead). each_of (btree_of sets updates) pairs >>= with_rest read) reads is in
      let rest = bind_ok (each_of (btree_of sets updates) pairs) (with_rest first.0) reads first.2 in
      let under = under_root sets updates pair first.0 first.1 in
      let roots : List NodePtr = map (λ (p : Btree × NodePtr). p.1) pairs in
      let later : List NodePtr = nodes_of (map (λ btree. btree.levels) rest.0) in
      let own : List NodePtr = flat_map values_of first.0.levels in
      let one = counted_both (pair.1 ∷ []) roots in
      let all = counted_both own later in
      let mine : counted own ≡ counted under.0 + counted (pair.1 ∷ []) = ap counted under.1 ∙ counted_both under.0 (pair.1 ∷ []) in
      let less = counted_roots sets updates pairs rest.0 rest.1 in
      let fewer : counted (pair.1 ∷ roots) ≤ counted (own ++ later) = omega (arith, one, all, mine, less) in
      subst (λ (rs : List BtreeRead). counted (pair.1 ∷ roots) ≤ counted (nodes_of (map (λ btree. btree.levels) rs))) (ok_is (first.0 ∷ rest.0) reads rest.2) fewer

  -- A place that lies there counts,
  one_in : (places : List Place) (place : Place) → Contains places place → is_in_bucket dev bucket place ≡ true → 1 ≤ count_in_bucket places dev bucket
  one_in [] place there is = absurd (let l = there.1 in omega (arith, l))
  one_in (p ∷ places) place (zero, within, at) is =
      let on : one_or_none p ≡ 1 = ap (λ (b : Bool). cond {A = ℕ} b 1 0) (ap (is_in_bucket dev bucket) at ∙ is) in
      let more = sum_by-cons one_or_none p places in
      omega (arith, on, more)
  one_in (p ∷ places) place (suc k, within, at) is =
      let later = one_in places place (k, (let lower : k < length places = omega (arith, within) in lower), at) is in
      let more = sum_by-cons one_or_none p places in
      omega (arith, later, more)

  -- of one node,
  pub at_least : (nodes : List NodePtr) (k : ℕ) → k < length nodes → count_in_bucket (get_or nodes k no_node).places dev bucket ≤ counted nodes
  at_least [] k lower = absurd (omega (arith, lower))
  at_least (node ∷ nodes) zero lower = let both = sum_by-append one_or_none node.places (flat_map (λ (n : NodePtr). n.places) nodes) in omega (arith, both)
  at_least (node ∷ nodes) (suc k) lower =
      let both = sum_by-append one_or_none node.places (flat_map (λ (n : NodePtr). n.places) nodes) in
      let later = at_least nodes k (omega (arith, lower)) in
      omega (arith, both, later)

  -- and those of two count twice.
  two_at_least : (nodes : List NodePtr) (k j : ℕ) → k < j → j < length nodes → count_in_bucket (get_or nodes k no_node).places dev bucket + count_in_bucket (get_or nodes j no_node).places dev bucket ≤ counted nodes
  two_at_least [] k j less lower = absurd (omega (arith, lower))
  two_at_least (node ∷ nodes) k zero less lower = absurd (omega (arith, less))
  two_at_least (node ∷ nodes) zero (suc j) less lower =
      let both = sum_by-append one_or_none node.places (flat_map (λ (n : NodePtr). n.places) nodes) in
      let later = at_least nodes j (omega (arith, lower)) in
      omega (arith, both, later)
  two_at_least (node ∷ nodes) (suc k) (suc j) less lower =
      let both = sum_by-append one_or_none node.places (flat_map (λ (n : NodePtr). n.places) nodes) in
      let later = two_at_least nodes k j (omega (arith, less)) (omega (arith, lower)) in
      omega (arith, both, later)

-- A node with a block there lies in that block's bucket.
pub block_counts : (node : NodePtr) (dev block : ℕ) → All IsBucket node.places → IsBlockOf node dev block → 1 ≤ count_in_bucket node.places dev (block / bucket_blocks)
block_counts node dev block buckets is =
    let place = is.copy.0 in
    let first = (All-contains IsBucket node.places place buckets is.copy.1).first in
    let below = is.below in
    let at : block ≡ place.block + is.number = is.copy.3 in
    let same : place.block / bucket_blocks ≡ block / bucket_blocks = omega (arith, at, below, first) in
    one_in dev (block / bucket_blocks) node.places place is.copy.1
    (ap (λ (b : Bool). b && place.block / bucket_blocks == block / bucket_blocks) (eq-eqb place.dev dev (sym is.copy.2)) ∙ eq-eqb (place.block / bucket_blocks) (block / bucket_blocks) same)

-- Nodes that lie in no bucket twice share no block.
pub share_none : (nodes : List NodePtr) → All IsNode nodes → ((dev bucket : ℕ) → counted dev bucket nodes ≤ 1) → ShareNoBlock nodes
share_none nodes are once one other dev block low_one low_other of_one of_other = ⊎_elim
    (λ (less : one < other). absurd (twice one other less low_other low_one of_one of_other))
    (λ (more : other ≤ one). ⊎_elim
    (λ (less : other < one). absurd (twice other one less low_one low_other of_other of_one))
    (λ (most : one ≤ other). let same : one ≡ other = omega (arith, more, most) in same)
    (cases_lt other one))
    (cases_lt one other)
  where
    twice : (k j : ℕ) → k < j → j < length nodes → k < length nodes → IsBlockOf (get_or nodes k no_node) dev block → IsBlockOf (get_or nodes j no_node) dev block → ⊥
    twice k j less low_j low_k of_k of_j =
        let first = block_counts (get_or nodes k no_node) dev block (are k no_node low_k).each of_k in
        let second = block_counts (get_or nodes j no_node) dev block (are j no_node low_j).each of_j in
        let both = two_at_least dev (block / bucket_blocks) nodes k j less low_j in
        let most = once dev (block / bucket_blocks) in
        omega (arith, first, second, both, most)

-- ---- of what was found

-- what holds of each btree's root holds of the roots
of_pairs : (P : NodePtr → Type 0) (btrees : List Btree) (roots : List NodePtr) → length btrees ≡ length roots → AllByRecursion (λ (pair : Btree × NodePtr). P pair.1) (zip btrees roots) → AllByRecursion P roots
of_pairs P [] [] count all = tt
of_pairs P [] (root ∷ roots) count all = absurd (omega (arith, count))
of_pairs P (btree ∷ btrees) [] count all = tt
of_pairs P (btree ∷ btrees) (root ∷ roots) count all = (all.0, of_pairs P btrees roots (omega (arith, count)) all.1)

roots_of_pairs : (btrees : List Btree) (roots : List NodePtr) → length btrees ≡ length roots → map (λ (pair : Btree × NodePtr). pair.1) (zip btrees roots) ≡ roots
roots_of_pairs [] [] count = refl
roots_of_pairs [] (root ∷ roots) count = absurd (omega (arith, count))
roots_of_pairs (btree ∷ btrees) [] count = absurd (omega (arith, count))
roots_of_pairs (btree ∷ btrees) (root ∷ roots) count = ap (λ (rs : List NodePtr). root ∷ rs) (roots_of_pairs btrees roots (omega (arith, count)))

-- The btrees of roots that mean something.
btrees_of : (sets : SetsOf) (updates : List Update) (roots : List NodePtr) (read : TreesRead) → trees_of sets updates roots ≡ Ok read
    → (reads : List BtreeRead) × (each_of (btree_of sets updates) (with_roots roots) ≡ Ok reads) × (map (λ (btree : BtreeRead). btree.levels) reads ≡ read.nodes)
unfolding trees_of
btrees_of sets updates roots read is =
    let btrees = bind_ok (each_of (btree_of sets updates) (with_roots roots)) (λ (btrees : List BtreeRead). with_own_births (joined btrees)) read is in
    let own = own_births (first_twin (nodes_of (joined btrees.0).nodes)) (joined btrees.0) read btrees.2 in
    (btrees.0, btrees.1, ap (λ (r : TreesRead). r.nodes) own.1)

module _ (image : Image) (f : Found) (is : found image ≡ Ok f) (entry : IsEntry f.last.entry) where
  abbrev roots : List NodePtr
  roots = f.last.entry.roots

  abbrev sets : SetsOf
  sets = sets_in f.layout image

  nine : length all_btrees ≡ length roots
  nine = sym entry.in_range.all_roots

  read : (reads : List BtreeRead) × (each_of (btree_of sets (updates_of f.needed)) (with_roots roots) ≡ Ok reads) × (map (λ (btree : BtreeRead). btree.levels) reads ≡ f.trees.nodes)
  read = btrees_of sets (updates_of f.needed) roots f.trees (found-trees image f is)

  -- Each root is one of the nodes.
  pub roots_among : All (λ (root : NodePtr). IsIn root (nodes_of f.trees.nodes)) roots
  roots_among = All-from_recursion (λ (root : NodePtr). IsIn root (nodes_of f.trees.nodes)) roots
      (of_pairs (λ (root : NodePtr). IsIn root (nodes_of f.trees.nodes)) all_btrees roots nine
      (subst (λ (ls : List Levels). AllByRecursion (λ (pair : Btree × NodePtr). IsIn pair.1 (nodes_of ls)) (with_roots roots)) read.2 (roots_in sets (updates_of f.needed) (with_roots roots) read.0 read.1)))

  -- Where nodes share no bucket, no two roots share a block.
  pub roots_apart : AreNodesPlaced (node_places f) f.layout → ShareNoBlock roots
  roots_apart placed = share_none roots entry.in_range.roots (λ dev bucket.
      let fewer = counted_roots dev bucket sets (updates_of f.needed) (with_roots roots) read.0 read.1 in
      let same : counted dev bucket (map (λ (pair : Btree × NodePtr). pair.1) (with_roots roots)) ≡ counted dev bucket roots = ap (counted dev bucket) (roots_of_pairs all_btrees roots nine) in
      let all : counted dev bucket (nodes_of (map (λ (btree : BtreeRead). btree.levels) read.0)) ≡ counted dev bucket (nodes_of f.trees.nodes) = ap (λ (ls : List Levels). counted dev bucket (nodes_of ls)) read.2 in
      let once = placed.apart dev bucket in
      omega (arith, fewer, same, all, once))
