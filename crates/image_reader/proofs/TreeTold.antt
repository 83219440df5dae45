-- A btree whose levels were read is the one that is defined; and where that one is sure, each part of it is.
use Rattle.std.proofs.Common.{◌≡◌, ℕ, zero, suc, List, [], ◌∷◌, ◌++◌, map, Result, Ok, Err, refl, ap, sym, ◌∙◌, subst}
use Rattle.std.specs.Prelude.{All}
use Rattle.std.specs.List.{flat_map}
use Rattle.std.specs.Map.{values_of}
use Rattle.std.proofs.lemmas.Grind.{flat_map-append}
use Rattle.std.proofs.lemmas.List.{map-append}
use Rattle.std.proofs.lemmas.List.Elements.{All-cons, All-head, All-nil, All-tail}
use Rattle.dev_model.specs.Disk.{Image}
use Rattle.image_view.specs.Found.{PlacesAgree}
use Rattle.image_view.specs.Trees.{BtreeRead, NodeRead, SetsOf, btree_of, children_of, each_of, ends_of, nodes_of, read_down, read_level}
use Rattle.key_codec.specs.Combined.{bind_ok, ok_is}
use Rattle.key_codec.specs.Formats.{◌>>=◌}
use Rattle.tree_nodes.specs.Levels.{Level, Levels}
use Rattle.vol_types.specs.Positions.{least_pos}
use Rattle.vol_types.specs.declared.keys.Update.{Update}
use Rattle.vol_types.specs.declared.pointers.NodePtr.{NodePtr}
use Rattle.vol_types.specs.declared.pointers.Place.{Place}
use Rattle.vol_types.specs.declared.positions.Btree.{Btree}
use Rattle.image_reader.specs.Answers.{AreSureBtrees, IsSureBtree, Tells}
use Rattle.image_reader.specs.Nodes.{joined_levels, node_in}
use Rattle.image_reader.specs.declared.nodes.FoundNode.{FoundNode}
use Rattle.image_reader.specs.declared.fault.TreeFault.{TreeFault}
use Rattle.image_reader.specs.declared.fault.TreeFault.TheVariants.{BadNode, DeviceFault, NoMemory}
use Rattle.image_reader.proofs.LevelTold.{behind_done}

module _ {X : Type 0} (P : X → Type 0) where
  pub all_left : (xs ys : List X) → All P (xs ++ ys) → All P xs
  all_left [] ys all = All-nil P
  all_left (x ∷ xs) ys all = All-cons P x xs (All-head P x (xs ++ ys) all) (all_left xs ys (All-tail P x (xs ++ ys) all))

  pub all_right : (xs ys : List X) → All P (xs ++ ys) → All P ys
  all_right [] ys all = all
  all_right (x ∷ xs) ys all = all_right xs ys (All-tail P x (xs ++ ys) all)

-- A fault of a step is the fault of what comes of it.
pub told_fault : {X Y V W : Type 0} (seen : X → V) (view : Y → W) (step : Result V Place) (after : V → Result W Place) (fault : TreeFault) → Tells seen step (Err fault) → Tells view (step >>= after) (Err fault)
told_fault seen view step after (BadNode place) told = ap (λ r. r >>= after) told
told_fault seen view step after (DeviceFault dev) told = tt
told_fault seen view step after NoMemory told = tt

-- what comes of levels that were made one for each node
joined_ok : {Y : Type 0} (made : Result (List Level) Place) (after : Level → Result Y Place) (below : Level) → joined_levels made ≡ Ok below → (made >>= (λ levels. after (flat_map (λ children. children) levels))) ≡ after below
joined_ok (Ok levels) after below is = ap after (ok_is _ _ is)
joined_ok (Err place) after below is = absurd cc

joined_err : {Y : Type 0} (made : Result (List Level) Place) (after : Level → Result Y Place) (place : Place) → joined_levels made ≡ Err place → (made >>= (λ levels. after (flat_map (λ children. children) levels))) ≡ Err place
joined_err (Ok levels) after place is = absurd cc
joined_err (Err other) after place is = let same : other ≡ place = cc in ap (λ p. Err p) same

module _ (sets : SetsOf) (updates : List Update) (btree : Btree) (nodes : Level) where
  -- the level, read
  abbrev level_read : Result (List NodeRead) Place
  level_read = read_level sets updates btree least_pos nodes

  -- a btree of these leaves
  abbrev pub leaves_of : List NodeRead → BtreeRead
  leaves_of read = record { entries = flat_map (λ node. node.entries) read; levels = nodes ∷ []; ends = ends_of read }

  -- a btree with these nodes above the rest
  abbrev pub above_rest : List NodeRead → BtreeRead → BtreeRead
  above_rest read rest = record { entries = rest.entries; levels = rest.levels ++ nodes ∷ []; ends = ends_of read ++ rest.ends }

  -- what comes of a level once the one below it is known
  abbrev down_from : ℕ → List NodeRead → Level → Result BtreeRead Place
  down_from level read below = read_down sets updates btree level below >>= (λ rest. Ok (above_rest read rest))

  -- what comes of a level that was read
  abbrev down_by : ℕ → List NodeRead → Result BtreeRead Place
  down_by level read = each_of (children_of level) read >>= (λ levels. down_from level read (flat_map (λ children. children) levels))

  pub leaves_told : (level : ℕ) (read : List NodeRead) → level ≡ 0 → level_read ≡ Ok read → read_down sets updates btree level nodes ≡ Ok (leaves_of read)
  leaves_told level read none is = ap (λ n. read_down sets updates btree n nodes) none ∙ ap (λ r. r >>= (λ read. Ok (leaves_of read))) is

  -- the level is bad
  bad_leaves : (place : Place) → level_read ≡ Err place → read_down sets updates btree zero nodes ≡ Err place
  bad_leaves place is = ap (λ r. r >>= (λ read. Ok (leaves_of read))) is

  bad_upper : (level : ℕ) (place : Place) → level_read ≡ Err place → read_down sets updates btree (suc level) nodes ≡ Err place
  bad_upper level place is = ap (λ r. r >>= down_by level) is

  bad_level : (level : ℕ) (place : Place) → level_read ≡ Err place → read_down sets updates btree level nodes ≡ Err place
  bad_level zero place is = bad_leaves place is
  bad_level (suc level) place is = bad_upper level place is

  pub level_fault : {X Y : Type 0} (seen : X → List NodeRead) (view : Y → BtreeRead) (level : ℕ) (fault : TreeFault) → Tells seen level_read (Err fault) → Tells view (read_down sets updates btree level nodes) (Err fault)
  level_fault seen view level (BadNode place) told = bad_level level place told
  level_fault seen view level (DeviceFault dev) told = tt
  level_fault seen view level NoMemory told = tt

  module _ (level upper : ℕ) (above : upper ≡ suc level) (read : List NodeRead) (is : level_read ≡ Ok read) where
    -- what the upper level comes to
    steps : read_down sets updates btree upper nodes ≡ down_by level read
    steps = ap (λ n. read_down sets updates btree n nodes) above ∙ ap (λ r. r >>= down_by level) is

    pub below_fault : {X Y : Type 0} (seen : X → Level) (view : Y → BtreeRead) (fault : TreeFault) → Tells seen (joined_levels (each_of (children_of level) read)) (Err fault) → Tells view (read_down sets updates btree upper nodes) (Err fault)
    below_fault seen view (BadNode place) told = steps ∙ joined_err (each_of (children_of level) read) (down_from level read) place told
    below_fault seen view (DeviceFault dev) told = tt
    below_fault seen view NoMemory told = tt

    module _ (below : Level) (joined : joined_levels (each_of (children_of level) read) ≡ Ok below) where
      to_rest : read_down sets updates btree upper nodes ≡ down_from level read below
      to_rest = steps ∙ joined_ok (each_of (children_of level) read) (down_from level read) below joined

      pub upper_told : (rest : BtreeRead) → read_down sets updates btree level below ≡ Ok rest → read_down sets updates btree upper nodes ≡ Ok (above_rest read rest)
      upper_told rest told = to_rest ∙ ap (λ r. r >>= (λ rest. Ok (above_rest read rest))) told

      pub rest_fault : {X Y : Type 0} (seen : X → BtreeRead) (view : Y → BtreeRead) (fault : TreeFault) → Tells seen (read_down sets updates btree level below) (Err fault) → Tells view (read_down sets updates btree upper nodes) (Err fault)
      rest_fault seen view (BadNode place) told = to_rest ∙ ap (λ r. r >>= (λ rest. Ok (above_rest read rest))) told
      rest_fault seen view (DeviceFault dev) told = tt
      rest_fault seen view NoMemory told = tt

      -- The rest of a sure btree is sure.
      pub sure_rest : (id : List ℕ) (image : Image) → IsSureBtree id image (read_down sets updates btree upper nodes) → IsSureBtree id image (read_down sets updates btree level below)
      sure_rest id image sure =
          let rest = bind_ok (read_down sets updates btree level below) (λ rest. Ok (above_rest read rest)) sure.btree (sym to_rest ∙ sure.finds) in
          let levels : rest.0.levels ++ nodes ∷ [] ≡ sure.btree.levels = ap (λ (b : BtreeRead). b.levels) (ok_is _ _ rest.2) in
          let all : All (PlacesAgree id image) (flat_map values_of rest.0.levels ++ flat_map values_of (nodes ∷ [])) =
          subst (All (PlacesAgree id image)) (ap (λ (ls : Levels). flat_map values_of ls) (sym levels) ∙ flat_map-append values_of rest.0.levels (nodes ∷ [])) sure.agree in
          record { btree = rest.0; finds = rest.1; agree = all_left (PlacesAgree id image) (flat_map values_of rest.0.levels) (flat_map values_of (nodes ∷ [])) all }

  module _ (id : List ℕ) (image : Image) where
    -- the nodes of the topmost level
    sure_top : (rest : Levels) (levels : Levels) → rest ++ nodes ∷ [] ≡ levels → All (PlacesAgree id image) (flat_map values_of levels) → All (PlacesAgree id image) (values_of nodes)
    sure_top rest levels is all =
        let whole : All (PlacesAgree id image) (flat_map values_of rest ++ (values_of nodes ++ [])) =
        subst (All (PlacesAgree id image)) (ap (λ (ls : Levels). flat_map values_of ls) (sym is) ∙ flat_map-append values_of rest (nodes ∷ [])) all in
        all_left (PlacesAgree id image) (values_of nodes) [] (all_right (PlacesAgree id image) (flat_map values_of rest) (values_of nodes ++ []) whole)

    -- Of a sure btree the places of the nodes of its topmost level agree.
    pub sure_level : (level : ℕ) → IsSureBtree id image (read_down sets updates btree level nodes) → All (PlacesAgree id image) (values_of nodes)
    sure_level zero sure =
        let read = bind_ok level_read (λ read. Ok (leaves_of read)) sure.btree sure.finds in
        sure_top [] sure.btree.levels (ap (λ (b : BtreeRead). b.levels) (ok_is _ _ read.2)) sure.agree
    sure_level (suc level) sure =
        let read = bind_ok level_read (down_by level) sure.btree sure.finds in
        let below = bind_ok (each_of (children_of level) read.0) (λ levels. down_from level read.0 (flat_map (λ children. children) levels)) sure.btree read.2 in
        let rest = bind_ok (read_down sets updates btree level (flat_map (λ children. children) below.0)) (λ rest. Ok (above_rest read.0 rest)) sure.btree below.2 in
        sure_top rest.0.levels sure.btree.levels (ap (λ (b : BtreeRead). b.levels) (ok_is _ _ rest.2)) sure.agree

-- what is done, and what is left
abbrev pub each_left : SetsOf → List Update → List BtreeRead → List (Btree × NodePtr) → Result (List BtreeRead) Place
each_left sets updates done left = behind_done done (each_of (btree_of sets updates) left)

-- The next one of btrees that are sure is sure.
pub sure_next : (sets : SetsOf) (updates : List Update) (id : List ℕ) (image : Image) (done : List BtreeRead) (pair : Btree × NodePtr) (pairs : List (Btree × NodePtr))
    → AreSureBtrees id image (each_left sets updates done (pair ∷ pairs)) → IsSureBtree id image (btree_of sets updates pair)
sure_next sets updates id image done pair pairs sure =
    let others = bind_ok (each_of (btree_of sets updates) (pair ∷ pairs)) (λ others. Ok (done ++ others)) sure.btrees sure.finds in
    let first = bind_ok (btree_of sets updates pair) (λ read. each_of (btree_of sets updates) pairs >>= (λ rest. Ok (read ∷ rest))) others.0 others.1 in
    let rest = bind_ok (each_of (btree_of sets updates) pairs) (λ rest. Ok (first.0 ∷ rest)) others.0 first.2 in
    let whole : done ++ first.0 ∷ rest.0 ≡ sure.btrees = ap (λ (bs : List BtreeRead). done ++ bs) (ok_is _ _ rest.2) ∙ ok_is _ _ others.2 in
    let all : All (PlacesAgree id image) (nodes_of (map (λ b. b.levels) done) ++ (flat_map values_of first.0.levels ++ nodes_of (map (λ b. b.levels) rest.0))) =
    subst (All (PlacesAgree id image))
    (ap (λ (bs : List BtreeRead). nodes_of (map (λ b. b.levels) bs)) (sym whole) ∙ ap nodes_of (map-append (λ (b : BtreeRead). b.levels) done (first.0 ∷ rest.0))
    ∙ flat_map-append (λ (levels : Levels). flat_map values_of levels) (map (λ (b : BtreeRead). b.levels) done) (first.0.levels ∷ map (λ (b : BtreeRead). b.levels) rest.0))
    sure.agree in
    record {
      btree = first.0;
      finds = first.1;
      agree = all_left (PlacesAgree id image) (flat_map values_of first.0.levels) (nodes_of (map (λ b. b.levels) rest.0))
          (all_right (PlacesAgree id image) (nodes_of (map (λ b. b.levels) done)) (flat_map values_of first.0.levels ++ nodes_of (map (λ b. b.levels) rest.0)) all);
    }

-- the entries of nodes that were found
pub flat_nodes : (nodes : List FoundNode) → flat_map (λ node. node.entries) nodes ≡ flat_map (λ node. node.entries) (map node_in nodes)
flat_nodes [] = refl
flat_nodes (node ∷ nodes) = ap (λ entries. node.entries ++ entries) (flat_nodes nodes)
