-- One step more, the last one, and one that fails, of the loops over nodes, over their children and over btrees.
use Rattle.std.proofs.Common.{◌≡◌, ◌==◌, Bool, true, false, cond, All, IsErrAnd, subst, ℕ, zero, suc, ◌+◌, ◌<◌, ◌≤◌, List, [], ◌∷◌, ◌++◌, length, drop, get_or, map, zip, None, Some, Result, Ok, Err, refl, ap, sym, ◌∙◌, append_assoc, arith}
use Rattle.std.specs.Prelude.{IfSome, unwrap_or}
use Rattle.std.specs.Map.{values_of}
use Rattle.std.proofs.lemmas.Bool.Decides.{nat_tests}
use Rattle.std.proofs.lemmas.List.{map-append}
use Rattle.std.proofs.lemmas.List.Elements.{All-append, All-cons, All-head, All-nil, All-tail}
use Rattle.std.proofs.lemmas.Option.{same_Some}
use Rattle.image_view.specs.Trees.{BtreeRead, NodeRead, SetsOf, all_btrees, btree_of, child_in, children_of, each_of, read_level, read_node, with_roots}
use Rattle.key_codec.specs.Formats.{◌>>=◌}
use Rattle.tree_nodes.specs.Levels.{IsNodeOf, Level}
use Rattle.vol_types.specs.Btrees.{btree_code}
use Rattle.vol_types.specs.Positions.{greatest_pos, next_pos}
use Rattle.vol_types.specs.Ranges.{IsNode, IsValue}
use Rattle.vol_types.specs.declared.keys.Update.{Update}
use Rattle.vol_types.specs.declared.pointers.NodePtr.{NodePtr}
use Rattle.vol_types.specs.declared.pointers.Place.{Place}
use Rattle.vol_types.specs.declared.positions.Btree.{Btree}
use Rattle.vol_types.specs.declared.positions.Btree.TheVariants.{Extents, Inodes, Dirents, Subvols, Snapshots, Alloc, Backptrs, Deleted, Counters}
use Rattle.vol_types.specs.declared.positions.Pos.{Pos}
use Rattle.vol_types.specs.declared.values.Value.{Value}
use Rattle.vol_types.specs.declared.values.Value.TheVariants as values
use Rattle.dev_model.specs.Disk.{Image}
use Rattle.image_reader.specs.Answers.{AreSureBtrees, IsSureBtree, Tells}
use Rattle.image_reader.specs.Faults.{failed_tree_device, tree_fault_device}
use Rattle.image_reader.specs.Nodes.{joined_levels, node_in}
use Rattle.image_reader.specs.Volumes.{btree_in}
use Rattle.image_reader.specs.declared.fault.TreeFault.{TreeFault}
use Rattle.image_reader.specs.declared.fault.TreeFault.TheVariants.{BadNode, DeviceFault, NoMemory}
use Rattle.image_reader.specs.declared.found.FoundBtree.{FoundBtree}
use Rattle.image_reader.specs.declared.nodes.FoundNode.{FoundNode}
use Rattle.image_reader.proofs.LevelTold.{behind_done, each_bad, each_more, found_from, found_more, level_bad, level_more}
use Rattle.image_reader.proofs.Steps.{append_none, drop_more, drop_none, part_more}
use Rattle.image_reader.proofs.TreeTold.{each_left, sure_next}

-- what is behind two parts
behind_both : {F X : Type 0} (done more : List X) (rest : Result (List X) F) → behind_done done (behind_done more rest) ≡ behind_done (done ++ more) rest
behind_both done more (Ok others) = ap (λ xs. Ok xs) (sym (append_assoc done more others))
behind_both done more (Err fault) = refl

module _ (sets : SetsOf) (updates : List Update) (btree : Btree) (nodes : Level) (i : ℕ) (least : Pos) (done : List FoundNode) (whole : Result (List NodeRead) Place)
    (so_far : behind_done (map node_in done) (read_level sets updates btree least (drop i nodes)) ≡ whole) where
  -- All nodes of the level were read.
  pub level_end : length nodes ≤ i → whole ≡ Ok (map node_in done)
  level_end le = sym so_far ∙ ap (λ (ns : Level). behind_done (map node_in done) (read_level sets updates btree least ns)) (drop_none nodes i le) ∙ ap (λ ns. Ok ns) (append_none (map node_in done))

  module _ (item : Pos × NodePtr) (lt : i < length nodes) (at : item ≡ get_or nodes i item) where
    from_here : behind_done (map node_in done) (read_level sets updates btree least (item ∷ drop (i + 1) nodes)) ≡ whole
    from_here = ap (λ (ns : Level). behind_done (map node_in done) (read_level sets updates btree least ns)) (sym (drop_more nodes i item lt at)) ∙ so_far

    -- One node more of the level was read.
    pub level_step : (node : FoundNode) (more : List FoundNode) (next : Pos) → Tells node_in (read_node sets updates (record { btree = btree; least = least; greatest = item.0; pointer = item.1 })) (Ok node)
        → more ≡ done ++ node ∷ [] → next ≡ unwrap_or (next_pos item.0) greatest_pos → behind_done (map node_in more) (read_level sets updates btree next (drop (i + 1) nodes)) ≡ whole
    level_step node more next told pushed behind =
        (λ j. behind_done (map node_in (pushed j)) (read_level sets updates btree (behind j) (drop (i + 1) nodes)))
        ∙ ap (λ (ns : List NodeRead). behind_done ns (read_level sets updates btree (unwrap_or (next_pos item.0) greatest_pos) (drop (i + 1) nodes))) (map-append node_in done (node ∷ []))
        ∙ sym (level_more sets updates btree least item (drop (i + 1) nodes) (map node_in done) (node_in node) told)
        ∙ from_here

    -- It is at fault.
    pub level_stops : (fault : TreeFault) → Tells {X = FoundNode} node_in (read_node sets updates (record { btree = btree; least = least; greatest = item.0; pointer = item.1 })) (Err fault) → Tells {X = List FoundNode} (map node_in) whole (Err fault)
    level_stops (BadNode place) told = sym from_here ∙ level_bad sets updates btree least item (drop (i + 1) nodes) (map node_in done) place told
    level_stops (DeviceFault dev) told = tt
    level_stops NoMemory told = tt

-- the children of one node more
joined_more : (f : NodeRead → Result Level Place) (x : NodeRead) (xs : List NodeRead) (children : Level) → f x ≡ Ok children → joined_levels (each_of f (x ∷ xs)) ≡ behind_done children (joined_levels (each_of f xs))
joined_more f x xs children is = ap (λ r. joined_levels (r >>= (λ y. each_of f xs >>= (λ ys. Ok (y ∷ ys))))) is ∙ by (each_of f xs)
  where
    by : (rest : Result (List Level) Place) → joined_levels (rest >>= (λ ys. Ok (children ∷ ys))) ≡ behind_done children (joined_levels rest)
    by (Ok ys) = refl
    by (Err place) = refl

module _ (level : ℕ) (nodes : List FoundNode) (i : ℕ) (done : Level) (whole : Result Level Place)
    (so_far : behind_done done (joined_levels (each_of (children_of level) (map node_in (drop i nodes)))) ≡ whole) where
  -- The children of all nodes were found.
  pub below_end : length nodes ≤ i → whole ≡ Ok done
  below_end le = sym so_far ∙ ap (λ (ns : List FoundNode). behind_done done (joined_levels (each_of (children_of level) (map node_in ns)))) (drop_none nodes i le) ∙ ap (λ ns. Ok ns) (append_none done)

  module _ (node : FoundNode) (lt : i < length nodes) (at : node ≡ get_or nodes i node) where
    below_here : behind_done done (joined_levels (each_of (children_of level) (node_in node ∷ map node_in (drop (i + 1) nodes)))) ≡ whole
    below_here = ap (λ (ns : List FoundNode). behind_done done (joined_levels (each_of (children_of level) (map node_in ns)))) (sym (drop_more nodes i node lt at)) ∙ so_far

    -- Those of one node more were.
    pub below_step : (children more : Level) → children_of level (node_in node) ≡ Ok children → more ≡ done ++ children → behind_done more (joined_levels (each_of (children_of level) (map node_in (drop (i + 1) nodes)))) ≡ whole
    below_step children more told pushed =
        ap (λ (ns : Level). behind_done ns (joined_levels (each_of (children_of level) (map node_in (drop (i + 1) nodes))))) pushed
        ∙ sym (behind_both done children (joined_levels (each_of (children_of level) (map node_in (drop (i + 1) nodes)))))
        ∙ ap (behind_done done) (sym (joined_more (children_of level) (node_in node) (map node_in (drop (i + 1) nodes)) children told))
        ∙ below_here

    -- They are none.
    pub below_stops : (fault : TreeFault) → Tells {X = Level} (λ children. children) (children_of level (node_in node)) (Err fault) → Tells {X = Level} (λ below. below) whole (Err fault)
    below_stops (BadNode place) told = sym below_here ∙ ap (λ r. behind_done done (joined_levels (r >>= (λ y. each_of (children_of level) (map node_in (drop (i + 1) nodes)) >>= (λ ys. Ok (y ∷ ys)))))) told
    below_stops (DeviceFault dev) told = tt
    below_stops NoMemory told = tt

pair_suc : {X Y : Type 0} (xs : List X) (ys : List Y) (i : ℕ) (x : X) (y : Y) → i < length xs → i < length ys → get_or xs i x ≡ x → get_or ys i y ≡ y → drop i (zip xs ys) ≡ (x, y) ∷ drop (suc i) (zip xs ys)
pair_suc [] ys i x y lt less at same = absurd (omega (arith, lt))
pair_suc (a ∷ xs) [] i x y lt less at same = absurd (omega (arith, less))
pair_suc (a ∷ xs) (b ∷ ys) zero x y lt less at same = λ j. (at j, same j) ∷ zip xs ys
pair_suc (a ∷ xs) (b ∷ ys) (suc i) x y lt less at same = pair_suc xs ys i x y (omega (arith, lt)) (omega (arith, less)) at same

-- The rest of two lists beside each other begins with the pair at its place.
drop_pair : {X Y : Type 0} (xs : List X) (ys : List Y) (i : ℕ) (x : X) (y : Y) → i < length xs → i < length ys → get_or xs i x ≡ x → get_or ys i y ≡ y → drop i (zip xs ys) ≡ (x, y) ∷ drop (i + 1) (zip xs ys)
drop_pair xs ys i x y lt less at same = pair_suc xs ys i x y lt less at same ∙ ap (λ j. (x, y) ∷ drop j (zip xs ys)) (let e : suc i ≡ i + 1 = omega arith in e)

-- Each btree stands at its number.
pub at_number : (btree : Btree) (number : ℕ) → btree_code btree ≡ number → get_or all_btrees number btree ≡ btree
at_number btree number is = ap (λ n. get_or all_btrees n btree) (sym is) ∙ by btree
  where
    by : (btree : Btree) → get_or all_btrees (btree_code btree) btree ≡ btree
    by Extents = refl
    by Inodes = refl
    by Dirents = refl
    by Subvols = refl
    by Snapshots = refl
    by Alloc = refl
    by Backptrs = refl
    by Deleted = refl
    by Counters = refl

module _ (sets : SetsOf) (updates : List Update) (roots : List NodePtr) (i : ℕ) (done : List FoundBtree) (whole : Result (List BtreeRead) Place)
    (so_far : each_left sets updates (map btree_in done) (drop i (with_roots roots)) ≡ whole) where
  -- All btrees were read.
  pub btrees_end : length (with_roots roots) ≤ i → whole ≡ Ok (map btree_in done)
  btrees_end le = sym so_far ∙ ap (λ (ps : List (Btree × NodePtr)). each_left sets updates (map btree_in done) ps) (drop_none (with_roots roots) i le) ∙ ap (λ bs. Ok bs) (append_none (map btree_in done))

  module _ (btree : Btree) (root : NodePtr) (lt : i < 9) (less : i < length roots) (at : get_or all_btrees i btree ≡ btree) (same : get_or roots i root ≡ root) where
    pub btrees_here : each_left sets updates (map btree_in done) ((btree, root) ∷ drop (i + 1) (with_roots roots)) ≡ whole
    btrees_here = ap (λ (ps : List (Btree × NodePtr)). each_left sets updates (map btree_in done) ps) (sym (drop_pair all_btrees roots i btree root lt less at same)) ∙ so_far

    -- The next one of sure btrees is sure.
    pub sure_at : (id : List ℕ) (image : Image) → AreSureBtrees id image whole → IsSureBtree id image (btree_of sets updates (btree, root))
    sure_at id image sure = sure_next sets updates id image (map btree_in done) (btree, root) (drop (i + 1) (with_roots roots)) (subst (AreSureBtrees id image) (sym btrees_here) sure)

    -- One btree more was read.
    pub btrees_step : (read : FoundBtree) (more : List FoundBtree) → btree_of sets updates (btree, root) ≡ Ok (btree_in read) → more ≡ done ++ read ∷ [] → each_left sets updates (map btree_in more) (drop (i + 1) (with_roots roots)) ≡ whole
    btrees_step read more told pushed =
        ap (λ (bs : List FoundBtree). each_left sets updates (map btree_in bs) (drop (i + 1) (with_roots roots))) pushed
        ∙ ap (λ (bs : List BtreeRead). each_left sets updates bs (drop (i + 1) (with_roots roots))) (map-append btree_in done (read ∷ []))
        ∙ sym (each_more (btree_of sets updates) (map btree_in done) (btree, root) (drop (i + 1) (with_roots roots)) (btree_in read) told)
        ∙ btrees_here

    -- It is at fault.
    pub btrees_stop : (fault : TreeFault) → Tells {X = FoundBtree} btree_in (btree_of sets updates (btree, root)) (Err fault) → Tells {X = List FoundBtree} (map btree_in) whole (Err fault)
    btrees_stop (BadNode place) told = sym btrees_here ∙ each_bad (btree_of sets updates) (map btree_in done) (btree, root) (drop (i + 1) (with_roots roots)) place told
    btrees_stop (DeviceFault dev) told = tt
    btrees_stop NoMemory told = tt

-- A result that hands a fault on tells what the fault does.
pub handed_tells : {T W : Type 0} (view : T → W) (expected : Result W Place) (result : Result T TreeFault) (error : TreeFault) → IsErrAnd result (λ e. e ≡ error) → Tells view expected (Err error) → Tells view expected result
handed_tells view expected (Ok x) error is told = absurd is
handed_tells view expected (Err e) error is told = subst (λ (f : TreeFault). Tells view expected (Err f)) (sym is) told

-- A result that hands a fault on names the device that the fault does.
pub handed_device : {T : Type 0} (result : Result T TreeFault) (error : TreeFault) (P : ℕ → Type 0) → IsErrAnd result (λ e. e ≡ error) → IfSome (tree_fault_device error) P → IfSome (failed_tree_device result) P
handed_device (Ok x) error P is cause = absurd is
handed_device (Err e) error P is cause = subst (λ (f : TreeFault). IfSome (tree_fault_device f) P) (sym is) cause

-- What holds of each value holds of the one at a place.
pub all_at : {K X : Type 0} (P : X → Type 0) (entries : List (K × X)) (i : ℕ) (entry : K × X) → i < length entries → entry ≡ get_or entries i entry → All P (values_of entries) → P entry.1
all_at P [] i entry lt is all = absurd (omega (arith, lt))
all_at P (e ∷ es) zero entry lt is all = subst (λ (x : _ × _). P x.1) (sym is) (All-head P e.1 (values_of es) all)
all_at P (e ∷ es) (suc i) entry lt is all = all_at P es i entry (omega (arith, lt)) is (All-tail P e.1 (values_of es) all)

-- What holds of each member holds with one more.
pub all_pushed : {X : Type 0} (P : X → Type 0) (xs more : List X) (x : X) → more ≡ xs ++ x ∷ [] → All P xs → P x → All P more
all_pushed P xs more x is all one = subst (All P) (sym is) (All-append P xs (x ∷ []) all (All-cons P x [] one (All-nil P)))

-- A child is a node of its level.
child_node : (level : ℕ) (pos : Pos) (pointer : NodePtr) (child : Pos × NodePtr) → child_in level (pos, values.Node pointer) ≡ Some child → IsNode pointer → IsNodeOf level child.1
child_node level pos pointer child is node = by (pointer.level == level) refl is
  where
    by : (b : Bool) → (pointer.level == level) ≡ b → cond b (Some (pos, pointer)) None ≡ Some child → IsNodeOf level child.1
    by true same some = subst (λ (c : Pos × NodePtr). IsNodeOf level c.1) (same_Some (pos, pointer) child some) (record { numbered = grind (arith, nat_tests, same); in_range = node })
    by false same some = absurd cc

pub child_of_level : (level : ℕ) (entry : Pos × Value) (child : Pos × NodePtr) → child_in level entry ≡ Some child → IsValue entry.1 → IsNodeOf level child.1
child_of_level level (pos, values.Node pointer) child is value = child_node level pos pointer child is value
child_of_level level (pos, values.Inode inode) child is value = absurd cc
child_of_level level (pos, values.Names links) child is value = absurd cc
child_of_level level (pos, values.Extent extent) child is value = absurd cc
child_of_level level (pos, values.Hole blocks) child is value = absurd cc
child_of_level level (pos, values.White) child is value = absurd cc
child_of_level level (pos, values.Subs subs) child is value = absurd cc
child_of_level level (pos, values.Snap snap) child is value = absurd cc
child_of_level level (pos, values.Live live) child is value = absurd cc
child_of_level level (pos, values.Back extent) child is value = absurd cc
child_of_level level (pos, values.Gone) child is value = absurd cc
child_of_level level (pos, values.Counter next) child is value = absurd cc

-- One child more was found.
pub child_step : (level : ℕ) (place : Place) (ends : Bool) (entries : List (Pos × Value)) (i : ℕ) (done more : Level) (whole : Result Level Place) (item : Pos × Value) (child : Pos × NodePtr) → i < length entries → item ≡ get_or entries i item
    → child_in level item ≡ Some child → more ≡ done ++ child ∷ [] → found_from (child_in level) place ends done (drop i entries) ≡ whole → found_from (child_in level) place ends more (drop (i + 1) entries) ≡ whole
child_step level place ends entries i done more whole item child lt at is pushed so_far =
    ap (λ (ns : Level). found_from (child_in level) place ends ns (drop (i + 1) entries)) pushed
    ∙ sym (found_more (child_in level) place ends done item (drop (i + 1) entries) child is)
    ∙ ap (λ (es : List (Pos × Value)). found_from (child_in level) place ends done es) (sym (drop_more entries i item lt at))
    ∙ so_far

-- All entries led to children, and end where the node does, or elsewhere.
pub children_end : (level : ℕ) (place : Place) (ends right : Bool) (entries : List (Pos × Value)) (i : ℕ) (done : Level) (whole : Result Level Place) → length entries ≤ i → ends ≡ right
    → found_from (child_in level) place ends done (drop i entries) ≡ whole → whole ≡ cond right (Ok done) (Err place)
children_end level place ends right entries i done whole le is so_far =
    sym so_far
    ∙ ap (λ (es : List (Pos × Value)). found_from (child_in level) place ends done es) (drop_none entries i le)
    ∙ ap (λ (e : Bool). found_from (child_in level) place e done []) is
    ∙ by right
  where
    by : (b : Bool) → found_from (child_in level) place b done [] ≡ cond b (Ok done) (Err place)
    by true = ap (λ ys. Ok ys) (append_none done)
    by false = refl

-- The nodes of a level and those of another part.
pub nodes_joined : (P : NodePtr → Type 0) (one other whole : Level) → whole ≡ one ++ other → All P (values_of one) → All P (values_of other) → All P (values_of whole)
nodes_joined P one other whole is all others = subst (λ (ns : Level). All P (values_of ns)) (sym is) (subst (All P) (sym (map-append (λ (n : Pos × NodePtr). n.1) one other)) (All-append P (values_of one) (values_of other) all others))

-- The nodes of a level with one more.
pub level_pushed : (level : ℕ) (done more : Level) (child : Pos × NodePtr) → more ≡ done ++ child ∷ [] → All (IsNodeOf level) (values_of done) → IsNodeOf level child.1 → All (IsNodeOf level) (values_of more)
level_pushed level done more child is all one = nodes_joined (IsNodeOf level) done (child ∷ []) more is all (All-cons (IsNodeOf level) child.1 [] one (All-nil (IsNodeOf level)))

-- The pointers of nodes with one more.
pub pointers_step : (nodes : Level) (i : ℕ) (item : Pos × NodePtr) (done more : List FoundNode) (node : FoundNode) → i < length nodes → item ≡ get_or nodes i item → more ≡ done ++ node ∷ [] → node.pointer ≡ item.1
    → map (λ (n : FoundNode). n.pointer) done ++ values_of (drop i nodes) ≡ values_of nodes → map (λ (n : FoundNode). n.pointer) more ++ values_of (drop (i + 1) nodes) ≡ values_of nodes
pointers_step nodes i item done more node lt at pushed same so_far =
    part_more values_of (λ (n : Pos × NodePtr). n.1 ∷ []) (λ n ns. refl) nodes i item (map (λ (n : FoundNode). n.pointer) done) (map (λ (n : FoundNode). n.pointer) more) (values_of nodes) lt at
    (ap (λ (ns : List FoundNode). map (λ (n : FoundNode). n.pointer) ns) pushed ∙ map-append (λ (n : FoundNode). n.pointer) done (node ∷ []) ∙ ap (λ p. map (λ (n : FoundNode). n.pointer) done ++ p ∷ []) same)
    so_far
