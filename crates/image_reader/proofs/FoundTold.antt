-- What is found in an image, step by step, and what was read of each step.
use Rattle.std.proofs.Common.{◌≡◌, ℕ, zero, suc, ◌<◌, [], ◌∷◌, length, get_or, IsErrAnd, IfOk, IfSome, arith, List, Option, None, Some, Result, Ok, Err, refl, ap, sym, ◌∙◌, subst}
use Rattle.std.specs.Prelude.{All, map}
use Rattle.std.specs.Option.{ok_or, option_map_or}
use Rattle.dev_model.specs.Disk.{Image}
use Rattle.geometry.specs.Sessions.{session_in}
use Rattle.geometry.specs.Superblocks.{layout_in}
use Rattle.image_view.specs.Found.{Found, NodesAgree, PlacesAgree, found, sets_in, super_fault, updates_of}
use Rattle.image_view.specs.Trees.{BtreeRead, SetsOf, TreesRead, btree_of, each_of, first_place, first_twin, joined, nodes_of, trees_of, with_own_births, with_roots}
use Rattle.image_view.specs.declared.fault.MountFault.{MountFault}
use Rattle.image_view.specs.declared.fault.MountFault.TheVariants.{NoSuper, Version, Mixed, BadLayout, NoEntry, MissingEntry, BadNode, Unsound, DeviceFault, NoMemory}
use Rattle.journal_ring.specs.Counting.{needed_by, newest}
use Rattle.journal_ring.specs.Parts.{area_of}
use Rattle.journal_ring.specs.declared.found.FoundEntry.{FoundEntry}
use Rattle.key_codec.specs.Combined.{bind_ok, ok_is}
use Rattle.key_codec.specs.Formats.{◌>>=◌, carried}
use Rattle.vol_types.specs.declared.keys.Update.{Update}
use Rattle.vol_types.specs.declared.layout.Layout.{Layout}
use Rattle.vol_types.specs.declared.pointers.NodePtr.{NodePtr}
use Rattle.vol_types.specs.declared.pointers.Place.{Place}
use Rattle.image_reader.specs.Answers.{AreSureBtrees, AreSureTrees, Finds, IsEarly, IsRead, Tells}
use Rattle.image_reader.specs.Faults.{failed_mount_device, mount_fault, mount_fault_device}
use Rattle.image_reader.specs.Volumes.{btree_in, entries_in, found_of, last_of, with_last}
use Rattle.image_reader.specs.declared.fault.TreeFault.{TreeFault}
use Rattle.image_reader.specs.declared.fault.TreeFault.TheVariants as trees
use Rattle.image_reader.specs.declared.found.FoundBtree.{FoundBtree}
use Rattle.image_reader.specs.declared.found.FoundVolume.{FoundVolume}

-- a pair of two values
abbrev pair_of : {E A B : Type 0} → A → B → Result (A × B) E
pair_of x y = Ok (x, y)

-- what comes of a pair
abbrev of_pair : {E A B C : Type 0} → (A → B → Result C E) → A × B → Result C E
of_pair after p = after p.0 p.1

-- two steps as one that gives a pair
paired : {E A B C : Type 0} (x : A) (second : Result B E) (after : A → B → Result C E) → (second >>= after x) ≡ ((second >>= pair_of x) >>= of_pair after)
paired x (Ok y) after = refl
paired x (Err fault) after = refl

as_one : {E A B C : Type 0} (first : Result A E) (second : A → Result B E) (after : A → B → Result C E)
    → (first >>= (λ x. second x >>= after x)) ≡ ((first >>= (λ x. second x >>= pair_of x)) >>= of_pair after)
as_one (Ok x) second after = paired x (second x) after
as_one (Err fault) second after = refl

-- what comes of the entries
abbrev pub trees_by : Image → Layout → ℕ → FoundEntry × List FoundEntry → Result Found MountFault
trees_by image layout session entries =
    carried BadNode (trees_of (sets_in layout image) (updates_of entries.1) entries.0.entry.roots) >>= (λ trees. Ok (record { layout = layout; session = session; last = entries.0; needed = entries.1; trees = trees }))

-- what comes of the session
abbrev pub entries_by : Image → Layout → ℕ → Result Found MountFault
entries_by image layout session = entries_in layout (area_of image) >>= trees_by image layout session

-- what comes of the layout
abbrev pub session_by : Image → Layout → Result Found MountFault
session_by image layout = ok_or (session_in layout image) NoEntry >>= entries_by image layout

-- What is found in an image, in four steps.
pub found_steps : (image : Image) → found image ≡ (carried super_fault (layout_in image) >>= session_by image)
unfolding found
found_steps image = λ i. carried super_fault (layout_in image) >>= (λ layout. ok_or (session_in layout image) NoEntry >>= (λ session.
    as_one (ok_or (newest layout (area_of image)) NoEntry) (λ last. carried MissingEntry (needed_by layout (area_of image) last))
    (λ last needed. carried BadNode (trees_of (sets_in layout image) (updates_of needed) last.entry.roots) >>= (λ trees. Ok (record { layout = layout; session = session; last = last; needed = needed; trees = trees }))) i))

-- A fault of a step is the fault of what comes of it.
pub finds_fault : {X Y V W : Type 0} (seen : X → V) (view : Y → W) (step : Result V MountFault) (after : V → Result W MountFault) (fault : MountFault) → Finds seen step (Err fault) → Finds view (step >>= after) (Err fault)
finds_fault seen view step after NoSuper told = ap (λ r. r >>= after) told
finds_fault seen view step after Version told = ap (λ r. r >>= after) told
finds_fault seen view step after Mixed told = ap (λ r. r >>= after) told
finds_fault seen view step after BadLayout told = ap (λ r. r >>= after) told
finds_fault seen view step after NoEntry told = ap (λ r. r >>= after) told
finds_fault seen view step after (MissingEntry sequence) told = ap (λ r. r >>= after) told
finds_fault seen view step after (BadNode place) told = ap (λ r. r >>= after) told
finds_fault seen view step after (Unsound check) told = ap (λ r. r >>= after) told
finds_fault seen view step after (DeviceFault dev) told = tt
finds_fault seen view step after NoMemory told = tt

-- the same of what a step is equal to
pub finds_by : {X W : Type 0} (view : X → W) (one other : Result W MountFault) (result : Result X MountFault) → one ≡ other → Finds view other result → Finds view one result
finds_by view one other result same told = subst (λ (e : Result _ MountFault). Finds view e result) (sym same) told

-- A fault of the image that shows early is the one that is found.
pub finds_early : {X W : Type 0} (view : X → W) (expected : Result W MountFault) (fault : MountFault) → IsEarly fault → Finds view expected (Err fault) → expected ≡ Err fault
finds_early view expected NoSuper early told = told
finds_early view expected Version early told = told
finds_early view expected Mixed early told = told
finds_early view expected BadLayout early told = told
finds_early view expected NoEntry early told = told
finds_early view expected (MissingEntry sequence) early told = told
finds_early view expected (BadNode place) early told = absurd early
finds_early view expected (Unsound check) early told = absurd early
finds_early view expected (DeviceFault dev) early told = absurd early
finds_early view expected NoMemory early told = absurd early

-- What is found where something is.
pub read_is : (expected : Result Found MountFault) (f : Found) (result : Result FoundVolume MountFault) → expected ≡ Ok f → Finds found_of expected result → IsRead f result
read_is expected f (Ok read) is told = ok_is {E = MountFault} _ _ (sym told ∙ is)
read_is expected f (Err NoSuper) is told = let e : Err NoSuper ≡ Ok f = sym told ∙ is in absurd cc
read_is expected f (Err Version) is told = let e : Err Version ≡ Ok f = sym told ∙ is in absurd cc
read_is expected f (Err Mixed) is told = let e : Err Mixed ≡ Ok f = sym told ∙ is in absurd cc
read_is expected f (Err BadLayout) is told = let e : Err BadLayout ≡ Ok f = sym told ∙ is in absurd cc
read_is expected f (Err NoEntry) is told = let e : Err NoEntry ≡ Ok f = sym told ∙ is in absurd cc
read_is expected f (Err (MissingEntry sequence)) is told = let e : Err (MissingEntry sequence) ≡ Ok f = sym told ∙ is in absurd cc
read_is expected f (Err (BadNode place)) is told = let e : Err (BadNode place) ≡ Ok f = sym told ∙ is in absurd cc
read_is expected f (Err (Unsound check)) is told = let e : Err (Unsound check) ≡ Ok f = sym told ∙ is in absurd cc
read_is expected f (Err (DeviceFault dev)) is told = tt
read_is expected f (Err NoMemory) is told = tt

module _ (image : Image) (layout : Layout) (lays : carried super_fault (layout_in image) ≡ Ok layout) where
  pub to_session : found image ≡ session_by image layout
  to_session = found_steps image ∙ ap (λ r. r >>= session_by image) lays

  module _ (session : ℕ) (names : ok_or (session_in layout image) NoEntry ≡ Ok session) where
    pub to_entries : found image ≡ entries_by image layout session
    to_entries = to_session ∙ ap (λ r. r >>= entries_by image layout) names

    module _ (needed : List FoundEntry) (entries : entries_in layout (area_of image) ≡ Ok (with_last needed)) where
      pub to_trees : found image ≡ trees_by image layout session (with_last needed)
      to_trees = to_entries ∙ ap (λ r. r >>= trees_by image layout session) entries

      -- the btrees that are defined
      abbrev pub expected : Result TreesRead Place
      expected = trees_of (sets_in layout image) (updates_of needed) (last_of needed).entry.roots

      -- The btrees were read.
      pub found_told : (btrees : List FoundBtree) → Tells (λ (bs : List FoundBtree). joined (map btree_in bs)) expected (Ok btrees) → found image ≡ Ok (found_of (record { layout = layout; session = session; needed = needed; btrees = btrees }))
      found_told btrees told = to_trees ∙ ap (λ r. carried BadNode r >>= (λ trees. Ok (record { layout = layout; session = session; last = last_of needed; needed = needed; trees = trees }))) told

      -- They weren't.
      pub found_not : (fault : TreeFault) → Tells (λ (bs : List FoundBtree). joined (map btree_in bs)) expected (Err fault) → Finds found_of (found image) (Err (mount_fault fault))
      found_not (trees.BadNode place) told = to_trees ∙ ap (λ r. carried BadNode r >>= (λ trees. Ok (record { layout = layout; session = session; last = last_of needed; needed = needed; trees = trees }))) told
      found_not (trees.DeviceFault dev) told = tt
      found_not trees.NoMemory told = tt

      -- what is carried on as a value was one
      carried-ok : {X F : Type 0} (named : F → MountFault) (r : Result X F) (x : X) → carried named r ≡ Ok x → r ≡ Ok x
      carried-ok named (Ok y) x is = ap (λ v. Ok v) (ok_is y x is)
      carried-ok named (Err fault) x is = absurd cc

      -- Where the places of each node that is found agree, the btrees are sure.
      pub sure_trees : (f : Found) → found image ≡ Ok f → NodesAgree image f → AreSureTrees layout.id image expected
      sure_trees f is agree =
          let made = bind_ok (carried BadNode expected) (λ trees. Ok (record { layout = layout; session = session; last = last_of needed; needed = needed; trees = trees })) f (sym to_trees ∙ is) in
          let same : record { layout = layout; session = session; last = last_of needed; needed = needed; trees = made.0 } ≡ f = ok_is {E = MountFault} _ _ made.2 in
          record {
            trees = made.0;
            finds = carried-ok BadNode expected made.0 made.1;
            agree = subst (λ (g : Found). All (PlacesAgree g.layout.id image) (nodes_of g.trees.nodes)) (sym same) agree.each;
          }

own_births-ok : (twin : Option NodePtr) (read result : TreesRead) → option_map_or (λ (node : NodePtr). Err (first_place node)) twin (Ok read) ≡ Ok result → read ≡ result
own_births-ok None read result is = ok_is read result is
own_births-ok (Some node) read result is = absurd cc

-- Of sure btrees of a volume each is sure,
pub sure_btrees : (id : List ℕ) (image : Image) (sets : SetsOf) (updates : List Update) (roots : List NodePtr) → AreSureTrees id image (trees_of sets updates roots) → AreSureBtrees id image (each_of (btree_of sets updates) (with_roots roots))
unfolding trees_of
sure_btrees id image sets updates roots sure =
    let btrees = bind_ok (each_of (btree_of sets updates) (with_roots roots)) (λ (btrees : List BtreeRead). with_own_births (joined btrees)) sure.trees sure.finds in
    let same : joined btrees.0 ≡ sure.trees = own_births-ok (first_twin (nodes_of (joined btrees.0).nodes)) (joined btrees.0) sure.trees btrees.2 in
    record { btrees = btrees.0; finds = btrees.1; agree = subst (λ (t : TreesRead). All (PlacesAgree id image) (nodes_of t.nodes)) (sym same) sure.agree }

-- and they are what comes of them.
pub trees_told : (sets : SetsOf) (updates : List Update) (roots : List NodePtr) (btrees : List BtreeRead) → each_of (btree_of sets updates) (with_roots roots) ≡ Ok btrees → trees_of sets updates roots ≡ with_own_births (joined btrees)
unfolding trees_of
trees_told sets updates roots btrees is = ap (λ r. r >>= (λ (btrees : List BtreeRead). with_own_births (joined btrees))) is

pub trees_fault : {X Y : Type 0} (seen : X → List BtreeRead) (view : Y → TreesRead) (sets : SetsOf) (updates : List Update) (roots : List NodePtr) (fault : TreeFault) → Tells seen (each_of (btree_of sets updates) (with_roots roots)) (Err fault) → Tells view (trees_of sets updates roots) (Err fault)
unfolding trees_of
trees_fault seen view sets updates roots (trees.BadNode place) told = ap (λ r. r >>= (λ (btrees : List BtreeRead). with_own_births (joined btrees))) told
trees_fault seen view sets updates roots (trees.DeviceFault dev) told = tt
trees_fault seen view sets updates roots trees.NoMemory told = tt

-- A fault of the first, the second and the third step is that of what is found.
pub finds_at_layout : (image : Image) (fault : MountFault) → Finds {X = Layout} (λ layout. layout) (carried super_fault (layout_in image)) (Err fault) → Finds found_of (found image) (Err fault)
finds_at_layout image fault told = finds_by found_of (found image) (carried super_fault (layout_in image) >>= session_by image) (Err fault) (found_steps image) (finds_fault {X = Layout} (λ layout. layout) found_of (carried super_fault (layout_in image)) (session_by image) fault told)

pub finds_at_session : (image : Image) (layout : Layout) → carried super_fault (layout_in image) ≡ Ok layout → (fault : MountFault) → Finds {X = ℕ} (λ session. session) (ok_or (session_in layout image) NoEntry) (Err fault) → Finds found_of (found image) (Err fault)
finds_at_session image layout lays fault told = finds_by found_of (found image) (session_by image layout) (Err fault) (to_session image layout lays) (finds_fault {X = ℕ} (λ session. session) found_of (ok_or (session_in layout image) NoEntry) (entries_by image layout) fault told)

pub finds_at_entries : (image : Image) (layout : Layout) → carried super_fault (layout_in image) ≡ Ok layout → (session : ℕ) → ok_or (session_in layout image) NoEntry ≡ Ok session → (fault : MountFault)
    → Finds with_last (entries_in layout (area_of image)) (Err fault) → Finds found_of (found image) (Err fault)
finds_at_entries image layout lays session names fault told = finds_by found_of (found image) (entries_by image layout session) (Err fault) (to_entries image layout lays session names) (finds_fault with_last found_of (entries_in layout (area_of image)) (trees_by image layout session) fault told)

-- A result that hands a fault on finds what the fault does, and names its device.
pub handed_finds : {T W : Type 0} (view : T → W) (expected : Result W MountFault) (result : Result T MountFault) (error : MountFault) → IsErrAnd result (λ e. e ≡ error) → Finds view expected (Err error) → Finds view expected result
handed_finds view expected (Ok x) error is told = absurd is
handed_finds view expected (Err e) error is told = subst (λ (f : MountFault). Finds view expected (Err f)) (sym is) told

pub handed_cause : {T : Type 0} (result : Result T MountFault) (error : MountFault) (P : ℕ → Type 0) → IsErrAnd result (λ e. e ≡ error) → IfSome (mount_fault_device error) P → IfSome (failed_mount_device result) P
handed_cause (Ok x) error P is cause = absurd is
handed_cause (Err e) error P is cause = subst (λ (f : MountFault). IfSome (mount_fault_device f) P) (sym is) cause

-- What was found is the early fault that was told.
pub early_at : (expected : Result Found MountFault) (result : Result FoundVolume MountFault) (fault : MountFault) → Finds found_of expected result → result ≡ Err fault → IsEarly fault → expected ≡ Err fault
early_at expected result fault told is early = finds_early found_of expected fault early (subst (λ (r : Result FoundVolume MountFault). Finds found_of expected r) is told)

-- The member at a place is so whatever stands for none.
pub get_same : {X : Type 0} (xs : List X) (i : ℕ) (x d : X) → i < length xs → x ≡ get_or xs i x → x ≡ get_or xs i d
get_same [] i x d lt is = absurd (omega (arith, lt))
get_same (y ∷ ys) zero x d lt is = is
get_same (y ∷ ys) (suc i) x d lt is = get_same ys i x d (omega (arith, lt)) is

-- What holds of a list holds of a result that hands it on.
pub handed_list : {X E : Type 0} (P : List X → Type 0) (result : Result (List X) E) (list : List X) → IfOk result (λ own. own ≡ list) → P list → IfOk result P
handed_list P (Ok own) list same holds = subst P (sym same) holds
handed_list P (Err fault) list same holds = tt

-- What is told of a step is told of what is equal to it.
pub tells_by : {X W : Type 0} (view : X → W) (one other : Result W Place) (result : Result X TreeFault) → one ≡ other → Tells view other result → Tells view one result
tells_by view one other result same told = subst (λ (e : Result _ Place). Tells view e result) (sym same) told
