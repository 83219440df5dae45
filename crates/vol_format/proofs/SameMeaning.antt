-- Images that hold the same blocks mean the same, but for their superblocks.
use Rattle.std.proofs.Common.{◌≡◌, ℕ, zero, suc, ◌+◌, ◌-◌, ◌<◌, ◌≤◌, List, [], ◌∷◌, ◌++◌, length, get_or, slice_get, map, Some, Result, Ok, Err, ◌⊎◌, inl, inr, ⊎_elim, refl, ap, ◌∙◌, sym, subst, arith}
use Rattle.std.specs.Prelude.{All, cond, ◌/◌, nat_lt, Bool, true, false, option_and_then, IsErr}
use Rattle.std.specs.List.{flat_map}
use Rattle.std.specs.Option.{IsSome, is_some, ok_or}
use Rattle.std.specs.Result.{is_err}
use Rattle.std.proofs.lemmas.Bool.{cases_order, cases_lt, false≢true}
use Rattle.std.proofs.lemmas.List.Elements.{All-cons, All-head, All-map, All-nil, All-tail, All-weaker}
use Rattle.std.proofs.lemmas.Option.{slice_get-get_or, slice_get_past}
use Rattle.vol_types.specs.Limits.{bucket_blocks}
use Rattle.vol_types.specs.declared.layout.Layout.{Layout}
use Rattle.vol_types.specs.declared.pointers.NodePtr.{NodePtr}
use Rattle.vol_types.specs.declared.pointers.Place.{Place}
use Rattle.vol_types.specs.declared.pointers.Pointer.{Pointer}
use Rattle.vol_types.specs.declared.positions.Pos.{Pos}
use Rattle.vol_types.specs.declared.values.Extent.{Extent}
use Rattle.vol_types.specs.declared.values.Value.{Value}
use Rattle.vol_types.specs.declared.values.Value.TheVariants as values
use Rattle.dev_model.specs.Disk.{Image, block_at, blocks_of}
use Rattle.geometry.specs.declared.fault.SuperFault.{SuperFault}
use Rattle.geometry.specs.LayoutFacts.{has_places}
use Rattle.geometry.specs.Sessions.{greater, greatest_session, session_at, session_in, session_named}
use Rattle.geometry.specs.SuperLaws.{layout_fits, same_layout}
use Rattle.geometry.specs.Superblocks.{counting, layout_in}
use Rattle.journal_ring.specs.Counting.{needed_by, newest}
use Rattle.journal_ring.specs.Entries.{IsMadeOf}
use Rattle.journal_ring.specs.Parts.{Area, area_of}
use Rattle.journal_ring.specs.declared.found.FoundEntry.{FoundEntry}
use Rattle.key_codec.specs.Combined.{ok_is}
use Rattle.key_codec.specs.Formats.{◌>>=◌, carried}
use Rattle.key_meaning.specs.Blocks.{block_of, blocks_of as blocks_in, place_at}
use Rattle.key_meaning.specs.Checks.{AreNodesPlaced, HasWellPlaced, IsNodePlaced, IsWellPlaced, kept_buckets, pointers_of}
use Rattle.key_meaning.specs.ReadLaws.{forest_in-agree}
use Rattle.image_view.specs.BaseLaws.{content-same, found-layout, found-newest, found-session, found-trees, node-same}
use Rattle.image_view.specs.Bases.{AgreeAt, AgreeInBucket, AgreeOnContent, AgreeOnEntry, AgreeOnNode, IsNewest}
use Rattle.image_view.specs.CopyLaws.{agree-same}
use Rattle.image_view.specs.Found.{AreOwned, IsInOrder, Found, found, node_places, read_in, sets_in, super_fault, updates_of}
use Rattle.image_view.specs.TreeLaws.{HaveSameSets, trees_of-same}
use Rattle.image_view.specs.Trees.{TreesRead, nodes_of, trees_of}
use Rattle.image_view.specs.declared.fault.MountFault.{MountFault}
use Rattle.image_view.specs.declared.fault.MountFault.TheVariants.{BadNode, MissingEntry, NoEntry}
use Rattle.vol_format.specs.Formatting.{KeepsMeaning}

-- Two images hold the same but in blocks 0 and 8.
abbrev pub SameBehind : Image → Image → Type 0
SameBehind one other = (dev block : ℕ) → ¬ (block ≡ 0) → ¬ (block ≡ 8) → block_at one dev block ≡ block_at other dev block

same_sessions : (id : List ℕ) (one other : Image) (devices : ℕ) → SameBehind one other → greatest_session id one devices ≡ greatest_session id other devices
same_sessions id one other zero same = refl
same_sessions id one other (suc dev) same =
    let four : session_at id one dev 4 ≡ session_at id other dev 4 = ap (option_and_then (session_named id 4)) (same dev 4 (λ e. omega (arith, e)) (λ e. omega (arith, e))) in
    let five : session_at id one dev 5 ≡ session_at id other dev 5 = ap (option_and_then (session_named id 5)) (same dev 5 (λ e. omega (arith, e)) (λ e. omega (arith, e))) in
    ap (λ before. greater before (greater (session_at id one dev 4) (session_at id one dev 5))) (same_sessions id one other dev same)
    ∙ ap (λ n. greater (greatest_session id other dev) (greater n (session_at id one dev 5))) four
    ∙ ap (λ n. greater (greatest_session id other dev) (greater (session_at id other dev 4) n)) five

-- ---- what lies behind the first bucket

kept_some : (test : Bool) (count : ℕ) → 1 ≤ cond {A = ℕ} test (1 + count) 1
kept_some true count = omega arith
kept_some false count = omega arith

-- What is behind the buckets that are kept is behind the first one.
behind_first : (layout : Layout) (dev block : ℕ) → kept_buckets layout dev ≤ block / bucket_blocks → 16 ≤ block
behind_first layout dev block behind =
    let some : 1 ≤ kept_buckets layout dev = kept_some (nat_lt dev layout.metadata_replicas) (layout.journal / bucket_blocks) in
    omega (arith, behind, some)

-- What holds of all that come of some things holds of all that come of each.
all_of_each : {A B : Type 0} (P : B → Type 0) (g : A → List B) (xs : List A) → All P (flat_map g xs) → All (λ x. All P (g x)) xs
all_of_each P g [] all = All-nil (λ x. All P (g x))
all_of_each {B = B} P g (x ∷ xs) all = All-cons (λ y. All P (g y)) x xs (left (g x) all) (all_of_each P g xs (right (g x) all))
  where
    left : (ys : List B) → All P (ys ++ flat_map g xs) → All P ys
    left [] some = All-nil P
    left (y ∷ ys) some = All-cons P y ys (All-head P y (ys ++ flat_map g xs) some) (left ys (All-tail P y (ys ++ flat_map g xs) some))

    right : (ys : List B) → All P (ys ++ flat_map g xs) → All P (flat_map g xs)
    right [] some = some
    right (y ∷ ys) some = right ys (All-tail P y (ys ++ flat_map g xs) some)

module _ (one other : Image) (same : SameBehind one other) where
  far_same : (dev block : ℕ) → 16 ≤ block → AgreeAt one other dev block
  far_same dev block far = same dev block (λ (e : block ≡ 0). omega (arith, e, far)) (λ (e : block ≡ 8). omega (arith, e, far))

  area_same : area_of one ≡ area_of other
  area_same = λ i dev place. far_same dev (16 + place) (omega arith) i

  bucket_same : (layout : Layout) (place : Place) → IsNodePlaced layout place → AgreeInBucket one other place
  bucket_same layout place placed n few =
      let far : 16 ≤ place.block = behind_first layout place.dev place.block placed.behind in
      far_same place.dev (place.block + n) (omega (arith, far))

  -- The buckets of nodes that lie where nodes may are the same.
  nodes_same : (f : Found) → AreNodesPlaced (node_places f) f.layout → All (AgreeOnNode one other) (nodes_of f.trees.nodes)
  nodes_same f placed = All-weaker (λ (node : NodePtr). All (IsNodePlaced f.layout) node.places) (AgreeOnNode one other)
      (λ node each. All-weaker (IsNodePlaced f.layout) (AgreeInBucket one other) (bucket_same f.layout) node.places each) (nodes_of f.trees.nodes)
      (all_of_each (IsNodePlaced f.layout) (λ (node : NodePtr). node.places) (nodes_of f.trees.nodes) placed.each)

  newest_same : (f : Found) → IsNewest f one → IsNewest f other
  newest_same f new = record {
    last = subst (λ (area : Area). newest f.layout area ≡ Some f.last) area_same new.last;
    needed = subst (λ (area : Area). needed_by f.layout area f.last ≡ Ok f.needed) area_same new.needed;
  }

  -- The blocks of extents that are well placed are the same.
  extent_same : (layout : Layout) (nodes : List Place) (extent : Extent) (count index : ℕ) → All (IsWellPlaced nodes layout count) extent.pointers → All (λ place. AgreeAt one other place.dev place.block) (block_of extent index).places
  extent_same layout nodes extent count index all = All-map (λ place. AgreeAt one other place.dev place.block) (place_at index) extent.pointers
      (All-weaker (IsWellPlaced nodes layout count) (λ (pointer : Pointer). AgreeAt one other (place_at index pointer).dev (place_at index pointer).block)
      (λ pointer placed.
      let far : 16 ≤ pointer.place.block = behind_first layout pointer.place.dev pointer.place.block placed.for_users in
      far_same pointer.place.dev (pointer.place.block + index) (omega (arith, far))) extent.pointers all)

  content_same : (f : Found) (nodes : List Place) → All (HasWellPlaced nodes f.layout) f.trees.keys.extents → AgreeOnContent f one other
  content_same f nodes all = record {
    extents = All-weaker (HasWellPlaced nodes f.layout) (AgreeOnEntry one other)
        (λ (entry : Pos × Value) placed extent is index lower.
        extent_same f.layout nodes extent (blocks_in (values.Extent extent)) index (subst (λ (v : Value). All (IsWellPlaced nodes f.layout (blocks_in v)) (pointers_of v)) is placed))
        f.trees.keys.extents all;
  }

-- ---- what is found

sets_same : (layout : Layout) (one other : Image) (pointers : List NodePtr) → All (AgreeOnNode one other) pointers → HaveSameSets (sets_in layout one) (sets_in layout other) pointers
sets_same layout one other [] agree = tt
sets_same layout one other (pointer ∷ pointers) agree =
    (node-same layout one other pointer (All-head (AgreeOnNode one other) pointer pointers agree), sets_same layout one other pointers (All-tail (AgreeOnNode one other) pointer pointers agree))

-- what is carried on as a value was one
carried_ok : {E F X : Type 0} (named : F → E) (r : Result X F) (x : X) → carried named r ≡ Ok x → r ≡ Ok x
carried_ok named (Ok y) x is = ap (λ v. Ok v) (ok_is y x is)
carried_ok named (Err fault) x is = absurd cc

-- the steps of what is found, each with those after it; the last one
abbrev made : Layout → ℕ → FoundEntry → List FoundEntry → TreesRead → Result Found MountFault
made layout session last needed trees = Ok (record { layout = layout; session = session; last = last; needed = needed; trees = trees })

abbrev trees_by : Image → Layout → ℕ → FoundEntry → List FoundEntry → Result Found MountFault
trees_by image layout session last needed = carried BadNode (trees_of (sets_in layout image) (updates_of needed) last.entry.roots) >>= made layout session last needed

abbrev entries_by : Image → Layout → ℕ → FoundEntry → Result Found MountFault
entries_by image layout session last = carried MissingEntry (needed_by layout (area_of image) last) >>= trees_by image layout session last

abbrev last_by : Image → Layout → ℕ → Result Found MountFault
last_by image layout session = ok_or (newest layout (area_of image)) NoEntry >>= entries_by image layout session

abbrev session_by : Image → Layout → Result Found MountFault
session_by image layout = ok_or (session_in layout image) NoEntry >>= last_by image layout

found_steps : (image : Image) → found image ≡ (carried super_fault (layout_in image) >>= session_by image)
unfolding found
found_steps image = refl

-- What is found where each step gives this.
pub found_of : (image : Image) (f : Found) → layout_in image ≡ Ok f.layout → session_in f.layout image ≡ Some f.session → newest f.layout (area_of image) ≡ Some f.last → needed_by f.layout (area_of image) f.last ≡ Ok f.needed
    → trees_of (sets_in f.layout image) (updates_of f.needed) f.last.entry.roots ≡ Ok f.trees → found image ≡ Ok f
found_of image f lays names last needed trees =
    found_steps image
    ∙ ap (λ r. carried super_fault r >>= session_by image) lays
    ∙ ap (λ s. ok_or s NoEntry >>= last_by image f.layout) names
    ∙ ap (λ n. ok_or n NoEntry >>= entries_by image f.layout f.session) last
    ∙ ap (λ n. carried MissingEntry n >>= trees_by image f.layout f.session f.last) needed
    ∙ ap (λ t. carried BadNode t >>= made f.layout f.session f.last f.needed) trees

-- What is found in an image is found in one with the same layout and the same blocks elsewhere.
finds_same : (one other : Image) → layout_in one ≡ layout_in other → SameBehind one other → (f : Found) → found one ≡ Ok f → AreNodesPlaced (node_places f) f.layout → found other ≡ Ok f
finds_same one other layouts same f is placed =
    found_of other f (sym layouts ∙ found-layout one f is)
    (sym (same_sessions f.layout.id one other f.layout.metadata_replicas same) ∙ found-session one f is)
    (newest_same one other same f (found-newest one f is)).last
    (newest_same one other same f (found-newest one f is)).needed
    (trees_of-same (sets_in f.layout one) (sets_in f.layout other) (updates_of f.needed) f.last.entry.roots f.trees (found-trees one f is) (sets_same f.layout one other (nodes_of f.trees.nodes) (nodes_same one other same f placed)))

-- It is in order where it was.
order_same : (one other : Image) → SameBehind one other → (f : Found) → AreNodesPlaced (node_places f) f.layout → IsInOrder f one → IsInOrder f other
order_same one other same f placed order =
    let areas : area_of one ≡ area_of other = area_same one other same in
    record {
      entries = order.entries;
      fits = order.fits;
      others = λ entry blocks made. order.others entry blocks (subst (λ (area : Area). IsMadeOf f.layout area entry blocks) (sym areas) made);
      owners = subst (λ (area : Area). AreOwned f.layout f.session area) areas order.owners;
      levels = order.levels;
      agree = record { each = agree-same f.layout.id one other (nodes_of f.trees.nodes) (nodes_same one other same f placed) order.agree.each };
      births = order.births;
    }

-- Images with the same layout mean the same if they hold the same elsewhere.
pub same_meaning : (one other : Image) → layout_in one ≡ layout_in other → SameBehind one other → KeepsMeaning one other
same_meaning one other layouts same = record {
  finds = finds_same one other layouts same;
  in_order = order_same one other same;
  mounts = λ volume mounts.
      let f = mounts.f in
      let placed = mounts.sound.blocks in
      record {
        f = f;
        finds = finds_same one other layouts same f mounts.finds placed.nodes_placed;
        sound = mounts.sound;
        volume_is = mounts.volume_is
            ∙ ap (λ forest. record { layout = f.layout; commits = f.last.entry.commits; forest = forest }) (forest_in-agree f.trees.keys (read_in one) (read_in other) (content-same f one other (content_same one other same f (node_places f) placed.placed)));
      };
}

-- An image means what it means.
pub keeps_itself : (image : Image) → KeepsMeaning image image
keeps_itself image = record { finds = λ f is placed. is; in_order = λ f placed order. order; mounts = λ volume mounts. mounts }

-- In an image without a layout nothing is found.
pub no_layout : (image : Image) (fault : SuperFault) → layout_in image ≡ Err fault → IsErr (found image)
no_layout image fault is = ap is_err (found_steps image ∙ ap (λ r. carried super_fault r >>= session_by image) is)

some_within : (blocks : List (List ℕ)) (i : ℕ) → i < length blocks → IsSome (slice_get blocks i)
some_within blocks i within = ap is_some (slice_get-get_or blocks i [] within)

some_is_within : (blocks : List (List ℕ)) (i : ℕ) → IsSome (slice_get blocks i) → i < length blocks
some_is_within blocks i some = ⊎_elim (λ (within : i < length blocks). within) (λ (past : length blocks ≤ i). absurd (false≢true (subst IsSome (slice_get_past blocks i past) some))) (cases_lt i (length blocks))

same_length : (one other : List (List ℕ)) → 1024 ≤ length one → ((i : ℕ) → ¬ (i ≡ 0) → ¬ (i ≡ 8) → slice_get one i ≡ slice_get other i) → length one ≡ length other
same_length one other long same = ⊎_elim (λ (e : length one ≡ length other). e) (λ (differ : (length one < length other) ⊎ (length other < length one)). ⊎_elim
    (λ (shorter : length one < length other).
    absurd (let bad : length one < length one = some_is_within one (length one) (subst IsSome (sym (same (length one) (λ e. omega (arith, e)) (λ e. omega (arith, e)))) (some_within other (length one) shorter)) in omega (arith, bad)))
    (λ (longer : length other < length one).
    absurd (let last : ℕ = length one - 1 in
    let bad : last < length other = some_is_within other last (subst IsSome (same last (λ e. omega (arith, e)) (λ e. omega (arith, e))) (some_within one last (omega arith))) in omega (arith, bad)))
    differ)
    (cases_order (length one) (length other))

same_sizes : (one other : Image) → length one ≡ length other → ((dev : ℕ) → dev < length one → 1024 ≤ length (blocks_of one dev)) → SameBehind one other → map (λ blocks. length blocks) one ≡ map (λ blocks. length blocks) other
same_sizes [] [] count long same = refl
same_sizes [] (b ∷ other) count long same = absurd (omega (arith, count))
same_sizes (a ∷ one) [] count long same = absurd (omega (arith, count))
same_sizes (a ∷ one) (b ∷ other) count long same =
    ap (λ n. n ∷ map (λ (blocks : List (List ℕ)). length blocks) one) (same_length a b (long 0 (omega arith)) (λ i z e. same 0 i z e))
    ∙ ap (λ ns. length b ∷ ns) (same_sizes one other (omega (arith, count)) (λ dev within. long (suc dev) (omega (arith, within))) (λ dev block z e. same (suc dev) block z e))

-- The size of a device of an image.
pub size_of : (image : Image) (dev : ℕ) → get_or (map (λ blocks. length blocks) image) dev 0 ≡ length (blocks_of image dev)
size_of [] zero = refl
size_of [] (suc dev) = refl
size_of (blocks ∷ image) zero = refl
size_of (blocks ∷ image) (suc dev) = size_of image dev

pub count_of : (image : Image) → length (map (λ (blocks : List (List ℕ)). length blocks) image) ≡ length image
count_of [] = refl
count_of (blocks ∷ image) = ap suc (count_of image)

-- Where the copies that count are the same, and all blocks after, the image means the same or doesn't mount.
pub same_or_none : (image before : Image) → length image ≡ length before → ((dev : ℕ) → counting (blocks_of image dev) ≡ counting (blocks_of before dev)) → SameBehind image before → (KeepsMeaning before image × KeepsMeaning image before) ⊎ IsErr (found image)
same_or_none image before count copies same = by_layout (layout_in image) refl
  where
    by_layout : (lays : Result Layout SuperFault) → layout_in image ≡ lays → (KeepsMeaning before image × KeepsMeaning image before) ⊎ IsErr (found image)
    by_layout (Err fault) is = inr (no_layout image fault is)
    by_layout (Ok layout) is =
        let sizes : List ℕ = map (λ (blocks : List (List ℕ)). length blocks) image in
        let has = has_places sizes layout (layout_fits image layout is) in
        let long : (dev : ℕ) → dev < length image → 1024 ≤ length (blocks_of image dev) = λ dev within.
        let there : dev < length sizes = omega (arith, within, count_of image) in
        omega (arith, has.shortest dev there, has.longer dev there, size_of image dev) in
        let layouts : layout_in image ≡ layout_in before = same_layout image before (same_sizes image before count long same) copies in
        inl (same_meaning before image (sym layouts) (λ dev block one two. sym (same dev block one two)), same_meaning image before layouts same)
