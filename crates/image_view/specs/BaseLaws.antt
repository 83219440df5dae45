-- The law over images: what two images mean is the same where they agree on the base of an entry that is the newest in both.
use Rattle.std.proofs.Common.{◌≡◌, ℕ, zero, suc, ◌+◌, ◌<◌, ◌≤◌, Bool, true, false, cond, List, [], ◌∷◌, ◌++◌, length, map, drop, Option, Some, None, Result, Ok, Err, refl, sym, ap, subst, ◌∙◌, arith}
use Rattle.std.specs.Option.{ok_or, option_or}
use Rattle.std.specs.List.{range_with_len}
use Rattle.std.specs.Prelude.{All, option_and_then, ◌&&◌, ◌==◌, nat_le, slice_index, slice_index_or}
use Rattle.std.proofs.lemmas.Bool.{and_parts, eq-eqb, eqb-true, le-leb, leb-true}
use Rattle.std.proofs.lemmas.List.{length-map}
use Rattle.std.proofs.lemmas.List.FromFn.{length-range_with_len}
use Rattle.std.specs.Cmp.Derive.{both_true}
use Rattle.std.proofs.lemmas.List.Elements.{All-cons, All-from_recursion, All-head, All-nil, All-tail, All-weaker}
use Rattle.dev_model.specs.Disk.{Image, block_at}
use Rattle.geometry.specs.Sessions.{greater, greatest_session, session_at, session_in, session_named}
use Rattle.geometry.specs.Superblocks.{layout_in}
use Rattle.geometry.specs.SuperLaws.{same_counting, same_layout}
use Rattle.journal_ring.specs.Counting.{needed_by, newest}
use Rattle.journal_ring.specs.Parts.{area_of}
use Rattle.journal_ring.specs.declared.found.FoundEntry.{FoundEntry}
use Rattle.key_codec.specs.Combined.{bind_ok, ok_is}
use Rattle.key_codec.specs.Formats.{◌>>=◌, carried}
use Rattle.node_store.specs.Copies.{copies_at, copy_at, shown_at, shown_below, shown_in}
use Rattle.node_store.specs.NodeContents.{NodeContent, content_in, wanted_of}
use Rattle.vol_types.specs.Limits.{bucket_blocks}
use Rattle.vol_types.specs.declared.layout.Layout.{Layout}
use Rattle.vol_types.specs.declared.pointers.NodePtr.{NodePtr}
use Rattle.vol_types.specs.declared.pointers.Place.{Place}
use Rattle.key_meaning.specs.Blocks.{block_of}
use Rattle.key_meaning.specs.Checks.{IsSound}
use Rattle.key_meaning.specs.ReadLaws.{forest_in-agree}
use Rattle.key_meaning.specs.Reads.{AgreeOnBlocks, AgreeOnEntry as ReadAlike}
use Rattle.image_view.specs.Bases.{AgreeAt, AgreeInBucket, AgreeOnBase, AgreeOnContent, AgreeOnEntry, AgreeOnNode, AgreeOnNodes, IsNewest}
use Rattle.image_view.specs.Found.{Found, IsMirrored, MountsAs, Volume, are_mirrored, bad_place, found, node_places, read_in, sets_in, super_fault, updates_of, volume_of, with_digest, with_session}
use Rattle.image_view.specs.TreeLaws.{HasSameSets, HaveSameSets, trees_of-each, trees_of-same}
use Rattle.image_view.specs.Trees.{TreesRead, Wanted, first_place, nodes_of, trees_of}
use Rattle.image_view.specs.declared.fault.MountFault.{MountFault}
use Rattle.image_view.specs.declared.fault.MountFault.TheVariants.{BadNode, MissingEntry, NoEntry}

-- ---- the buckets of nodes

-- the first so many blocks of a bucket
below-same : (one other : Image) (place : Place) (count : ℕ) → count ≤ bucket_blocks → AgreeInBucket one other place → shown_below (block_at other) place count ≡ shown_below (block_at one) place count
below-same one other place zero few agree = refl
below-same one other place (suc n) few agree =
    ap (λ shown. shown ++ shown_at (block_at other) place n ∷ []) (below-same one other place n (omega (arith, few)) agree)
    ∙ ap (λ bytes. shown_below (block_at one) place n ++ option_and_then shown_in bytes ∷ []) (sym (agree n (omega (arith, few))))

-- a bucket shows the same where the images agree on it
copy-same : (one other : Image) (place : Place) → AgreeInBucket one other place → copy_at (block_at other) place ≡ copy_at (block_at one) place
unfolding copy_at
copy-same one other place agree = below-same one other place bucket_blocks (omega arith) agree

-- and so at several places
pub copies-same : (one other : Image) (places : List Place) → All (AgreeInBucket one other) places → copies_at (block_at other) places ≡ copies_at (block_at one) places
copies-same one other [] agree = refl
copies-same one other (place ∷ places) agree =
    ap (λ copy. copy ∷ copies_at (block_at other) places) (copy-same one other place (All-head (AgreeInBucket one other) place places agree))
    ∙ ap (λ copies. copy_at (block_at one) place ∷ copies) (copies-same one other places (All-tail (AgreeInBucket one other) place places agree))

-- Images in which a node's copies show the same have the same sets of it.
pub shown-same : (layout : Layout) (one other : Image) (pointer : NodePtr) → copies_at (block_at other) pointer.places ≡ copies_at (block_at one) pointer.places → HasSameSets (sets_in layout one) (sets_in layout other) pointer
shown-same layout one other pointer same = λ btree least greatest.
    ap (λ copies. cond (are_mirrored layout 0 pointer.places) (carried (bad_place pointer) (content_in copies layout.id (wanted_of btree least greatest pointer))) (Err (first_place pointer))) same

-- So have those that agree on its buckets.
pub node-same : (layout : Layout) (one other : Image) (pointer : NodePtr) → AgreeOnNode one other pointer → HasSameSets (sets_in layout one) (sets_in layout other) pointer
node-same layout one other pointer agree = shown-same layout one other pointer (copies-same one other pointer.places agree)

nodes-same : (layout : Layout) (one other : Image) (pointers : List NodePtr) → All (AgreeOnNode one other) pointers → HaveSameSets (sets_in layout one) (sets_in layout other) pointers
nodes-same layout one other [] agree = tt
nodes-same layout one other (pointer ∷ pointers) agree =
    (node-same layout one other pointer (All-head (AgreeOnNode one other) pointer pointers agree), nodes-same layout one other pointers (All-tail (AgreeOnNode one other) pointer pointers agree))

-- ---- the sessions

session_at-same : (id : List ℕ) (one other : Image) (dev block : ℕ) → block_at one dev block ≡ block_at other dev block → session_at id other dev block ≡ session_at id one dev block
session_at-same id one other dev block agree = ap (option_and_then (session_named id block)) (sym agree)

pub greatest_session-same : (id : List ℕ) (one other : Image) (count : ℕ) → ((dev : ℕ) → dev < count → block_at one dev 4 ≡ block_at other dev 4) → ((dev : ℕ) → dev < count → block_at one dev 5 ≡ block_at other dev 5)
    → greatest_session id other count ≡ greatest_session id one count
greatest_session-same id one other zero even odd = refl
greatest_session-same id one other (suc dev) even odd =
    ap (λ s. greater s (greater (session_at id other dev 4) (session_at id other dev 5))) (greatest_session-same id one other dev (λ d lt. even d (omega (arith, lt))) (λ d lt. odd d (omega (arith, lt))))
    ∙ ap (λ s. greater (greatest_session id one dev) (greater s (session_at id other dev 5))) (session_at-same id one other dev 4 (even dev (omega arith)))
    ∙ ap (λ s. greater (greatest_session id one dev) (greater (session_at id one dev 4) s)) (session_at-same id one other dev 5 (odd dev (omega arith)))

-- ---- what is found

-- what is carried on as a value was one
pub carried-ok : {E F X : Type 0} (named : F → E) (r : Result X F) (x : X) → carried named r ≡ Ok x → r ≡ Ok x
carried-ok named (Ok y) x is = ap (λ v. Ok v) (ok_is y x is)
carried-ok named (Err fault) x is = absurd cc

-- the steps of what is found, each with those after it; the last one
abbrev made : Layout → ℕ → FoundEntry → List FoundEntry → TreesRead → Result Found MountFault
made layout session last needed trees = Ok (record { layout = layout; session = session; last = last; needed = needed; trees = trees })

abbrev trees_by : Image → Layout → ℕ → FoundEntry → List FoundEntry → Result Found MountFault
trees_by image layout session last needed = carried BadNode (trees_of (sets_in layout image) (updates_of needed) last.entry.roots) >>= made layout session last needed

abbrev entries_by : Image → Layout → ℕ → FoundEntry → Result Found MountFault
entries_by image layout session last = carried MissingEntry (needed_by layout (area_of image) last) >>= trees_by image layout session last

abbrev last_by : Image → Layout → ℕ → Result Found MountFault
last_by image layout session = ok_or (newest layout (area_of image)) NoEntry >>= entries_by image layout session

abbrev session_by : Image → Layout → Result Found MountFault
session_by image layout = ok_or (session_in layout image) NoEntry >>= last_by image layout

found-steps : (image : Image) → found image ≡ (carried super_fault (layout_in image) >>= session_by image)
unfolding found
found-steps image = refl

module _ (one other : Image) (layout : Layout) (session named : ℕ) (last : FoundEntry) (needed : List FoundEntry) (trees : TreesRead) where
  parts-same : carried super_fault (layout_in one) ≡ Ok layout → trees_of (sets_in layout one) (updates_of needed) last.entry.roots ≡ Ok trees
      → AgreeOnNodes (record { layout = layout; session = session; last = last; needed = needed; trees = trees }) one other → session_in layout other ≡ Some named → IsNewest (record { layout = layout; session = session; last = last; needed = needed; trees = trees }) other
      → found other ≡ made layout named last needed trees
  parts-same lays read agree names new =
      let layouts : layout_in one ≡ layout_in other = same_layout one other agree.lengths (λ dev. same_counting one other dev (agree.first_copies dev) (agree.second_copies dev)) in
      found-steps other
      ∙ ap (λ r. carried super_fault r >>= session_by other) (sym layouts)
      ∙ ap (λ r. r >>= session_by other) lays
      ∙ ap (λ s. ok_or s NoEntry >>= last_by other layout) names
      ∙ ap (λ n. ok_or n NoEntry >>= entries_by other layout named) new.last
      ∙ ap (λ n. carried MissingEntry n >>= trees_by other layout named last) new.needed
      ∙ ap (λ t. carried BadNode t >>= made layout named last needed)
      (trees_of-same (sets_in layout one) (sets_in layout other) (updates_of needed) last.entry.roots trees read (nodes-same layout one other (nodes_of trees.nodes) agree.nodes))

or_none : {X : Type 0} (o : Option X) (x : X) (fault : MountFault) → ok_or o fault ≡ Ok x → o ≡ Some x
or_none None x fault same = absurd cc
or_none (Some y) x fault same = ap (λ v. Some v) (ok_is y x same)

-- What is found in an image is found in each one that agrees with it on the superblocks and the nodes, in the session that it names,
-- where the newest entry is the same, and the entries that it needs are.
pub found-again : (one other : Image) (f : Found) (session : ℕ) → found one ≡ Ok f → AgreeOnNodes f one other → session_in f.layout other ≡ Some session → IsNewest f other → found other ≡ Ok (with_session session f)
found-again one other f session is agree names new =
    let a = bind_ok (carried super_fault (layout_in one)) (session_by one) f (sym (found-steps one) ∙ is) in
    let b = bind_ok (ok_or (session_in a.0 one) NoEntry) (last_by one a.0) f a.2 in
    let c = bind_ok (ok_or (newest a.0 (area_of one)) NoEntry) (entries_by one a.0 b.0) f b.2 in
    let d = bind_ok (carried MissingEntry (needed_by a.0 (area_of one) c.0)) (trees_by one a.0 b.0 c.0) f c.2 in
    let e = bind_ok (carried BadNode (trees_of (sets_in a.0 one) (updates_of d.0) c.0.entry.roots)) (made a.0 b.0 c.0 d.0) f d.2 in
    let parts : Found = record { layout = a.0; session = b.0; last = c.0; needed = d.0; trees = e.0 } in
    let whole : parts ≡ f = ok_is parts f e.2 in
    parts-same one other a.0 b.0 session c.0 d.0 e.0 a.1 (carried-ok BadNode (trees_of (sets_in a.0 one) (updates_of d.0) c.0.entry.roots) e.0 e.1)
    (subst (λ (g : Found). AgreeOnNodes g one other) (sym whole) agree)
    (subst (λ (g : Found). session_in g.layout other ≡ Some session) (sym whole) names)
    (subst (λ (g : Found). IsNewest g other) (sym whole) new)
    ∙ ap (λ (g : Found). Ok (with_session session g)) whole

-- An image's session is the one that was found.
pub found-session : (image : Image) (f : Found) → found image ≡ Ok f → session_in f.layout image ≡ Some f.session
found-session image f is =
    let a = bind_ok (carried super_fault (layout_in image)) (session_by image) f (sym (found-steps image) ∙ is) in
    let b = bind_ok (ok_or (session_in a.0 image) NoEntry) (last_by image a.0) f a.2 in
    let c = bind_ok (ok_or (newest a.0 (area_of image)) NoEntry) (entries_by image a.0 b.0) f b.2 in
    let d = bind_ok (carried MissingEntry (needed_by a.0 (area_of image) c.0)) (trees_by image a.0 b.0 c.0) f c.2 in
    let e = bind_ok (carried BadNode (trees_of (sets_in a.0 image) (updates_of d.0) c.0.entry.roots)) (made a.0 b.0 c.0 d.0) f d.2 in
    let parts : Found = record { layout = a.0; session = b.0; last = c.0; needed = d.0; trees = e.0 } in
    subst (λ (g : Found). session_in g.layout image ≡ Some g.session) (ok_is parts f e.2) (or_none (session_in a.0 image) b.0 NoEntry b.1)

-- The law over images: what is found in an image is found in each one that agrees with it on the base of its newest entry, where that
-- entry is the newest too, and the entries that it needs are the same.
pub found-same : (one other : Image) (f : Found) → found one ≡ Ok f → AgreeOnBase f one other → IsNewest f other → found other ≡ Ok f
found-same one other f is agree new =
    found-again one other f f.session is (record { lengths = agree.lengths; first_copies = agree.first_copies; second_copies = agree.second_copies; nodes = agree.nodes })
    (greatest_session-same f.layout.id one other f.layout.metadata_replicas agree.even_sessions agree.odd_sessions ∙ found-session one f is) new

-- What an image's own newest entry is follows from what was found.
pub found-newest : (image : Image) (f : Found) → found image ≡ Ok f → IsNewest f image
found-newest image f is =
    let a = bind_ok (carried super_fault (layout_in image)) (session_by image) f (sym (found-steps image) ∙ is) in
    let b = bind_ok (ok_or (session_in a.0 image) NoEntry) (last_by image a.0) f a.2 in
    let c = bind_ok (ok_or (newest a.0 (area_of image)) NoEntry) (entries_by image a.0 b.0) f b.2 in
    let d = bind_ok (carried MissingEntry (needed_by a.0 (area_of image) c.0)) (trees_by image a.0 b.0 c.0) f c.2 in
    let e = bind_ok (carried BadNode (trees_of (sets_in a.0 image) (updates_of d.0) c.0.entry.roots)) (made a.0 b.0 c.0 d.0) f d.2 in
    let parts : Found = record { layout = a.0; session = b.0; last = c.0; needed = d.0; trees = e.0 } in
    subst (λ (g : Found). IsNewest g image) (ok_is parts f e.2) (record {
      last = or_none (newest a.0 (area_of image)) c.0 NoEntry c.1;
      needed = carried-ok MissingEntry (needed_by a.0 (area_of image) c.0) d.0 d.1;
    })

-- And so does its layout.
pub found-layout : (image : Image) (f : Found) → found image ≡ Ok f → layout_in image ≡ Ok f.layout
found-layout image f is =
    let a = bind_ok (carried super_fault (layout_in image)) (session_by image) f (sym (found-steps image) ∙ is) in
    let b = bind_ok (ok_or (session_in a.0 image) NoEntry) (last_by image a.0) f a.2 in
    let c = bind_ok (ok_or (newest a.0 (area_of image)) NoEntry) (entries_by image a.0 b.0) f b.2 in
    let d = bind_ok (carried MissingEntry (needed_by a.0 (area_of image) c.0)) (trees_by image a.0 b.0 c.0) f c.2 in
    let e = bind_ok (carried BadNode (trees_of (sets_in a.0 image) (updates_of d.0) c.0.entry.roots)) (made a.0 b.0 c.0 d.0) f d.2 in
    let parts : Found = record { layout = a.0; session = b.0; last = c.0; needed = d.0; trees = e.0 } in
    carried-ok super_fault (layout_in image) f.layout (a.1 ∙ ap (λ (g : Found). Ok g.layout) (ok_is parts f e.2))

-- And its btrees are what its entries and the image's sets mean.
pub found-trees : (image : Image) (f : Found) → found image ≡ Ok f → trees_of (sets_in f.layout image) (updates_of f.needed) f.last.entry.roots ≡ Ok f.trees
found-trees image f is =
    let a = bind_ok (carried super_fault (layout_in image)) (session_by image) f (sym (found-steps image) ∙ is) in
    let b = bind_ok (ok_or (session_in a.0 image) NoEntry) (last_by image a.0) f a.2 in
    let c = bind_ok (ok_or (newest a.0 (area_of image)) NoEntry) (entries_by image a.0 b.0) f b.2 in
    let d = bind_ok (carried MissingEntry (needed_by a.0 (area_of image) c.0)) (trees_by image a.0 b.0 c.0) f c.2 in
    let e = bind_ok (carried BadNode (trees_of (sets_in a.0 image) (updates_of d.0) c.0.entry.roots)) (made a.0 b.0 c.0 d.0) f d.2 in
    let parts : Found = record { layout = a.0; session = b.0; last = c.0; needed = d.0; trees = e.0 } in
    subst (λ (g : Found). trees_of (sets_in g.layout image) (updates_of g.needed) g.last.entry.roots ≡ Ok g.trees) (ok_is parts f e.2)
    (carried-ok BadNode (trees_of (sets_in a.0 image) (updates_of d.0) c.0.entry.roots) e.0 e.1)

-- ---- the places of nodes

-- What the sets of a node come to is what its copies hold, and its places are one bucket inside each metadata device.
pub sets_in-ok : (layout : Layout) (image : Image) (wanted : Wanted) (content : NodeContent) → sets_in layout image wanted ≡ Ok content
    → (are_mirrored layout 0 wanted.pointer.places ≡ true) × (content_in (copies_at (block_at image) wanted.pointer.places) layout.id (wanted_of wanted.btree wanted.least wanted.greatest wanted.pointer) ≡ Ok content)
sets_in-ok layout image wanted content is = by (are_mirrored layout 0 wanted.pointer.places) refl is
  where
    held : Result NodeContent Place
    held = carried (bad_place wanted.pointer) (content_in (copies_at (block_at image) wanted.pointer.places) layout.id (wanted_of wanted.btree wanted.least wanted.greatest wanted.pointer))

    by : (test : Bool) → are_mirrored layout 0 wanted.pointer.places ≡ test → cond test held (Err (first_place wanted.pointer)) ≡ Ok content
        → (are_mirrored layout 0 wanted.pointer.places ≡ true) × (content_in (copies_at (block_at image) wanted.pointer.places) layout.id (wanted_of wanted.btree wanted.least wanted.greatest wanted.pointer) ≡ Ok content)
    by true mirrored comes = (mirrored, carried-ok (bad_place wanted.pointer) (content_in (copies_at (block_at image) wanted.pointer.places) layout.id (wanted_of wanted.btree wanted.least wanted.greatest wanted.pointer)) content comes)
    by false mirrored comes = absurd cc

-- And the other way round.
pub sets_in-comes : (layout : Layout) (image : Image) (wanted : Wanted) (content : NodeContent) → are_mirrored layout 0 wanted.pointer.places ≡ true
    → content_in (copies_at (block_at image) wanted.pointer.places) layout.id (wanted_of wanted.btree wanted.least wanted.greatest wanted.pointer) ≡ Ok content → sets_in layout image wanted ≡ Ok content
sets_in-comes layout image wanted content mirrored comes =
    ap (λ (test : Bool). cond test (carried (bad_place wanted.pointer) (content_in (copies_at (block_at image) wanted.pointer.places) layout.id (wanted_of wanted.btree wanted.least wanted.greatest wanted.pointer))) (Err (first_place wanted.pointer))) mirrored
    ∙ ap (carried (bad_place wanted.pointer)) comes

-- Places that pass are on the metadata devices from the first one on, in their order.
mirrored-from : (layout : Layout) (dev : ℕ) (places : List Place) → are_mirrored layout dev places ≡ true → (map (λ (place : Place). place.dev) places ≡ range_with_len dev (length places)) × (dev + length places ≡ layout.metadata_replicas)
mirrored-from layout dev [] is = let last : dev ≡ layout.metadata_replicas = eqb-true dev layout.metadata_replicas is in (refl, omega (arith, last))
mirrored-from layout dev (place ∷ places) is =
    let parts = and_parts (place.dev == dev && nat_le (place.block + bucket_blocks) (slice_index layout.blocks dev)) (are_mirrored layout (dev + 1) places) is in
    let here : place.dev ≡ dev = eqb-true place.dev dev (and_parts (place.dev == dev) (nat_le (place.block + bucket_blocks) (slice_index layout.blocks dev)) parts.0).0 in
    let rest = mirrored-from layout (dev + 1) places parts.1 in
    let count = rest.1 in
    (ap (λ n. n ∷ map (λ (p : Place). p.dev) places) here ∙ ap (λ ns. dev ∷ ns) rest.0, omega (arith, count))

-- So the node has one place on each metadata device, in their order.
pub mirrored-is : (layout : Layout) (node : NodePtr) → are_mirrored layout 0 node.places ≡ true → IsMirrored layout node
mirrored-is layout node is =
    let from = mirrored-from layout 0 node.places is in
    let count = from.1 in
    from.0 ∙ ap (range_with_len 0) (let e : length node.places ≡ layout.metadata_replicas = omega (arith, count) in e)

-- Each bucket is inside its device.
inside-from : (layout : Layout) (dev : ℕ) (places : List Place) → are_mirrored layout dev places ≡ true → All (λ (place : Place). place.block + bucket_blocks ≤ slice_index layout.blocks place.dev) places
inside-from layout dev [] is = All-nil (λ (place : Place). place.block + bucket_blocks ≤ slice_index layout.blocks place.dev)
inside-from layout dev (place ∷ places) is =
    let parts = and_parts (place.dev == dev && nat_le (place.block + bucket_blocks) (slice_index layout.blocks dev)) (are_mirrored layout (dev + 1) places) is in
    let both = and_parts (place.dev == dev) (nat_le (place.block + bucket_blocks) (slice_index layout.blocks dev)) parts.0 in
    All-cons (λ (p : Place). p.block + bucket_blocks ≤ slice_index layout.blocks p.dev) place places
    (subst (λ n. place.block + bucket_blocks ≤ slice_index layout.blocks n) (sym (eqb-true place.dev dev both.0)) (leb-true (place.block + bucket_blocks) (slice_index layout.blocks dev) both.1))
    (inside-from layout (dev + 1) places parts.1)

pub mirrored-inside : (layout : Layout) (node : NodePtr) → are_mirrored layout 0 node.places ≡ true → All (λ (place : Place). place.block + bucket_blocks ≤ slice_index layout.blocks place.dev) node.places
mirrored-inside layout node is = inside-from layout 0 node.places is

-- Places on the metadata devices in their order, each a bucket inside its device, pass.
mirrored-to : (layout : Layout) (dev : ℕ) (places : List Place) → map (λ (place : Place). place.dev) places ≡ range_with_len dev (length places) → dev + length places ≡ layout.metadata_replicas
    → All (λ (place : Place). place.block + bucket_blocks ≤ slice_index layout.blocks place.dev) places → are_mirrored layout dev places ≡ true
mirrored-to layout dev [] are count inside = eq-eqb dev layout.metadata_replicas (omega (arith, count))
mirrored-to layout dev (place ∷ places) are count inside =
    let here : place.dev ≡ dev = ap (λ ns. slice_index_or ns 0 0) are in
    let fits : place.block + bucket_blocks ≤ slice_index layout.blocks place.dev = All-head (λ (p : Place). p.block + bucket_blocks ≤ slice_index layout.blocks p.dev) place places inside in
    both_true (both_true (eq-eqb place.dev dev here) (subst (λ n. nat_le (place.block + bucket_blocks) (slice_index layout.blocks n) ≡ true) here (le-leb (place.block + bucket_blocks) (slice_index layout.blocks place.dev) fits)))
    (mirrored-to layout (dev + 1) places (ap (drop 1) are) (omega (arith, count)) (All-tail (λ (p : Place). p.block + bucket_blocks ≤ slice_index layout.blocks p.dev) place places inside))

pub mirrored-passes : (layout : Layout) (node : NodePtr) → IsMirrored layout node → All (λ (place : Place). place.block + bucket_blocks ≤ slice_index layout.blocks place.dev) node.places → are_mirrored layout 0 node.places ≡ true
mirrored-passes layout node mirrored inside =
    let count : length node.places ≡ layout.metadata_replicas = sym (length-map {B = ℕ} node.places (λ (place : Place). place.dev)) ∙ ap (λ (ds : List ℕ). length ds) mirrored ∙ length-range_with_len 0 layout.metadata_replicas in
    mirrored-to layout 0 node.places (mirrored ∙ ap (range_with_len 0) (sym count)) (omega (arith, count)) inside

-- Each node that was found passes.
pub found-placed : (image : Image) (f : Found) → found image ≡ Ok f → All (λ (node : NodePtr). are_mirrored f.layout 0 node.places ≡ true) (nodes_of f.trees.nodes)
found-placed image f is =
    All-from_recursion (λ (node : NodePtr). are_mirrored f.layout 0 node.places ≡ true) (nodes_of f.trees.nodes)
    (trees_of-each (λ (node : NodePtr). are_mirrored f.layout 0 node.places ≡ true) (sets_in f.layout image) (updates_of f.needed) (λ wanted content comes. (sets_in-ok f.layout image wanted content comes).0)
    f.last.entry.roots f.trees (found-trees image f is))

-- So it has one place on each metadata device, in their order.
pub found-mirrored : (image : Image) (f : Found) → found image ≡ Ok f → All (IsMirrored f.layout) (nodes_of f.trees.nodes)
found-mirrored image f is = All-weaker (λ (node : NodePtr). are_mirrored f.layout 0 node.places ≡ true) (IsMirrored f.layout) (λ node passes. mirrored-is f.layout node passes) (nodes_of f.trees.nodes) (found-placed image f is)

-- ---- the content of files

-- what is read at places on which two images agree
reads-same : (one other : Image) (digest : ℕ) (places : List Place) → All (λ place. AgreeAt one other place.dev place.block) places → read_in one places digest ≡ read_in other places digest
reads-same one other digest [] agree = refl
reads-same one other digest (place ∷ places) agree =
    ap (λ bytes. option_or (with_digest digest bytes) (read_in one places digest)) (All-head (λ place. AgreeAt one other place.dev place.block) place places agree)
    ∙ ap (λ rest. option_or (with_digest digest (block_at other place.dev place.block)) rest) (reads-same one other digest places (All-tail (λ place. AgreeAt one other place.dev place.block) place places agree))

-- Images that agree on the blocks of all extents of what was found give the same for each.
pub content-same : (f : Found) (one other : Image) → AgreeOnContent f one other → AgreeOnBlocks f.trees.keys (read_in one) (read_in other)
content-same f one other agree = record {
  each = All-weaker (AgreeOnEntry one other) (ReadAlike (read_in one) (read_in other))
      (λ entry same extent is. record { each = λ index lt. reads-same one other (block_of extent index).digest (block_of extent index).places (same extent is index lt) }) f.trees.keys.extents agree.extents;
}

-- An image that agrees on the base and on the content of what was found in another one, and in which that entry is the newest too,
-- mounts as the same volume.
pub mounts-same : (one other : Image) (f : Found) (volume : Volume) → found one ≡ Ok f → AgreeOnBase f one other → AgreeOnContent f one other → IsNewest f other → MountsAs one volume → MountsAs other volume
mounts-same one other f volume is agree content new mounts =
    let same : f ≡ mounts.f = ok_is f mounts.f (sym is ∙ mounts.finds) in
    record {
      f = f;
      finds = found-same one other f is agree new;
      sound = subst (λ (g : Found). IsSound g.trees.keys (node_places g) g.layout) (sym same) mounts.sound;
      volume_is = mounts.volume_is ∙ ap (volume_of one) (sym same)
          ∙ ap (λ forest. record { layout = f.layout; commits = f.last.entry.commits; forest = forest }) (forest_in-agree f.trees.keys (read_in one) (read_in other) (content-same f one other content));
    }
