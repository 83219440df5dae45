-- What is found in an image whose newest entry is the next one.
use Rattle.std.proofs.Common.{◌≡◌, ℕ, List, [], ◌∷◌, ◌++◌, drop, Some, Ok, Result, refl, sym, ap, subst, ◌∙◌}
use Rattle.std.proofs.lemmas.List.Elements.{All-head, All-tail}
use Rattle.std.specs.Option.{ok_or}
use Rattle.std.specs.Prelude.{All}
use Rattle.dev_model.specs.Disk.{Image}
use Rattle.geometry.specs.Sessions.{session_in}
use Rattle.geometry.specs.Superblocks.{layout_in}
use Rattle.geometry.specs.SuperLaws.{same_counting, same_layout}
use Rattle.journal_ring.specs.Counting.{needed_by, newest}
use Rattle.journal_ring.specs.Parts.{area_of}
use Rattle.journal_ring.specs.declared.found.FoundEntry.{FoundEntry}
use Rattle.key_codec.specs.Formats.{◌>>=◌, carried}
use Rattle.vol_types.specs.declared.layout.Layout.{Layout}
use Rattle.vol_types.specs.declared.pointers.NodePtr.{NodePtr}
use Rattle.image_view.specs.BaseLaws.{found-layout, found-session, greatest_session-same, node-same}
use Rattle.image_view.specs.Bases.{AgreeOnBase, AgreeOnNode, IsNewest}
use Rattle.image_view.specs.Found.{Found, found, sets_in, super_fault, updates_of}
use Rattle.image_view.specs.NextEntries.{with_entry}
use Rattle.image_view.specs.TreeLaws.{HaveSameSets, trees_of-same}
use Rattle.image_view.specs.Trees.{TreesRead, nodes_of, trees_of}
use Rattle.image_view.specs.declared.fault.MountFault.{MountFault}
use Rattle.image_view.specs.declared.fault.MountFault.TheVariants.{BadNode, MissingEntry, NoEntry}

-- the steps of what is found, each with those after it; the last one
abbrev made : Layout → ℕ → FoundEntry → List FoundEntry → TreesRead → Result Found MountFault
made layout session last needed trees = Ok (record { layout = layout; session = session; last = last; needed = needed; trees = trees })

abbrev trees_by : Image → Layout → ℕ → FoundEntry → List FoundEntry → Result Found MountFault
trees_by image layout session last needed = carried BadNode (trees_of (sets_in layout image) (updates_of needed) last.entry.roots) >>= made layout session last needed

abbrev entries_by : Image → Layout → ℕ → FoundEntry → Result Found MountFault
entries_by image layout session last = carried MissingEntry (needed_by layout (area_of image) last) >>= trees_by image layout session last

abbrev last_by : Image → Layout → ℕ → Result Found MountFault
last_by image layout session = ok_or (newest layout (area_of image)) NoEntry >>= entries_by image layout session

abbrev session_by : Image → Layout → Result Found MountFault
session_by image layout = ok_or (session_in layout image) NoEntry >>= last_by image layout

steps : (image : Image) → found image ≡ (carried super_fault (layout_in image) >>= session_by image)
unfolding found
steps image = refl

-- What the parts of an image are is found in it.
found_of : (image : Image) (f : Found) → layout_in image ≡ Ok f.layout → session_in f.layout image ≡ Some f.session → IsNewest f image → trees_of (sets_in f.layout image) (updates_of f.needed) f.last.entry.roots ≡ Ok f.trees → found image ≡ Ok f
found_of image f lays names new read =
    steps image
    ∙ ap (λ r. carried super_fault r >>= session_by image) lays
    ∙ ap (λ s. ok_or s NoEntry >>= last_by image f.layout) names
    ∙ ap (λ n. ok_or n NoEntry >>= entries_by image f.layout f.session) new.last
    ∙ ap (λ n. carried MissingEntry n >>= trees_by image f.layout f.session f.last) new.needed
    ∙ ap (λ t. carried BadNode t >>= made f.layout f.session f.last f.needed) read

sets_same : (layout : Layout) (one other : Image) (pointers : List NodePtr) → All (AgreeOnNode one other) pointers → HaveSameSets (sets_in layout one) (sets_in layout other) pointers
sets_same layout one other [] agree = tt
sets_same layout one other (pointer ∷ pointers) agree = (
  node-same layout one other pointer (All-head (AgreeOnNode one other) pointer pointers agree),
  sets_same layout one other pointers (All-tail (AgreeOnNode one other) pointer pointers agree),
)

-- Where the next entry is the newest, it is found with the btrees that it and the entries that it needs mean, if the images agree on
-- their nodes too.
pub new_found : (one other : Image) (f : Found) (passed : ℕ) (next : FoundEntry) (trees : TreesRead) → found one ≡ Ok f → AgreeOnBase f one other → All (AgreeOnNode one other) (nodes_of trees.nodes)
    → trees_of (sets_in f.layout one) (updates_of (drop passed f.needed ++ next ∷ [])) next.entry.roots ≡ Ok trees → IsNewest (with_entry passed next trees f) other → found other ≡ Ok (with_entry passed next trees f)
new_found one other f passed next trees is agree nodes read new =
    let layouts : layout_in one ≡ layout_in other = same_layout one other agree.lengths (λ dev. same_counting one other dev (agree.first_copies dev) (agree.second_copies dev)) in
    let sets : HaveSameSets (sets_in f.layout one) (sets_in f.layout other) (nodes_of trees.nodes) = sets_same f.layout one other (nodes_of trees.nodes) nodes in
    found_of other (with_entry passed next trees f) (sym layouts ∙ found-layout one f is)
    (greatest_session-same f.layout.id one other f.layout.metadata_replicas agree.even_sessions agree.odd_sessions ∙ found-session one f is) new
    (trees_of-same (sets_in f.layout one) (sets_in f.layout other) (updates_of (drop passed f.needed ++ next ∷ [])) next.entry.roots trees read sets)

-- Images that agree on the base of what was found agree on the nodes of btrees that have the same.
pub agree_still : (one other : Image) (f : Found) (trees : TreesRead) → AgreeOnBase f one other → trees.nodes ≡ f.trees.nodes → All (AgreeOnNode one other) (nodes_of trees.nodes)
agree_still one other f trees agree nodes = subst (λ ns. All (AgreeOnNode one other) (nodes_of ns)) (sym nodes) agree.nodes
