use Rattle.std.proofs.Common.{◌≡◌, ℕ, ◌+◌, ◌/◌, ◌≤◌, Bool, true, false, cond, Some, None, List, [], ◌∷◌, refl, ap, ◌∙◌, subst, arith, ⊎_elim}
use Rattle.std.specs.Prelude.{All, codes, nat_lt}
use Rattle.std.specs.Option.{option_or}
use Rattle.std.specs.Ordering.{is_eq}
use Rattle.std.proofs.lemmas.Cmp.{tied_itself}
use Rattle.std.proofs.lemmas.List.Elements.{All-head}
use Rattle.std.proofs.lemmas.Option.{same_Some, none-some as none_some}
use Rattle.vol_digest.specs.Digests.{slot_of}
use Rattle.vol_types.specs.Limits.{bucket_blocks}
use Rattle.vol_types.specs.PositionLaws.{pos_total}
use Rattle.vol_types.specs.declared.layout.Layout.{Layout}
use Rattle.vol_types.specs.declared.pointers.Pointer.{Pointer}
use Rattle.vol_types.specs.declared.values.Link.{Link}
use Rattle.vol_types.specs.declared.pointers.Place.{Place}
use Rattle.vol_types.specs.declared.values.FileKind.TheVariants.{File}
use Rattle.vol_types.specs.declared.values.Snap.{Snap}
use Rattle.vol_types.specs.declared.values.SnapState.TheVariants.{LiveLeaf}
use Rattle.vol_types.specs.declared.values.Value.TheVariants as values
use Rattle.key_meaning.specs.Checks.{AreBlocksPlaced, AreDirectoriesTrees, AreExtentsApart, AreLinksCounted, AreNamesJoined, AreNodesPlaced, AreTreesJoined, DoLeavesMatch, HasWellPlaced, IsNameJoined, IsRooted, IsSpaceCounted, IsNodePlaced, IsWellPlaced}
use Rattle.key_meaning.specs.Examples.{dangling, in_first, name_a, one_block, over_superblock, overlapping, shared_id, superblocks, uncounted, unnamed_child, unnamed_directory, unnamed_file}
use Rattle.key_meaning.specs.Forest.{links_in, links_of, tree_of}
use Rattle.key_meaning.specs.Visible.{shown}
use Rattle.key_meaning.specs.Fresh.{first_id, main_sub}
use Rattle.key_meaning.proofs.examples.wrong_keys_are_refused.Goals as goal

first_snap : Snap
first_snap = record { parent = 0; first_child = 0; second_child = 0; state = LiveLeaf }

trees : ¬ AreTreesJoined unnamed_child
unfolding first_snap
trees joined =
    let under = (joined.each 5 (record { parent = first_id; first_child = 0; second_child = 0; state = LiveLeaf }) refl).parent (λ (zero : 4294967295 ≡ 0). absurd (omega (arith, zero))) in
    let is : first_snap ≡ under.snap = same_Some first_snap under.snap under.found in
    ⊎_elim
    (λ (named : under.snap.first_child ≡ 5). let five : 0 ≡ 5 = ap (λ (s : Snap). s.first_child) is ∙ named in omega (arith, five))
    (λ (named : under.snap.second_child ≡ 5). let five : 0 ≡ 5 = ap (λ (s : Snap). s.second_child) is ∙ named in omega (arith, five))
    under.named

leaves : ¬ DoLeavesMatch shared_id
leaves matching = let two : 2 ≡ 1 = matching.leaves first_id (record { snap = record { parent = 0; first_child = 0; second_child = 0; state = LiveLeaf }; found = refl; live = refl }) in omega (arith, two)

extents : ¬ AreExtentsApart overlapping
extents apart = let same : 4 ≡ 5 = (apart.apart 1 first_id).once 2 4 5 (values.Hole 2) (values.Hole 3) refl refl refl refl in omega (arith, same)

-- the one name of the directory
a_link : Link
a_link = record { number = 2; kind = File; name = codes "a" }

-- it shows under its slot
a_shows : links_in dangling first_id 1 (slot_of (codes "a")) ≡ a_link ∷ []
unfolding a_link
a_shows = ap (λ b. links_of (shown (option_or (cond b (Some name_a) None) None))) (ap is_eq (tied_itself pos_total (record { inode = 1; offset = slot_of (codes "a"); snapshot = first_id })))

names : ¬ AreNamesJoined dangling
unfolding a_link
names joined = none_some File (All-head (IsNameJoined dangling first_id 1 (slot_of (codes "a"))) a_link [] (subst (All (IsNameJoined dangling first_id 1 (slot_of (codes "a")))) a_shows (joined.each first_id 1 (slot_of (codes "a")) (record { snap = record { parent = 0; first_child = 0; second_child = 0; state = LiveLeaf }; found = refl; live = refl })))).leads_to

links : ¬ AreLinksCounted unnamed_file
links counted = let one : 1 ≡ 0 = counted.each first_id 2 (record { kind = File; links = 1; size = 0 }) (record { snap = record { parent = 0; first_child = 0; second_child = 0; state = LiveLeaf }; found = refl; live = refl }) refl refl in omega (arith, one)

directories : ¬ AreDirectoriesTrees unnamed_directory
directories rooted =
    let main : IsRooted (tree_of unnamed_directory (λ _ _. None) main_sub) = All-head (λ sub. IsRooted (tree_of unnamed_directory (λ _ _. None) sub)) main_sub [] (rooted.each (λ _ _. None)) in
    let one : 0 ≡ 1 = main.named 2 refl (λ (root : 2 ≡ 1). absurd (omega (arith, root))) in
    omega (arith, one)

blocks : (nodes : List Place) (layout : Layout) → ¬ AreBlocksPlaced over_superblock nodes layout
blocks nodes layout placed =
    by (nat_lt 0 layout.metadata_replicas) (layout.journal / bucket_blocks) (All-head (IsWellPlaced nodes layout 1) first_block [] (All-head (HasWellPlaced nodes layout) (in_first 1 1 (one_block 8)) [] placed.placed)).for_users
  where
    first_block : Pointer
    first_block = record { place = record { dev = 0; block = 8 }; generation = 0 }

    by : (b : Bool) (more : ℕ) → cond {A = ℕ} b (1 + more) 1 ≤ 0 → ⊥
    by true more le = omega (arith, le)
    by false more le = omega (arith, le)

nodes : (layout : Layout) → ¬ AreNodesPlaced (superblocks ∷ []) layout
nodes layout placed = by (nat_lt 0 layout.metadata_replicas) (layout.journal / bucket_blocks) (All-head (IsNodePlaced layout) superblocks [] placed.each).behind
  where
    by : (b : Bool) (more : ℕ) → cond {A = ℕ} b (1 + more) 1 ≤ 0 → ⊥
    by true more le = omega (arith, le)
    by false more le = omega (arith, le)

space : ¬ IsSpaceCounted uncounted
space counted = let one : 0 ≡ 1 = counted.blocks 0 40 in omega (arith, one)

pub returns : goal.returns
returns c = record { trees = trees; leaves = leaves; extents = extents; names = names; links = links; directories = directories; blocks = blocks; nodes = nodes; space = space }
