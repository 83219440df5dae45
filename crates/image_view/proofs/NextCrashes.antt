-- While the next entry is written, a crash leaves what was found, or that with the next entry, and in order.
use Rattle.std.proofs.Common.{◌≡◌, ◌⊎◌, inl, inr, ⊎_elim, ℕ, List, [], ◌∷◌, ◌++◌, drop, Ok}
use Rattle.std.specs.Prelude.{All}
use Rattle.dev_model.specs.Disk.{Disk, Image}
use Rattle.journal_ring.specs.Entries.{IsWhole, IsWholeOn}
use Rattle.journal_ring.specs.EntryBlocks.{AreEntryBlocks}
use Rattle.journal_ring.specs.Parts.{area_of}
use Rattle.journal_ring.specs.declared.found.FoundEntry.{FoundEntry}
use Rattle.image_view.proofs.NeededEntries.{some_places}
use Rattle.image_view.proofs.NextBlocks.{BlockLaws, held_or_next}
use Rattle.image_view.proofs.NextFound.{agree_still, new_found}
use Rattle.image_view.proofs.NextInOrder.{in_order_new, in_order_still, in_order_without}
use Rattle.image_view.proofs.NextNewest.{NewestLaws, whole_and_newest}
use Rattle.image_view.proofs.NextStands.{held_old_or_next}
use Rattle.image_view.specs.BaseLaws.{found-same}
use Rattle.image_view.specs.Bases.{AgreeOnBase, AgreeOnNode, IsNewest}
use Rattle.image_view.specs.CrashEntries.{OnlyHeldEntriesOpen}
use Rattle.image_view.specs.Found.{Found, IsInOrder, found, sets_in, updates_of}
use Rattle.image_view.specs.NextEntries.{AreNumberedBelow, AreOldOrNext, HoldOldOrNext, IsNext, NonePassesBut, with_entry}
use Rattle.image_view.specs.NewNodes.{AreNodesInOrder}
use Rattle.image_view.specs.Trees.{TreesRead, nodes_of, trees_of}

pub either_newest : NewestLaws → (one other : Image) (f : Found) (disks : List Disk) (passed : ℕ) (next : FoundEntry) (trees : TreesRead) → found one ≡ Ok f → IsNext f passed next → AgreeOnBase f one other
    → OnlyHeldEntriesOpen f.layout disks other → NonePassesBut f next disks other → IsNewest f other ⊎ IsNewest (with_entry passed next trees f) other
either_newest laws one other f disks passed next trees is is_next agree only none = ⊎_elim
    (λ (before : ((dev : ℕ) → IsWholeOn f.layout (area_of other) dev next → ⊥) × IsNewest f other). inl before.1)
    (λ (after : IsWhole f.layout (area_of other) next × IsNewest (with_entry passed next trees f) other). inr after.1)
    (whole_and_newest laws one other f disks passed next trees is is_next agree only none)

pub either_found_new : NewestLaws → (one other : Image) (f : Found) (disks : List Disk) (passed : ℕ) (next : FoundEntry) (trees : TreesRead) → found one ≡ Ok f → IsNext f passed next → AgreeOnBase f one other
    → All (AgreeOnNode one other) (nodes_of trees.nodes) → OnlyHeldEntriesOpen f.layout disks other → NonePassesBut f next disks other
    → trees_of (sets_in f.layout one) (updates_of (drop passed f.needed ++ next ∷ [])) next.entry.roots ≡ Ok trees → (found other ≡ Ok f) ⊎ (found other ≡ Ok (with_entry passed next trees f))
either_found_new laws one other f disks passed next trees is is_next agree nodes only none read = ⊎_elim
    (λ (before : IsNewest f other). inl (found-same one other f is agree before))
    (λ (after : IsNewest (with_entry passed next trees f) other). inr (new_found one other f passed next trees is agree nodes read after))
    (either_newest laws one other f disks passed next trees is is_next agree only none)

pub either_found : NewestLaws → (one other : Image) (f : Found) (disks : List Disk) (passed : ℕ) (next : FoundEntry) (trees : TreesRead) → found one ≡ Ok f → IsNext f passed next → AgreeOnBase f one other
    → OnlyHeldEntriesOpen f.layout disks other → NonePassesBut f next disks other → trees_of (sets_in f.layout one) (updates_of (drop passed f.needed ++ next ∷ [])) next.entry.roots ≡ Ok trees → trees.nodes ≡ f.trees.nodes
    → (found other ≡ Ok f) ⊎ (found other ≡ Ok (with_entry passed next trees f))
either_found laws one other f disks passed next trees is is_next agree only none read nodes = either_found_new laws one other f disks passed next trees is is_next agree (agree_still one other f trees agree nodes) only none read

pub either_in_order_new : BlockLaws → (one other : Image) (f : Found) (disks : List Disk) (passed : ℕ) (next : FoundEntry) (blocks : List (List ℕ)) (trees : TreesRead) → found one ≡ Ok f → IsInOrder f one → IsNext f passed next
    → AreEntryBlocks f.layout.id next.number next.entry blocks → AreNumberedBelow f.layout f.session f.last.end (area_of one) → HoldOldOrNext f.layout one next blocks disks → AgreeOnBase f one other
    → All (AgreeOnNode one other) (nodes_of trees.nodes) → AreNodesInOrder (with_entry passed next trees f) one → OnlyHeldEntriesOpen f.layout disks other
    → trees_of (sets_in f.layout one) (updates_of (drop passed f.needed ++ next ∷ [])) next.entry.roots ≡ Ok trees
    → ((found other ≡ Ok f) × IsInOrder f other) ⊎ ((found other ≡ Ok (with_entry passed next trees f)) × IsInOrder (with_entry passed next trees f) other)
either_in_order_new laws one other f disks passed next blocks trees is order is_next sealed below hold agree nodes are only read =
    let none : NonePassesBut f next disks other = held_or_next laws f passed next is_next blocks sealed one order (some_places laws.newest.read one f is) (inl below) disks hold other in
    let old_or : AreOldOrNext f.layout next blocks one other = held_old_or_next f.layout next blocks disks one other hold only in
    ⊎_elim
    (λ (before : ((dev : ℕ) → IsWholeOn f.layout (area_of other) dev next → ⊥) × IsNewest f other).
    inl (found-same one other f is agree before.1, in_order_without laws one f is order passed next is_next blocks sealed other agree old_or below before.0))
    (λ (after : IsWhole f.layout (area_of other) next × IsNewest (with_entry passed next trees f) other).
    inr (new_found one other f passed next trees is agree nodes read after.1, in_order_new laws one f is order passed next is_next blocks sealed other agree old_or (inl below) trees nodes are))
    (whole_and_newest laws.newest one other f disks passed next trees is is_next agree only none)

pub either_in_order : BlockLaws → (one other : Image) (f : Found) (disks : List Disk) (passed : ℕ) (next : FoundEntry) (blocks : List (List ℕ)) (trees : TreesRead) → found one ≡ Ok f → IsInOrder f one → IsNext f passed next
    → AreEntryBlocks f.layout.id next.number next.entry blocks → AreNumberedBelow f.layout f.session f.last.end (area_of one) → HoldOldOrNext f.layout one next blocks disks → AgreeOnBase f one other → OnlyHeldEntriesOpen f.layout disks other
    → trees_of (sets_in f.layout one) (updates_of (drop passed f.needed ++ next ∷ [])) next.entry.roots ≡ Ok trees → trees.nodes ≡ f.trees.nodes → trees.ends ≡ f.trees.ends
    → ((found other ≡ Ok f) × IsInOrder f other) ⊎ ((found other ≡ Ok (with_entry passed next trees f)) × IsInOrder (with_entry passed next trees f) other)
either_in_order laws one other f disks passed next blocks trees is order is_next sealed below hold agree only read nodes ends =
    either_in_order_new laws one other f disks passed next blocks trees is order is_next sealed below hold agree (agree_still one other f trees agree nodes) (in_order_still one f passed next trees is order nodes ends) only read
