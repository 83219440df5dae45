-- Once the next entry stands on every metadata device it is whole and the newest, and what is found with it is in order.
use Rattle.std.proofs.Common.{◌≡◌, ◌⊎◌, inl, ⊎_elim, ℕ, ◌+◌, ◌*◌, ◌<◌, ◌≤◌, ◌^◌, List, [], ◌∷◌, ◌++◌, length, drop, get_or, Some, Ok, sym, ap, subst, ◌∙◌, arith}
use Rattle.std.proofs.lemmas.List.Elements.{All-drop, All-from_get_or, All-push, All-weaker}
use Rattle.std.specs.Prelude.{All}
use Rattle.dev_model.specs.Disk.{Image}
use Rattle.journal_ring.specs.Entries.{IsMadeOf, IsWholeOn, entry_on}
use Rattle.journal_ring.specs.EntryBlocks.{AreEntryBlocks, HoldBlocks, parts_of}
use Rattle.journal_ring.specs.Leading.{IsBehind}
use Rattle.journal_ring.specs.Parts.{area_of}
use Rattle.journal_ring.specs.declared.found.FoundEntry.{FoundEntry}
use Rattle.record_codec.specs.declared.entries.EntryRecord.{EntryRecord}
use Rattle.record_codec.specs.Entries.{IsEntry}
use Rattle.vol_types.specs.declared.layout.Layout.{Layout}
use Rattle.vol_types.specs.declared.pointers.NodePtr.{NodePtr}
use Rattle.image_view.proofs.NeededEntries.{AreNeeded, are_needed, places_of, some_places}
use Rattle.image_view.proofs.NextBlocks.{BlockLaws}
use Rattle.image_view.proofs.NextBase.{ends_before, follow_kept, room_for}
use Rattle.image_view.proofs.NextStands.{made_or_next, next_made_whole, owners_stay}
use Rattle.image_view.proofs.NextNewest.{EachPasses, next_newest, other_sequence, still_there}
use Rattle.image_view.specs.CopyLaws.{agree-same}
use Rattle.image_view.specs.Bases.{AgreeOnBase, AgreeOnNode, IsNewest}
use Rattle.image_view.specs.BaseLaws.{found-mirrored}
use Rattle.image_view.specs.Found.{FitTogether, FollowOn, Found, IsBelowRoots, IsInOrder, IsMirrored, PassesNone, PlacesAgree, found}
use Rattle.image_view.specs.NextEntries.{AreNumberedBelow, AreOldOrNext, IsNext, IsToldApart, IsWritten, with_entry}
use Rattle.image_view.specs.NewNodes.{AreNodesInOrder}
use Rattle.image_view.specs.Trees.{TreesRead, nodes_of}

-- What is said of an entry whose blocks stand everywhere: it is whole.
abbrev pub StandWhole : Type 0
StandWhole = (layout : Layout) (image : Image) (number : ℕ) (entry : EntryRecord) (blocks : List (List ℕ)) → IsEntry entry → number + parts_of entry < 2 ^ 64 → AreEntryBlocks layout.id number entry blocks
    → HoldBlocks layout.metadata_replicas layout.journal number blocks (length blocks) image → (dev : ℕ) → dev < layout.metadata_replicas → entry_on layout (area_of image) dev number ≡ Some (record { number = number; end = number + parts_of entry; entry = entry })

-- Entries that were found fit together with the next one, where that has room.
fit_push : (layout : Layout) (entries : List FoundEntry) (next : FoundEntry) → FitTogether layout entries → All (λ (x : FoundEntry). next.end ≤ x.number + layout.journal) entries → All (λ (x : FoundEntry). x.end ≤ next.number) entries → next.end ≤ next.number + layout.journal
    → FitTogether layout (entries ++ next ∷ [])
fit_push layout entries next fit room before own = All-push (λ (one : FoundEntry). All (λ (other : FoundEntry). other.end ≤ one.number + layout.journal) (entries ++ next ∷ [])) entries next
    (λ k d lower. All-push (λ (other : FoundEntry). other.end ≤ (get_or entries k d).number + layout.journal) entries next (fit k d lower) (room k d lower))
    (All-push (λ (other : FoundEntry). other.end ≤ next.number + layout.journal) entries next (All-weaker (λ (x : FoundEntry). x.end ≤ next.number) (λ (x : FoundEntry). x.end ≤ next.number + layout.journal) (λ x less. omega (arith, less)) entries before) own)

-- So do those that are left of them.
fit_drop : (layout : Layout) (n : ℕ) (entries : List FoundEntry) → FitTogether layout entries → FitTogether layout (drop n entries)
fit_drop layout n entries fit = All-weaker (λ (one : FoundEntry). All (λ (other : FoundEntry). other.end ≤ one.number + layout.journal) entries) (λ (one : FoundEntry). All (λ (other : FoundEntry). other.end ≤ one.number + layout.journal) (drop n entries))
    (λ one all. All-drop (λ (other : FoundEntry). other.end ≤ one.number + layout.journal) n entries all) (drop n entries) (All-drop (λ (one : FoundEntry). All (λ (other : FoundEntry). other.end ≤ one.number + layout.journal) entries) n entries fit)

-- The entry is whole, from whichever device its part 0 is taken.
pub whole_on : StandWhole → (one other : Image) (f : Found) (passed : ℕ) (next : FoundEntry) (blocks : List (List ℕ)) → IsNext f passed next → IsWritten f.layout next blocks one other → (dev : ℕ) → dev < f.layout.metadata_replicas → IsWholeOn f.layout (area_of other) dev next
whole_on stand one other f passed next blocks is_next written dev mirror =
    let ends = is_next.end in
    let fits = is_next.end_fits in
    let here : ◌≡◌ {A = FoundEntry} (record { number = next.number; end = next.number + parts_of next.entry; entry = next.entry }) next = λ i. record { number = next.number; end = (sym ends) i; entry = next.entry } in
    record {
      mirror = mirror;
      whole = stand f.layout other next.number next.entry blocks is_next.entry (omega (arith, ends, fits)) written.sealed written.stands dev mirror ∙ ap (λ (x : FoundEntry). Some x) here;
    }

-- It is the newest, where each whole entry passes none that was found, or is it.
pub newest_written : BlockLaws → StandWhole → (one other : Image) (f : Found) (passed : ℕ) (next : FoundEntry) (blocks : List (List ℕ)) (trees : TreesRead) → found one ≡ Ok f → IsNext f passed next → AgreeOnBase f one other → IsWritten f.layout next blocks one other
    → EachPasses f next (area_of other) → IsNewest (with_entry passed next trees f) other
newest_written laws stand one other f passed next blocks trees is is_next agree written each =
    let mirrored = (places_of laws.newest.read one f is).mirrored in
    next_newest laws.newest f passed next is_next (are_needed laws.newest.read one f is) (some_places laws.newest.read one f is) other each (0, whole_on stand one other f passed next blocks is_next written 0 (omega (arith, mirrored)))
    (λ k from lower. still_there laws.newest one other f is agree k lower) trees

-- Btrees with the nodes that were found, whose sets end where they did, have them in order.
pub in_order_still : (one : Image) (f : Found) (passed : ℕ) (next : FoundEntry) (trees : TreesRead) → found one ≡ Ok f → IsInOrder f one → trees.nodes ≡ f.trees.nodes → trees.ends ≡ f.trees.ends → AreNodesInOrder (with_entry passed next trees f) one
in_order_still one f passed next trees is order nodes ends = record {
  places = subst (λ ns. All (IsMirrored f.layout) (nodes_of ns)) (sym nodes) (found-mirrored one f is);
  agree = record { each = subst (λ ns. All (PlacesAgree f.layout.id one) (nodes_of ns)) (sym nodes) order.agree.each };
  births = subst (λ ns. All (λ (node : NodePtr). node.birth < (f.session + 1) * 2 ^ 32) (nodes_of ns)) (sym nodes) order.births;
}

module _ (laws : BlockLaws) (one : Image) (f : Found) (is : found one ≡ Ok f) (order : IsInOrder f one) (passed : ℕ) (next : FoundEntry) (is_next : IsNext f passed next) (blocks : List (List ℕ)) (sealed : AreEntryBlocks f.layout.id next.number next.entry blocks)
    (other : Image) (agree : AgreeOnBase f one other) (old_or : AreOldOrNext f.layout next blocks one other) where
  needed : AreNeeded f
  needed = are_needed laws.newest.read one f is

  some : 0 < f.layout.journal
  some = some_places laws.newest.read one f is

  -- What passes none that was found, or is the next entry, passes none that is found with it.
  passes_with : (trees : TreesRead) (x : FoundEntry) → PassesNone f x ⊎ (x ≡ next) → PassesNone (with_entry passed next trees f) x
  passes_with trees x passes = ⊎_elim
      (λ (none : PassesNone f x).
      let least = none.sequence in
      let later = is_next.sequence in
      record {
        sequence = omega (arith, least, later);
        behind = All-push (λ (needed : FoundEntry). x.entry.sequence ≡ needed.entry.sequence → IsBehind x needed) (drop passed f.needed) next
            (All-drop (λ (needed : FoundEntry). x.entry.sequence ≡ needed.entry.sequence → IsBehind x needed) passed f.needed none.behind)
            (λ named. absurd (omega (arith, least, later, named)));
      })
      (λ (same : x ≡ next).
      let named : x.entry.sequence ≡ next.entry.sequence = ap (λ (e : FoundEntry). e.entry.sequence) same in
      record {
        sequence = omega (arith, named);
        behind = All-push (λ (needed : FoundEntry). x.entry.sequence ≡ needed.entry.sequence → IsBehind x needed) (drop passed f.needed) next
            (All-drop (λ (needed : FoundEntry). x.entry.sequence ≡ needed.entry.sequence → IsBehind x needed) passed f.needed
            (All-from_get_or (λ (needed : FoundEntry). x.entry.sequence ≡ needed.entry.sequence → IsBehind x needed) f.needed f.last (λ k lower at. absurd (other_sequence f passed next is_next needed k lower (sym named ∙ at)))))
            (λ at. inl same);
      })
      passes

  -- What is found with it is in order, where the nodes are.
  pub in_order_new : IsToldApart f (area_of one) blocks → (trees : TreesRead) → All (AgreeOnNode one other) (nodes_of trees.nodes) → AreNodesInOrder (with_entry passed next trees f) one → IsInOrder (with_entry passed next trees f) other
  in_order_new told trees nodes are = record {
    entries = subst (λ (xs : List FoundEntry). FollowOn (drop passed xs ++ next ∷ [])) (sym needed.are) (follow_kept passed needed.before f.last next (subst FollowOn needed.are order.entries) is_next.number);
    fits = fit_push f.layout (drop passed f.needed) next (fit_drop f.layout passed f.needed order.fits)
        (All-drop (λ (x : FoundEntry). next.end ≤ x.number + f.layout.journal) passed f.needed (All-from_get_or (λ (x : FoundEntry). next.end ≤ x.number + f.layout.journal) f.needed f.last (room_for laws one f is order passed next is_next)))
        (All-drop (λ (x : FoundEntry). x.end ≤ next.number) passed f.needed (All-from_get_or (λ (x : FoundEntry). x.end ≤ next.number) f.needed f.last (ends_before laws one f is order passed next is_next)))
        (let few = is_next.parts in let end = is_next.end in let wide = (places_of laws.newest.read one f is).least in omega (arith, few, end, wide));
    others = λ x parts made. passes_with trees x (made_or_next laws f some passed next is_next blocks sealed one other old_or order told x parts made);
    owners = owners_stay laws f some passed next is_next blocks sealed one other old_or order.owners;
    levels = All-push (λ (x : FoundEntry). IsBelowRoots x.entry) (drop passed f.needed) next (All-drop (λ (x : FoundEntry). IsBelowRoots x.entry) passed f.needed order.levels) is_next.levels;
    agree = record { each = agree-same f.layout.id one other (nodes_of trees.nodes) nodes are.agree.each };
    births = are.births;
  }

  -- What was found is in order too, as long as the next entry is whole on no device.
  pub in_order_without : AreNumberedBelow f.layout f.session f.last.end (area_of one) → ((dev : ℕ) → IsWholeOn f.layout (area_of other) dev next → ⊥) → IsInOrder f other
  in_order_without below not = record {
    entries = order.entries;
    fits = order.fits;
    others = λ x parts made. ⊎_elim
        (λ (passes : PassesNone f x). passes)
        (λ (same : x ≡ next).
        let whole = next_made_whole laws f some passed next is_next blocks sealed one other old_or below parts (subst (λ (y : FoundEntry). IsMadeOf f.layout (area_of other) y parts) same made) in
        absurd (not whole.0 whole.1))
        (made_or_next laws f some passed next is_next blocks sealed one other old_or order (inl below) x parts made);
    owners = owners_stay laws f some passed next is_next blocks sealed one other old_or order.owners;
    levels = order.levels;
    agree = record { each = agree-same f.layout.id one other (nodes_of f.trees.nodes) agree.nodes order.agree.each };
    births = order.births;
  }
