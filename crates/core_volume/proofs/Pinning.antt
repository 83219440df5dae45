-- Pins of nodes that are set in parts.
use Rattle.std.proofs.Common.{◌≡◌, ℕ, suc, ◌+◌, ◌<◌, List, [], ◌∷◌, ◌++◌, drop, get_or, length, refl, sym, ap, ◌∙◌, arith, drop-cons}
use Rattle.std.proofs.lemmas.Grind.{flat_map-append}
use Rattle.dirty_nodes.specs.Dirty.{changed_node, changed_nodes, path_of, paths_of, with_pins}
use Rattle.pin_list.specs.Pins.{with_pin}
use Rattle.tree_nodes.specs.Levels.{Levels}
use Rattle.journal_ring.specs.declared.found.FoundEntry.{FoundEntry}
use Rattle.vol_types.specs.declared.keys.Update.{Update}
use Rattle.core_volume.specs.Opening.{updates_in}

-- Pins of one list and of another one are those of both.
with_pins-append : (seq : ℕ) (births more : List ℕ) (numbers : List (ℕ × ℕ)) → with_pins seq (births ++ more) numbers ≡ with_pins seq more (with_pins seq births numbers)
with_pins-append seq [] more numbers = refl
with_pins-append seq (birth ∷ births) more numbers = with_pins-append seq births more (with_pin birth seq numbers)

-- So it is of the nodes that updates change.
pub changed-append : (seq : ℕ) (nodes : List Levels) (updates more : List Update) (numbers : List (ℕ × ℕ))
    → with_pins seq (changed_nodes nodes (updates ++ more)) numbers ≡ with_pins seq (changed_nodes nodes more) (with_pins seq (changed_nodes nodes updates) numbers)
changed-append seq nodes updates more numbers =
    ap (λ (births : List ℕ). with_pins seq births numbers) (flat_map-append (changed_node nodes) updates more) ∙ with_pins-append seq (changed_nodes nodes updates) (changed_nodes nodes more) numbers

-- And with those above them.
pub paths-append : (seq : ℕ) (nodes : List Levels) (updates more : List Update) (numbers : List (ℕ × ℕ))
    → with_pins seq (paths_of nodes (updates ++ more)) numbers ≡ with_pins seq (paths_of nodes more) (with_pins seq (paths_of nodes updates) numbers)
paths-append seq nodes updates more numbers =
    ap (λ (births : List ℕ). with_pins seq births numbers) (flat_map-append (path_of nodes) updates more) ∙ with_pins-append seq (paths_of nodes updates) (paths_of nodes more) numbers

-- The updates of entries from a place on are those of the entry there and of the later ones.
updates_from : (needed : List FoundEntry) (place : ℕ) (found : FoundEntry) → found ≡ get_or needed place found → place < length needed → updates_in (drop place needed) ≡ found.entry.updates ++ updates_in (drop (place + 1) needed)
updates_from needed place found is lt =
    let next : suc place ≡ place + 1 = omega arith in
    ap updates_in (drop-cons needed place found lt ∙ ap (λ (f : FoundEntry). f ∷ drop (suc place) needed) (sym is) ∙ ap (λ (n : ℕ). found ∷ drop n needed) next)

module _ (seq : ℕ) (nodes : List Levels) (needed : List FoundEntry) (place : ℕ) (found : FoundEntry) (is : found ≡ get_or needed place found) (lt : place < length needed) (before after : List (ℕ × ℕ)) where
  -- With the nodes pinned that an entry changes, those that the later ones change are left.
  pub changed-next : after ≡ with_pins seq (changed_nodes nodes found.entry.updates) before
      → with_pins seq (changed_nodes nodes (updates_in (drop (place + 1) needed))) after ≡ with_pins seq (changed_nodes nodes (updates_in (drop place needed))) before
  changed-next pinned =
      ap (with_pins seq (changed_nodes nodes (updates_in (drop (place + 1) needed)))) pinned
      ∙ sym (changed-append seq nodes found.entry.updates (updates_in (drop (place + 1) needed)) before)
      ∙ ap (λ (us : List Update). with_pins seq (changed_nodes nodes us) before) (sym (updates_from needed place found is lt))

  pub paths-next : after ≡ with_pins seq (paths_of nodes found.entry.updates) before
      → with_pins seq (paths_of nodes (updates_in (drop (place + 1) needed))) after ≡ with_pins seq (paths_of nodes (updates_in (drop place needed))) before
  paths-next pinned =
      ap (with_pins seq (paths_of nodes (updates_in (drop (place + 1) needed)))) pinned
      ∙ sym (paths-append seq nodes found.entry.updates (updates_in (drop (place + 1) needed)) before)
      ∙ ap (λ (us : List Update). with_pins seq (paths_of nodes us) before) (sym (updates_from needed place found is lt))
