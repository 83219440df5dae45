-- The updates of joined entries are those of the first ones and then those of the others; and entries without updates add none.
use Rattle.std.proofs.Common.{◌≡◌, ℕ, List, [], ◌∷◌, ◌++◌, take, drop, refl, sym, ap, ◌∙◌}
use Rattle.std.specs.Prelude.{All}
use Rattle.std.proofs.lemmas.Grind.{flat_map-append}
use Rattle.std.proofs.lemmas.List.{append-nil, take-append-drop}
use Rattle.std.proofs.lemmas.List.Elements.{All-head, All-tail}
use Rattle.journal_ring.specs.declared.found.FoundEntry.{FoundEntry}
use Rattle.vol_types.specs.declared.keys.Update.{Update}
use Rattle.image_view.specs.Found.{updates_of}

-- The entry has no updates.
abbrev pub IsIdle : FoundEntry → Type 0
IsIdle found = found.entry.updates ≡ []

-- The updates of joined entries are joined.
pub updates_of-append : (first rest : List FoundEntry) → updates_of (first ++ rest) ≡ updates_of first ++ updates_of rest
updates_of-append first rest = flat_map-append (λ (found : FoundEntry). found.entry.updates) first rest

-- Entries without updates may be left out.
pub updates_of-idle : (first rest : List FoundEntry) → All IsIdle first → updates_of (first ++ rest) ≡ updates_of rest
updates_of-idle [] rest idle = refl
updates_of-idle (found ∷ first) rest idle =
    ap (λ (updates : List Update). updates ++ updates_of (first ++ rest)) (All-head IsIdle found first idle) ∙ updates_of-idle first rest (All-tail IsIdle found first idle)

-- With a further entry behind those of which the first ones have no updates, its updates come behind theirs, also where these are left out.
pub updates_of-next : (passed : ℕ) (needed : List FoundEntry) (next : FoundEntry) → All IsIdle (take passed needed) → updates_of (drop passed needed ++ next ∷ []) ≡ updates_of needed ++ next.entry.updates
updates_of-next passed needed next idle =
    let kept : updates_of (drop passed needed) ≡ updates_of needed = sym (updates_of-idle (take passed needed) (drop passed needed) idle) ∙ ap updates_of (take-append-drop passed needed) in
    let one : updates_of (next ∷ []) ≡ next.entry.updates = append-nil next.entry.updates in
    updates_of-append (drop passed needed) (next ∷ []) ∙ (λ i. kept i ++ one i)
