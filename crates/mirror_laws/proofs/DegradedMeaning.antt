-- A degraded image means what the image did, where what was found stands whole on the device that is left.
use Rattle.std.proofs.Common.{◌≡◌, ⊎_elim, ℕ, ◌+◌, ◌<◌, Some, Ok, sym, ap, ◌∙◌, arith}
use Rattle.std.proofs.lemmas.List.Elements.{All-weaker}
use Rattle.std.specs.Option.{ok_or}
use Rattle.dev_model.specs.Disk.{Image, block_at}
use Rattle.geometry.specs.Sessions.{session_in}
use Rattle.geometry.specs.SuperLaws.{same_counting, same_layout}
use Rattle.geometry.specs.Superblocks.{layout_in}
use Rattle.image_view.specs.BaseLaws.{found-layout, found-session, found-trees, greatest_session-same}
use Rattle.image_view.specs.Bases.{AgreeAt, AgreeOnContent, AgreeOnEntry, IsNewest}
use Rattle.image_view.specs.Found.{Found, IsInOrder, NodesAgree, found, sets_in, super_fault, updates_of}
use Rattle.image_view.specs.Trees.{trees_of}
use Rattle.image_view.specs.declared.fault.MountFault.TheVariants.{BadNode, MissingEntry, NoEntry}
use Rattle.journal_ring.specs.Counting.{needed_by, newest}
use Rattle.journal_ring.specs.Parts.{area_of}
use Rattle.key_codec.specs.Formats.{◌>>=◌, carried}
use Rattle.key_meaning.specs.Blocks.{block_of}
use Rattle.replay.specs.Beginning.{MeansTheSame}
use Rattle.replay.proofs.MendedMeaning.{means_by_content}
use Rattle.vol_types.specs.declared.layout.Layout.{Layout}
use Rattle.vol_types.specs.declared.pointers.Place.{Place}
use Rattle.vol_types.specs.declared.positions.Pos.{Pos}
use Rattle.vol_types.specs.declared.values.Value.{Value}
use Rattle.mirror_laws.specs.Degraded.{HasPlainFiles, IsDegradedTo, IsLostAt, IsOfMetadata, ShowsNoMetadata}
use Rattle.mirror_laws.specs.Standing.{NonePassed, StandsWholeOn}
use Rattle.mirror_laws.proofs.DegradedJournal.{EntryLaws, entry_stands, made_before, newest_still, stood}
use Rattle.mirror_laws.proofs.DegradedNodes.{nodes_agree_still, nodes_stand, trees_still}

-- What an image's layout, session, newest entry, needed entries and btrees are is what is found in it.
found_of_parts : (image : Image) (f : Found) → layout_in image ≡ Ok f.layout → session_in f.layout image ≡ Some f.session → IsNewest f image → trees_of (sets_in f.layout image) (updates_of f.needed) f.last.entry.roots ≡ Ok f.trees → found image ≡ Ok f
unfolding found
found_of_parts image f layout session new trees =
    ap (λ r. carried super_fault r >>= (λ l. ok_or (session_in l image) NoEntry >>= (λ s. ok_or (newest l (area_of image)) NoEntry >>= (λ e. carried MissingEntry (needed_by l (area_of image) e) >>= (λ es. carried BadNode (trees_of (sets_in l image) (updates_of es) e.entry.roots) >>= (λ t. Ok (record { layout = l; session = s; last = e; needed = es; trees = t }))))))) layout
    ∙ ap (λ o. ok_or o NoEntry >>= (λ s. ok_or (newest f.layout (area_of image)) NoEntry >>= (λ e. carried MissingEntry (needed_by f.layout (area_of image) e) >>= (λ es. carried BadNode (trees_of (sets_in f.layout image) (updates_of es) e.entry.roots) >>= (λ t. Ok (record { layout = f.layout; session = s; last = e; needed = es; trees = t })))))) session
    ∙ ap (λ o. ok_or o NoEntry >>= (λ e. carried MissingEntry (needed_by f.layout (area_of image) e) >>= (λ es. carried BadNode (trees_of (sets_in f.layout image) (updates_of es) e.entry.roots) >>= (λ t. Ok (record { layout = f.layout; session = f.session; last = e; needed = es; trees = t }))))) new.last
    ∙ ap (λ r. carried MissingEntry r >>= (λ es. carried BadNode (trees_of (sets_in f.layout image) (updates_of es) f.last.entry.roots) >>= (λ t. Ok (record { layout = f.layout; session = f.session; last = f.last; needed = es; trees = t })))) new.needed
    ∙ ap (λ r. carried BadNode r >>= (λ t. Ok (record { layout = f.layout; session = f.session; last = f.last; needed = f.needed; trees = t }))) trees

-- Superblocks and sessions aren't lost.
pub low_same : (layout : Layout) (mirror : ℕ) (one other : Image) → IsDegradedTo layout mirror one other → (dev block : ℕ) → block < 16 → AgreeAt one other dev block
low_same layout mirror one other degraded dev block low = ⊎_elim
    (λ (same : AgreeAt one other dev block). same)
    (λ (lost : IsLostAt layout mirror one other dev block). let behind = lost.behind in absurd (omega (arith, low, behind)))
    (degraded.each dev block)

module _ (laws : EntryLaws) (f : Found) (mirror : ℕ) (one other : Image) (degraded : IsDegradedTo f.layout mirror one other) where
  -- What was found stands whole on the device that is left there too.
  pub stands_still : StandsWholeOn f mirror one → StandsWholeOn f mirror other
  stands_still stands = record {
    on_mirror = stands.on_mirror;
    entries = All-weaker _ _ (λ entry. entry_stands f.layout mirror one other degraded stands.on_mirror entry) f.needed stands.entries;
    nodes = nodes_stand f mirror stands.on_mirror one other degraded stands.nodes;
  }

  -- It is in order there where it was.
  pub order_still : mirror < f.layout.metadata_replicas → IsInOrder f one → IsInOrder f other
  order_still low order = record {
    entries = order.entries;
    fits = order.fits;
    others = λ entry blocks made. order.others entry blocks (made_before f.layout mirror one other degraded entry blocks made);
    owners = λ dev place bytes head within lower stands opens. order.owners dev place bytes head within lower (stood f.layout mirror one other degraded dev (16 + place) bytes head stands opens) opens;
    levels = order.levels;
    agree = nodes_agree_still f mirror low one other degraded order.agree;
    births = order.births;
  }

  module _ (is : found one ≡ Ok f) (none : NonePassed f one) (agree : NodesAgree one f) (stands : StandsWholeOn f mirror one) where
    layout_same : layout_in other ≡ Ok f.layout
    layout_same =
        sym (same_layout one other degraded.lengths (λ dev. same_counting one other dev (low_same f.layout mirror one other degraded dev 0 (omega arith)) (low_same f.layout mirror one other degraded dev 8 (omega arith))))
        ∙ found-layout one f is

    session_same : session_in f.layout other ≡ Some f.session
    session_same =
        greatest_session-same f.layout.id one other f.layout.metadata_replicas (λ dev within. low_same f.layout mirror one other degraded dev 4 (omega arith)) (λ dev within. low_same f.layout mirror one other degraded dev 5 (omega arith))
        ∙ found-session one f is

    -- The same is found,
    pub found_still : found other ≡ Ok f
    found_still = found_of_parts other f layout_same session_same
        (newest_still laws f mirror stands.on_mirror one other degraded is none stands.entries)
        (trees_still f mirror stands.on_mirror one other degraded stands.nodes (found-trees one f is) agree)

    -- and where the blocks of files are the same, it means the same.
    pub meaning_still : IsInOrder f one → AgreeOnContent f one other → MeansTheSame f one other
    meaning_still order content = means_by_content f one other is found_still (order_still stands.on_mirror) (λ sound. content)

-- Blocks of files that look like none of the journal or of a node aren't lost.
pub content_still : (f : Found) (mirror : ℕ) (one other : Image) → IsDegradedTo f.layout mirror one other → HasPlainFiles f one → AgreeOnContent f one other
content_still f mirror one other degraded plain = record {
  extents = All-weaker (ShowsNoMetadata one) (AgreeOnEntry one other)
      (λ (entry : Pos × Value) shows extent is index lower.
      All-weaker (λ (place : Place). ¬ IsOfMetadata (block_at one place.dev place.block)) (λ (place : Place). AgreeAt one other place.dev place.block)
      (λ place shows_none. ⊎_elim
      (λ (same : AgreeAt one other place.dev place.block). same)
      (λ (lost : IsLostAt f.layout mirror one other place.dev place.block). absurd (shows_none lost.shown))
      (degraded.each place.dev place.block))
      (block_of extent index).places (shows extent is index lower))
      f.trees.keys.extents plain.extents;
}
