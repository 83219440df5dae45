-- Writes at places that count for nothing leave a journal safe.
use Rattle.std.proofs.Common.{◌≡◌, ⊎_elim, ℕ, ◌+◌, ◌%◌, ◌<◌, ◌≤◌, List, length, get_or, Option, Some, None, refl, sym, ap, subst, ◌∙◌, arith}
use Rattle.std.proofs.lemmas.List.Elements.{All-weaker}
use Rattle.std.specs.Prelude.{All}
use Rattle.dev_model.specs.Crashes.{SameBut}
use Rattle.dev_model.specs.CrashLaws.{as_read_may_be_left}
use Rattle.dev_model.specs.Devices.{DevicesState, now}
use Rattle.dev_model.specs.Disk.{Image, IsDisk, as_read}
use Rattle.image_view.specs.Found.{Found}
use Rattle.image_view.specs.Trees.{nodes_of}
use Rattle.journal_ring.specs.EntryBlocks.{ring_block}
use Rattle.vol_types.specs.Limits.{bucket_blocks}
use Rattle.vol_types.specs.declared.layout.Layout.{Layout}
use Rattle.vol_types.specs.declared.pointers.NodePtr.{NodePtr}
use Rattle.vol_types.specs.declared.pointers.Place.{Place}
use Rattle.crash_safety.specs.Elsewhere.{IsAtOneOf, IsElsewhere, IsElsewhereOfBoth, IsOneOf, KeepsSizes}
use Rattle.crash_safety.specs.Safety.{IsJournalSafe}
use Rattle.crash_safety.specs.Standing.{AgreeOnWriting}
use Rattle.crash_safety.specs.Writings.{HoldParts, Writing, after}
use Rattle.crash_safety.specs.Parts.{AsksAt}
use Rattle.crash_safety.proofs.Calls.{HasSizes, IsHarmless}
use Rattle.crash_safety.proofs.Images.{places_of, sizes}
use Rattle.crash_safety.proofs.Meanings.{ImageLaws}
use Rattle.crash_safety.proofs.Safe.{journal_safe_on}

-- What is elsewhere of both is elsewhere of what was found.
of_found : (f : Found) (writing : Option Writing) (place : Place) → IsElsewhereOfBoth f writing place → IsElsewhere f place
of_found f None place is = is
of_found f (Some w) place is = is.0

-- A place of a list of places that are elsewhere is.
is_elsewhere : (f : Found) (places : List Place) → All (IsElsewhere f) places → (dev block : ℕ) → IsOneOf places dev block → IsElsewhere f (record { dev = dev; block = block })
is_elsewhere f places each dev block one =
    let place : Place = record { dev = dev; block = block } in
    subst (IsElsewhere f) one.2 (each one.0 place one.1)

module _ (laws : ImageLaws) (f : Found) (image : Image) (writing : Option Writing) (asked written : ℕ) (bases : List Found) (durable : List ℕ) (first : ℕ) (old new : DevicesState) (places : List Place) (safe : IsJournalSafe f image writing asked written bases durable first old)
    (both : All (IsElsewhereOfBoth f writing) places) (call : AsksAt (IsOneOf places) (IsAtOneOf places) old new) where
  each : All (IsElsewhere f) places
  each = All-weaker (IsElsewhereOfBoth f writing) (IsElsewhere f) (of_found f writing) places both

  some : 0 < f.layout.journal
  some = let least = (places_of image f safe.stands.finds).least in omega (arith, least)

  not_low : (dev block : ℕ) → block < 16 → ¬ IsOneOf places dev block
  not_low dev block low one = let behind = (is_elsewhere f places each dev block one).behind in omega (arith, behind, low)

  not_journal : (dev place : ℕ) → dev < f.layout.metadata_replicas → place < f.layout.journal → ¬ IsOneOf places dev (16 + place)
  not_journal dev place mirror within one = let behind = (is_elsewhere f places each dev (16 + place) one).journal mirror in omega (arith, behind, within)

  not_node : (g : Found) → All (IsElsewhere g) places → (k : ℕ) (d : NodePtr) → k < length (nodes_of g.trees.nodes) → (j : ℕ) (e : Place) → j < length (get_or (nodes_of g.trees.nodes) k d).places → (n : ℕ) → n < bucket_blocks
      → ¬ IsOneOf places (get_or (get_or (nodes_of g.trees.nodes) k d).places j e).dev ((get_or (get_or (nodes_of g.trees.nodes) k d).places j e).block + n)
  not_node g all k d lower j e low n few one =
      let bucket : Place = get_or (get_or (nodes_of g.trees.nodes) k d).places j e in
      ⊎_elim
      (λ (before : bucket.block + n < bucket.block). omega (arith, before))
      (λ (behind : bucket.block + bucket_blocks ≤ bucket.block + n). omega (arith, behind, few))
      ((is_elsewhere g places all bucket.dev (bucket.block + n) one).nodes k d lower j e low refl)

  writing_aside : (writing : Option Writing) → All (IsElsewhereOfBoth f writing) places → (other : Image) → sizes image ≡ sizes other → SameBut (IsOneOf places) image other → AgreeOnWriting f writing image other
  writing_aside None all other as_long same = tt
  writing_aside (Some w) all other as_long same = record {
    lengths = as_long;
    first_copies = λ dev. same dev 0 (not_low dev 0 (omega arith));
    second_copies = λ dev. same dev 8 (not_low dev 8 (omega arith));
    nodes = λ k d lower j e low n few. same _ _ (not_node (after w f) (All-weaker (IsElsewhereOfBoth f (Some w)) (IsElsewhere (after w f)) (λ place is. is.1) places all) k d lower j e low n few);
  }

  harmless : IsHarmless f image writing asked asked (IsOneOf places) (IsAtOneOf places)
  harmless = record {
    aside = λ other as_long same. record {
      lengths = as_long;
      first_copies = λ dev. same dev 0 (not_low dev 0 (omega arith));
      second_copies = λ dev. same dev 8 (not_low dev 8 (omega arith));
      even_sessions = λ dev mirror. same dev 4 (not_low dev 4 (omega arith));
      odd_sessions = λ dev mirror. same dev 5 (not_low dev 5 (omega arith));
      entries = λ k d lower dev number mirror from end. same dev (16 + number % f.layout.journal) (not_journal dev (number % f.layout.journal) mirror (omega (arith, some)));
      nodes = λ k d lower j e low n few. same _ _ (not_node f each k d lower j e low n few);
    };
    nodes_aside = writing_aside writing both;
    more = λ dev block before. before;
    within = λ dev place mirror within one. absurd (not_journal dev place mirror within one);
    own = λ dev place bytes mirror within is_open one. absurd (not_journal dev place mirror within one);
    few = safe.stands.few;
  }

  stand_still : (layout : Layout) → layout ≡ f.layout → (writing : Option Writing) (count : ℕ) → HoldParts layout writing count (as_read (now old)) → HoldParts layout writing count (as_read (now new))
  stand_still layout is None count stand = stand
  stand_still layout is (Some w) count stand = λ dev p mirror low.
      sym (call.elsewhere dev (ring_block layout.journal (w.next.number + p)) (λ one.
      not_journal dev ((w.next.number + p) % layout.journal) (subst (λ (l : Layout). dev < l.metadata_replicas) is mirror)
      (let same : layout.journal ≡ f.layout.journal = ap (λ (l : Layout). l.journal) is in omega (arith, some, same)) one))
      ∙ stand dev p mirror low

  sized : KeepsSizes old new → HasSizes f image writing asked written first old safe.stands new (IsOneOf places) (IsAtOneOf places) call asked harmless
  sized keeps m lo hi other may = (safe.stands.crashes (as_read (now old)) (as_read_may_be_left (now old) safe.stands.disks)).base.lengths ∙ keeps m lo hi other may

  pub beside_on : KeepsSizes old new → All IsDisk (now new) → IsJournalSafe f image writing asked written bases durable first new
  beside_on keeps are = journal_safe_on laws f image writing asked written bases durable first old safe new (IsOneOf places) (IsAtOneOf places) call asked harmless (sized keeps) written are (stand_still f.layout refl writing written safe.stands.stand)
