-- What was made of the copies that were seen is an answer on the copies that are there.
use Rattle.std.proofs.Common.{◌≡◌, ◌⊎◌, ⊎_elim, inl, inr, ℕ, ◌≤◌, false, List, Option, None, Some, Result, Ok, Err, refl, ap, sym, ◌∙◌, subst}
use Rattle.std.specs.Prelude.{◌↔◌, IfErr, IfOk, IfSome}
use Rattle.record_codec.specs.declared.sets.SetHead.{SetHead}
use Rattle.vol_types.specs.declared.pointers.NodePtr.{NodePtr}
use Rattle.vol_types.specs.declared.pointers.Place.{Place}
use Rattle.dev_model.specs.Devices.{FaultCounts}
use Rattle.geometry.specs.Faults.{DeviceFailed}
use Rattle.node_store.specs.declared.contents.Content.{Content}
use Rattle.node_store.specs.declared.fault.NodeFault.{NodeFault}
use Rattle.node_store.specs.declared.fault.NodeFault.TheVariants.{DeviceFault, BadNode, NoMemory}
use Rattle.node_store.specs.declared.reading.Unread.{Unread}
use Rattle.node_store.specs.declared.reading.ReadNode.{ReadNode}
use Rattle.node_store.specs.Answers.{AreAlike, AreCauses, AreSeenFrom, IsNodeAnswer, IsUnread, LackNoMore, first_place}
use Rattle.node_store.specs.FailedReads.{IsUnreadAt, read_from, unread_device}
use Rattle.node_store.specs.Faults.{failed_node_device, node_fault_device}
use Rattle.node_store.specs.NodeContents.{NodeContent, content_in}
use Rattle.node_store.specs.StoredSets.{Copies}
use Rattle.node_store.proofs.Seen.{copies_later}

-- a content as a definition has it
abbrev pub content_of_code : Content → NodeContent
content_of_code content = record { entries = content.node.entries; end = content.end }

-- The device that was named before anything was read: none. So it has failed.
pub named_failed : (device : Option ℕ) (old new : FaultCounts) → AreCauses None device old new → IfSome device (λ dev. DeviceFailed dev old new)
named_failed None old new causes = tt
named_failed (Some dev) old new causes = ⊎_elim (λ (was : None ≡ Some dev). cc) (λ (failed : DeviceFailed dev old new). failed) causes

pub none_failed : (device : Option ℕ) (old new : FaultCounts) → device ≡ None → AreCauses None device old new → new ≡ old
none_failed device old new none causes = (subst (λ (d : Option ℕ). AreCauses None d old new) none causes).1

-- No device is named where no block couldn't be read.
pub none_unread : (unread : Option Unread) (old new : FaultCounts) → unread ≡ None → AreCauses None (unread_device unread) old new → new ≡ old
none_unread unread old new none causes = none_failed (unread_device unread) old new (ap unread_device none) causes

module _ (old new : FaultCounts) (id : List ℕ) (wanted : SetHead) (ptr : NodePtr) (copies seen : Copies) (unread : Option Unread)
    (all : unread ≡ None → seen ≡ copies) (causes : AreCauses None (unread_device unread) old new) (shown : AreSeenFrom (read_from unread) copies seen) (far : IfSome unread (IsUnreadAt ptr.places seen))
    (few : LackNoMore old new ptr.places copies seen) where
  some_failed : (o : Option Unread) → unread ≡ o → (seen ≡ copies) ⊎ ((dev : ℕ) × DeviceFailed dev old new)
  some_failed None is = inl (all is)
  some_failed (Some u) is = inr (u.dev, subst (λ (o : Option Unread). IfSome (unread_device o) (λ n. DeviceFailed n old new)) is (named_failed (unread_device unread) old new causes))

  -- A block couldn't be read, and of what was seen no node comes that ends before it.
  pub answer_unread : (u : Unread) → unread ≡ Some u → IfOk (content_in seen id wanted) (λ content. content.end ≤ u.block) → IsUnread old new id wanted ptr copies u.dev
  answer_unread u is lacks = record {
    seen = seen;
    block = u.block;
    few = few;
    shown = subst (λ (o : Option Unread). AreSeenFrom (read_from o) copies seen) is shown;
    unread = subst (λ (o : Option Unread). IfSome o (IsUnreadAt ptr.places seen)) is far;
    lacks = lacks;
  }

  -- A node was read.
  pub answer_read : (content : Content) (result : Result ReadNode NodeFault) → content_in seen id wanted ≡ Ok (content_of_code content)
      → IfOk result (λ read. (read.node ≡ content.node) × (read.end ≡ content.end)) → IfOk result (λ read. (read.ragged ≡ false) ↔ AreAlike read.end seen)
      → IfOk result (λ read. read_from unread ≤ read.end) → IfErr result (λ fault. (u : Unread) × (fault ≡ DeviceFault u.dev) × (unread ≡ Some u) × (content.end ≤ u.block))
      → IsNodeAnswer old new id wanted ptr copies result
  answer_read content (Ok read) is same ragged whole device = record {
    seen = seen;
    shown = copies_later (read_from unread) read.end copies seen whole shown;
    all = some_failed unread refl;
    few = few;
    content = is ∙ ap Ok (λ i. record { entries = (sym same.0 i).entries; end = sym same.1 i });
    ragged = ragged;
  }
  answer_read content (Err fault) is same ragged whole device =
      subst (λ (f : NodeFault). IsNodeAnswer old new id wanted ptr copies (Err f)) (sym device.1)
      (answer_unread device.0 device.2 (subst (λ (r : Result NodeContent ℕ). IfOk r (λ c. c.end ≤ device.0.block)) (sym is) device.3))

  -- A block is bad.
  pub answer_bad : (n : ℕ) (fault : NodeFault) → content_in seen id wanted ≡ Err n → ((dev : ℕ) → fault ≡ DeviceFault dev → (u : Unread) × (unread ≡ Some u) × (dev ≡ u.dev))
      → ((place : Place) → fault ≡ BadNode place → (unread ≡ None) × (first_place ptr n ≡ Some place)) → IsNodeAnswer old new id wanted ptr copies (Err fault)
  answer_bad n (DeviceFault dev) is named bad =
      let told = named dev refl in
      subst (λ d. IsUnread old new id wanted ptr copies d) (sym told.2) (answer_unread told.0 told.1 (subst (λ (r : Result NodeContent ℕ). IfOk r (λ c. c.end ≤ told.0.block)) (sym is) tt))
  answer_bad n NoMemory is named bad = tt
  answer_bad n (BadNode place) is named bad =
      let told = bad place refl in
      record { block = n; content = subst (λ (s : Copies). content_in s id wanted ≡ Err n) (all told.0) is; named = told.1 }

-- The device that is named is the one that failed.
pub read_named : (old new : FaultCounts) (unread : Option Unread) (end : ℕ) (result : Result ReadNode NodeFault) → AreCauses None (unread_device unread) old new
    → IfErr result (λ fault. (u : Unread) × (fault ≡ DeviceFault u.dev) × (unread ≡ Some u) × (end ≤ u.block)) → IfSome (failed_node_device result) (λ dev. DeviceFailed dev old new)
read_named old new unread end (Ok read) causes named = tt
read_named old new unread end (Err fault) causes named =
    subst (λ (f : NodeFault). IfSome (node_fault_device f) (λ dev. DeviceFailed dev old new)) (sym named.1)
    (subst (λ (o : Option Unread). IfSome (unread_device o) (λ n. DeviceFailed n old new)) named.2 (named_failed (unread_device unread) old new causes))

pub bad_named : (old new : FaultCounts) (unread : Option Unread) (fault : NodeFault) → AreCauses None (unread_device unread) old new
    → ((dev : ℕ) → fault ≡ DeviceFault dev → (u : Unread) × (unread ≡ Some u) × (dev ≡ u.dev)) → IfSome (node_fault_device fault) (λ dev. DeviceFailed dev old new)
bad_named old new unread (DeviceFault dev) causes named =
    let told = named dev refl in
    subst (λ d. DeviceFailed d old new) (sym told.2)
    (subst (λ (o : Option Unread). IfSome (unread_device o) (λ n. DeviceFailed n old new)) told.1 (named_failed (unread_device unread) old new causes))
bad_named old new unread (BadNode place) causes named = tt
bad_named old new unread NoMemory causes named = tt

-- A result that names a device tells of no bad node.
pub read_not_bad : (unread : Option Unread) (end : ℕ) (result : Result ReadNode NodeFault) (place : Place) → IfErr result (λ fault. (u : Unread) × (fault ≡ DeviceFault u.dev) × (unread ≡ Some u) × (end ≤ u.block))
    → result ≡ Err (BadNode place) → ⊥
read_not_bad unread end (Ok read) place named is = cc
read_not_bad unread end (Err fault) place named is =
    let both : DeviceFault named.0.dev ≡ BadNode place = cc (named.1, is) in cc
