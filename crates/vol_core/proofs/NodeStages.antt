-- What is known of the work on nodes where a leaf is to be frozen, a block is to be written, or the frozen leaves are to be put in place.
use Rattle.std.proofs.Common.{◌≡◌, ℕ, Bool, true, false, cond, Option, Some, None, List, [], ◌∷◌, take, length, refl, sym, ap, ◌∙◌}
use Rattle.std.proofs.lemmas.Option.{same_Some}
use Rattle.std.specs.List.{filter}
use Rattle.std.specs.Prelude.{◌==◌, slice_get}
use Rattle.core_volume.specs.Volumes.{Volume, birth_due, node_stage_by, node_stage_of}
use Rattle.journal_writer.specs.Writers.{first_flag, flush_before}
use Rattle.journal_writer.specs.declared.stage.Stage.{Stage}
use Rattle.journal_writer.specs.declared.stage.Stage.TheVariants.{CommitNodes, Freeze, Rest, WriteSet}
use Rattle.node_writeback.specs.NodeWork.{birth_left, first_left}
use Rattle.node_writeback.specs.declared.node.UnfinishedNode.{UnfinishedNode}

-- the birth of the leaf that a stage freezes
abbrev frozen_by : Stage → Option ℕ
frozen_by (Freeze birth) = Some birth
frozen_by other = None

-- the stage where nothing is left and nothing is due
abbrev rest_by : Bool → Option ℕ → Stage
rest_by none flag = cond none Rest (flush_before flag CommitNodes)

no_rest_freezes : (none : Bool) (flag : Option ℕ) (node : ℕ) → rest_by none flag ≡ Freeze node → ⊥
no_rest_freezes true flag node is = cc
no_rest_freezes false None node is = cc
no_rest_freezes false (Some dev) node is = cc

no_rest_writes : (none : Bool) (flag : Option ℕ) (node : ℕ) → rest_by none flag ≡ WriteSet node → ⊥
no_rest_writes true flag node is = cc
no_rest_writes false None node is = cc
no_rest_writes false (Some dev) node is = cc

rest_places : (none : Bool) (flag : Option ℕ) → rest_by none flag ≡ CommitNodes → flag ≡ None
rest_places true flag is = absurd cc
rest_places false None is = refl
rest_places false (Some dev) is = absurd cc

module _ (volume : Volume) where
  -- the first metadata device on which something isn't settled
  abbrev first : Option ℕ
  first = first_flag 0 (take volume.writer.ring.mirrors volume.writer.unsettled)

  freezing : (left due : Option ℕ) (node : ℕ) → node_stage_by left due volume ≡ Freeze node → (left ≡ None) × (due ≡ Some node)
  freezing (Some left) due node is = absurd cc
  freezing None (Some birth) node is = (refl, ap frozen_by is)
  freezing None None node is = absurd (no_rest_freezes (length volume.work.finished == 0) first node is)

  -- Where a leaf is to be frozen, no node is left to be written, and it is the one that is due.
  pub freezing_is : (node : ℕ) → node_stage_of volume ≡ Freeze node → (first_left volume.work ≡ None) × (birth_due volume ≡ Some node)
  freezing_is node is = freezing (first_left volume.work) (birth_due volume) node is

  writing : (left due : Option ℕ) (node : ℕ) → node_stage_by left due volume ≡ WriteSet node → left ≡ None → ⊥
  writing (Some left) due node is none = cc
  writing None (Some birth) node is none = cc
  writing None None node is none = no_rest_writes (length volume.work.finished == 0) first node is

  -- Where a block is to be written, a node is left.
  pub writing_is : (node : ℕ) → node_stage_of volume ≡ WriteSet node → first_left volume.work ≡ None → ⊥
  writing_is node is none = writing (first_left volume.work) (birth_due volume) node is none

  placing : (left due : Option ℕ) → node_stage_by left due volume ≡ CommitNodes → (left ≡ None) × (first ≡ None)
  placing (Some left) due is = absurd cc
  placing None (Some birth) is = absurd cc
  placing None None is = (refl, rest_places (length volume.work.finished == 0) first is)

  -- Where the leaves are to be put in place, no node is left to be written, and no metadata device is to be flushed.
  pub placing_is : node_stage_of volume ≡ CommitNodes → (first_left volume.work ≡ None) × (first ≡ None)
  placing_is is = placing (first_left volume.work) (birth_due volume) is

-- Where no birth is left, no node is.
pub none_left : (unfinished : Option UnfinishedNode) → birth_left unfinished ≡ None → unfinished ≡ None
none_left None is = refl
none_left (Some unfinished) is = absurd cc

-- The first of the elements that pass a test passes it.
pub first_passes : {X : Type 0} (p : X → Bool) (xs : List X) (x : X) → slice_get (filter p xs) 0 ≡ Some x → p x ≡ true
first_passes p [] x is = absurd cc
first_passes p (y ∷ ys) x is = by (p y) refl is (first_passes p ys x)
  where
    by : (b : Bool) → p y ≡ b → slice_get (cond b (y ∷ filter p ys) (filter p ys)) 0 ≡ Some x → (slice_get (filter p ys) 0 ≡ Some x → p x ≡ true) → p x ≡ true
    by true passes found later = sym (ap p (same_Some y x found)) ∙ passes
    by false passes found later = later found
