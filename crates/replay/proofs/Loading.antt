-- What is loaded is what was read, and what was read of an image that means a volume is one.
use Rattle.std.proofs.Common.{◌≡◌, ℕ, Result, Ok, Err, sym, ap, subst, ◌∙◌}
use Rattle.std.specs.Prelude.{◌<◌, IfErr, IfOk, IfSome, length}
use Rattle.dev_model.specs.Disk.{Image}
use Rattle.birth_index.specs.Births.{BirthsDiffer}
use Rattle.btree_map.specs.Trees.{IsTrees}
use Rattle.image_view.specs.Found.{Found, found}
use Rattle.image_view.specs.Trees.{nodes_of}
use Rattle.image_view.specs.declared.fault.MountFault.{MountFault}
use Rattle.image_view.specs.declared.fault.MountFault.TheVariants.{NoSuper, Version, Mixed, BadLayout, NoEntry, MissingEntry, BadNode, Unsound, DeviceFault, NoMemory}
use Rattle.image_reader.specs.Answers.{AreRagged, Finds, IsEarly, IsRead}
use Rattle.image_reader.specs.Faults.{failed_mount_device}
use Rattle.image_reader.specs.Volumes.{found_of, ragged_of}
use Rattle.image_reader.specs.declared.found.FoundVolume.{FoundVolume}
use Rattle.replay.specs.Answers.{IsLoaded, IsUnmade}
use Rattle.replay.specs.Volumes.{IsVolume, found_in, trees_read}
use Rattle.replay.specs.declared.volume.Loaded.{Loaded}
use Rattle.replay.proofs.Made.{is_volume}

-- ---- what wasn't read

-- A fault of reading is one of loading.
pub answer_failed : (expected : Result Found MountFault) (fault : MountFault) → Finds found_of expected (Err fault) → Finds found_in expected (Err fault)
answer_failed expected NoSuper is = is
answer_failed expected Version is = is
answer_failed expected Mixed is = is
answer_failed expected BadLayout is = is
answer_failed expected NoEntry is = is
answer_failed expected (MissingEntry sequence) is = is
answer_failed expected (BadNode place) is = is
answer_failed expected (Unsound check) is = is
answer_failed expected (DeviceFault dev) is = tt
answer_failed expected NoMemory is = tt

pub loaded_failed : (f : Found) (fault : MountFault) → IsRead f (Err fault) → IsLoaded f (Err fault)
loaded_failed f NoSuper is = is
loaded_failed f Version is = is
loaded_failed f Mixed is = is
loaded_failed f BadLayout is = is
loaded_failed f NoEntry is = is
loaded_failed f (MissingEntry sequence) is = is
loaded_failed f (BadNode place) is = is
loaded_failed f (Unsound check) is = is
loaded_failed f (DeviceFault dev) is = tt
loaded_failed f NoMemory is = tt

-- ---- what was read

-- What the law says of what is found in an image.
pub record AreFound (image : Image) : Type 0 where
  pub trees : (f : Found) → found image ≡ Ok f → IsTrees (trees_read f.trees)
  pub newest : (f : Found) → found image ≡ Ok f → 0 < length f.needed
  pub births : (f : Found) → found image ≡ Ok f → BirthsDiffer f.trees.nodes

-- What was read is a volume where it is what is found in an image.
read_volume : (image : Image) (read : FoundVolume) → AreFound image → found image ≡ Ok (found_of read) → IsVolume read
read_volume image read law is = record {
  some = law.newest (found_of read) is;
  btrees = is_volume read (law.trees (found_of read) is) (law.births (found_of read) is);
}

module _ (read : FoundVolume) (result : Result Loaded MountFault) (ok : IfOk result (λ loaded. found_in loaded ≡ found_of read)) (err : IfErr result (IsUnmade read)) where
  -- A volume is loaded as it was read.
  pub loaded_is : (f : Found) → found_of read ≡ f → IsVolume read → IsLoaded f result
  loaded_is f is volume = by result ok err
    where
      by : (r : Result Loaded MountFault) → IfOk r (λ loaded. found_in loaded ≡ found_of read) → IfErr r (IsUnmade read) → IsLoaded f r
      by (Ok loaded) same bad = same ∙ is
      by (Err NoSuper) same bad = bad
      by (Err Version) same bad = bad
      by (Err Mixed) same bad = bad
      by (Err BadLayout) same bad = bad
      by (Err NoEntry) same bad = bad
      by (Err (MissingEntry sequence)) same bad = bad
      by (Err (BadNode place)) same bad = bad volume
      by (Err (Unsound check)) same bad = bad
      by (Err (DeviceFault dev)) same bad = tt
      by (Err NoMemory) same bad = tt

  -- It is what is found in the image where that is what was read.
  pub answer_is : (image : Image) → AreFound image → found image ≡ Ok (found_of read) → Finds found_in (found image) result
  answer_is image law is = by result ok err
    where
      by : (r : Result Loaded MountFault) → IfOk r (λ loaded. found_in loaded ≡ found_of read) → IfErr r (IsUnmade read) → Finds found_in (found image) r
      by (Ok loaded) same bad = is ∙ ap (λ f. Ok f) (sym same)
      by (Err NoSuper) same bad = absurd bad
      by (Err Version) same bad = absurd bad
      by (Err Mixed) same bad = absurd bad
      by (Err BadLayout) same bad = absurd bad
      by (Err NoEntry) same bad = absurd bad
      by (Err (MissingEntry sequence)) same bad = absurd bad
      by (Err (BadNode place)) same bad = absurd (bad (read_volume image read law is))
      by (Err (Unsound check)) same bad = absurd bad
      by (Err (DeviceFault dev)) same bad = tt
      by (Err NoMemory) same bad = tt

  -- So it is where reads of nodes were made up.
  pub made_up_is : (image : Image) (f : Found) → AreFound image → found image ≡ Ok f → found_of read ≡ f → IsLoaded f result
  made_up_is image f law is same = loaded_is f same (read_volume image read law (is ∙ ap (λ g. Ok g) (sym same)))

  -- What makes no volume is no fault that shows before the nodes, names no device, and is no check.
  pub not_early : (fault : MountFault) → result ≡ Err fault → IsEarly fault → ⊥
  not_early fault is early = by fault (subst (λ (r : Result Loaded MountFault). IfErr r (IsUnmade read)) is err) early
    where
      by : (fault : MountFault) → IsUnmade read fault → IsEarly fault → ⊥
      by NoSuper bad early = bad
      by Version bad early = bad
      by Mixed bad early = bad
      by BadLayout bad early = bad
      by NoEntry bad early = bad
      by (MissingEntry sequence) bad early = bad
      by (BadNode place) bad early = early
      by (Unsound check) bad early = early
      by (DeviceFault dev) bad early = early
      by NoMemory bad early = early

  pub names_none : (P : ℕ → Type 0) → IfSome (failed_mount_device result) P
  names_none P = by result err
    where
      by : (r : Result Loaded MountFault) → IfErr r (IsUnmade read) → IfSome (failed_mount_device r) P
      by (Ok loaded) bad = tt
      by (Err NoSuper) bad = tt
      by (Err Version) bad = tt
      by (Err Mixed) bad = tt
      by (Err BadLayout) bad = tt
      by (Err NoEntry) bad = tt
      by (Err (MissingEntry sequence)) bad = tt
      by (Err (BadNode place)) bad = tt
      by (Err (Unsound check)) bad = tt
      by (Err (DeviceFault dev)) bad = absurd bad
      by (Err NoMemory) bad = tt

  pub not_unsound : (check : ℕ) → result ≡ Err (Unsound check) → ⊥
  not_unsound check is = subst (λ (r : Result Loaded MountFault). IfErr r (IsUnmade read)) is err

  -- The births of ragged nodes are those that were read.
  pub ragged_is : (image : Image) → IfOk result (λ loaded. loaded.ragged ≡ ragged_of read) → AreRagged read.layout.id image (nodes_of (found_of read).trees.nodes) (ragged_of read)
      → IfOk result (λ loaded. AreRagged loaded.layout.id image (nodes_of loaded.map.nodes) loaded.ragged)
  ragged_is image kept are = by result ok kept
    where
      by : (r : Result Loaded MountFault) → IfOk r (λ loaded. found_in loaded ≡ found_of read) → IfOk r (λ loaded. loaded.ragged ≡ ragged_of read)
          → IfOk r (λ loaded. AreRagged loaded.layout.id image (nodes_of loaded.map.nodes) loaded.ragged)
      by (Err fault) same kept = tt
      by (Ok loaded) same kept =
          subst (λ (f : Found). AreRagged f.layout.id image (nodes_of f.trees.nodes) loaded.ragged) (sym same)
          (subst (AreRagged read.layout.id image (nodes_of (found_of read).trees.nodes)) (sym kept) are)
