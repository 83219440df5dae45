-- What the last look says of a key map that gives all looks, and what a block that shows gives.
use Rattle.std.proofs.Common.{◌≡◌, ℕ, ◌/◌, ◌%◌, Bool, cond, false, true, Option, Some, None, List, [], ◌∷◌, ◌++◌, inl, inr, refl, sym, ap, ◌∙◌, subst}
use Rattle.std.specs.Prelude.{◌≢◌, ◌==◌, All, IfOk, OnErr, Result, Ok, Err, is_some, option_and_then, option_map}
use Rattle.std.proofs.lemmas.Bool.{eq-eqb, eqb-true}
use Rattle.std.proofs.lemmas.List.{append-nil}
use Rattle.std.proofs.lemmas.List.Elements.{All-head}
use Rattle.vol_types.specs.Limits.{block_size}
use Rattle.file_plan.specs.Ends.{end_of}
use Rattle.snap_tree.specs.Snaps.{Snaps}
use Rattle.vol_types.specs.KeyMaps.{GivesLooks, IsLook, KeyMap, answer_of}
use Rattle.vol_types.specs.declared.keys.Key.{Key}
use Rattle.vol_types.specs.declared.pointers.Pointer.{Pointer}
use Rattle.vol_types.specs.declared.queries.Look.{Look}
use Rattle.vol_types.specs.declared.queries.Query.{Query}
use Rattle.key_meaning.specs.Blocks.{Block, block_in}
use Rattle.key_meaning.specs.Forest.{Read, bytes_in}
use Rattle.key_view.specs.Seen.{IsSeen, GoesOn}
use Rattle.extent_ops.specs.Content.{block_at}
use Rattle.extent_ops.specs.Looking.{AreExtentsUpTo}
use Rattle.file_plan.specs.BlockIo.{Holds, IsHeld, ReadsBlock, known_of, places_of, with_read}
use Rattle.file_plan.specs.Seen.{IsSeenUpTo, MayLook}
use Rattle.file_plan.specs.declared.block_io.BlockIo.{BlockIo}
use Rattle.file_plan.specs.declared.block_io.KnownBlock.{KnownBlock}
use Rattle.file_plan.proofs.Io.{All-back, All-front}

-- The answer to the last look is the key map's.
pub last_look : (keys : KeyMap) (before now : List Look) (query asked : Query) (answer : List Key) → now ≡ before ++ record { query = query; answer = answer } ∷ [] → query ≡ asked → GivesLooks keys now → answer ≡ answer_of asked keys
last_look keys before now query asked answer is same gives =
    All-head (IsLook keys) (record { query = query; answer = answer }) [] (All-back (IsLook keys) before (record { query = query; answer = answer } ∷ []) (subst (All (IsLook keys)) is gives.each))
    ∙ ap (λ q. answer_of q keys) same

-- A key map that gives all looks gives the first ones.
pub gave_before : (keys : KeyMap) (old new : List Look) → GoesOn old new → GivesLooks keys new → GivesLooks keys old
gave_before keys old new on gives = record { each = All-front (IsLook keys) old on.more (subst (All (IsLook keys)) on.is gives.each) }

pub seen_before : (keys : KeyMap) (old new : List Look) (tree : Snaps) → GoesOn old new → IsSeen keys new tree → IsSeen keys old tree
seen_before keys old new tree on seen = record { is_map = seen.is_map; gives = gave_before keys old new on seen.gives; ids = seen.ids }

pub seen_same : (keys : KeyMap) (old new : List Look) (tree : Snaps) (told longest : ℕ) → new ≡ old → longest ≡ told → IsSeenUpTo keys new tree longest → IsSeenUpTo keys old tree told
seen_same keys old new tree told longest same kept seen =
    let is = seen.is_seen in
    record {
      is_seen = record { is_map = is.is_map; gives = subst (GivesLooks keys) same is.gives; ids = is.ids };
      up_to = subst (λ n. AreExtentsUpTo n keys) kept seen.up_to;
    }

-- the bytes of a block
abbrev pub read_of : Read → Block → Option (List ℕ)
read_of read shown = read shown.places shown.digest

module _ (keys : KeyMap) (id number block : ℕ) where
  -- Where nothing is found, none shows.
  pub none_shows : (found : Option (List Pointer × ℕ)) → found ≡ None → option_map block_at found ≡ block_in keys id number block → block_in keys id number block ≡ None
  none_shows found none is = sym is ∙ ap (option_map block_at) none

  pub no_bytes : (read : Read) → block_in keys id number block ≡ None → None ≡ bytes_in keys read id number block
  no_bytes read none = sym (ap (option_and_then (read_of read)) none)

  pub not_there : block_in keys id number block ≡ None → false ≡ is_some (block_in keys id number block)
  not_there none = sym (ap is_some none)

  -- Where a block is found, it shows, and an image that holds what was read has the bytes.
  pub one_shows : (found : Option (List Pointer × ℕ)) (pointers : List Pointer) (digest : ℕ) → found ≡ Some (pointers, digest) → option_map block_at found ≡ block_in keys id number block → block_in keys id number block ≡ Some (block_at (pointers, digest))
  one_shows found pointers digest some is = sym is ∙ ap (option_map block_at) some

  pub is_there : (pointers : List Pointer) (digest : ℕ) → block_in keys id number block ≡ Some (block_at (pointers, digest)) → true ≡ is_some (block_in keys id number block)
  is_there pointers digest some = sym (ap is_some some)

  pub read_bytes : (read : Read) (pointers : List Pointer) (digest : ℕ) (bytes : List ℕ) (old new : BlockIo) → new ≡ with_read (record { places = places_of pointers; digest = digest; bytes = bytes }) old → Holds read new
      → block_in keys id number block ≡ Some (block_at (pointers, digest)) → Some bytes ≡ bytes_in keys read id number block
  read_bytes read pointers digest bytes old new is holds shows =
      let known : KnownBlock = record { places = places_of pointers; digest = digest; bytes = bytes } in
      sym (ap (option_and_then (read_of read)) shows
      ∙ All-head (IsHeld read) known [] (All-back (IsHeld read) old.read (known ∷ []) (subst (All (IsHeld read)) (ap (λ (io : BlockIo). io.read) is) holds.read_ones)))

-- Where no block shows nothing was read, and else the block.
pub reads_none : (old new : BlockIo) (shown : Option Block) → new ≡ old → shown ≡ None → ReadsBlock shown old new
reads_none old new shown same none = record { bytes = []; is = ap (λ (io : BlockIo). io.read) same ∙ sym (append-nil old.read) ∙ ap (λ o. old.read ++ known_of o []) (sym none) }

pub reads_one : (pointers : List Pointer) (digest : ℕ) (bytes : List ℕ) (old middle new : BlockIo) (shown : Option Block) → new ≡ with_read (record { places = places_of pointers; digest = digest; bytes = bytes }) middle → middle ≡ old
    → shown ≡ Some (block_at (pointers, digest)) → ReadsBlock shown old new
reads_one pointers digest bytes old middle new shown is same shows = record {
  bytes = bytes;
  is = ap (λ (io : BlockIo). io.read) (is ∙ ap (with_read (record { places = places_of pointers; digest = digest; bytes = bytes })) same) ∙ ap (λ o. old.read ++ known_of o bytes) (sym shows);
}

-- The end's block is the one that shows, where the file doesn't end with a block.
pub reads_end : (keys : KeyMap) (id number size : ℕ) (old new : BlockIo) → size % block_size ≢ 0 → ReadsBlock (block_in keys id number (size / block_size)) old new → ReadsBlock (end_of keys id number size) old new
reads_end keys id number size old new apart reads = subst (λ o. ReadsBlock o old new) (sym (ap (λ b. cond b None (block_in keys id number (size / block_size))) (by (size % block_size == 0) refl))) reads
  where
    by : (b : Bool) → (size % block_size == 0) ≡ b → (size % block_size == 0) ≡ false
    by true is = absurd (apart (eqb-true (size % block_size) 0 is))
    by false is = is

pub reads_no_end : (keys : KeyMap) (id number size : ℕ) (old new : BlockIo) → size % block_size ≡ 0 → new ≡ old → ReadsBlock (end_of keys id number size) old new
reads_no_end keys id number size old new none same = reads_none old new (end_of keys id number size) same (ap (λ b. cond b None (block_in keys id number (size / block_size))) (eq-eqb (size % block_size) 0 none))

-- What is written afterwards reads nothing.
pub reads_then : (shown : Option Block) (old middle new : BlockIo) → ReadsBlock shown old middle → new.read ≡ middle.read → ReadsBlock shown old new
reads_then shown old middle new reads same = record { bytes = reads.bytes; is = same ∙ reads.is }

-- A look that asks this was made, or none.
pub may_look : {E : Type 0} (result : Result (List Key) E) (query asked : Query) (old new : List Look) → query ≡ asked → IfOk result (λ answer. new ≡ old ++ record { query = query; answer = answer } ∷ []) → OnErr result (new ≡ old) → MayLook asked old new
may_look (Ok answer) query asked old new same is none = inr (answer, is ∙ ap (λ q. old ++ record { query = q; answer = answer } ∷ []) same)
may_look (Err e) query asked old new same is none = inl none

-- Nothing was looked at afterwards.
pub looked_then : (query : Query) (old middle new : List Look) → new ≡ middle → MayLook query old middle → MayLook query old new
looked_then query old middle new same look = subst (MayLook query old) (sym same) look
