-- Runs that were written, one extent after another.
use Rattle.std.proofs.Common.{◌≡◌, ℕ, suc, ◌+◌, ◌<◌, ◌≤◌, Bool, true, false, Option, List, [], ◌∷◌, ◌++◌, length, map, take, drop, refl, sym, ap, ◌∙◌, subst, append_assoc, arith}
use Rattle.std.specs.Prelude.{◌==◌, All, Some, flat_map}
use Rattle.std.proofs.lemmas.Bool.{true≢false}
use Rattle.std.proofs.lemmas.Bool.Decides.{nat_tests}
use Rattle.std.specs.Int.{IsInRange}
use Rattle.std.proofs.Math.Seq.{take-append_seam}
use Rattle.std.proofs.lemmas.Grind.{flat_map-append}
use Rattle.std.proofs.lemmas.List.{append-nil, drop-append-le, length-append, length-drop, length-map, map-append, take-append-drop, take-append-le}
use Rattle.std.proofs.lemmas.List.Elements.{All-head, All-push, All-tail}
use Rattle.vol_digest.specs.Digests.{short_of}
use Rattle.vol_types.specs.declared.keys.Key.{Key}
use Rattle.vol_types.specs.declared.pointers.Pointer.{Pointer}
use Rattle.vol_types.specs.declared.queries.Look.{Look}
use Rattle.snap_tree.specs.Snaps.{Snaps}
use Rattle.vol_types.specs.declared.values.Value.TheVariants as values
use Rattle.key_meaning.specs.CoverLaws.{pos_of}
use Rattle.key_meaning.specs.Forest.{Read}
use Rattle.file_plan.specs.BlockIo.{ArePlacesOf, GoesOn, Holds, IsHeld}
use Rattle.file_plan.specs.Runs.{AreCut, GiveBytes, IsRun, IsWritten, blocks_in, extent_of, most_blocks, reservation_of, written_as, written_at}
use Rattle.file_plan.specs.declared.block_io.BlockIo.{BlockIo}
use Rattle.file_plan.proofs.Giving.{given_behind, gives_behind, gives_each, gives_then, gives_weaker, run_then, run_within}
use Rattle.file_plan.proofs.Io.{All-back, All-front, held_before, io_stays, io_then}

-- the digests of keys
abbrev pub digests_in : List Key → List ℕ
digests_in keys = flat_map (λ (key : Key). (extent_of key.value).digests) keys

-- All keys have as many blocks as an extent may.
abbrev pub AreFull : List Key → Type 0
AreFull keys = All (λ (key : Key). blocks_in key ≡ most_blocks) keys

-- the key of blocks that were written
abbrev pub written_key : ℕ → ℕ → ℕ → List Pointer → List (List ℕ) → Key
written_key file id end pointers blocks = record { pos = pos_of file end id; value = Some (values.Extent (record { pointers = pointers; digests = map short_of blocks })) }

-- An extent whose blocks were written where they were reserved is a run.
pub one_written : (file id first end : ℕ) (pointers : List Pointer) (blocks : List (List ℕ)) (old new : BlockIo) → end ≡ first + length blocks → IsInRange 1 16 (length blocks) → ArePlacesOf (length blocks) pointers
    → new.read ≡ old.read → new.reserved ≡ old.reserved ++ record { pointers = pointers; blocks = length blocks } ∷ [] → new.written ≡ old.written ++ written_at 0 pointers blocks
    → IsWritten file id first blocks (written_key file id end pointers blocks ∷ []) old new
one_written file id first end pointers blocks old new ends count places read reserved written = record {
  run = (
    record {
      extent = record { pointers = pointers; digests = map short_of blocks };
      is = refl;
      at = ap (λ o. pos_of file o id) (ends ∙ ap (λ n. first + n) (sym long));
      blocks = subst (IsInRange 1 16) (sym long) count;
      places = subst (λ n. ArePlacesOf n pointers) (sym long) places;
    },
    ends,
  );
  cut = tt;
  read = read;
  reserved = reserved ∙ ap (λ (n : ℕ). old.reserved ++ record { pointers = pointers; blocks = n } ∷ []) (sym long);
  written = written ∙ ap (λ xs. old.written ++ xs) (ap (written_at 0 pointers) (sym whole) ∙ sym (append-nil (written_at 0 pointers (take (length (map short_of blocks)) blocks))));
  digests = append-nil (map short_of blocks);
}
  where
    long : length (map short_of blocks) ≡ length blocks
    long = length-map blocks short_of

    whole : take (length (map short_of blocks)) blocks ≡ blocks
    whole = ap (λ n. take n blocks) long ∙ ap (take (length blocks)) (sym (append-nil blocks)) ∙ take-append_seam blocks []

-- What it gives.
pub one_gives : (read : Read) (file id first end : ℕ) (pointers : List Pointer) (blocks : List (List ℕ)) (old new : BlockIo) → end ≡ first + length blocks
    → new.written ≡ old.written ++ written_at 0 pointers blocks → Holds read new → GiveBytes read (written_key file id end pointers blocks ∷ []) first blocks
one_gives read file id first end pointers blocks old new ends written holds =
    gives_each read (written_key file id end pointers blocks) pointers blocks first refl ends 0 first [] blocks (omega arith) refl refl
    (All-back (IsHeld read) old.written (written_at 0 pointers blocks) (subst (All (IsHeld read)) written holds.written_ones))

-- What was written for keys that are followed by others.
as_then : (keys others : List Key) (done now : List (List ℕ)) → length (digests_in keys) ≡ length done → written_as (keys ++ others) (done ++ now) ≡ written_as keys done ++ written_as others now
as_then [] others [] now long = refl
as_then [] others (bytes ∷ done) now long = absurd (omega (arith, long))
as_then (key ∷ keys) others done now long =
    let parts = length-append (extent_of key.value).digests (digests_in keys) in
    let few : blocks_in key ≤ length done = omega (arith, parts, long) in
    let left : length (digests_in keys) ≡ length (drop (blocks_in key) done) = (let d = length-drop (blocks_in key) done in omega (arith, d, parts, long)) in
    (λ i. written_at 0 (extent_of key.value).pointers (take-append-le (blocks_in key) done now few i) ++ written_as (keys ++ others) (drop-append-le (blocks_in key) done now few i))
    ∙ ap (λ xs. written_at 0 (extent_of key.value).pointers (take (blocks_in key) done) ++ xs) (as_then keys others (drop (blocks_in key) done) now left)
    ∙ sym (append_assoc (written_at 0 (extent_of key.value).pointers (take (blocks_in key) done)) (written_as keys (drop (blocks_in key) done)) (written_as others now))

-- Full extents may be followed by another.
cut_push : (keys : List Key) (key : Key) → AreFull keys → AreCut (keys ++ key ∷ [])
cut_push [] key full = tt
cut_push (k ∷ []) key full = (All-head (λ (x : Key). blocks_in x ≡ most_blocks) k [] full, tt)
cut_push (k ∷ next ∷ keys) key full = (All-head (λ (x : Key). blocks_in x ≡ most_blocks) k (next ∷ keys) full, cut_push (next ∷ keys) key (All-tail (λ (x : Key). blocks_in x ≡ most_blocks) k (next ∷ keys) full))

module _ (file id first : ℕ) (done now : List (List ℕ)) (keys : List Key) (key : Key) (old middle new : BlockIo) (was : IsWritten file id first done keys old middle) (is : IsWritten file id (first + length done) now (key ∷ []) middle new) where
  -- A run with an extent behind it is one.
  pub written_then : AreFull keys → IsWritten file id first (done ++ now) (keys ++ key ∷ []) old new
  written_then full = record {
    run = subst (λ e. IsRun file id first e (keys ++ key ∷ [])) (let long = length-append done now in omega (arith, long)) (run_then file id first (first + length done) (first + length done + length now) keys key was.run is.run);
    cut = cut_push keys key full;
    read = is.read ∙ was.read;
    reserved = is.reserved ∙ ap (λ xs. xs ++ map reservation_of (key ∷ [])) was.reserved ∙ append_assoc old.reserved (map reservation_of keys) (map reservation_of (key ∷ []))
        ∙ ap (λ xs. old.reserved ++ xs) (sym (map-append reservation_of keys (key ∷ [])));
    written = is.written ∙ ap (λ xs. xs ++ written_as (key ∷ []) now) was.written ∙ append_assoc old.written (written_as keys done) (written_as (key ∷ []) now)
        ∙ ap (λ xs. old.written ++ xs) (sym (as_then keys (key ∷ []) done now (ap length was.digests ∙ length-map done short_of)));
    digests = flat_map-append (λ (k : Key). (extent_of k.value).digests) keys (key ∷ []) ∙ (λ i. was.digests i ++ is.digests i) ∙ sym (map-append short_of done now);
  }

  -- It gives what both give.
  pub gives_both : (read : Read) → GiveBytes read keys first done → GiveBytes read (key ∷ []) (first + length done) now → GiveBytes read (keys ++ key ∷ []) first (done ++ now)
  gives_both read before here =
      gives_then read (keys ++ key ∷ []) first (first + length done) done now refl
      (gives_weaker read keys (key ∷ []) first done before)
      (gives_behind read keys (key ∷ []) (first + length done) now (λ block le. given_behind keys block (further block le)) here)
    where
      further : (block : ℕ) → first + length done ≤ block → All (λ (k : Key). k.pos.offset ≤ block) keys
      further block le = λ k d lt. omega (arith, (run_within file id first (first + length done) keys was.run).1 k d lt, le)

-- How far a run was written: of its blocks the first ones as keys up to a block, and these are left. Nothing was looked at.
pub record RunSoFar (file id first : ℕ) (blocks : List (List ℕ)) (keys : List Key) (at : ℕ) (rest : List (List ℕ)) (old new : BlockIo) (made now : List Look) (told tells : Option Snaps) (longest still : ℕ) : Type 0 where
  pub done : List (List ℕ)
  pub split : blocks ≡ done ++ rest
  pub up_to : at ≡ first + length done
  pub written : IsWritten file id first done keys old new
  pub full : 0 < length rest → AreFull keys
  pub gives : (read : Read) → Holds read new → GiveBytes read keys first done
  pub io : GoesOn old new
  pub looks : now ≡ made
  pub ids : tells ≡ told
  pub same : still ≡ longest

-- No blocks are written.
pub nothing_written : (file id first : ℕ) (keys : List Key) (io : BlockIo) → keys ≡ [] → IsWritten file id first [] keys io io
nothing_written file id first keys io none = subst (λ (ks : List Key). IsWritten file id first [] ks io io) (sym none)
    (record { run = omega arith; cut = tt; read = refl; reserved = sym (append-nil io.reserved); written = sym (append-nil io.written); digests = refl })

-- Nothing is written yet.
pub none_so_far : (file id first : ℕ) (blocks : List (List ℕ)) (io : BlockIo) (made : List Look) (told : Option Snaps) (longest : ℕ) → RunSoFar file id first blocks [] first blocks io io made made told told longest longest
none_so_far file id first blocks io made told longest = record {
  done = [];
  split = refl;
  up_to = omega arith;
  written = record {
    run = omega arith;
    cut = tt;
    read = refl;
    reserved = sym (append-nil io.reserved);
    written = sym (append-nil io.written);
    digests = refl;
  };
  full = λ some k d lt. absurd (omega (arith, lt));
  gives = λ read holds. tt;
  io = io_stays io io refl;
  looks = refl;
  ids = refl;
  same = refl;
}

-- One further extent of so many of the blocks that are left.
pub one_more : (file id first : ℕ) (blocks now later : List (List ℕ)) (keys : List Key) (at : ℕ) (rest : List (List ℕ)) (key : Key) (old middle new : BlockIo) (made then_made new_made : List Look) (told then_told new_told : Option Snaps) (longest then_longest new_longest : ℕ)
    → RunSoFar file id first blocks keys at rest old middle made then_made told then_told longest then_longest
    → rest ≡ now ++ later → 0 < length rest → (0 < length later → length now ≡ most_blocks)
    → IsWritten file id at now (key ∷ []) middle new → ((read : Read) → Holds read new → GiveBytes read (key ∷ []) at now) → GoesOn middle new → new_made ≡ then_made → new_told ≡ then_told → new_longest ≡ then_longest
    → RunSoFar file id first blocks (keys ++ key ∷ []) key.pos.offset later old new made new_made told new_told longest new_longest
one_more file id first blocks now later keys at rest key old middle new made then_made new_made told then_told new_told longest then_longest new_longest so_far split some size is gives on looks ids same = record {
  done = so_far.done ++ now;
  split = so_far.split ∙ ap (λ xs. so_far.done ++ xs) split ∙ sym (append_assoc so_far.done now later);
  up_to = ends ∙ (let long = length-append so_far.done now in omega (arith, long, so_far.up_to));
  written = written_then file id first so_far.done now keys key old middle new so_far.written is_here (so_far.full some);
  full = λ more. All-push (λ (k : Key). blocks_in k ≡ most_blocks) keys key (so_far.full some) (key_blocks ∙ size more);
  gives = λ read holds. gives_both file id first so_far.done now keys key old middle new so_far.written is_here read (so_far.gives read (held_before read middle new on holds)) (subst (λ a. GiveBytes read (key ∷ []) a now) so_far.up_to (gives read holds));
  io = io_then old middle new so_far.io on;
  looks = looks ∙ so_far.looks;
  ids = ids ∙ so_far.ids;
  same = same ∙ so_far.same;
}
  where
    is_here : IsWritten file id (first + length so_far.done) now (key ∷ []) middle new
    is_here = subst (λ a. IsWritten file id a now (key ∷ []) middle new) so_far.up_to is

    ends : key.pos.offset ≡ at + length now
    ends = is.run.1

    key_blocks : blocks_in key ≡ length now
    key_blocks = ap length (sym (append-nil (extent_of key.value).digests)) ∙ ap length is.digests ∙ length-map now short_of

-- What holds of all blocks holds of the next ones of those that are left.
pub next_ones : (P : List ℕ → Type 0) (blocks done rest now : List (List ℕ)) (count : ℕ) → blocks ≡ done ++ rest → now ≡ take count rest → All P blocks → All P now
next_ones P blocks done rest now count split is all = subst (All P) (sym is) (All-front P (take count rest) (drop count rest) (subst (All P) (sym (take-append-drop count rest)) (All-back P done rest (subst (All P) split all))))

-- A list that isn't empty has a member.
pub not_empty : {X : Type 0} (xs : List X) (empty : Bool) → empty ≡ (length xs == 0) → empty ≡ false → 0 < length xs
not_empty [] empty is none = absurd (true≢false (sym is ∙ none))
not_empty (x ∷ xs) empty is none = omega arith

pub is_nothing : {X : Type 0} (xs : List X) (empty : Bool) → empty ≡ (length xs == 0) → empty ≡ true → xs ≡ []
is_nothing [] empty is holds = refl
is_nothing (x ∷ xs) empty is holds = absurd (true≢false (sym holds ∙ is ∙ suc_not_zero (length xs)))
  where
    suc_not_zero : (n : ℕ) → (suc n == 0) ≡ false
    suc_not_zero n = grind (arith, nat_tests)
