-- What a change of one bucket makes of the space; and that a bucket in use by files stays so whatever is done to buckets of nodes.
use Rattle.std.proofs.Common.{◌≡◌, ◌≢◌, ◌⊎◌, inl, inr, ⊎_elim, ℕ, zero, suc, ◌/◌, List, [], ◌∷◌, Option, Some, None, option_and_then, option_map, refl, sym, ap, ◌∙◌}
use Rattle.std.proofs.lemmas.Bool.{cases_eq}
use Rattle.std.proofs.lemmas.List.Elements.{All-head, All-tail}
use Rattle.std.proofs.lemmas.Option.{same_Some}
use Rattle.std.specs.Prelude.{All, slice_get}
use Rattle.bucket_pool.specs.Buckets.{is_free_state, waited}
use Rattle.bucket_pool.specs.Given.{bucket_at, is_due}
use Rattle.bucket_pool.specs.NodeBuckets.{HoldsNode, IsHeldPast, bucket_state, state_at}
use Rattle.bucket_pool.specs.NodeLaws.{from_state, to_state}
use Rattle.bucket_pool.specs.Places.{changed}
use Rattle.bucket_pool.specs.Space.{Space, emptied, emptied_all, noded, settled_space}
use Rattle.bucket_pool.specs.StayLaws.{noded_stays, settled_stays}
use Rattle.bucket_pool.specs.declared.bucket.Bucket.{Bucket}
use Rattle.bucket_pool.specs.declared.bucket.State.TheVariants.{Node, User, Waiting}
use Rattle.vol_types.specs.Limits.{bucket_blocks}
use Rattle.vol_types.specs.declared.pointers.Place.{Place}

-- ---- one bucket changes

changed_at : {X : Type 0} (f : X → X) (at : ℕ) (xs : List X) → slice_get (changed f at xs) at ≡ option_map f (slice_get xs at)
changed_at f at [] = refl
changed_at f zero (x ∷ xs) = refl
changed_at f (suc at) (x ∷ xs) = changed_at f at xs

unchanged_at : {X : Type 0} (f : X → X) (at k : ℕ) (xs : List X) → k ≢ at → slice_get (changed f at xs) k ≡ slice_get xs k
unchanged_at f at k [] other = refl
unchanged_at f zero zero (x ∷ xs) other = absurd (other refl)
unchanged_at f zero (suc k) (x ∷ xs) other = refl
unchanged_at f (suc at) zero (x ∷ xs) other = refl
unchanged_at f (suc at) (suc k) (x ∷ xs) other = unchanged_at f at k xs (λ same. other (ap suc same))

-- the bucket of a device, if the device is there
abbrev bucket_of : ℕ → Option (List Bucket) → Option Bucket
bucket_of at buckets = option_and_then (λ (list : List Bucket). slice_get list at) buckets

-- The bucket is changed.
pub bucket-changed : (f : Bucket → Bucket) (dev at : ℕ) (space : Space) → bucket_at (changed (changed f at) dev space) dev at ≡ option_map f (bucket_at space dev at)
bucket-changed f dev at space = ap (bucket_of at) (changed_at (changed f at) dev space) ∙ by (slice_get space dev)
  where
    by : (o : Option (List Bucket)) → bucket_of at (option_map (changed f at) o) ≡ option_map f (bucket_of at o)
    by None = refl
    by (Some buckets) = changed_at f at buckets

-- Another one isn't.
pub bucket-unchanged : (f : Bucket → Bucket) (place_dev place_at dev at : ℕ) (space : Space) → (dev ≢ place_dev) ⊎ (at ≢ place_at) → bucket_at (changed (changed f place_at) place_dev space) dev at ≡ bucket_at space dev at
bucket-unchanged f place_dev place_at dev at space apart = ⊎_elim
    (λ (same : dev ≡ place_dev). ⊎_elim
    (λ (devices : dev ≢ place_dev). absurd (devices same))
    (λ (buckets : at ≢ place_at).
    ap (λ (d : ℕ). bucket_at (changed (changed f place_at) place_dev space) d at) same ∙ ap (bucket_of at) (changed_at (changed f place_at) place_dev space)
    ∙ by buckets (slice_get space place_dev) ∙ ap (λ (d : ℕ). bucket_at space d at) (sym same))
    apart)
    (λ (devices : dev ≢ place_dev). ap (bucket_of at) (unchanged_at (changed f place_at) place_dev dev space devices))
    (cases_eq dev place_dev)
  where
    by : at ≢ place_at → (o : Option (List Bucket)) → bucket_of at (option_map (changed f place_at) o) ≡ bucket_of at o
    by buckets None = refl
    by buckets (Some list) = unchanged_at f place_at at list buckets

-- ---- a bucket in use by files

node_is_no_user : Node ≡ User → ⊥
node_is_no_user is = cc

waiting_is_no_user : (entry : ℕ) → Waiting entry ≡ User → ⊥
waiting_is_no_user entry is = cc

-- A bucket that holds a node isn't in use by files,
pub no_user_node : (space : Space) (place : Place) → state_at space place ≡ Some User → HoldsNode space place → ⊥
no_user_node space place user node = node_is_no_user (same_Some Node User (sym node ∙ user))

-- and neither is one that is held back.
pub no_user_held : (space : Space) (place : Place) (seq : ℕ) → state_at space place ≡ Some User → IsHeldPast seq space place → ⊥
no_user_held space place seq user held = ⊎_elim
    (λ (node : HoldsNode space place). no_user_node space place user node)
    (λ waits. waiting_is_no_user waits.0 (same_Some (Waiting waits.0) User (sym waits.1 ∙ user)))
    held

module _ (dev at : ℕ) where
  -- The bucket is another one than that of the place.
  abbrev pub IsOtherBucket : Place → Type 0
  IsOtherBucket place = (dev ≢ place.dev) ⊎ (at ≢ place.block / bucket_blocks)

  -- A place that holds a node lies in another bucket than one in use by files.
  pub node_is_elsewhere : (space : Space) (place : Place) → bucket_state space dev at ≡ Some User → HoldsNode space place → IsOtherBucket place
  node_is_elsewhere space place user node = ⊎_elim
      (λ (device : dev ≡ place.dev). ⊎_elim
      (λ (here : at ≡ place.block / bucket_blocks).
      absurd (no_user_node space place (ap (λ (d : ℕ). bucket_state space d (place.block / bucket_blocks)) (sym device) ∙ ap (bucket_state space dev) (sym here) ∙ user) node))
      (λ (other : at ≢ place.block / bucket_blocks). inr other)
      (cases_eq at (place.block / bucket_blocks)))
      (λ (other : dev ≢ place.dev). inl other)
      (cases_eq dev place.dev)

  -- It stays in use once entries are durable,
  pub user-settled : (seq : ℕ) (space : Space) → bucket_state space dev at ≡ Some User → bucket_state (settled_space seq space) dev at ≡ Some User
  user-settled seq space user =
      let found = from_state space dev at User user in
      to_state (settled_space seq space) dev at found.0 User (settled_stays seq space dev at found.0 found.1 (ap (is_due seq) found.2)) found.2

  -- where nodes are put into free buckets,
  pub user-noded : (count : ℕ) (space : Space) → bucket_state space dev at ≡ Some User → bucket_state (noded count space) dev at ≡ Some User
  user-noded count space user =
      let found = from_state space dev at User user in
      to_state (noded count space) dev at found.0 User (noded_stays count space dev at found.0 found.1 (ap is_free_state found.2)) found.2

  bucket-emptied_all : (places : List Place) (seq : ℕ) (space : Space) → All IsOtherBucket places → bucket_at (emptied_all places seq space) dev at ≡ bucket_at space dev at
  bucket-emptied_all [] seq space others = refl
  bucket-emptied_all (place ∷ places) seq space others =
      bucket-emptied_all places seq (emptied place seq space) (All-tail IsOtherBucket place places others)
      ∙ bucket-unchanged (waited seq) place.dev (place.block / bucket_blocks) dev at space (All-head IsOtherBucket place places others)

  -- and where other buckets are emptied.
  pub user-emptied_all : (places : List Place) (seq : ℕ) (space : Space) → All (HoldsNode space) places → bucket_state space dev at ≡ Some User → bucket_state (emptied_all places seq space) dev at ≡ Some User
  user-emptied_all places seq space nodes user =
      ap (option_map (λ (bucket : Bucket). bucket.state)) (bucket-emptied_all places seq space (λ k d within. node_is_elsewhere space _ user (nodes k d within))) ∙ user
